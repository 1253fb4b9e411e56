use Rattle.std.proofs.Common.{ℕ, ◌≡◌, List, ◌∙◌, ap, sym, subst, arith, Option, Some}
use Rattle.std.specs.Prelude.{not}
use Rattle.cxx_grammar.specs.Expressions.{parse_selector}
use Rattle.cxx_grammar.specs.Leaves.{parse_digits}
use Rattle.cxx_grammar.specs.Parses.{◌>>◌, and_then, pure}
use Rattle.cxx_grammar.specs.State.{State}
use Rattle.cxx_reader.specs.Outcome.{state}
use Rattle.cxx_reader.proofs.Lists.{begins_some}
use Rattle.cxx_reader.proofs.Turns.{steps_more, steps_end}
use Rattle.cxx_reader.proofs.reader.Reader.skip_selectors.Goals as goal

pub loop-self-preserved : goal.loop-self-preserved
loop-self-preserved c =
    let so_far = c.loop-self.invariant in
    let start = c.loop-self.self in
    let end = c.read_digits.new.self in
    let is = sym c.begins.ensures.value ∙ c.loop-self-test.true in
    let some = begins_some 95 start.rest.now is in
    let step : parse_selector tt (state start) ≡ Some (tt, state end) =
    subst (λ (u : State). (parse_digits >> pure tt) u ≡ Some (tt, state end)) c.skip.ensures.state
    (ap (λ (o : Option (List ℕ × State)). and_then o (λ (d : List ℕ). pure tt)) c.read_digits.ensures.reads) in
    record {
      reads = steps_more so_far.reads (ap not is) step (omega (arith, some, c.skip.ensures.takes, c.read_digits.ensures.within));
      arena = c.read_digits.ensures.arena ∙ c.skip.ensures.arena ∙ so_far.arena;
      within = omega (arith, so_far.within, c.skip.ensures.takes, c.read_digits.ensures.within);
    }

pub returns-clause-reads : goal.returns-clause-reads
returns-clause-reads c = steps_end c.loop-self.invariant.reads (ap not (sym c.begins.ensures.value ∙ c.loop-self-test.false))
