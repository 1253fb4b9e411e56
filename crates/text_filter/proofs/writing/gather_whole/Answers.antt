use Rattle.text_filter.specs.Printed.{placed}
use Rattle.std.proofs.Common.{◌≡◌, ℕ, ◌-◌, List, [], length, take, drop, sym, subst, ap, arith, rules}
use Rattle.std.specs.Prelude.{IsUtf8}
use Rattle.std.proofs.lemmas.List.{take_rest}
use Rattle.text_filter.specs.Filtered.{AreWhole, AreWholeFiltered}
use Rattle.text_filter.proofs.FilteredText.{no_lines}
use Rattle.text_filter.proofs.LineEnds.{whole_after, utf8_after, rest_appended}
use Rattle.text_filter.proofs.writing.gather_whole.Goals as goal

pub loop-output-init : goal.loop-output-init
loop-output-init g c =
    let lines = c.args.complete_text.now in
    let none : 0 ≡ length lines - length lines = omega arith in
    record {
      inside = omega arith;
      left = ap (λ n. drop n lines) none;
      so_far = subst (λ n. AreWholeFiltered (placed g.S.SymbolReader.all g.S.SymbolReader.prints c.args.placement) (take n lines) c.args.output.now) none
          (subst (λ (t : List ℕ). AreWholeFiltered (placed g.S.SymbolReader.all g.S.SymbolReader.prints c.args.placement) [] t) (sym c.requires.empty) (no_lines (placed g.S.SymbolReader.all g.S.SymbolReader.prints c.args.placement)));
      empty = λ _. c.requires.empty;
    }

pub append_next-requires-clause-known : goal.append_next-requires-clause-known
append_next-requires-clause-known g c =
    let lines = c.args.complete_text.now in
    let taken = length lines - length c.loop-output.rest.now in
    λ printing is known. subst IsUtf8 (sym c.loop-output.invariant.left)
    (utf8_after (placed g.S.SymbolReader.all g.S.SymbolReader.prints c.args.placement) lines _ taken (g.S.SymbolReader.prints printing) (ap (placed g.S.SymbolReader.all g.S.SymbolReader.prints) is) c.loop-output.invariant.so_far (c.requires.known printing is known))

pub loop-output-preserved : goal.loop-output-preserved
loop-output-preserved g c =
    let rest = c.loop-output.rest.now in
    let more = c.in-Ok.more in
    let left = take (length rest - more) (drop more rest) in
    let step = rest_appended (placed g.S.SymbolReader.all g.S.SymbolReader.prints c.args.placement) c.args.complete_text.now rest left _ _ more
    c.loop-output.invariant.inside c.loop-output.invariant.left c.loop-output.invariant.so_far
    c.in-Ok.ensures.bound c.in-Ok.ensures.ok (take_rest rest more) in
    record { inside = step.0; left = step.1; so_far = step.2; empty = search rules }

pub append_next-requires-clause-whole : goal.append_next-requires-clause-whole
append_next-requires-clause-whole g c =
    let lines = c.args.complete_text.now in
    let taken = length lines - length c.loop-output.rest.now in
    subst (AreWhole (placed g.S.SymbolReader.all g.S.SymbolReader.prints c.args.placement)) (sym c.loop-output.invariant.left) (whole_after (placed g.S.SymbolReader.all g.S.SymbolReader.prints c.args.placement) lines taken c.requires.whole)
