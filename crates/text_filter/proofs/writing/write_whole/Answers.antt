use Rattle.std.proofs.Common.{ap}
use Rattle.text_filter.specs.Printed.{placed}
use Rattle.std.proofs.Common.{arith}
use Rattle.std.proofs.lemmas.Grind.{common_steps}
use Rattle.std.proofs.Common.{rules, refl, sym, subst, ◌∙◌}
use Rattle.std.specs.Prelude.{IsUtf8}
use Rattle.std.proofs.lemmas.List.{take_rest}
use Rattle.text_filter.specs.Filtered.{AreWhole}
use Rattle.text_filter.specs.Progress.{FiltersUpTo}
use Rattle.text_filter.proofs.FilteredText.{at_fault, none_filtered, lines_filtered, next_unwritten, WritesBeginningOfAny-append}
use Rattle.text_filter.proofs.LineEnds.{whole_after, utf8_after}
use Rattle.text_filter.proofs.writing.write_whole.Goals as goal

pub loop-rest-init : goal.loop-rest-init
loop-rest-init g c =
    record {
      not_failed = c.requires.not_failed;
      in_time = refl;
      whole = c.requires.whole;
      known = λ _ _. search rules;
      so_far = none_filtered (placed g.S.SymbolReader.all g.S.SymbolReader.prints c.args.placement) _ _;
    }

pub returns-in_err-len-clause-err : goal.returns-in_err-len-clause-err
returns-in_err-len-clause-err g c = at_fault _ (WritesBeginningOfAny-append (placed g.S.SymbolReader.all g.S.SymbolReader.prints c.args.placement) _ _ _ _ _ c.loop-rest.invariant.so_far c.in_err-len.ensures.err)

pub returns-in_err-len-clause-memory : goal.returns-in_err-len-clause-memory
returns-in_err-len-clause-memory g c = λ refused.
    (c.loop-rest.rest.now, next_unwritten (placed g.S.SymbolReader.all g.S.SymbolReader.prints c.args.placement) _ _ _ _ _ c.loop-rest.invariant.so_far (c.in_err-len.ensures.memory (search rules)))

pub loop-rest-preserved : goal.loop-rest-preserved
loop-rest-preserved g c =
    let rest = c.loop-rest.rest.now in
    let len = c.in_ok-len.len in
    let left = sym (take_rest rest len) in
    record {
      not_failed = search rules;
      in_time = c.in_ok-len.ensures.in_time ∙ c.loop-rest.invariant.in_time;
      whole = subst (AreWhole (placed g.S.SymbolReader.all g.S.SymbolReader.prints c.args.placement)) left (whole_after (placed g.S.SymbolReader.all g.S.SymbolReader.prints c.args.placement) rest len c.loop-rest.invariant.whole);
      known = λ printing is known. subst IsUtf8 left (utf8_after (placed g.S.SymbolReader.all g.S.SymbolReader.prints c.args.placement) rest c.in_ok-len.ensures.ok.0 len (g.S.SymbolReader.prints printing) (ap (placed g.S.SymbolReader.all g.S.SymbolReader.prints) is) c.in_ok-len.ensures.ok.1 (c.loop-rest.invariant.known printing is known));
      so_far = subst (λ l. FiltersUpTo (placed g.S.SymbolReader.all g.S.SymbolReader.prints c.args.placement) c.args.complete_text.now l (g.W.Sink.taken c.args.sink.now) (g.W.Sink.taken c.write_next.new.sink)) left
          (lines_filtered (placed g.S.SymbolReader.all g.S.SymbolReader.prints c.args.placement) _ rest len _ _ _ c.loop-rest.invariant.so_far c.in_ok-len.ensures.ok);
    }

pub returns-clause-ok : goal.returns-clause-ok
returns-clause-ok g c = grind (arith, common_steps)
