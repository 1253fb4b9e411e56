use Rattle.text_filter.specs.Printed.{placed, worded}
use Rattle.text_filter.proofs.Printed.{placed_answers}
use Rattle.std.proofs.Common.{◌≢◌, [], length, ap, arith}
use Rattle.std.proofs.lemmas.List.{nil_from_length}
use Rattle.std.proofs.lemmas.Result.{on_ok_weaker, on_err_weaker}
use Rattle.text_filter.proofs.FilteredText.{at_fault, no_last, last_written, last_unwritten, last_begins, last_replaced, replaced_begins}
use Rattle.text_filter.proofs.writing.write_last.Goals as goal

pub returns-then-is_empty-clause-ok : goal.returns-then-is_empty-clause-ok
returns-then-is_empty-clause-ok g c = no_last (placed g.S.SymbolReader.all g.S.SymbolReader.prints c.args.placement) c.args.last.now _ (nil_from_length c.args.last.now (grind arith))

pub returns-in_err-answer-in-Lines-clause-err : goal.returns-in_err-answer-in-Lines-clause-err
returns-in_err-answer-in-Lines-clause-err g c = at_fault _ (last_unwritten (placed g.S.SymbolReader.all g.S.SymbolReader.prints c.args.placement) (placed_answers g.S.SymbolReader.all g.S.SymbolReader.prints g.met.S.SymbolReader.answers c.args.placement) c.args.last.now _)

pub returns-in_ok-answer-in-Lines-clause-ok : goal.returns-in_ok-answer-in-Lines-clause-ok
returns-in_ok-answer-in-Lines-clause-ok g c =
    let some : c.args.last.now ≢ [] = λ e. let n = ap length e in grind arith in
    on_ok_weaker _ (λ writes. last_written (placed g.S.SymbolReader.all g.S.SymbolReader.prints c.args.placement) _ c.args.last.now c.in_ok-answer-in-Lines.answer.now (g.W.Sink.taken c.args.sink.now)
    (g.W.Sink.taken c.write_all.new.sink) (ap (placed g.S.SymbolReader.all g.S.SymbolReader.prints) c.in-Lines.is) some (c.requires.unended _ c.in-Lines.is) c.in_ok-answer-in-Lines.ensures writes)
    c.write_all.ensures.ok

pub returns-in_ok-answer-in-Lines-clause-err : goal.returns-in_ok-answer-in-Lines-clause-err
returns-in_ok-answer-in-Lines-clause-err g c =
    let some : c.args.last.now ≢ [] = λ e. let n = ap length e in grind arith in
    on_err_weaker _ (λ writes. last_begins (placed g.S.SymbolReader.all g.S.SymbolReader.prints c.args.placement) _ c.args.last.now c.in_ok-answer-in-Lines.answer.now (g.W.Sink.taken c.args.sink.now)
    (g.W.Sink.taken c.write_all.new.sink) (ap (placed g.S.SymbolReader.all g.S.SymbolReader.prints) c.in-Lines.is) some (c.requires.unended _ c.in-Lines.is) c.in_ok-answer-in-Lines.ensures writes)
    c.write_all.ensures.err

pub returns-in_err-append_words-in-Words-clause-err : goal.returns-in_err-append_words-in-Words-clause-err
returns-in_err-append_words-in-Words-clause-err g c = at_fault _ (last_unwritten (placed g.S.SymbolReader.all g.S.SymbolReader.prints c.args.placement) (placed_answers g.S.SymbolReader.all g.S.SymbolReader.prints g.met.S.SymbolReader.answers c.args.placement) c.args.last.now _)

pub returns-in_ok-append_words-in-Words-clause-ok : goal.returns-in_ok-append_words-in-Words-clause-ok
returns-in_ok-append_words-in-Words-clause-ok g c =
    on_ok_weaker _ (λ writes. last_replaced (placed g.S.SymbolReader.all g.S.SymbolReader.prints c.args.placement) (worded g.S.SymbolReader.all g.S.SymbolReader.prints c.in-Words.options) c.args.last.now _ _ c.as_slice.result.now
    (g.W.Sink.taken c.args.sink.now) (g.W.Sink.taken c.write_all-in-Words.new.sink) (ap (placed g.S.SymbolReader.all g.S.SymbolReader.prints) c.in-Words.is) c.new-output.ensures.empty c.in_ok-append_words-in-Words.ensures.ok c.as_slice.ensures.value writes)
    c.write_all-in-Words.ensures.ok

pub returns-in_ok-append_words-in-Words-clause-err : goal.returns-in_ok-append_words-in-Words-clause-err
returns-in_ok-append_words-in-Words-clause-err g c =
    on_err_weaker _ (λ writes. replaced_begins (placed g.S.SymbolReader.all g.S.SymbolReader.prints c.args.placement) (worded g.S.SymbolReader.all g.S.SymbolReader.prints c.in-Words.options) c.args.last.now _ _ c.as_slice.result.now
    (g.W.Sink.taken c.args.sink.now) (g.W.Sink.taken c.write_all-in-Words.new.sink) (ap (placed g.S.SymbolReader.all g.S.SymbolReader.prints) c.in-Words.is) c.new-output.ensures.empty c.in_ok-append_words-in-Words.ensures.ok c.as_slice.ensures.value writes)
    c.write_all-in-Words.ensures.err
