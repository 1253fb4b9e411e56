use Rattle.text_filter.specs.Printed.{placed}
use Rattle.text_filter.proofs.Printed.{placed_answers}
use Rattle.std.proofs.Common.{subst, arith}
use Rattle.text_filter.specs.Progress.{WritesFrontOfBytes}
use Rattle.text_filter.proofs.FilteredText.{at_fault, lines_unwritten, lines_begin}
use Rattle.text_filter.proofs.writing.write_next.Goals as goal

pub returns-in_err-write_all-clause-err : goal.returns-in_err-write_all-clause-err
returns-in_err-write_all-clause-err g c =
    at_fault _ (lines_begin (placed g.S.SymbolReader.all g.S.SymbolReader.prints c.args.placement) (placed_answers g.S.SymbolReader.all g.S.SymbolReader.prints g.met.S.SymbolReader.answers c.args.placement) c.args.complete_text.now _ c.ordinary_len-ordinary.result _ _ c.ordinary_len-ordinary.ensures.ordinary c.in_err-write_all.ensures.err)

pub returns-in_err-reserve-clause-err : goal.returns-in_err-reserve-clause-err
returns-in_err-reserve-clause-err g c = at_fault _ (lines_unwritten (placed g.S.SymbolReader.all g.S.SymbolReader.prints c.args.placement) (placed_answers g.S.SymbolReader.all g.S.SymbolReader.prints g.met.S.SymbolReader.answers c.args.placement) c.args.complete_text.now _)

pub returns-in_err-len-clause-err : goal.returns-in_err-len-clause-err
returns-in_err-len-clause-err g c = at_fault _ (lines_unwritten (placed g.S.SymbolReader.all g.S.SymbolReader.prints c.args.placement) (placed_answers g.S.SymbolReader.all g.S.SymbolReader.prints g.met.S.SymbolReader.answers c.args.placement) c.args.complete_text.now _)

pub returns-in_err-write_all-2-clause-err : goal.returns-in_err-write_all-2-clause-err
returns-in_err-write_all-2-clause-err g c =
    at_fault _ (lines_begin (placed g.S.SymbolReader.all g.S.SymbolReader.prints c.args.placement) (placed_answers g.S.SymbolReader.all g.S.SymbolReader.prints g.met.S.SymbolReader.answers c.args.placement) c.args.complete_text.now _ c.in_ok-len.len _ _ c.in_ok-len.ensures.filtered
    (subst (λ l. WritesFrontOfBytes l (g.W.Sink.taken c.args.sink.now) (g.W.Sink.taken c.write_all-2.new.sink)) c.as_slice.ensures.value c.in_err-write_all-2.ensures.err))

pub returns-clause-ok : goal.returns-clause-ok
returns-clause-ok g c = grind arith
