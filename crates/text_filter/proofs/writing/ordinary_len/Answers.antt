use Rattle.text_filter.proofs.Printed.{placed_answers}
use Rattle.text_filter.specs.Printed.{placed}
use Rattle.std.proofs.Common.{ap, take, subst}
use Rattle.text_filter.specs.Progress.{HasNothingToRead}
use Rattle.text_filter.proofs.LineEnds.{unread_words}
use Rattle.text_filter.proofs.writing.ordinary_len.Goals as goal

pub returns-in-Words-clause-ordinary : goal.returns-in-Words-clause-ordinary
returns-in-Words-clause-ordinary g c = unread_words (placed g.S.SymbolReader.all g.S.SymbolReader.prints c.args.placement) (placed_answers g.S.SymbolReader.all g.S.SymbolReader.prints g.met.S.SymbolReader.answers c.args.placement) _ _ (ap (placed g.S.SymbolReader.all g.S.SymbolReader.prints) c.in-Words.is) c.ordinary_words_len.ensures.whole
    (subst (λ a. HasNothingToRead a (take c.ordinary_words_len.result c.args.complete_text.now)) c.reads_all.ensures.value c.ordinary_words_len.ensures.unread)
