use Rattle.text_filter.specs.Printed.{worded}
use Rattle.std.proofs.Common.{◌+◌, ◌<◌, [], true, false, length, take, sym, subst, arith}
use Rattle.text_filter.specs.Progress.{ContinuesTo}
use Rattle.text_filter.proofs.WordPlaces.{rest_of_word}
use Rattle.text_filter.proofs.WordTurns.{none_leads, on_leads, first_leads}
use Rattle.text_filter.proofs.chunks.rest_of_word.Goals as goal

pub returns-then-not-mid_word-clause-leads : goal.returns-then-not-mid_word-clause-leads
returns-then-not-mid_word-clause-leads g c = λ options. subst (λ b. ContinuesTo (worded g.S.SymbolReader.all g.S.SymbolReader.prints options) b [] [] false) (sym c.if-not-mid_word.true) (none_leads (worded g.S.SymbolReader.all g.S.SymbolReader.prints options))

pub returns-then-end-bytes-clause-leads : goal.returns-then-end-bytes-clause-leads
returns-then-end-bytes-clause-leads g c = λ options.
    let bytes = c.args.bytes.now in
    let end = c.word_end-end.result in
    subst (λ b. ContinuesTo (worded g.S.SymbolReader.all g.S.SymbolReader.prints options) b (take end bytes) (take end bytes) true) (sym c.if-not-mid_word.false)
    (on_leads (worded g.S.SymbolReader.all g.S.SymbolReader.prints options) (take end bytes) (rest_of_word bytes end c.word_end-end.ensures.high c.word_end-end.ensures.word))

pub returns-clause-leads : goal.returns-clause-leads
returns-clause-leads g c = λ options.
    let bytes = c.args.bytes.now in
    let end = c.word_end-end.result in
    let mid_word : end < length bytes = omega (arith, c.word_end-end.ensures.high, c.if-end-bytes.false) in
    subst (λ b. ContinuesTo (worded g.S.SymbolReader.all g.S.SymbolReader.prints options) b (take (end + 1) bytes) (take (end + 1) bytes) false) (sym c.if-not-mid_word.false)
    (first_leads (worded g.S.SymbolReader.all g.S.SymbolReader.prints options) bytes end mid_word c.word_end-end.ensures.word c.word_end-end.ensures.ended)
