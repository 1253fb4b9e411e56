use Rattle.text_filter.specs.Printed.{worded}
use Rattle.std.proofs.Common.{◌≡◌, ◌++◌, Some, None, take, sym, subst, ap}
use Rattle.text_filter.specs.Replaced.{symbol_in, IsWordAnswer, no_symbol, answered, unanswered}
use Rattle.text_filter.proofs.WordPlaces.{symbol_words, word_utf8}
use Rattle.text_filter.proofs.words.word_answer.Goals as goal

pub returns-in_default-clause-none : goal.returns-in_default-clause-none
returns-in_default-clause-none g c =
    no_symbol (subst (λ a. symbol_in c.args.options.strip a c.args.word.now ≡ None) c.reads_all-all.ensures.value (sym c.in_default.ensures.value))

pub from_utf8_unchecked-symbol-requires : goal.from_utf8_unchecked-symbol-requires
from_utf8_unchecked-symbol-requires g c =
    word_utf8 c.in-Some.symbol.now (symbol_words c.args.options.strip c.reads_all-all.result c.args.word.now c.in-Some.symbol.now (sym c.in-Some.ensures.value) c.requires)

pub returns-in-Some-text-clause-some : goal.returns-in-Some-text-clause-some
returns-in-Some-text-clause-some g c =
    let word = c.args.word.now in
    let answer = c.in-Some-text.answer.now in
    let symbol = c.from_utf8_unchecked-symbol.result.now in
    let has : g.S.SymbolReader.prints c.args.options.printing c.in-Some.symbol.now (Some answer) =
    subst (λ s. g.S.SymbolReader.prints c.args.options.printing s (Some answer)) c.from_utf8_unchecked-symbol.ensures (subst (g.S.SymbolReader.prints c.args.options.printing symbol) (sym c.in-Some-text.ensures.value) c.in_ok-read.ensures.printed) in
    subst (λ l. IsWordAnswer (worded g.S.SymbolReader.all g.S.SymbolReader.prints c.args.options) word (l ++ answer)) (sym (ap (λ n. take n word) c.in-Some.ensures.chars_len)) (answered
    (subst (λ a. symbol_in c.args.options.strip a word ≡ Some c.in-Some.symbol.now) c.reads_all-all.ensures.value (sym c.in-Some.ensures.value)) has)

pub returns-in-None-clause-none : goal.returns-in-None-clause-none
returns-in-None-clause-none g c =
    let symbol = c.from_utf8_unchecked-symbol.result.now in
    unanswered (subst (λ a. symbol_in c.args.options.strip a c.args.word.now ≡ Some c.in-Some.symbol.now) c.reads_all-all.ensures.value (sym c.in-Some.ensures.value))
    (subst (λ s. g.S.SymbolReader.prints c.args.options.printing s None) c.from_utf8_unchecked-symbol.ensures (subst (g.S.SymbolReader.prints c.args.options.printing symbol) (sym c.in-None.ensures.value) c.in_ok-read.ensures.printed))
