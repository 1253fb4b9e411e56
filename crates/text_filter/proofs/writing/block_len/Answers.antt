use Rattle.std.proofs.Common.{◌≡◌, ◌≤◌, false, length, subst, sym, arith}
use Rattle.std.proofs.lemmas.List.{take-take, take_all, length-take, length-take-le}
use Rattle.text_filter.specs.Replaced.{ends_word}
use Rattle.text_filter.proofs.ReplacedText.{whole_at, word_within}
use Rattle.text_filter.proofs.writing.block_len.Goals as goal

pub returns-then-text-most-clause-whole : goal.returns-then-text-most-clause-whole
returns-then-text-most-clause-whole c =
    let text = c.args.text.now in
    subst (λ l. ends_word l ≡ false) (sym (take_all (length text) text (omega arith))) c.requires.whole

pub slice_bounds-whole_words_len-end : goal.slice_bounds-whole_words_len-end
slice_bounds-whole_words_len-end c = sym (length-take-le c.args.most c.args.text.now (omega arith))

pub returns-then-len-gt0-clause-bound : goal.returns-then-len-gt0-clause-bound
returns-then-len-gt0-clause-bound c = omega (arith, c.whole_words_len-len.ensures.bound, length-take c.args.most c.args.text.now)

pub returns-then-len-gt0-clause-whole : goal.returns-then-len-gt0-clause-whole
returns-then-len-gt0-clause-whole c =
    let text = c.args.text.now in
    let n = c.whole_words_len-len.result in
    let within : n ≤ c.args.most = omega (arith, c.whole_words_len-len.ensures.bound, length-take c.args.most text) in
    subst (λ l. ends_word l ≡ false) (take-take n c.args.most text within) c.whole_words_len-len.ensures.whole

pub returns-clause-bound : goal.returns-clause-bound
returns-clause-bound c =
    let text = c.args.text.now in
    let within = word_within text c.word_end.result c.requires.some c.requires.whole c.word_end.ensures.word c.word_end.ensures.high in
    omega (arith, within)

pub returns-clause-whole : goal.returns-clause-whole
returns-clause-whole c =
    let text = c.args.text.now in
    whole_at text c.word_end.result (word_within text c.word_end.result c.requires.some c.requires.whole c.word_end.ensures.word c.word_end.ensures.high) c.word_end.ensures.ended
