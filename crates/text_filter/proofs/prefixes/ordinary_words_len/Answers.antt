use Rattle.std.proofs.Common.{◌≡◌, ◌≤◌, false, subst, arith}
use Rattle.std.proofs.lemmas.List.{take-take, length-take}
use Rattle.text_filter.specs.Replaced.{ends_word}
use Rattle.text_filter.proofs.WordPlaces.{nothing-front, nothing-shorter}
use Rattle.text_filter.proofs.prefixes.ordinary_words_len.Goals as goal

pub returns-in-Some-clause-whole : goal.returns-in-Some-clause-whole
returns-in-Some-clause-whole c =
    let lines = c.args.text.now in
    let place = c.in-Some.place in
    let n = c.whole_words_len.result in
    let within : n ≤ place = omega (arith, c.whole_words_len.ensures.bound, length-take place lines) in
    subst (λ l. ends_word l ≡ false) (take-take n place lines within) c.whole_words_len.ensures.whole

pub returns-in-Some-clause-unread : goal.returns-in-Some-clause-unread
returns-in-Some-clause-unread c =
    let lines = c.args.text.now in
    let place = c.in-Some.place in
    let n = c.whole_words_len.result in
    let within : n ≤ place = omega (arith, c.whole_words_len.ensures.bound, length-take place lines) in
    nothing-shorter c.args.all lines n place within c.in-Some.ensures.found.before

pub returns-in-None-clause-unread : goal.returns-in-None-clause-unread
returns-in-None-clause-unread c = nothing-front c.args.all c.args.text.now _ c.in-None.ensures.none
