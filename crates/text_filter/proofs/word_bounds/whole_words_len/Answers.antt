use Rattle.std.proofs.Common.{◌≡◌, ℕ, suc, ◌-◌, ◌<◌, length, drop, sym, subst, ◌∙◌, arith}
use Rattle.std.proofs.lemmas.List.{take-append-drop}
use Rattle.std.proofs.lemmas.List.Elements.{All-append, All-same}
use Rattle.std.specs.Prelude.{All}
use Rattle.text_filter.specs.Replaced.{IsWordByte}
use Rattle.text_filter.proofs.ReplacedText.{whole_at}
use Rattle.text_filter.proofs.WordPlaces.{word_down}
use Rattle.text_filter.proofs.word_bounds.whole_words_len.Goals as goal

pub returns-clause-word : goal.returns-clause-word
returns-clause-word c =
    let bytes = c.args.bytes.now in
    All-same IsWordByte _ _ (sym (take-append-drop c.args.kept bytes)) (All-append IsWordByte _ _ c.requires.before
    (subst (λ n. All IsWordByte (drop n bytes)) (omega arith) c.loop-place.invariant.word))

pub returns-then-not-is_word_byte-clause-whole : goal.returns-then-not-is_word_byte-clause-whole
returns-then-not-is_word_byte-clause-whole c =
    whole_at c.args.bytes.now (c.loop-place.place - 1) (grind arith) (sym c.is_word_byte.ensures.value ∙ c.if-not-is_word_byte.true)

pub loop-place-preserved : goal.loop-place-preserved
loop-place-preserved c =
    let bytes = c.args.bytes.now in
    let place : ℕ = c.loop-place.place - 1 in
    let inside : place < length bytes = grind arith in
    let more : suc place ≡ c.loop-place.place = omega arith in
    record {
      low = omega arith;
      word = word_down bytes place inside (sym c.is_word_byte.ensures.value ∙ c.if-not-is_word_byte.false)
          (subst (λ n. All IsWordByte (drop n bytes)) (sym more) c.loop-place.invariant.word);
    }
