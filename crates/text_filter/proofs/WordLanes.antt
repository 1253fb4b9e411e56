-- How many bytes of one load, from the first on, are bytes of words.
use Rattle.std.proofs.Common.{◌≡◌, ◌≢◌, ℕ, ◌+◌, ◌%◌, ◌^◌, ◌<◌, ◌≤◌, List, Bool, true, false, not, map, length, get_or, Fits, w8, w16, sym, ap, subst, ◌∙◌, arith}
use Rattle.std.proofs.lemmas.Bool.{agree_below, agree_below_at, not-true, not-false}
use Rattle.std.proofs.lemmas.List.{length-map, ext_get_or, get_or-map}
use Rattle.std.proofs.lemmas.Nat.Bits.{bit_at-trailing_zeros}
use Rattle.std.proofs.lemmas.Simd.{map-map, mask_l-mod, mask_l-lt, length-chunk, leading_from_mask_l, trailing_mask_l, run_in_chunk_fails, run_in_chunk_stops}
use Rattle.std.proofs.lemmas.Simd.{swz_l, SwzOk, SwzOk-from_below, length-swz_l, get_or-swz_l_below, Each1-from_get_or}
use Rattle.std.specs.List.{prefix_len}
use lib.Count.{count_trailing_zeros}
use lib.Lanes.{chunk, mask_l, top}
use Rattle.text_filter.specs.Replaced.{is_word_byte}
use Rattle.text_filter.specs.Progress.{AreWordBytes}

-- a table is looked up by what is made of each byte
module _ (g : ℕ → ℕ) (v : List ℕ) (long : length v ≡ 16) (small : (k : ℕ) → k < 16 → g (get_or v k 0) < 16) where
  below : (k : ℕ) → k < 16 → get_or (map g v) k 0 < 16
  below k inside = omega (arith, get_or-map g v k 0 0 (omega (arith, inside, long)), small k inside)

  pub may_look_up : SwzOk w8 16 16 0 (map g v)
  may_look_up =
      SwzOk-from_below w8 16 1 16 0 (map g v) (omega arith) (omega (arith, length-map v g, long))
      (Each1-from_get_or (λ j. j < 16) (map g v) 0 (λ k inside. below k (omega (arith, inside, length-map v g, long))))

  pub looked_up : (table : List ℕ) → swz_l w8 16 table 0 (map g v) ≡ map (λ x. get_or table (g x) 0) v
  looked_up table =
      let values : ℕ → ℕ = λ x. get_or table (g x) 0 in
      ext_get_or 0 (swz_l w8 16 table 0 (map g v)) (map values v) (length-swz_l w8 16 table 0 (map g v) ∙ length-map v g ∙ sym (length-map v values))
      (λ k inside.
      let within : k < 16 = omega (arith, inside, length-swz_l w8 16 table 0 (map g v), length-map v g, long) in
      let in_v : k < length v = omega (arith, within, long) in
      get_or-swz_l_below w8 16 table 0 (map g v) k (omega (arith, in_v, length-map v g)) (below k within)
      ∙ ap (λ n. get_or table n 0) (omega (arith, within, get_or-map g v k 0 0 in_v)) ∙ sym (get_or-map values v k 0 0 in_v))

-- a lane stops just where its byte is none of words
abbrev pub StopsAtOthers : (ℕ → ℕ) → Type 0
StopsAtOthers f = agree_below (λ x. top 7 (f x)) (λ x. not (is_word_byte x)) 256 ≡ true

module _ (f : ℕ → ℕ) (text : List ℕ) (at mask : ℕ) (lanes : List ℕ) (fits_16 : at + 16 ≤ length text) (fits : (k : ℕ) → Fits w8 (get_or text k 0))
    (stops : StopsAtOthers f) (lanes_are : lanes ≡ map f (chunk at 16 text)) (mask_is : mask ≡ mask_l (map (top 7) lanes) % 2 ^ 64) where
  abbrev stop : ℕ → Bool
  stop x = top 7 (f x)

  long : length (chunk at 16 text) ≡ 16
  long = length-chunk at 16 text fits_16

  bits_are : mask ≡ mask_l (map stop (chunk at 16 text))
  bits_are =
      mask_is ∙ ap (λ l. mask_l l % 2 ^ 64) (ap (map (top 7)) lanes_are ∙ map-map (top 7) f (chunk at 16 text))
      ∙ mask_l-mod (map stop (chunk at 16 text)) 64 (omega (arith, length-map (chunk at 16 text) stop, long))

  words_before : (run : ℕ) → run ≡ prefix_len (λ x. not (stop x)) (chunk at 16 text) → AreWordBytes text at (at + run)
  words_before run count k low high =
      not-false _ (sym (agree_below_at stop (λ x. not (is_word_byte x)) 256 (get_or text k 0) stops (fits k).fits)
      ∙ run_in_chunk_fails stop text at 16 run 0 fits_16 count k low high)

  -- all are bytes of words
  pub all_words : mask ≡ 0 → AreWordBytes text at (at + 16)
  all_words none = words_before 16 (sym (leading_from_mask_l stop (chunk at 16 text) (sym bits_are ∙ none) ∙ long))

  -- so many come before the first that isn't
  module _ (some : mask ≢ 0) where
    abbrev bits : ℕ
    bits = mask_l (map stop (chunk at 16 text))

    any : 0 < bits
    any = omega (arith, some, bits_are)

    abbrev pub run : ℕ
    run = count_trailing_zeros 64 mask

    count : run ≡ prefix_len (λ x. not (stop x)) (chunk at 16 text)
    count = ap (count_trailing_zeros 64) bits_are ∙ trailing_mask_l stop 64 (chunk at 16 text) (omega (arith, long)) any

    pub run_within : run < 16
    run_within =
        let all : length (map stop (chunk at 16 text)) ≡ 16 = length-map (chunk at 16 text) stop ∙ long in
        let low : bits < 2 ^ 16 = subst (λ n. bits < 2 ^ n) all (mask_l-lt (map stop (chunk at 16 text))) in
        omega (arith, count, trailing_mask_l stop 16 (chunk at 16 text) (omega (arith, long)) any, (bit_at-trailing_zeros w16 bits any low).0)

    pub run_words : AreWordBytes text at (at + run)
    run_words = words_before run count

    pub run_ends : is_word_byte (get_or text (at + run) 0) ≡ false
    run_ends =
        not-true _ (sym (agree_below_at stop (λ x. not (is_word_byte x)) 256 (get_or text (at + run) 0) stops (fits (at + run)).fits)
        ∙ run_in_chunk_stops stop text at 16 run 0 fits_16 count run_within)
