use Rattle.std.proofs.Common.{◌≡◌, ℕ, ◌+◌, ◌/◌, ◌^◌, ◌<◌, ◌≤◌, List, cond, eqb, length, get_or, map, replicate, refl, sym, ap, subst, ◌∙◌, arith, bit_and, Fits, w8}
use Rattle.std.proofs.lemmas.Nat.{and_mask}
use Rattle.std.proofs.lemmas.Simd.{zip2_splat, zip2_of_maps, splat_is_map, length-chunk, get_or-chunk, swz_l, SwzOk}
use lib.Lanes.{chunk, zip2}
use Rattle.text_filter.specs.declared.word_bounds.TheConstants.{BY_LOW_NIBBLE, BY_HIGH_NIBBLE}
use Rattle.text_filter.proofs.WordLanes.{may_look_up, looked_up, all_words, run_within, run_words, run_ends}
use Rattle.text_filter.proofs.word_bounds.word_end_among.Goals as goal

abbrev low : ℕ → ℕ
low x = bit_and x 15

abbrev high : ℕ → ℕ
high x = x / 2 ^ 4

low_small : (text : List ℕ) (at : ℕ) (k : ℕ) → k < 16 → low (get_or (chunk at 16 text) k 0) < 16
low_small text at k inside = omega (arith, and_mask (get_or (chunk at 16 text) k 0) 4)

high_small : (text : List ℕ) (at : ℕ) → ((k : ℕ) → Fits w8 (get_or text k 0)) → (k : ℕ) → k < 16 → high (get_or (chunk at 16 text) k 0) < 16
high_small text at fits k inside = omega (arith, get_or-chunk at 16 text k 0 inside, (fits (at + k)).fits)

pub swizzle-low : goal.swizzle-low
swizzle-low c =
    let text = c.args.text.now in
    let at = c.args.at in
    let v = chunk at 16 text in
    let long = length-chunk at 16 text c.requires.inside in
    subst (SwzOk w8 16 16 0) (sym (zip2_splat {Y = ℕ} bit_and v 16 15 long)) (may_look_up low v long (low_small text at))

pub swizzle-high : goal.swizzle-high
swizzle-high c =
    let text = c.args.text.now in
    let at = c.args.at in
    let v = chunk at 16 text in
    let long = length-chunk at 16 text c.requires.inside in
    subst (SwzOk w8 16 16 0) (sym (zip2_splat {Y = ℕ} (λ a b. a / 2 ^ b) v 16 4 long)) (may_look_up high v long (high_small text at c.type_inv.text))

-- what each lane holds
abbrev lane : ℕ → ℕ
lane x = cond (eqb (bit_and (get_or BY_LOW_NIBBLE (low x) 0) (get_or BY_HIGH_NIBBLE (high x) 0)) 0) 255 0

-- 255 for a byte that is none of words
lanes_are : (text : List ℕ) (at : ℕ) → at + 16 ≤ length text → ((k : ℕ) → Fits w8 (get_or text k 0))
    → let v = chunk at 16 text in
    zip2 (λ a b. cond (eqb a b) 255 0) (zip2 bit_and (swz_l w8 16 BY_LOW_NIBBLE 0 (zip2 bit_and v (replicate 16 15)))
    (swz_l w8 16 BY_HIGH_NIBBLE 0 (zip2 (λ a b. a / 2 ^ b) v (replicate 16 4)))) (replicate 16 0) ≡ map lane v
lanes_are text at fits_16 fits =
    let v = chunk at 16 text in
    let long = length-chunk at 16 text fits_16 in
    let by_low = ap (swz_l w8 16 BY_LOW_NIBBLE 0) (zip2_splat {Y = ℕ} bit_and v 16 15 long) ∙ looked_up low v long (low_small text at) BY_LOW_NIBBLE in
    let by_high = ap (swz_l w8 16 BY_HIGH_NIBBLE 0) (zip2_splat {Y = ℕ} (λ a b. a / 2 ^ b) v 16 4 long) ∙ looked_up high v long (high_small text at fits) BY_HIGH_NIBBLE in
    zip2_of_maps (λ a b. cond (eqb a b) 255 0) _ _ v (zip2_of_maps bit_and _ _ v by_low by_high) (splat_is_map v 16 0 long)

pub returns-then-others-eq0-clause-none : goal.returns-then-others-eq0-clause-none
returns-then-others-eq0-clause-none c =
    let lanes = lanes_are c.args.text.now c.args.at c.requires.inside c.type_inv.text in
    all_words lane c.args.text.now c.args.at _ _ c.requires.inside c.type_inv.text refl lanes refl c.if-others-eq0.true

pub returns-clause-high : goal.returns-clause-high
returns-clause-high c =
    let lanes = lanes_are c.args.text.now c.args.at c.requires.inside c.type_inv.text in
    omega (arith, run_within lane c.args.text.now c.args.at _ _ c.requires.inside c.type_inv.text refl lanes refl c.if-others-eq0.false)

pub returns-clause-word : goal.returns-clause-word
returns-clause-word c =
    let lanes = lanes_are c.args.text.now c.args.at c.requires.inside c.type_inv.text in
    run_words lane c.args.text.now c.args.at _ _ c.requires.inside c.type_inv.text refl lanes refl c.if-others-eq0.false

pub returns-clause-ended : goal.returns-clause-ended
returns-clause-ended c =
    let lanes = lanes_are c.args.text.now c.args.at c.requires.inside c.type_inv.text in
    run_ends lane c.args.text.now c.args.at _ _ c.requires.inside c.type_inv.text refl lanes refl c.if-others-eq0.false
