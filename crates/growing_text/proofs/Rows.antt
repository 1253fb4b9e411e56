-- Texts in a row, at the front of what is reserved.
use Rattle.std.proofs.Common.{◌≡◌, ℕ, ◌+◌, List, [], ◌∷◌, ◌++◌, length, take, suc, ap, ◌∙◌, refl, arith}

-- the front of two lists that is longer than the first
take-both : (xs ys : List ℕ) (n : ℕ) → take (length xs + n) (xs ++ ys) ≡ xs ++ take n ys
take-both [] ys n = let e : 0 + n ≡ n = omega arith in ap (λ (k : ℕ). take k ys) e
take-both (x ∷ xs) ys n =
    let e : length (x ∷ xs) + n ≡ suc (length xs + n) = omega arith in
    ap (λ (k : ℕ). take k (x ∷ (xs ++ ys))) e ∙ ap (λ (l : List ℕ). x ∷ l) (take-both xs ys n)

-- a text, and the front of what stands after it
pub row : (xs ys front back : List ℕ) (n : ℕ) → front ≡ xs → take n back ≡ ys → take (length xs + n) (front ++ back) ≡ xs ++ ys
row xs ys front back n e f =
    ap (λ (v : List ℕ). take (length xs + n) (v ++ back)) e ∙ take-both xs back n ∙ ap (λ (v : List ℕ). xs ++ v) f
