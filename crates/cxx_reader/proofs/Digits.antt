-- One more than the number that digits write.
use Rattle.std.proofs.Common.{ℕ, ◌≡◌, ◌+◌, ◌-◌, ◌<◌, ◌≤◌, List, [], ◌∷◌, ◌++◌, length, drop, take, refl, ap, ◌∙◌, arith, zero, suc, true, false, length-append, length-take, append_assoc}
use Rattle.std.specs.Prelude.{replicate}
use Rattle.std.proofs.Common.{le-ltb, lt-ltb}
use Rattle.std.proofs.Math.ListN.{get_or}
use mathlib.Core.Bool.{true≢false}
use Rattle.cxx_grammar.specs.Ordinals.{More, more_of, more_behind}
use Rattle.cxx_reader.proofs.Lists.{drop-length, drop-index}

-- nothing, or nines
pub no_digits : (xs : List ℕ) → more_of (drop (length xs) xs) ≡ record { carries = true; digits = replicate (length xs - length xs) 48 }
unfolding more_of
no_digits xs = let none : length xs - length xs ≡ 0 = omega arith in rw (drop-length xs, none) refl

opened : (xs : List ℕ) (k : ℕ) → 0 < k → k ≤ length xs → more_of (drop (k - 1) xs) ≡ more_behind (get_or xs (k - 1) 0) (more_of (drop k xs))
unfolding more_of
opened xs k some within =
    let back : k - 1 + 1 ≡ k = omega (arith, some) in
    ap (λ (l : List ℕ). more_of l) (drop-index 0 (k - 1) xs (omega (arith, some, within)))
    ∙ ap (λ (j : ℕ). more_behind (get_or xs (k - 1) 0) (more_of (drop j xs))) back

pub nine_more : (xs : List ℕ) (k : ℕ) → 0 < k → k ≤ length xs → 57 ≤ get_or xs (k - 1) 0
    → more_of (drop k xs) ≡ record { carries = true; digits = replicate (length xs - k) 48 }
    → more_of (drop (k - 1) xs) ≡ record { carries = true; digits = replicate (length xs - (k - 1)) 48 }
nine_more xs k some within nine e =
    let count : length xs - (k - 1) ≡ suc (length xs - k) = omega (arith, some, within) in
    opened xs k some within ∙ rw (e, le-ltb (get_or xs (k - 1) 0) 57 nine, count) refl

-- what stands in front stays
front : (j : ℕ) (xs m : List ℕ) → more_of (drop j xs) ≡ record { carries = false; digits = m } → more_of xs ≡ record { carries = false; digits = take j xs ++ m }
unfolding more_of
front zero xs m e = e
front (suc j) [] m e = absurd (true≢false (ap (λ (n : More). n.carries) e))
front (suc j) (x ∷ xs) m e = rw (front j xs m e) refl

pub digit_more : (xs : List ℕ) (k : ℕ) → 0 < k → k ≤ length xs → get_or xs (k - 1) 0 < 57
    → more_of (drop k xs) ≡ record { carries = true; digits = replicate (length xs - k) 48 }
    → (more_of xs).digits ≡ take (k - 1) xs ++ (get_or xs (k - 1) 0 + 1) ∷ replicate (length xs - k) 48
digit_more xs k some within small e =
    let here : more_of (drop (k - 1) xs) ≡ record { carries = false; digits = (get_or xs (k - 1) 0 + 1) ∷ replicate (length xs - k) 48 } =
    opened xs k some within ∙ rw (e, lt-ltb (get_or xs (k - 1) 0) 57 small) refl in
    ap (λ (m : More). m.digits) (front (k - 1) xs _ here)

take-long : (n : ℕ) (xs : List ℕ) → length xs ≤ n → take n xs ≡ xs
take-long zero [] h = refl
take-long zero (x ∷ xs) h = absurd (omega (arith, h))
take-long (suc n) [] h = refl
take-long (suc n) (x ∷ xs) h = ap (λ (l : List ℕ). x ∷ l) (take-long n xs (omega (arith, h)))

-- filled up with zeros
pub filled : (xs : List ℕ) (k d : ℕ) → 0 < k → k ≤ length xs
    → take (length xs) (take (k - 1) xs ++ d ∷ []) ++ replicate (length xs - length (take (k - 1) xs ++ d ∷ [])) 48
    ≡ take (k - 1) xs ++ d ∷ replicate (length xs - k) 48
filled xs k d some within =
    let long : length (take (k - 1) xs ++ d ∷ []) ≡ k = omega (arith, some, within, length-append (take (k - 1) xs) (d ∷ []), length-take (k - 1) xs) in
    rw (take-long (length xs) (take (k - 1) xs ++ d ∷ []) (omega (arith, long, within)), long) (append_assoc (take (k - 1) xs) (d ∷ []) (replicate (length xs - k) 48))
