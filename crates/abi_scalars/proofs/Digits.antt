-- Digits that are read one after another.
use Rattle.std.proofs.Common.{◌≡◌, ◌<◌, ◌≤◌, ℕ, zero, suc, ◌+◌, ◌-◌, ◌*◌, ◌^◌, List, [], ◌∷◌, length, take, drop, get_or, refl, ap, ◌∙◌, arith, Option, Some, None, option_map, add-one, take_all, drop-cons, true, false, nat_lt, ◌&&◌}
use Rattle.std.proofs.Math.Nat.{pow-succ', pow-zero, le-mul_of_pos_right}
use Rattle.std.proofs.Math.ListN.{drop_of_length-le}
use Rattle.std.proofs.lemmas.List.{drop-drop, length-drop}
use Rattle.std.proofs.lemmas.Grind.{common_steps}
use Rattle.abi_scalars.specs.declared.numerals.Radix.{Radix}
use Rattle.abi_scalars.specs.declared.numerals.Radix.TheVariants.{Decimal, Base36}
use Rattle.abi_scalars.specs.Scalars.{base, digit_of, front_digits, weighted, numeral}

pub no_bytes : (r : Radix) (bytes : List ℕ) (i : ℕ) → length bytes ≤ i → front_digits r (drop i bytes) ≡ []
unfolding front_digits
no_bytes r bytes i h = rw (drop_of_length-le bytes h) refl

pub no_digit : (r : Radix) (bytes : List ℕ) (i : ℕ) → i < length bytes → digit_of r (get_or bytes i 0) ≡ None → front_digits r (drop i bytes) ≡ []
unfolding front_digits
no_digit r bytes i h none = rw (drop-cons bytes i 0 h, none) refl

pub one_digit : (r : Radix) (bytes : List ℕ) (i d : ℕ) → i < length bytes → digit_of r (get_or bytes i 0) ≡ Some d
    → front_digits r (drop i bytes) ≡ d ∷ front_digits r (drop (i + 1) bytes)
unfolding front_digits
one_digit r bytes i d h some = rw (drop-cons bytes i 0 h, some, add-one) refl

pub weighted_none : (n v : ℕ) → v * n ^ 0 + weighted n [] ≡ v
unfolding weighted
weighted_none n v = omega (arith, ap (λ x. v * x) (pow-zero n))

pub weighted_step : (n v d : ℕ) (ds : List ℕ) → v * n ^ length (d ∷ ds) + weighted n (d ∷ ds) ≡ (v * n + d) * n ^ length ds + weighted n ds
unfolding weighted
weighted_step n v d ds = omega (arith, ap (λ x. v * x) (pow-succ' n (length ds)))

pow_positive : (n k : ℕ) → 0 < n → 0 < n ^ k
pow_positive n zero h = omega (arith, pow-zero n)
pow_positive n (suc k) h = omega (arith, pow-succ' n k, le-mul_of_pos_right n (pow_positive n k h))

pub weighted_least : (n v : ℕ) (ds : List ℕ) → 0 < n → v ≤ v * n ^ length ds + weighted n ds
weighted_least n v ds h = omega (arith, le-mul_of_pos_right v (pow_positive n (length ds) h))

-- What is read and what is left make the whole number.
pub record NumberSoFar (r : Radix) (bytes rest : List ℕ) (i value : ℕ) : Type 0 where
  pub fits : value < 2 ^ 64
  pub some : 0 < length (front_digits r bytes)
  pub whole : value * base r ^ length (front_digits r (drop i rest)) + weighted (base r) (front_digits r (drop i rest)) ≡ weighted (base r) (front_digits r bytes)

base_positive : (r : Radix) → 0 < base r
base_positive Decimal = omega arith
base_positive Base36 = omega arith

pub number_first : {r : Radix} {bytes : List ℕ} {d : ℕ} → 0 < length bytes → digit_of r (get_or bytes 0 0) ≡ Some d → d < 2 ^ 64
    → NumberSoFar r bytes (take (length bytes - 1) (drop 1 bytes)) 0 d
unfolding front_digits weighted
number_first {r} {bytes} {d} h is fits =
    let e : front_digits r bytes ≡ d ∷ front_digits r (drop 1 bytes) = one_digit r bytes 0 d h is in
    rw (take_all (length bytes - 1) (drop 1 bytes) (omega (arith, length-drop 1 bytes))) (record { fits = fits; some = rw e (omega arith); whole = rw e refl })

pub number_more : {r : Radix} {bytes rest : List ℕ} {i value next d : ℕ} → NumberSoFar r bytes rest i value → i < length rest → digit_of r (get_or rest i 0) ≡ Some d
    → next ≡ value * base r + d → next < 2 ^ 64 → NumberSoFar r bytes rest (i + 1) next
number_more {r} {bytes} {rest} {i} {value} {next} {d} sofar h some is fits =
    let e = one_digit r rest i d h some in
    let tail = front_digits r (drop (i + 1) rest) in
    record {
      fits = fits;
      some = sofar.some;
      whole = rw is (omega (arith, weighted_step (base r) value d tail, rw e at sofar.whole));
    }

pub number_large : {r : Radix} {bytes rest : List ℕ} {i value d : ℕ} → NumberSoFar r bytes rest i value → i < length rest → digit_of r (get_or rest i 0) ≡ Some d
    → ¬ (value * base r + d < 2 ^ 64) → None ≡ option_map (λ found. found.0) (numeral r bytes)
number_large {r} {bytes} {rest} {i} {value} {d} sofar h some large =
    let e = one_digit r rest i d h some in
    let tail = front_digits r (drop (i + 1) rest) in
    let least : value * base r + d ≤ weighted (base r) (front_digits r bytes) =
    omega (arith, weighted_least (base r) (value * base r + d) tail (base_positive r), weighted_step (base r) value d tail, rw e at sofar.whole) in
    grind (arith, common_steps)

pub number_end : {r : Radix} {bytes rest : List ℕ} {i value : ℕ} → NumberSoFar r bytes rest i value → front_digits r (drop i rest) ≡ [] → Some value ≡ option_map (λ found. found.0) (numeral r bytes)
number_end {r} {bytes} {rest} {i} {value} sofar none =
    let is : value ≡ weighted (base r) (front_digits r bytes) = omega (arith, weighted_none (base r) value, rw none at sofar.whole) in
    let fits = sofar.fits in
    let some = sofar.some in
    rw (← is) (grind (arith, common_steps))

pub number_none : (r : Radix) (bytes : List ℕ) → front_digits r bytes ≡ [] → None ≡ option_map (λ found. found.0) (numeral r bytes)
number_none r bytes none = rw none refl

pub ruleset dropped = (drop-drop, length-drop)
