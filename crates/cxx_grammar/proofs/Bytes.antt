-- What is read of bytes is read of them in front of others.
use Rattle.std.proofs.Common.{ℕ, ◌≡◌, ◌+◌, ◌^◌, ◌<◌, ◌≤◌, List, [], ◌∷◌, ◌++◌, length, drop, take, refl, ap, arith, zero, suc, Option, Some, None, true, false, Bool, ◌&&◌, if◌then◌else◌, nat_lt, nat_le, codes}
use Rattle.std.proofs.lemmas.Grind.{common_steps}
use Rattle.std.specs.Prelude.{option_and_then}
use Rattle.abi_scalars.specs.declared.numerals.Radix.{Radix}
use Rattle.abi_scalars.specs.declared.numerals.Radix.TheVariants.{Decimal}
use Rattle.abi_scalars.specs.Bytes.{begins}
use Rattle.abi_scalars.specs.Scalars.{base, digit_of, digit_then, front_digits, weighted, numeral, number, source_name, plus_one, before_underscore, index_of}
use Rattle.abi_scalars.specs.Texts.{identifier, begins_source}

-- digits that something follows
front-more : (r : Radix) (xs ys : List ℕ) → length (front_digits r xs) < length xs → front_digits r (xs ++ ys) ≡ front_digits r xs
unfolding front_digits
front-more r [] ys h = absurd (omega (arith, h))
front-more r (x ∷ xs) ys h = go (digit_of r x) refl (front-more r xs ys)
  where
    go : (o : Option ℕ) → digit_of r x ≡ o → (length (front_digits r xs) < length xs → front_digits r (xs ++ ys) ≡ front_digits r xs)
        → digit_then (digit_of r x) (front_digits r (xs ++ ys)) ≡ digit_then (digit_of r x) (front_digits r xs)
    go None e f = rw e refl
    go (Some d) e f = rw (e, f (omega (arith, rw e at h))) refl

drop-front : (n : ℕ) (xs ys : List ℕ) → n ≤ length xs → drop n (xs ++ ys) ≡ drop n xs ++ ys
drop-front zero xs ys h = refl
drop-front (suc n) [] ys h = absurd (omega (arith, h))
drop-front (suc n) (x ∷ xs) ys h = drop-front n xs ys (omega (arith, h))

take-front : (n : ℕ) (xs ys : List ℕ) → n ≤ length xs → take n (xs ++ ys) ≡ take n xs
take-front zero xs ys h = refl
take-front (suc n) [] ys h = absurd (omega (arith, h))
take-front (suc n) (x ∷ xs) ys h = ap (λ (l : List ℕ). x ∷ l) (take-front n xs ys (omega (arith, h)))

-- what is left after n bytes is some
some-left : (n : ℕ) (xs : List ℕ) → 0 < length (drop n xs) → n < length xs
some-left zero xs h = h
some-left (suc n) [] h = absurd (omega (arith, h))
some-left (suc n) (x ∷ xs) h = omega (arith, some-left n xs h)

abbrev left-of : {A : Type 0} → List ℕ → Option (A × List ℕ) → List ℕ
left-of other None = other
left-of other (Some p) = p.1

abbrev value-of : {A : Type 0} → A → Option (A × List ℕ) → A
value-of other None = other
value-of other (Some p) = p.0

-- something, where a test holds
abbrev tested : {A : Type 0} → Bool → A → List ℕ → Option (A × List ℕ)
tested b a rest = if b then Some (a, rest) else None

-- a number that bytes follow
numeral-front : (r : Radix) (xs ys : List ℕ) {n : ℕ} {rest : List ℕ} → numeral r xs ≡ Some (n, rest) → 0 < length rest
    → numeral r (xs ++ ys) ≡ Some (n, rest ++ ys)
numeral-front r xs ys {n} {rest} e some = go (nat_lt 0 (length (front_digits r xs))) (nat_lt (weighted (base r) (front_digits r xs)) (2 ^ 64)) refl refl e
  where
    go : (b c : Bool) → nat_lt 0 (length (front_digits r xs)) ≡ b → nat_lt (weighted (base r) (front_digits r xs)) (2 ^ 64) ≡ c
        → tested (b && c) (weighted (base r) (front_digits r xs)) (drop (length (front_digits r xs)) xs) ≡ Some (n, rest)
        → numeral r (xs ++ ys) ≡ Some (n, rest ++ ys)
    go true true f g h =
        let is : drop (length (front_digits r xs)) xs ≡ rest = ap (left-of []) h in
        let value : weighted (base r) (front_digits r xs) ≡ n = ap (value-of 0) h in
        let within : length (front_digits r xs) < length xs = some-left (length (front_digits r xs)) xs (omega (arith, ap (λ (l : List ℕ). length l) is, some)) in
        rw (front-more r xs ys within, f, g, drop-front (length (front_digits r xs)) xs ys (omega (arith, within)), is, value) refl
    go true false f g h = absurd cc
    go false c f g h = absurd cc

-- a source name
named-front : (b : ℕ) (xs ys : List ℕ) {name : List ℕ} (n : ℕ) (rest : List ℕ) → numeral Decimal (b ∷ xs) ≡ Some (n, rest)
    → tested (nat_lt 0 n && nat_le n (length rest)) (take n rest) (drop n rest) ≡ Some (name, []) → source_name (b ∷ (xs ++ ys)) ≡ Some (name, ys)
unfolding number source_name
named-front b xs ys {name} n rest e = go (nat_lt 0 n) (nat_le n (length rest)) refl refl
  where
    go : (s t : Bool) → nat_lt 0 n ≡ s → nat_le n (length rest) ≡ t → tested (s && t) (take n rest) (drop n rest) ≡ Some (name, []) → source_name (b ∷ (xs ++ ys)) ≡ Some (name, ys)
    go true true g h f =
        let is : take n rest ≡ name = ap (value-of []) f in
        let none : drop n rest ≡ [] = ap (left-of (0 ∷ [])) f in
        let some : 0 < n = grind (arith, common_steps) in
        let fits : n ≤ length rest = grind (arith, common_steps) in
        let long : nat_le n (length (rest ++ ys)) ≡ true = grind (arith, common_steps) in
        rw (numeral-front Decimal (b ∷ xs) ys e (omega (arith, some, fits)), g, long, take-front n rest ys fits, drop-front n rest ys fits, is, none) refl
    go true false g h f = absurd cc
    go false t g h f = absurd cc

in-source : (b : ℕ) (xs ys : List ℕ) {name : List ℕ} → source_name (b ∷ xs) ≡ Some (name, []) → source_name (b ∷ (xs ++ ys)) ≡ Some (name, ys)
unfolding number source_name
in-source b xs ys {name} e = go (numeral Decimal (b ∷ xs)) refl e
  where
    go : (o : Option (ℕ × List ℕ)) → numeral Decimal (b ∷ xs) ≡ o
        → option_and_then (λ (n : ℕ × List ℕ). tested (nat_lt 0 n.0 && nat_le n.0 (length n.1)) (take n.0 n.1) (drop n.0 n.1)) o ≡ Some (name, [])
        → source_name (b ∷ (xs ++ ys)) ≡ Some (name, ys)
    go None e f = absurd cc
    go (Some (n, rest)) e f = named-front b xs ys n rest e f

pub source-front : (xs ys : List ℕ) {name : List ℕ} → identifier xs ≡ Some (name, []) → identifier (xs ++ ys) ≡ Some (name, ys)
unfolding identifier
source-front [] ys e = absurd cc
source-front (x ∷ xs) ys {name} e = go (begins_source (x ∷ xs)) refl e
  where
    go : (b : Bool) → begins_source (x ∷ xs) ≡ b → (if b then source_name (x ∷ xs) else None) ≡ Some (name, []) → identifier (x ∷ (xs ++ ys)) ≡ Some (name, ys)
    go true f e = rw f (in-source x xs ys e)
    go false f e = absurd cc

-- the index of a substitution
after-number : (r : Radix) (b : ℕ) (xs ys : List ℕ) {k n : ℕ} (rest : List ℕ) → numeral r (b ∷ xs) ≡ Some (n, rest) → before_underscore (plus_one (Some (n, rest))) ≡ Some (k, [])
    → before_underscore (plus_one (numeral r (b ∷ (xs ++ ys)))) ≡ Some (k, ys)
after-number r b xs ys {k} {n} [] e = go (nat_lt (n + 1) (2 ^ 64)) refl
  where
    go : (s : Bool) → nat_lt (n + 1) (2 ^ 64) ≡ s → before_underscore (tested s (n + 1) []) ≡ Some (k, []) → before_underscore (plus_one (numeral r (b ∷ (xs ++ ys)))) ≡ Some (k, ys)
    go true g f = absurd cc
    go false g f = absurd cc
after-number r b xs ys {k} {n} (z ∷ zs) e = go (nat_lt (n + 1) (2 ^ 64)) (begins (codes "_") (z ∷ zs)) refl refl
  where
    go : (s t : Bool) → nat_lt (n + 1) (2 ^ 64) ≡ s → begins (codes "_") (z ∷ zs) ≡ t → before_underscore (tested s (n + 1) (z ∷ zs)) ≡ Some (k, [])
        → before_underscore (plus_one (numeral r (b ∷ (xs ++ ys)))) ≡ Some (k, ys)
    go true true g h f =
        let some : tested true (n + 1) zs ≡ Some (k, []) = rw h at f in
        let none : zs ≡ [] = ap (left-of (0 ∷ [])) some in
        let next : n + 1 ≡ k = ap (value-of 0) some in
        rw (numeral-front r (b ∷ xs) ys e (omega arith), g, h, none, next) refl
    go true false g h f = absurd (let x = rw h at f in cc)
    go false t g h f = absurd cc

no-index : (r : Radix) → index_of r [] ≡ None
unfolding index_of front_digits
no-index r = refl

pub index-front : (r : Radix) (xs ys : List ℕ) {k : ℕ} → index_of r xs ≡ Some (k, []) → index_of r (xs ++ ys) ≡ Some (k, ys)
unfolding index_of
index-front r [] ys {k} e = absurd (let f = no-index r in cc)
index-front r (x ∷ xs) ys {k} e = go (begins (codes "_") (x ∷ xs)) refl e
  where
    go : (b : Bool) → begins (codes "_") (x ∷ xs) ≡ b → (if b then tested true 0 xs else before_underscore (plus_one (numeral r (x ∷ xs)))) ≡ Some (k, [])
        → index_of r (x ∷ (xs ++ ys)) ≡ Some (k, ys)
    go true f e =
        let none : xs ≡ [] = ap (left-of (0 ∷ [])) e in
        let first : 0 ≡ k = ap (value-of 0) e in
        rw (f, none) (ap (λ (n : ℕ). tested true n ys) first)
    go false f e = rw f (in-index (numeral r (x ∷ xs)) refl e)
      where
        in-index : (o : Option (ℕ × List ℕ)) → numeral r (x ∷ xs) ≡ o → before_underscore (plus_one o) ≡ Some (k, []) → before_underscore (plus_one (numeral r (x ∷ (xs ++ ys)))) ≡ Some (k, ys)
        in-index None g h = absurd cc
        in-index (Some (n, rest)) g h = after-number r x xs ys rest g h
