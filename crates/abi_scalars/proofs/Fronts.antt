-- Fronts of the bytes: what each reader takes.
use Rattle.std.proofs.Common.{◌≡◌, ◌<◌, ◌≤◌, ℕ, suc, ◌+◌, ◌^◌, Bool, true, false, List, [], ◌∷◌, length, drop, refl}
use Rattle.std.proofs.Common.{sym, ap, ◌∙◌, arith, Option, Some, None, length-drop, if◌then◌else◌, nat_lt, nat_le, ◌&&◌}
use Rattle.std.proofs.Common.{codes, inl, inr, ◌-◌}
use Rattle.std.proofs.Math.ListN.{drop_of_length-le}
use Rattle.std.proofs.lemmas.Bool.{cases_lt}
use Rattle.std.specs.Prelude.{◌||◌}
use Rattle.std.proofs.lemmas.List.{drop-drop}
use Rattle.std.proofs.lemmas.Grind.{common_steps}
use Rattle.std.proofs.lemmas.Option.{cond_some, option_and_then_some, some_pair_parts}
use Rattle.abi_scalars.specs.declared.numerals.Radix.{Radix}
use Rattle.abi_scalars.specs.declared.numerals.Radix.TheVariants.{Decimal}
use Rattle.abi_scalars.specs.Bytes.{begins, begins_digit, past_letter}
use Rattle.abi_scalars.specs.Scalars.{front_digits, digit_then, digit_of, weighted, base, numeral, number}
use Rattle.abi_scalars.specs.Scalars.{source_name, plus_one, before_underscore, index_of}
use Rattle.abi_scalars.specs.Indices.{level_of}
use Rattle.abi_scalars.specs.Texts.{digits, sign_len, number_text, optional_number_text, begins_source, identifier}

-- the rest lies after a front of the bytes
pub record IsAfter (rest bytes : List ℕ) : Type 0 where
  pub count : ℕ
  pub is : rest ≡ drop count bytes

-- the rest lies after a front of one byte at least
pub record Takes (rest bytes : List ℕ) : Type 0 where
  pub after : IsAfter rest bytes
  pub shorter : length rest < length bytes

pub after_none : (bytes : List ℕ) → IsAfter bytes bytes
after_none bytes = record { count = 0; is = refl }

pub after_drop : (n : ℕ) (bytes : List ℕ) → IsAfter (drop n bytes) bytes
after_drop n bytes = record { count = n; is = refl }

pub after_then : {rest mid bytes : List ℕ} → IsAfter mid bytes → IsAfter rest mid → IsAfter rest bytes
after_then {rest} {mid} {bytes} a b = record { count = a.count + b.count; is = b.is ∙ ap (drop b.count) a.is ∙ drop-drop b.count a.count bytes }

pub after-le : {rest bytes : List ℕ} → IsAfter rest bytes → length rest ≤ length bytes
after-le {rest} {bytes} a = omega (arith, ap length a.is, length-drop a.count bytes)

-- the front is as long as what is missing
pub end_of : {rest bytes : List ℕ} → IsAfter rest bytes → rest ≡ drop (length bytes - length rest) bytes
end_of {rest} {bytes} a = a.is ∙ elim (cases_lt a.count (length bytes)) [
  | inl within ↦ ap (λ n. drop n bytes) (omega (arith, within, ap length a.is, length-drop a.count bytes))
  | inr past ↦ drop_of_length-le bytes past ∙ sym (drop_of_length-le bytes (omega (arith, past, ap length a.is, length-drop a.count bytes)))
]

-- a front, and what may be left out after it
pub takes_then : {rest mid bytes : List ℕ} → Takes mid bytes → IsAfter rest mid → Takes rest bytes
takes_then a b = record { after = after_then a.after b; shorter = omega (arith, a.shorter, after-le b) }

-- what may be left out, and a front after it
pub after_takes : {rest mid bytes : List ℕ} → IsAfter mid bytes → Takes rest mid → Takes rest bytes
after_takes a b = record { after = after_then a b.after; shorter = omega (arith, b.shorter, after-le a) }

pub takes_takes : {rest mid bytes : List ℕ} → Takes mid bytes → Takes rest mid → Takes rest bytes
takes_takes a b = takes_then a b.after

pub takes_drop : (n : ℕ) (bytes : List ℕ) → 0 < n → 0 < length bytes → Takes (drop n bytes) bytes
takes_drop n bytes some any = record { after = after_drop n bytes; shorter = omega (arith, length-drop n bytes) }

pub if_after : (t : Bool) (n : ℕ) (bytes : List ℕ) → IsAfter (if t then drop n bytes else bytes) bytes
if_after true n bytes = after_drop n bytes
if_after false n bytes = after_none bytes

pub letter_after : (letter : ℕ) (bytes : List ℕ) → IsAfter (past_letter letter bytes) bytes
letter_after letter bytes = if_after _ 1 bytes

digit_within : (o : Option ℕ) (ds bytes : List ℕ) → length ds ≤ length bytes → length (digit_then o ds) ≤ suc (length bytes)
digit_within None ds bytes h = omega arith
digit_within (Some d) ds bytes h = omega arith

digits_within : (r : Radix) (bytes : List ℕ) → length (front_digits r bytes) ≤ length bytes
unfolding front_digits
digits_within r [] = omega arith
digits_within r (b ∷ bytes) = digit_within (digit_of r b) (front_digits r bytes) bytes (digits_within r bytes)

pub numeral_takes : (r : Radix) (bytes : List ℕ) (found : ℕ × List ℕ) → numeral r bytes ≡ Some found → Takes found.1 bytes
numeral_takes r bytes found e =
    let ds = front_digits r bytes in
    let parts = cond_some (nat_lt 0 (length ds) && nat_lt (weighted (base r) ds) (2 ^ 64)) _ found e in
    let some : 0 < length ds = grind (arith, common_steps, parts.0) in
    let is : drop (length ds) bytes ≡ found.1 = ap (λ (f : ℕ × List ℕ). f.1) parts.1 in
    record {
      after = record { count = length ds; is = sym is };
      shorter = omega (arith, ap length is, length-drop (length ds) bytes, digits_within r bytes);
    }

pub number_takes : (bytes : List ℕ) (found : ℕ × List ℕ) → number bytes ≡ Some found → Takes found.1 bytes
unfolding number
number_takes bytes found e = numeral_takes Decimal bytes found e

pub source_takes : (bytes : List ℕ) (found : List ℕ × List ℕ) → source_name bytes ≡ Some found → Takes found.1 bytes
unfolding source_name
source_takes bytes found e = option_and_then_some _ (number bytes) found e (λ n read rest.
    let parts = cond_some (nat_lt 0 n.0 && nat_le n.0 (length n.1)) _ found rest in
    let is : drop n.0 n.1 ≡ found.1 = ap (λ (f : List ℕ × List ℕ). f.1) parts.1 in
    takes_then (number_takes bytes n read) (record { count = n.0; is = sym is }))

begins_some : (bytes : List ℕ) → begins (codes "_") bytes ≡ true → 0 < length bytes
begins_some [] e = cc
begins_some (b ∷ bytes) _ = omega arith

-- a value, and the `_` after it
pub ended_takes : {A : Type 0} (front : Option (A × List ℕ)) (bytes : List ℕ) (found : A × List ℕ)
    → ((value : A × List ℕ) → front ≡ Some value → Takes value.1 bytes) → before_underscore front ≡ Some found → Takes found.1 bytes
ended_takes None bytes found takes e = cc
ended_takes (Some value) bytes found takes e =
    let parts = cond_some (begins (codes "_") value.1) _ found e in
    let is : drop 1 value.1 ≡ found.1 = ap (λ f. f.1) parts.1 in
    rw (← is) (takes_takes (takes value refl) (takes_drop 1 value.1 (omega arith) (begins_some value.1 parts.0)))

-- the number after one that was read
pub following_takes : (front : Option (ℕ × List ℕ)) (bytes : List ℕ) (found : ℕ × List ℕ)
    → ((value : ℕ × List ℕ) → front ≡ Some value → Takes value.1 bytes) → plus_one front ≡ Some found → Takes found.1 bytes
following_takes None bytes found takes e = cc
following_takes (Some value) bytes found takes e =
    let parts = cond_some (nat_lt (value.0 + 1) (2 ^ 64)) _ found e in
    let is : value.1 ≡ found.1 = ap (λ f. f.1) parts.1 in
    rw (← is) (takes value refl)

-- `_`, or else a value and `_`
pub optional_takes : {A : Type 0} (none : A) (front : Option (A × List ℕ)) (bytes : List ℕ) (found : A × List ℕ)
    → ((value : A × List ℕ) → front ≡ Some value → Takes value.1 bytes)
    → (if begins (codes "_") bytes then Some (none, drop 1 bytes) else before_underscore front) ≡ Some found → Takes found.1 bytes
optional_takes none front bytes found takes e = go (begins (codes "_") bytes) refl e
  where
    go : (t : Bool) → begins (codes "_") bytes ≡ t → (if t then Some (none, drop 1 bytes) else before_underscore front) ≡ Some found → Takes found.1 bytes
    go true starts f =
        let is : drop 1 bytes ≡ found.1 = (some_pair_parts none found.0 (drop 1 bytes) found.1 f).1 in
        rw (← is) (takes_drop 1 bytes (omega arith) (begins_some bytes starts))
    go false starts f = ended_takes front bytes found takes f

pub index_takes : (r : Radix) (bytes : List ℕ) (found : ℕ × List ℕ) → index_of r bytes ≡ Some found → Takes found.1 bytes
unfolding index_of
index_takes r bytes found e =
    optional_takes 0 (plus_one (numeral r bytes)) bytes found (λ v. following_takes (numeral r bytes) bytes v (numeral_takes r bytes)) e

pub level_takes : (bytes : List ℕ) (found : ℕ × List ℕ) → level_of bytes ≡ Some found → Takes found.1 bytes
unfolding level_of
level_takes bytes found e =
    ended_takes (plus_one (numeral Decimal bytes)) bytes found (λ v. following_takes (numeral Decimal bytes) bytes v (numeral_takes Decimal bytes)) e

-- what is read as it is written
pub digits_after : (r : Radix) (bytes : List ℕ) → IsAfter (digits r bytes).1 bytes
unfolding digits
digits_after r bytes = after_drop (length (front_digits r bytes)) bytes

pub number_text_takes : (bytes : List ℕ) (found : List ℕ × List ℕ) → number_text bytes ≡ Some found → Takes found.1 bytes
unfolding number_text
number_text_takes bytes found e =
    let sign = sign_len bytes in
    let count = length (front_digits Decimal (drop sign bytes)) in
    let parts = cond_some (nat_lt 0 count) _ found e in
    let some : 0 < count = grind (arith, common_steps, parts.0) in
    let is : drop (sign + count) bytes ≡ found.1 = ap (λ (f : List ℕ × List ℕ). f.1) parts.1 in
    record {
      after = record { count = sign + count; is = sym is };
      shorter = omega (arith, some, ap length is, length-drop (sign + count) bytes, length-drop sign bytes, digits_within Decimal (drop sign bytes));
    }

pub optional_number_text_after : (bytes : List ℕ) (found : List ℕ × List ℕ) → optional_number_text bytes ≡ Some found → IsAfter found.1 bytes
unfolding optional_number_text
optional_number_text_after bytes found e = go (begins (codes "n") bytes || begins_digit bytes) e
  where
    go : (t : Bool) → (if t then number_text bytes else Some ([], bytes)) ≡ Some found → IsAfter found.1 bytes
    go true f = (number_text_takes bytes found f).after
    go false f = let is : bytes ≡ found.1 = (some_pair_parts [] found.0 bytes found.1 f).1 in rw (← is) (after_none bytes)

pub identifier_takes : (bytes : List ℕ) (found : List ℕ × List ℕ) → identifier bytes ≡ Some found → Takes found.1 bytes
unfolding identifier
identifier_takes bytes found e = go (begins_source bytes) e
  where
    go : (t : Bool) → (if t then source_name bytes else None) ≡ Some found → Takes found.1 bytes
    go true f = source_takes bytes found f
    go false f = cc
