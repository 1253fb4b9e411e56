-- The value of a literal, where its bytes up to the first E are text or aren't.
use Rattle.std.proofs.Common.{◌≡◌, ◌<◌, ℕ, ◌+◌, ◌-◌, List, length, take, drop, if◌then◌else◌, refl, true, false, ◌∙◌, sym, ap, Option, Some, None, arith, nat_lt, Bool, ◌&&◌}
use Rattle.std.specs.Str.{IsUtf8, is_utf8}
use Rattle.std.proofs.lemmas.Str.{IsUtf8-from_is_utf8, is_utf8-from_IsUtf8}
use Rattle.std.proofs.lemmas.List.{length-drop, take_all}
use Rattle.std.proofs.lemmas.Grind.{common_steps}
use Rattle.itanium_syntax.specs.Expressions.{value_len, literal_value}

pub value_read : (bytes : List ℕ) (n : ℕ) {value rest : List ℕ} → n ≡ value_len bytes → n < length bytes
    → IsUtf8 value → value ≡ take n bytes → rest ≡ take (length bytes - (n + 1)) (drop (n + 1) bytes)
    → Some (value, rest) ≡ literal_value bytes
unfolding literal_value
value_read bytes n {value} {rest} len within utf8 value_is rest_is =
    let good : is_utf8 (take (value_len bytes) bytes) ≡ true = ap is_utf8 (ap (λ k. take k bytes) (sym len) ∙ sym value_is) ∙ is_utf8-from_IsUtf8 value utf8 in
    let less : value_len bytes < length bytes = omega (arith, len) in
    let test : nat_lt (value_len bytes) (length bytes) ≡ true = grind (arith, common_steps) in
    let all : rest ≡ drop (n + 1) bytes = rest_is ∙ take_all (length bytes - (n + 1)) (drop (n + 1) bytes) (omega (arith, length-drop (n + 1) bytes)) in
    rw (value_is, all, len, test, good) refl

not_true : (b : Bool) → (b ≡ true → ⊥) → b ≡ false
not_true true bad = absurd (bad refl)
not_true false bad = refl

pub value_not_text : (bytes : List ℕ) (n : ℕ) → n ≡ value_len bytes → ¬ (IsUtf8 (take n bytes)) → None ≡ literal_value bytes
unfolding literal_value
value_not_text bytes n len bad =
    let same = ap is_utf8 (ap (λ k. take k bytes) (sym len)) in
    let not_text : is_utf8 (take (value_len bytes) bytes) ≡ false = same ∙ not_true (is_utf8 (take n bytes)) (λ yes. bad (IsUtf8-from_is_utf8 (take n bytes) yes)) in
    go (nat_lt (value_len bytes) (length bytes)) (is_utf8 (take (value_len bytes) bytes)) not_text
  where
    go : (a b : Bool) → b ≡ false → ◌≡◌ {A = Option (List ℕ × List ℕ)} None (if a && b then Some (take (value_len bytes) bytes, drop (value_len bytes + 1) bytes) else None)
    go true b false_is = rw false_is refl
    go false b false_is = refl
