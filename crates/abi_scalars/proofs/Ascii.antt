-- Bytes that are ASCII, place by place.
use Rattle.std.proofs.Common.{ℕ, ◌≡◌, ◌-◌, ◌%◌, ◌^◌, ◌<◌, ◌≤◌, List, length, get_or, map, inl, inr, arith, ap, ◌∙◌, false, ltb, cond, w8}
use lib.ListN.{replicate}
use lib.Lanes.{zip2, mask_l, top}
use mir.Val.{bits, hbits}
use Rattle.std.proofs.lemmas.Simd.{tops_compared, zip2_splat_left, mask_l-mod}
use Rattle.std.proofs.lemmas.Bool.{cases_lt, ltb-false}
use Rattle.std.proofs.lemmas.List.{get_or_past, length-map}
use Rattle.std.proofs.lemmas.Str.{IsUtf8-from_ascii}
use Rattle.std.specs.Str.{IsUtf8}
use Rattle.abi_scalars.specs.Ascii.{AreAscii}

-- which lanes are greater than the last one
pub mask_of : (n : ℕ) (lanes : List ℕ) → length lanes ≡ n → n ≤ 64
    → mask_l (map (top (hbits w8)) (zip2 (λ a b. cond (ltb a b) (2 ^ bits w8 - 1) 0) (replicate n 127) lanes)) % 2 ^ 64 ≡ mask_l (map (λ byte. ltb 127 byte) lanes)
mask_of n lanes long few =
    ap (λ ms. mask_l ms % 2 ^ 64) (tops_compared w8 ltb (replicate n 127) lanes ∙ zip2_splat_left ltb 127 n lanes long)
    ∙ mask_l-mod (map (λ byte. ltb 127 byte) lanes) 64 (omega (arith, few, long, length-map lanes (λ byte. ltb 127 byte)))

-- none is greater than the last one
pub low_from : (bytes : List ℕ) (from to : ℕ) → ((i : ℕ) → from ≤ i → i < to → ltb 127 (get_or bytes i 0) ≡ false) → AreAscii bytes from to
low_from bytes from to each i above below = omega (arith, ltb-false 127 (get_or bytes i 0) (each i above below))

-- they are UTF-8
pub ascii_utf8 : (bytes : List ℕ) → AreAscii bytes 0 (length bytes) → IsUtf8 bytes
ascii_utf8 bytes all = IsUtf8-from_ascii bytes (λ i. elim (cases_lt i (length bytes)) [
  | inl one ↦ all i (omega arith) one
  | inr two ↦ omega (arith, get_or_past bytes i 0 two)
])
