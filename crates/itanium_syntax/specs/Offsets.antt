-- Call offsets of thunks, and the offset of a construction vtable (Itanium C++ ABI 5.1.4).
use Rattle.std.specs.Prelude.{ℕ, List, Bool, not, ◌&&◌, ◌==◌, drop, codes, if◌then◌else◌, Option, None, option_and_then, option_map}
use Rattle.abi_scalars.specs.declared.numerals.Radix.TheVariants.{Decimal}
use Rattle.itanium_syntax.specs.declared.offsets.Signed.{Signed}
use Rattle.itanium_syntax.specs.declared.offsets.CallOffset.{CallOffset}
use Rattle.itanium_syntax.specs.declared.offsets.CallOffset.TheVariants.{Plain, Virtual}
use Rattle.itanium_syntax.specs.declared.offsets.ThunkOffsets.{ThunkOffsets}
use Rattle.itanium_syntax.specs.declared.offsets.ThunkOffsets.TheVariants.{Single, Covariant}
use Rattle.abi_scalars.specs.Bytes.{begins}
use Rattle.abi_scalars.specs.Scalars.{numeral, before_underscore}

-- a number with a minus or without one: zero is never negative
abbrev pub with_sign : Bool → ℕ → Signed
with_sign minus n = record { negative = minus && not (n == 0); magnitude = n }

-- [n] <number>, where n is a minus: the signed number, and the bytes after it
abbrev pub signed_number : List ℕ → Option (Signed × List ℕ)
signed_number bytes =
    let minus = begins (codes "n") bytes in
    option_map (λ n. (with_sign minus n.0, n.1)) (numeral Decimal (if minus then drop 1 bytes else bytes))

-- [n] <number> _, the same
abbrev pub signed_part : List ℕ → Option (Signed × List ℕ)
signed_part bytes = before_underscore (signed_number bytes)

-- <number> _ <number> _ after its v. `.0` is what was read, `.1` the bytes after it
abbrev pub virtual_offset : List ℕ → Option (CallOffset × List ℕ)
virtual_offset bytes =
    option_and_then (λ a. option_map (λ b. (Virtual a.0 b.0, b.1)) (signed_part a.1)) (signed_part bytes)

-- <call-offset> ::= h <number> _ | v <number> _ <number> _
abbrev pub call_offset : List ℕ → Option (CallOffset × List ℕ)
call_offset bytes =
    if begins (codes "h") bytes then option_map (λ a. (Plain a.0, a.1)) (signed_part (drop 1 bytes)) else
    if begins (codes "v") bytes then virtual_offset (drop 1 bytes) else None

-- the two offsets after `c`
abbrev pub covariant_offsets : List ℕ → Option (ThunkOffsets × List ℕ)
covariant_offsets bytes =
    option_and_then (λ a. option_map (λ b. (Covariant a.0 b.0, b.1)) (call_offset a.1)) (call_offset bytes)

-- the offsets of a thunk after its T: one, or c and two
unfoldable pub thunk_offsets : List ℕ → Option (ThunkOffsets × List ℕ)
thunk_offsets bytes =
    if begins (codes "c") bytes then covariant_offsets (drop 1 bytes)
    else option_map (λ a. (Single a.0, a.1)) (call_offset bytes)

-- <offset number> _ of a construction vtable: what is after it; the number isn't printed
unfoldable pub past_base_offset : List ℕ → Option (List ℕ)
past_base_offset bytes = option_map (λ n. n.1) (signed_part bytes)
