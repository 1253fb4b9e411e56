-- Digits, numbers and identifiers as they are written, each with the bytes after it (Itanium C++ ABI 5.1.2).
use Rattle.std.specs.Prelude.{ℕ, ◌+◌, ◌||◌, nat_le, nat_lt, Bool, if◌then◌else◌, List, [], length, take, drop, Option, Some, None, codes}
use Rattle.abi_scalars.specs.declared.numerals.Radix.{Radix}
use Rattle.abi_scalars.specs.declared.numerals.Radix.TheVariants.{Decimal}
use Rattle.abi_scalars.specs.Bytes.{begins, begins_between, begins_digit}
use Rattle.abi_scalars.specs.Scalars.{front_digits, source_name}

-- the first n bytes, and those after them
abbrev pub parted : ℕ → List ℕ → List ℕ × List ℕ
parted n bytes = (take n bytes, drop n bytes)

-- the same, if there are as many
abbrev pub front : ℕ → List ℕ → Option (List ℕ × List ℕ)
front n bytes = if nat_le n (length bytes) then Some (parted n bytes) else None

-- all digits of this base that are next, which may be none: <digits>, and in base 36 those of a <seq-id>
unfoldable pub digits : Radix → List ℕ → List ℕ × List ℕ
digits r bytes = parted (length (front_digits r bytes)) bytes

-- how many bytes the minus takes, an n, where it stands in front
abbrev pub sign_len : List ℕ → ℕ
sign_len bytes = if begins (codes "n") bytes then 1 else 0

-- <number> ::= [n] <digit>+, with its n
unfoldable pub number_text : List ℕ → Option (List ℕ × List ℕ)
number_text bytes =
    let count = length (front_digits Decimal (drop (sign_len bytes) bytes)) in
    if nat_lt 0 count then Some (parted (sign_len bytes + count) bytes) else None

-- [<number>]: a number, or no byte at all. An n that no digit follows isn't read
unfoldable pub optional_number_text : List ℕ → Option (List ℕ × List ℕ)
optional_number_text bytes =
    if begins (codes "n") bytes || begins_digit bytes then number_text bytes else Some ([], bytes)

-- an <identifier> is next, with its length in front
abbrev pub begins_source : List ℕ → Bool
begins_source bytes = begins_between "1" "9" bytes

-- <identifier>, with a length in front that doesn't begin with 0: the identifier, and what follows
unfoldable pub identifier : List ℕ → Option (List ℕ × List ℕ)
identifier bytes = if begins_source bytes then source_name bytes else None
