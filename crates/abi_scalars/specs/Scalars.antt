-- Numbers and source names: how many bytes stand in front, and what they say (Itanium C++ ABI 5.1.2).
use Rattle.std.specs.Prelude.{ℕ, ◌+◌, ◌-◌, ◌*◌, ◌^◌, ◌&&◌, nat_le, nat_lt, if◌then◌else◌, List, [], ◌∷◌, length, take, drop, Option, Some, None, option_and_then, codes}
use Rattle.abi_scalars.specs.Bytes.{letter, begins, is_between, is_digit}
use Rattle.abi_scalars.specs.declared.numerals.Radix.{Radix}
use Rattle.abi_scalars.specs.declared.numerals.Radix.TheVariants.{Decimal, Base36}

-- the base: how many values a digit has
abbrev pub base : Radix → ℕ
base Decimal = 10
base Base36 = 36

-- what a byte is worth as a digit: 0 to 9, and in base 36 also A to Z
abbrev pub digit_of : Radix → ℕ → Option ℕ
digit_of Decimal b = if is_digit b then Some (b - letter "0") else None
digit_of Base36 b =
    if is_digit b then Some (b - letter "0") else
    if is_between "A" "Z" b then Some (b - letter "A" + 10) else None

-- the first digit in front of those after it; none if the first byte is no digit
abbrev pub digit_then : Option ℕ → List ℕ → List ℕ
digit_then None ds = []
digit_then (Some d) ds = d ∷ ds

-- all digits that stand in front
unfoldable pub front_digits : Radix → List ℕ → List ℕ
front_digits r [] = []
front_digits r (b ∷ bytes) = digit_then (digit_of r b) (front_digits r bytes)

-- the number that digits write: each digit times the power of its place
unfoldable pub weighted : ℕ → List ℕ → ℕ
weighted n [] = 0
weighted n (d ∷ ds) = d * n ^ length ds + weighted n ds

-- one digit or more, as many as are next: the number that they write, which fits 64 bits, and the bytes after them
abbrev pub numeral : Radix → List ℕ → Option (ℕ × List ℕ)
numeral r bytes =
    let ds = front_digits r bytes in
    let n = weighted (base r) ds in
    if nat_lt 0 (length ds) && nat_lt n (2 ^ 64) then Some (n, drop (length ds) bytes) else None

-- <number>, without a sign
unfoldable pub number : List ℕ → Option (ℕ × List ℕ)
number bytes = numeral Decimal bytes

-- <source-name> ::= <positive length number> <identifier>: the identifier, and what follows
unfoldable pub source_name : List ℕ → Option (List ℕ × List ℕ)
source_name bytes = option_and_then (λ n.
    if nat_lt 0 n.0 && nat_le n.0 (length n.1) then Some (take n.0 n.1, drop n.0 n.1) else None) (number bytes)

-- an unnamed namespace has a text of its own
abbrev pub source_text : List ℕ → List ℕ
source_text name = if begins (codes "_GLOBAL__N") name then codes "(anonymous namespace)" else name

-- the number that was read, plus one, if that fits 64 bits
abbrev pub plus_one : Option (ℕ × List ℕ) → Option (ℕ × List ℕ)
plus_one None = None
plus_one (Some (n, rest)) = if nat_lt (n + 1) (2 ^ 64) then Some (n + 1, rest) else None

-- a value, and what follows it, where `_` stands between
abbrev pub before_underscore : {A : Type 0} → Option (A × List ℕ) → Option (A × List ℕ)
before_underscore None = None
before_underscore (Some (value, rest)) = if begins (codes "_") rest then Some (value, drop 1 rest) else None

-- [<numeral>] _: 0 without the numeral, and otherwise the numeral plus 1
unfoldable pub index_of : Radix → List ℕ → Option (ℕ × List ℕ)
index_of r bytes =
    if begins (codes "_") bytes then Some (0, drop 1 bytes) else before_underscore (plus_one (numeral r bytes))
