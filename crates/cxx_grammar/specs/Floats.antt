-- The text of a literal of a floating type: C's hexadecimal notation of the number whose bits are given
-- (Itanium C++ ABI 5.1.6.1). The bits are written as digits of base 16, the sign first.
use Rattle.std.specs.Prelude.{ℕ, zero, suc, ◌+◌, ◌-◌, ◌*◌, ◌/◌, ◌%◌, nat_eq, nat_le, ◌&&◌, ◌||◌, ◌==◌, Bool, true, not, if◌then◌else◌, List, [], ◌∷◌, ◌++◌, codes, decimal, take}
use Rattle.abi_scalars.specs.Bytes.{letter, is_digit, is_between}
use Rattle.cxx_grammar.specs.declared.cases.FloatFormat.{FloatFormat}
use Rattle.cxx_grammar.specs.declared.cases.FloatFormat.TheVariants as float

-- how many digits a literal has
abbrev pub float_len : FloatFormat → ℕ
float_len float.Single = 8
float_len float.Double = 16
float_len float.Extended = 20

-- Digits.

-- 0 to 9 and a to f
abbrev pub is_hex : ℕ → Bool
is_hex b = is_digit b || is_between "a" "f" b

unfoldable pub are_hex : List ℕ → Bool
are_hex [] = true
are_hex (b ∷ digits) = is_hex b && are_hex digits

abbrev pub hex_value : ℕ → ℕ
hex_value b = if nat_le b (letter "9") then b - letter "0" else b - letter "a" + 10

-- the number that three digits write
unfoldable pub hex_three : ℕ → ℕ → ℕ → ℕ
hex_three a b c = 256 * hex_value a + 16 * hex_value b + hex_value c

abbrev pub hex_digit : ℕ → ℕ
hex_digit n = if nat_le n 9 then letter "0" + n else letter "a" + (n - 10)

-- the six digits of a number
abbrev pub six_digits : ℕ → List ℕ
six_digits n =
    hex_digit (n / 1048576 % 16) ∷ hex_digit (n / 65536 % 16) ∷ hex_digit (n / 4096 % 16) ∷
    hex_digit (n / 256 % 16) ∷ hex_digit (n / 16 % 16) ∷ hex_digit (n % 16) ∷ []

-- how many digits there are without the zeros at the end
unfoldable pub significant_len : List ℕ → ℕ
significant_len [] = 0
significant_len (d ∷ digits) =
    if nat_eq (significant_len digits) 0 && (d == letter "0") then 0 else significant_len digits + 1

abbrev pub are_zeros : List ℕ → Bool
are_zeros digits = nat_eq (significant_len digits) 0

-- Numbers.

-- a point and the digits behind it, without the zeros at the end
abbrev pub fraction_text : List ℕ → List ℕ
fraction_text digits = if are_zeros digits then [] else codes "." ++ take (significant_len digits) digits

-- p, and an exponent from which its bias is taken
abbrev pub exponent_text : ℕ → ℕ → List ℕ
exponent_text e bias =
    if nat_le bias e then codes "p+" ++ decimal (e - bias) else codes "p-" ++ decimal (bias - e)

-- a digit, those behind the point, and the exponent
abbrev pub number_text : ℕ → List ℕ → ℕ → ℕ → List ℕ
number_text lead fraction e bias = codes "0x" ++ lead ∷ (fraction_text fraction ++ exponent_text e bias)

-- what has the greatest exponent
abbrev pub special_text : Bool → List ℕ
special_text is_infinite = if is_infinite then codes "inf" else codes "nan"

abbrev pub signed : Bool → List ℕ → List ℕ
signed is_negative text = if is_negative then codes "-" ++ text else text

-- A double: a bit for the sign, 11 bits for the exponent, and 13 digits behind the point.

abbrev pub double_size : ℕ → List ℕ → List ℕ
double_size e fraction =
    if nat_eq e 2047 then special_text (are_zeros fraction) else
    if not (nat_eq e 0) then number_text (letter "1") fraction e 1023 else
    if are_zeros fraction then codes "0x0p+0" else number_text (letter "0") fraction 1 1023

abbrev pub double_text : List ℕ → List ℕ
double_text (a ∷ b ∷ c ∷ fraction) =
    signed (nat_le 2048 (hex_three a b c)) (double_size (hex_three a b c % 2048) fraction)
double_text other = []

-- An extended number: a bit for the sign, 15 bits for the exponent, a digit and 15 digits behind the point. The first
-- bit of the digit in front is 1 if the number is normal.

abbrev pub is_whole : ℕ → Bool
is_whole lead = (lead == letter "0") || (lead == letter "8")

abbrev pub extended_size : ℕ → ℕ → List ℕ → List ℕ
extended_size e lead fraction =
    if nat_eq e 32767 then special_text (is_whole lead && are_zeros fraction) else
    if not (nat_eq e 0) then number_text lead fraction e 16386 else
    if (lead == letter "0") && are_zeros fraction then codes "0x0p+0" else number_text lead fraction 1 16386

abbrev pub sixteen_bits : ℕ → ℕ → ℕ → ℕ → ℕ
sixteen_bits a b c d = 16 * hex_three a b c + hex_value d

abbrev pub extended_behind : ℕ → List ℕ → List ℕ
extended_behind e (lead ∷ fraction) = extended_size e lead fraction
extended_behind e [] = []

abbrev pub extended_text : List ℕ → List ℕ
extended_text (a ∷ b ∷ c ∷ d ∷ mantissa) =
    signed (nat_le 32768 (sixteen_bits a b c d)) (extended_behind (sixteen_bits a b c d % 32768) mantissa)
extended_text other = []

-- A single: a bit for the sign, 8 bits for the exponent, and 23 bits behind the point, which are six digits if a bit
-- stands behind them. It is printed as the double of the same value, which is normal unless it is 0.

-- a number without an exponent is doubled, at most so many times, until it has a bit in front of the point
unfoldable pub doubled_text : ℕ → ℕ → ℕ → List ℕ
doubled_text zero bias n = []
doubled_text (suc times) bias n =
    if nat_le 8388608 n then number_text (letter "1") (six_digits (2 * (n - 8388608))) 0 bias
    else doubled_text times (bias + 1) (2 * n)

unfoldable pub single_size : ℕ → ℕ → List ℕ
single_size e n =
    if nat_eq e 255 then special_text (nat_eq n 0) else
    if not (nat_eq e 0) then number_text (letter "1") (six_digits (2 * n)) e 127 else
    if nat_eq n 0 then codes "0x0p+0" else doubled_text 24 126 n

-- the bits of the last three digits
abbrev pub last_bits : List ℕ → ℕ
last_bits (f ∷ g ∷ h ∷ []) = hex_three f g h
last_bits other = 0

-- the bits behind the point: three, and those of five digits
unfoldable pub single_fraction : ℕ → List ℕ → ℕ
single_fraction front (d ∷ e ∷ last) =
    1048576 * front + 65536 * hex_value d + 4096 * hex_value e + last_bits last
single_fraction front other = 0

abbrev pub single_text : List ℕ → List ℕ
single_text (a ∷ b ∷ c ∷ last) =
    signed (nat_le 2048 (hex_three a b c))
    (single_size (hex_three a b c / 8 % 256) (single_fraction (hex_three a b c % 8) last))
single_text other = []

-- Literals.

-- the text in LLVM's style
unfoldable pub float_text : FloatFormat → List ℕ → List ℕ
float_text float.Single digits = single_text digits ++ codes "f"
float_text float.Double digits = double_text digits
float_text float.Extended digits = extended_text digits ++ codes "L"

abbrev pub float_type : FloatFormat → List ℕ
float_type float.Single = codes "(float)["
float_type float.Double = codes "(double)["
float_type float.Extended = codes "(long double)["

-- the same in GNU's: the digits as they are
unfoldable pub float_digits : FloatFormat → List ℕ → List ℕ
float_digits format digits = float_type format ++ (digits ++ codes "]")
