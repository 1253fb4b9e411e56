-- The numbers of entities that have no name, counted from 1. They may have any length.
use Rattle.std.specs.Prelude.{ℕ, ◌+◌, ◌==◌, nat_lt, List, [], ◌∷◌, codes, Bool, true, false, drop, if◌then◌else◌}
use Rattle.abi_scalars.specs.Bytes.{letter}
use Rattle.abi_scalars.specs.Texts.{sign_len}

-- digits of a number that is one more, and whether one is carried to the digits in front of them
pub record More : Type 0 where
  pub carries : Bool
  pub digits : List ℕ

-- a digit in front of such digits
abbrev pub more_behind : ℕ → More → More
more_behind d more =
    if more.carries then (if nat_lt d (letter "9")
    then record { carries = false; digits = (d + 1) ∷ more.digits }
    else record { carries = true; digits = letter "0" ∷ more.digits })
    else record { carries = false; digits = d ∷ more.digits }

unfoldable pub more_of : List ℕ → More
more_of [] = record { carries = true; digits = [] }
more_of (d ∷ ds) = more_behind d (more_of ds)

-- the digits of a number, as those of one that is one more. There are as many of them
abbrev pub one_more : List ℕ → List ℕ
one_more digits = (more_of digits).digits

-- without the zeros in front
unfoldable pub without_zeros : List ℕ → List ℕ
without_zeros [] = []
without_zeros (d ∷ ds) = if d == letter "0" then without_zeros ds else d ∷ ds

-- digits of the number of an entity, behind zeros: no digits stand for the first one, 0 for the second, and so on
unfoldable pub ordinal_digits : List ℕ → List ℕ
ordinal_digits [] = one_more (codes "0")
ordinal_digits (d ∷ ds) = one_more (one_more (letter "0" ∷ d ∷ ds))

abbrev pub ordinal_of : List ℕ → List ℕ
ordinal_of digits = without_zeros (ordinal_digits digits)

-- the same of a number, whose sign counts nothing
abbrev pub ordinal : List ℕ → List ℕ
ordinal number = ordinal_of (drop (sign_len number) number)
