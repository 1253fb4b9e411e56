-- Numbers of names (Itanium C++ ABI 5.1.2): ordinals, and the dimension of an array.
use Rattle.std.specs.Prelude.{ℕ, if◌then◌else◌, List, drop, Option, Some, None, option_map, codes}
use Rattle.abi_scalars.specs.declared.numerals.Radix.TheVariants.{Decimal}
use Rattle.abi_scalars.specs.Bytes.{begins}
use Rattle.abi_scalars.specs.Scalars.{number, plus_one, before_underscore, index_of}

-- [<nonnegative number>] _ of an <unnamed-type-name>, a <closure-type-name> or a default argument: 1 without the
-- number, and otherwise the number plus 2
unfoldable pub ordinal : List ℕ → Option (ℕ × List ℕ)
ordinal bytes = plus_one (index_of Decimal bytes)

-- [<number>] _: the dimension of an array, which may be left out
unfoldable pub optional_number : List ℕ → Option (Option ℕ × List ℕ)
optional_number bytes =
    if begins (codes "_") bytes then Some (None, drop 1 bytes)
    else before_underscore (option_map (λ n. (Some n.0, n.1)) (number bytes))
