-- Sequence ids, and the levels of template parameters. The grammar of names uses neither: it reads a sequence id with
-- the `_` after it (`index_of`).
use Rattle.std.specs.Prelude.{ℕ, List, Option}
use Rattle.abi_scalars.specs.declared.numerals.Radix.TheVariants.{Decimal, Base36}
use Rattle.abi_scalars.specs.Scalars.{numeral, plus_one, before_underscore}

-- <seq-id>: digits in base 36
unfoldable pub sequence_id : List ℕ → Option (ℕ × List ℕ)
sequence_id bytes = numeral Base36 bytes

-- <number> _ of a <template-param>, after its TL: the number plus 1, and the bytes after the `_`
unfoldable pub level_of : List ℕ → Option (ℕ × List ℕ)
level_of bytes = before_underscore (plus_one (numeral Decimal bytes))
