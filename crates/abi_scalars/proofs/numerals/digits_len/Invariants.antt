use Rattle.std.proofs.Common.{◌≡◌, ◌+◌, length, drop}
use Rattle.abi_scalars.specs.Scalars.{front_digits}
use Rattle.abi_scalars.proofs.numerals.digits_len.Given as goal

abbrev pub invariant-loop-place : goal.invariant-loop-place
invariant-loop-place l = length (front_digits l.radix l.bytes) ≡ l.place + length (front_digits l.radix (drop l.place l.bytes))
