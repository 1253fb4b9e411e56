use Rattle.abi_scalars.proofs.Digits.{NumberSoFar}
use Rattle.abi_scalars.proofs.numerals.digits_value.Given as goal

abbrev pub invariant-loop-byte : goal.invariant-loop-byte
invariant-loop-byte l = NumberSoFar l.radix l.bytes l.rest l.byte-index l.value
