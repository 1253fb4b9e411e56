use Rattle.std.proofs.Common.{◌≡◌, ◌+◌, drop}
use Rattle.itanium_syntax.specs.Expressions as spec
use Rattle.itanium_syntax.proofs.expressions.value_len.Given as goal

abbrev pub invariant-loop-place : goal.invariant-loop-place
invariant-loop-place l = spec.value_len l.bytes ≡ l.place + spec.value_len (drop l.place l.bytes)
