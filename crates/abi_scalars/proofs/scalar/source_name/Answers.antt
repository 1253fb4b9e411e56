use Rattle.abi_scalars.proofs.Digits.{dropped}
use Rattle.abi_scalars.specs.Scalars.{source_name}
use Rattle.std.proofs.Common.{arith}
use Rattle.abi_scalars.proofs.scalar.source_name.Goals as goal

pub returns-then-len-eq0-clause-value : goal.returns-then-len-eq0-clause-value
unfolding source_name
returns-then-len-eq0-clause-value c = grind (arith, dropped)

pub returns-clause-value : goal.returns-clause-value
unfolding source_name
returns-clause-value c = grind (arith, dropped)
