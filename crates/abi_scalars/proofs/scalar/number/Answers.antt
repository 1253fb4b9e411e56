use Rattle.abi_scalars.specs.Scalars.{number}
use Rattle.std.proofs.Common.{arith}
use Rattle.std.proofs.lemmas.Grind.{common_steps}
use Rattle.abi_scalars.proofs.scalar.number.Goals as goal

pub returns-in_err-value-clause-value : goal.returns-in_err-value-clause-value
unfolding number
returns-in_err-value-clause-value c = grind (arith, common_steps)

pub returns-clause-value : goal.returns-clause-value
unfolding number
returns-clause-value c = grind (arith, common_steps)
