use Rattle.abi_scalars.specs.Scalars.{front_digits}
use Rattle.std.proofs.Common.{arith}
use Rattle.std.proofs.lemmas.Grind.{common_steps}
use Rattle.abi_scalars.proofs.numerals.digits_len.Goals as goal

pub loop-place-preserved : goal.loop-place-preserved
unfolding front_digits
loop-place-preserved c = grind (arith, common_steps)
