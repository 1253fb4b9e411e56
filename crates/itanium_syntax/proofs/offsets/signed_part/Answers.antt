use Rattle.std.proofs.Common.{arith}
use Rattle.std.proofs.lemmas.Grind.{common_steps}
use Rattle.itanium_syntax.proofs.offsets.signed_part.Goals as goal

pub returns-in_err-magnitude-clause-value : goal.returns-in_err-magnitude-clause-value
returns-in_err-magnitude-clause-value c = grind (arith, common_steps)

pub returns-in-95-clause-value : goal.returns-in-95-clause-value
returns-in-95-clause-value c = grind (arith, common_steps)

pub returns-in_default-2-clause-value : goal.returns-in_default-2-clause-value
returns-in_default-2-clause-value c = grind (arith, common_steps)
