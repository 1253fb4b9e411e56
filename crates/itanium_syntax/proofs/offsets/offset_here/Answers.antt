use Rattle.std.proofs.Common.{arith}
use Rattle.std.proofs.lemmas.Grind.{common_steps}
use Rattle.itanium_syntax.proofs.offsets.offset_here.Goals as goal

pub returns-in_err-number-in-104-clause-value : goal.returns-in_err-number-in-104-clause-value
returns-in_err-number-in-104-clause-value c = grind (arith, common_steps)

pub returns-in_err-first-in-118-clause-value : goal.returns-in_err-first-in-118-clause-value
returns-in_err-first-in-118-clause-value c = grind (arith, common_steps)

pub returns-in_err-second-in-118-clause-value : goal.returns-in_err-second-in-118-clause-value
returns-in_err-second-in-118-clause-value c = grind (arith, common_steps)

pub returns-in_ok-number-in-104-clause-value : goal.returns-in_ok-number-in-104-clause-value
returns-in_ok-number-in-104-clause-value c = grind (arith, common_steps)

pub returns-in_ok-second-in-118-clause-value : goal.returns-in_ok-second-in-118-clause-value
returns-in_ok-second-in-118-clause-value c = grind (arith, common_steps)
