use Rattle.std.proofs.Common.{arith}
use Rattle.std.proofs.lemmas.Grind.{common_steps, elements}
use Rattle.itanium_syntax.proofs.names.name_quals.Goals as goal

pub returns-in-72 : goal.returns-in-72
returns-in-72 c = grind (arith, elements)

pub returns-in-114 : goal.returns-in-114
returns-in-114 c = grind (arith, common_steps)
