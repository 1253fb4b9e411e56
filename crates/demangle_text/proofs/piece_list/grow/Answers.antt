use Rattle.std.proofs.Common.{arith}
use Rattle.std.proofs.lemmas.Grind.{common_steps}
use Rattle.demangle_text.proofs.piece_list.grow.Goals as goal

pub returns : goal.returns
returns c = grind (arith, common_steps)
