use Rattle.std.proofs.Common.{arith}
use Rattle.itanium_reader.proofs.reader.Reader.read_operator_name.Goals as goal

-- What follows only saves time: the check proves these goals without it, clause by clause.
pub returns-in_default : goal.returns-in_default
returns-in_default c = grind arith

pub returns : goal.returns
returns c = grind arith
