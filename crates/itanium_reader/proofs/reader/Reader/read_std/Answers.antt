use Rattle.std.proofs.Common.{arith}
use Rattle.itanium_reader.proofs.reader.Reader.read_std.Goals as goal

-- What follows only saves time: the check proves these goals without it, clause by clause.
pub returns-in-Err : goal.returns-in-Err
returns-in-Err c = grind arith

pub returns : goal.returns
returns c = grind arith
