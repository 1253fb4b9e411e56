use Rattle.std.proofs.Common.{arith}
use Rattle.itanium_reader.proofs.reader.Reader.end_lambda.Goals as goal

pub returns-clause-last : goal.returns-clause-last
returns-clause-last c = grind arith

-- What follows only saves time: the check proves these goals without it, clause by clause.
pub returns-in_default : goal.returns-in_default
returns-in_default c = grind arith
