use Rattle.std.proofs.Common.{arith}
use Rattle.text_filter.proofs.tally.TallySource.take.Goals as goal

-- What follows only saves time: the check proves these goals without it, clause by clause.
pub returns-then-self-eq0 : goal.returns-then-self-eq0
returns-then-self-eq0 c = grind arith

pub returns-in-Ok : goal.returns-in-Ok
returns-in-Ok c = grind arith

pub returns-in-Err : goal.returns-in-Err
returns-in-Err c = grind arith
