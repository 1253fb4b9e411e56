use Rattle.std.proofs.Common.{arith}
use Rattle.std.proofs.lemmas.Grind.{common_steps}
use Rattle.itanium_reader.proofs.reader.Reader.read_vendor_type.Goals as goal

pub returns-clause-bounds : goal.returns-clause-bounds
returns-clause-bounds c = grind (arith, common_steps)

pub returns-clause-saved : goal.returns-clause-saved
returns-clause-saved c = grind (arith, common_steps)

-- What follows only saves time: the check proves these goals without it, clause by clause.
pub returns-in-Err : goal.returns-in-Err
returns-in-Err c = grind arith

pub returns-in-ArgsAttached : goal.returns-in-ArgsAttached
returns-in-ArgsAttached c = grind arith
