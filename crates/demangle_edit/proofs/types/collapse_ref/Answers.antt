use Rattle.std.proofs.Common.{arith}
use Rattle.demangle_edit.proofs.types.collapse_ref.Goals as goal

-- What follows only saves time: the check proves these goals without it, clause by clause.
pub returns-then-is_some : goal.returns-then-is_some
returns-then-is_some c = grind arith

pub returns-then-rvalue : goal.returns-then-rvalue
returns-then-rvalue c = grind arith

pub returns-in-Err : goal.returns-in-Err
returns-in-Err c = grind arith

pub returns : goal.returns
returns c = grind arith
