use Rattle.demangle_edit.proofs.Declarators.{declarators}
use Rattle.demangle_text.proofs.Laws.{laws}
use Rattle.std.proofs.Common.{arith}
use Rattle.demangle_edit.proofs.types.wrap_pointer.Goals as goal

pub returns-in-None-clause-cut_main : goal.returns-in-None-clause-cut_main
returns-in-None-clause-cut_main c = grind (arith, declarators, laws)

pub returns-in-None-clause-cut_stands : goal.returns-in-None-clause-cut_stands
returns-in-None-clause-cut_stands c = grind (arith, declarators, laws)

-- What follows only saves time: the check proves these goals without it, clause by clause.
pub returns-in-Err : goal.returns-in-Err
returns-in-Err c = grind arith

pub returns-in-Err-collapse_ref : goal.returns-in-Err-collapse_ref
returns-in-Err-collapse_ref c = grind arith

pub returns-in-Star : goal.returns-in-Star
returns-in-Star c = grind arith

pub returns-in-Some : goal.returns-in-Some
returns-in-Some c = grind arith

pub returns-in-Some-2 : goal.returns-in-Some-2
returns-in-Some-2 c = grind arith

pub returns-in-None-2 : goal.returns-in-None-2
returns-in-None-2 c = grind arith
