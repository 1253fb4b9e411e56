use Rattle.std.proofs.Common.{arith}
use Rattle.std.proofs.lemmas.Grind.{common_steps}
use Rattle.itanium_reader.proofs.reader.Reader.end_temporary.Goals as goal

pub returns-clause-reads : goal.returns-clause-reads
returns-clause-reads c = grind (arith, common_steps)

pub returns-clause-run : goal.returns-clause-run
returns-clause-run c = grind (arith, common_steps)

pub close-requires-clause-innermost : goal.close-requires-clause-innermost
close-requires-clause-innermost c = grind arith

-- What follows only saves time: the check proves these goals without it, clause by clause.
pub returns-in_default : goal.returns-in_default
returns-in_default c = grind arith

pub append_number-requires : goal.append_number-requires
append_number-requires c = grind arith

pub join-requires : goal.join-requires
join-requires c = grind arith
