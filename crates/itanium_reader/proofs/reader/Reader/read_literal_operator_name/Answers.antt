use Rattle.std.proofs.Common.{arith}
use Rattle.std.proofs.lemmas.Grind.{common_steps}
use Rattle.itanium_reader.proofs.reader.Reader.read_literal_operator_name.Goals as goal

pub returns-clause-reads : goal.returns-clause-reads
returns-clause-reads c = grind (arith, common_steps)

pub returns-clause-last : goal.returns-clause-last
returns-clause-last c = grind arith
