use Rattle.itanium_reader.proofs.Rules.{parameters}
use Rattle.std.proofs.Common.{arith}
use Rattle.itanium_reader.proofs.reader.Reader.read_template_param.Goals as goal

pub returns-then-context-clause-reads : goal.returns-then-context-clause-reads
returns-then-context-clause-reads c = grind (arith, parameters)

pub returns-clause-reads : goal.returns-clause-reads
returns-clause-reads c = grind (arith, parameters)

pub returns-in_default-arg-clause-reads : goal.returns-in_default-arg-clause-reads
returns-in_default-arg-clause-reads c = grind (arith, parameters)
