use Rattle.std.proofs.Common.{arith}
use Rattle.itanium_reader.proofs.Rules.{substitutions}
use Rattle.itanium_reader.proofs.reader.Reader.read_substitution.Goals as goal

pub returns-in_default-clause-reads : goal.returns-in_default-clause-reads
returns-in_default-clause-reads c = grind (arith, substitutions)

pub returns-in_default-saved-clause-reads : goal.returns-in_default-saved-clause-reads
returns-in_default-saved-clause-reads c = grind (arith, substitutions)

pub returns-in-Ok-clause-reads : goal.returns-in-Ok-clause-reads
returns-in-Ok-clause-reads c = grind (arith, substitutions)

pub returns-in-Some-saved-clause-reads : goal.returns-in-Some-saved-clause-reads
returns-in-Some-saved-clause-reads c = grind (arith, substitutions)
