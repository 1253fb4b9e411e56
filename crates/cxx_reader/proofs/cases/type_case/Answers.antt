use Rattle.std.proofs.Common.{rules}
use Rattle.cxx_reader.proofs.cases.type_case.Goals as goal

pub returns-else-is_some : goal.returns-else-is_some
returns-else-is_some c = search rules
