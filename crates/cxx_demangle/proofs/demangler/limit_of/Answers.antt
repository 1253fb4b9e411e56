use Rattle.std.proofs.Common.{rules}
use Rattle.cxx_demangle.proofs.demangler.limit_of.Goals as goal

pub returns-in-None : goal.returns-in-None
returns-in-None c = search rules

pub returns-in-Some : goal.returns-in-Some
returns-in-Some c = search rules
