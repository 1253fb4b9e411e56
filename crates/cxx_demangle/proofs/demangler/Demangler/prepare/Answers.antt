use Rattle.cxx_demangle.proofs.Whole.{one_reading}
use Rattle.cxx_demangle.proofs.demangler.Demangler.prepare.Goals as goal

pub returns-clause-one : goal.returns-clause-one
returns-clause-one c = one_reading c.args.symbol.now
