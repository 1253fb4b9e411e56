use Rattle.std.proofs.Common.{arith}
use Rattle.itanium_reader.proofs.reader.Reader.read_ctor_dtor.Goals as goal

pub returns-clause-last : goal.returns-clause-last
returns-clause-last c = grind arith
