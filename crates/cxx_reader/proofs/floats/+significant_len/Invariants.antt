use Rattle.std.proofs.Common.{length}
use Rattle.cxx_reader.proofs.floats.+significant_len.Given as goal

abbrev pub decreases-significant_len : goal.decreases-significant_len
decreases-significant_len l = length l.digits.now
