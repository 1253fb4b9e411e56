use Rattle.std.proofs.Common.{length}
use Rattle.cxx_reader.proofs.floats.+are_hex.Given as goal

abbrev pub decreases-are_hex : goal.decreases-are_hex
decreases-are_hex l = length l.digits.now
