use Rattle.std.proofs.Common.{length}
use Rattle.cxx_reader.proofs.floats.+push_doubled.Given as goal

abbrev pub decreases-push_doubled : goal.decreases-push_doubled
decreases-push_doubled l = l.times
