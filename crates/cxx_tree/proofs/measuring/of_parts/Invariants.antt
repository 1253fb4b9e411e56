use Rattle.std.proofs.Common.{◌≤◌, length, drop}
use Rattle.cxx_tree.specs.Measure.{measure_parts}
use Rattle.cxx_tree.specs.Counts.{Row}
use Rattle.cxx_tree.specs.Stored.{forest, parts_of}
use Rattle.cxx_tree.proofs.measuring.of_parts.Given as goal

abbrev pub invariant-loop-k : goal.invariant-loop-k
invariant-loop-k l = record {
  row : Row l.sum (measure_parts l.reversed (parts_of l.arena.held (forest l.arena) (drop l.k l.list)));
  within : l.k ≤ length l.list;
}

abbrev pub decreases-loop-k : goal.decreases-loop-k
decreases-loop-k l = l.k
