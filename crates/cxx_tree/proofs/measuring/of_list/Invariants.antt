use Rattle.std.proofs.Common.{◌≤◌, length, drop}
use Rattle.cxx_tree.specs.Measure.{measure_each}
use Rattle.cxx_tree.specs.Counts.{Row}
use Rattle.cxx_tree.specs.Stored.{forest, trees_at}
use Rattle.cxx_tree.proofs.measuring.of_list.Given as goal

abbrev pub invariant-loop-k : goal.invariant-loop-k
invariant-loop-k l = record {
  row : Row l.sum (measure_each (trees_at (forest l.arena) (drop l.k l.items)));
  within : l.k ≤ length l.items;
}

abbrev pub decreases-loop-k : goal.decreases-loop-k
decreases-loop-k l = l.k
