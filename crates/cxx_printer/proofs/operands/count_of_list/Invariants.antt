use Rattle.std.proofs.Common.{◌≡◌, ◌+◌, ◌*◌, ◌≤◌, drop}
use Rattle.cxx_tree.specs.Stored.{forest, trees_at}
use Rattle.cxx_printer.specs.Heads.{count_items}
use Rattle.cxx_printer.proofs.operands.count_of_list.Given as goal

abbrev pub invariant-loop-t : goal.invariant-loop-t
invariant-loop-t l = record {
  sum : l.sum + count_items (trees_at (forest l.arena) (drop l.t-index l.t-items))
      ≡ count_items (trees_at (forest l.arena) l.t-items);
  small : l.sum ≤ 4294967295 * l.t-index;
}
