use Rattle.std.proofs.Common.{◌≡◌, ◌+◌, ◌*◌, ◌<◌, ◌≤◌, drop, Bool}
use Rattle.std.specs.List.{AllByRecursion}
use Rattle.cxx_tree.specs.Measure.{measure_each, measure_parts}
use Rattle.cxx_tree.specs.Stored.{forest, size, trees_at, parts_of, IsPartBelow}
use Rattle.cxx_tree.specs.Grows.{Grows}
use Rattle.cxx_tree.specs.Bind.{bind_each, bind_parts, binding_at}
use Rattle.cxx_tree.proofs.Replaced.{joined_trees, joined_parts}
use Rattle.cxx_tree.proofs.+binding.Given as goal

abbrev pub decreases-bind::bind : goal.decreases-bind::bind
decreases-bind::bind l = 16 * l.i + 8

abbrev pub decreases-children::bind_node : goal.decreases-children::bind_node
decreases-children::bind_node l = 16 * l.i + 7

abbrev pub decreases-children::bind_plain : goal.decreases-children::bind_plain
decreases-children::bind_plain l = 16 * l.i + 6

abbrev pub decreases-children::bind_declaration : goal.decreases-children::bind_declaration
decreases-children::bind_declaration l = 16 * l.i + 6

abbrev pub decreases-children::bind_function : goal.decreases-children::bind_function
decreases-children::bind_function l = 16 * l.i + 6

abbrev pub decreases-children::bind_encoding : goal.decreases-children::bind_encoding
decreases-children::bind_encoding l = 16 * l.i + 6

abbrev pub decreases-children::bind_four : goal.decreases-children::bind_four
decreases-children::bind_four l = 16 * l.i + 5

abbrev pub decreases-children::bind_three : goal.decreases-children::bind_three
decreases-children::bind_three l = 16 * l.i + 4

abbrev pub decreases-children::bind_with_list : goal.decreases-children::bind_with_list
decreases-children::bind_with_list l = 16 * l.i + 3

abbrev pub decreases-children::bind_with_parts : goal.decreases-children::bind_with_parts
decreases-children::bind_with_parts l = 16 * l.i + 3

abbrev pub decreases-children::bind_pair : goal.decreases-children::bind_pair
decreases-children::bind_pair l = 16 * l.i + 3

abbrev pub decreases-children::bind_option : goal.decreases-children::bind_option
decreases-children::bind_option l = 16 * l.i + 3

abbrev pub decreases-children::bind_parts : goal.decreases-children::bind_parts
decreases-children::bind_parts l = 16 * l.i + 2

abbrev pub decreases-children::bind_part : goal.decreases-children::bind_part
decreases-children::bind_part l = 16 * l.i + 1

abbrev pub decreases-children::bind_list : goal.decreases-children::bind_list
decreases-children::bind_list l = 16 * l.i

abbrev pub invariant-children::bind_list-loop-t : goal.invariant-children::bind_list-loop-t
invariant-children::bind_list-loop-t l = record {
  grows : Grows l.fn.arena l.arena;
  few : size l.arena + (measure_each (trees_at (forest l.fn.arena) (drop l.t-index l.t-items))).params
      ≤ size l.fn.arena + (measure_each (trees_at (forest l.fn.arena) l.t-items)).params;
  below : AllByRecursion (λ t. t < size l.arena) l.items.items;
  bound : joined_trees (trees_at (forest l.arena) l.items.items)
      (bind_each (binding_at l.fn.arena l.binding) (trees_at (forest l.fn.arena) (drop l.t-index l.t-items)))
      ≡ bind_each (binding_at l.fn.arena l.binding) (trees_at (forest l.fn.arena) l.t-items);
}

abbrev pub invariant-children::bind_parts-loop-part : goal.invariant-children::bind_parts-loop-part
invariant-children::bind_parts-loop-part l = record {
  grows : Grows l.fn.arena l.arena;
  few : (reversed : Bool) → size l.arena
      + (measure_parts reversed (parts_of l.fn.arena.held (forest l.fn.arena) (drop l.part-index l.part-items))).params
      ≤ size l.fn.arena + (measure_parts reversed (parts_of l.fn.arena.held (forest l.fn.arena) l.part-items)).params;
  below : AllByRecursion (IsPartBelow l.arena.held (size l.arena)) l.items.items;
  bound : joined_parts (parts_of l.arena.held (forest l.arena) l.items.items)
      (bind_parts (binding_at l.fn.arena l.binding)
      (parts_of l.fn.arena.held (forest l.fn.arena) (drop l.part-index l.part-items)))
      ≡ bind_parts (binding_at l.fn.arena l.binding) (parts_of l.fn.arena.held (forest l.fn.arena) l.part-items);
}
