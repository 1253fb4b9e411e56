use Rattle.std.proofs.Common.{◌≡◌, ◌≤◌, [], length, drop, take}
use Rattle.std.specs.List.{AllByRecursion}
use Rattle.cxx_tree.specs.Kept.{KeepsNodes, IsNode}
use Rattle.cxx_tree.specs.Stored.{list_at}
use Rattle.cxx_grammar.specs.Binds.{bind_args}
use Rattle.cxx_reader.specs.Outcome.{state, trees_behind, list_trees}
use Rattle.cxx_reader.proofs.Bound.{BoundSoFar, listed}
use Rattle.cxx_reader.proofs.reader.Reader.bind_args.Given as goal

abbrev pub invariant-loop-k : goal.invariant-loop-k
invariant-loop-k l = record {
  reads : BoundSoFar (bind_args l.is_inherited [] (list_trees l.fn.self.arena l.args) (state l.fn.self)) l.is_inherited
      (trees_behind l.from l.self.arena) (drop l.k (listed l.fn.self.arena l.args)) (state l.self);
  from : l.from ≡ length l.fn.self.arena.pending;
  len : l.len ≡ length (list_at l.fn.self.arena.held l.args);
  long : l.from ≤ length l.self.arena.pending;
  below : AllByRecursion (IsNode l.self.arena) (drop l.from l.self.arena.pending);
  pending : take l.from l.self.arena.pending ≡ l.fn.self.arena.pending;
  grows : KeepsNodes l.fn.self.arena l.self.arena;
  rest : l.self.rest.now ≡ l.fn.self.rest.now;
}
