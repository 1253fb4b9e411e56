use Rattle.std.proofs.Common.{◌≡◌, ◌≤◌, length, drop, take}
use Rattle.std.specs.List.{AllByRecursion}
use Rattle.cxx_tree.specs.Kept.{KeepsNodes, IsNode}
use Rattle.cxx_tree.specs.Stored.{list_at}
use Rattle.cxx_grammar.specs.Binds.{names_of}
use Rattle.cxx_reader.specs.Outcome.{state, trees_behind, list_trees}
use Rattle.cxx_reader.proofs.Binders.{NamesSoFar}
use Rattle.cxx_reader.proofs.Bound.{listed}
use Rattle.cxx_reader.proofs.reader.Reader.add_names.Given as goal

abbrev pub invariant-loop-k : goal.invariant-loop-k
invariant-loop-k l = record {
  names : NamesSoFar (names_of (list_trees l.fn.self.arena l.declarations)) (trees_behind (length l.fn.self.arena.pending) l.self.arena)
      (drop l.k (listed l.fn.self.arena l.declarations));
  state : state l.self ≡ state l.fn.self;
  len : l.len ≡ length (list_at l.fn.self.arena.held l.declarations);
  long : length l.fn.self.arena.pending ≤ length l.self.arena.pending;
  below : AllByRecursion (IsNode l.self.arena) (drop (length l.fn.self.arena.pending) l.self.arena.pending);
  pending : take (length l.fn.self.arena.pending) l.self.arena.pending ≡ l.fn.self.arena.pending;
  grows : KeepsNodes l.fn.self.arena l.self.arena;
  rest : l.self.rest.now ≡ l.fn.self.rest.now;
}
