use Rattle.std.proofs.Common.{length}
use Rattle.std.specs.Prelude.{IfSome, option_map}
use Rattle.cxx_tree.specs.Kept.{IsNode}
use Rattle.cxx_tree.specs.Stored.{stands}
use Rattle.cxx_grammar.specs.Modules.{next_subname, is_subnames_end}
use Rattle.cxx_grammar.specs.Parses.{repeat}
use Rattle.cxx_reader.specs.Outcome.{state, Keeps}
use Rattle.cxx_reader.proofs.Turns.{SoFar}
use Rattle.cxx_reader.proofs.reader.Reader.read_subnames.Given as goal

abbrev pub invariant-loop-self : goal.invariant-loop-self
invariant-loop-self l = record {
  reads : SoFar (repeat is_subnames_end next_subname (option_map (stands l.fn.self.arena) l.fn.outer) (state l.fn.self))
      is_subnames_end next_subname (option_map (stands l.self.arena) l.owner) (state l.self);
  owner : IfSome l.owner (IsNode l.self.arena);
  keeps : Keeps l.fn.self l.self;
}

abbrev pub decreases-loop-self : goal.decreases-loop-self
decreases-loop-self l = length l.self.rest.now
