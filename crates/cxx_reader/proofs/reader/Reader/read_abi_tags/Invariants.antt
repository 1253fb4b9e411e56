use Rattle.std.proofs.Common.{length}
use Rattle.cxx_tree.specs.Kept.{IsNode}
use Rattle.cxx_tree.specs.Stored.{stands}
use Rattle.cxx_grammar.specs.Leaves.{parse_abi_tag, is_tags_end}
use Rattle.cxx_grammar.specs.Parses.{repeat}
use Rattle.cxx_reader.specs.Outcome.{state, Keeps}
use Rattle.cxx_reader.proofs.Turns.{SoFar}
use Rattle.cxx_reader.proofs.reader.Reader.read_abi_tags.Given as goal

abbrev pub invariant-loop-self : goal.invariant-loop-self
invariant-loop-self l = record {
  reads : SoFar (repeat is_tags_end parse_abi_tag (stands l.fn.self.arena l.name) (state l.fn.self)) is_tags_end
      parse_abi_tag (stands l.self.arena l.tagged) (state l.self);
  node : IsNode l.self.arena l.tagged;
  keeps : Keeps l.fn.self l.self;
}

abbrev pub decreases-loop-self : goal.decreases-loop-self
decreases-loop-self l = length l.self.rest.now
