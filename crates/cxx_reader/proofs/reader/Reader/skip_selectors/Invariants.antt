use Rattle.std.proofs.Common.{◌≡◌, ◌≤◌, length}
use Rattle.cxx_grammar.specs.Expressions.{parse_selector, is_selectors_end, skip_selectors}
use Rattle.cxx_reader.specs.Outcome.{state}
use Rattle.cxx_reader.proofs.Turns.{SoFar}
use Rattle.cxx_reader.proofs.reader.Reader.skip_selectors.Given as goal

abbrev pub invariant-loop-self : goal.invariant-loop-self
invariant-loop-self l = record {
  reads : SoFar (skip_selectors (state l.fn.self)) is_selectors_end parse_selector tt (state l.self);
  arena : l.self.arena ≡ l.fn.self.arena;
  within : length l.self.rest.now ≤ length l.fn.self.rest.now;
}

abbrev pub decreases-loop-self : goal.decreases-loop-self
decreases-loop-self l = length l.self.rest.now
