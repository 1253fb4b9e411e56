use Rattle.std.proofs.Common.{◌≡◌, ◌≤◌, length}
use Rattle.demangle_text.specs.State.{IsLiving, IsRun, shape, saved, scopes}
use Rattle.demangle_text.specs.Calls.{IsLast}
use Rattle.itanium_reader.specs.Parser as spec
use Rattle.itanium_reader.specs.Outcome.{state, LoopSoFar}
use Rattle.itanium_reader.proofs.reader.Reader.read_some_tags.Given as goal

abbrev pub invariant-loop-self : goal.invariant-loop-self
invariant-loop-self l = record {
  reads : LoopSoFar (spec.parse_tags (shape l.fn.self.buffer.value l.fn.self.found) (state l.fn.self)) spec.tag_turn (shape l.self.buffer.value l.self.found) (state l.self);
  living : IsLiving l.self.buffer.value l.self.found;
  last : IsLast l.fn.self.buffer.value l.fn.self.found → IsLast l.self.buffer.value l.self.found;
  run : IsRun l.fn.self.buffer.value l.self.buffer.value;
  taken : length l.self.rest.now ≤ length l.fn.self.rest.now;
  lists : saved l.self.buffer.value ≡ saved l.fn.self.buffer.value;
  scopes_same : scopes l.self.buffer.value ≡ scopes l.fn.self.buffer.value;
  entered : l.self.entered ≡ l.fn.self.entered;
  most : (state l.self).most_saved ≡ (state l.fn.self).most_saved;
}

abbrev pub decreases-loop-self : goal.decreases-loop-self
decreases-loop-self l = length l.self.rest.now
