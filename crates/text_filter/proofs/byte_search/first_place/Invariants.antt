use Rattle.std.proofs.Common.{◌-◌, ◌≤◌, length, take}
use Rattle.text_filter.specs.Progress.{HasNone}
use Rattle.text_filter.proofs.byte_search.first_place.Given as goal

abbrev pub invariant-loop-at : goal.invariant-loop-at
invariant-loop-at l =
    record {
      inside : l.at ≤ length l.bytes;
      before : HasNone l.wanted (take l.at l.bytes);
    }

abbrev pub decreases-loop-at : goal.decreases-loop-at
decreases-loop-at l = length l.bytes - l.at
