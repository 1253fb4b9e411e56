use Rattle.std.proofs.Common.{◌-◌, ◌≤◌, length}
use Rattle.text_filter.specs.Progress.{AreWordBytes}
use Rattle.text_filter.proofs.word_bounds.word_end.Given as goal

abbrev pub invariant-loop-at : goal.invariant-loop-at
invariant-loop-at l =
    record {
      low : l.place ≤ l.at;
      high : l.at ≤ length l.text;
      word : AreWordBytes l.text l.place l.at;
    }

abbrev pub decreases-loop-at : goal.decreases-loop-at
decreases-loop-at l = length l.text - l.at
