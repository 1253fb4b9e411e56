use Rattle.std.proofs.Common.{◌-◌, ◌≤◌}
use Rattle.text_filter.specs.Progress.{AreWordBytes}
use Rattle.text_filter.proofs.word_bounds.word_start.Given as goal

abbrev pub invariant-loop-start : goal.invariant-loop-start
invariant-loop-start l =
    record {
      low : l.low ≤ l.start;
      high : l.start ≤ l.place;
      word : AreWordBytes l.text l.start l.place;
    }

abbrev pub decreases-loop-start : goal.decreases-loop-start
decreases-loop-start l = l.start - l.low
