use Rattle.std.proofs.Common.{◌≤◌, drop}
use Rattle.text_filter.specs.Filtered.{HasNoLineFeed}
use Rattle.text_filter.proofs.writing.whole_lines_len.Given as goal

abbrev pub invariant-loop-place : goal.invariant-loop-place
invariant-loop-place l =
    record {
      low : l.kept ≤ l.place;
      unended : HasNoLineFeed (drop l.place l.bytes);
    }
