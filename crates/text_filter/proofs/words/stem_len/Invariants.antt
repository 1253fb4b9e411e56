use Rattle.std.proofs.Common.{◌≤◌, length, drop}
use Rattle.std.specs.Prelude.{All}
use Rattle.text_filter.specs.Replaced.{IsDot}
use Rattle.text_filter.proofs.words.stem_len.Given as goal

abbrev pub invariant-loop-len : goal.invariant-loop-len
invariant-loop-len l =
    record {
      inside : l.len ≤ length l.word;
      dots : All IsDot (drop l.len l.word);
    }

abbrev pub decreases-loop-len : goal.decreases-loop-len
decreases-loop-len l = l.len
