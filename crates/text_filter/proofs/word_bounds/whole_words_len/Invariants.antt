use Rattle.std.proofs.Common.{◌≤◌, drop}
use Rattle.std.specs.Prelude.{All}
use Rattle.text_filter.specs.Replaced.{IsWordByte}
use Rattle.text_filter.proofs.word_bounds.whole_words_len.Given as goal

abbrev pub invariant-loop-place : goal.invariant-loop-place
invariant-loop-place l =
    record {
      low : l.kept ≤ l.place;
      word : All IsWordByte (drop l.place l.bytes);
    }
