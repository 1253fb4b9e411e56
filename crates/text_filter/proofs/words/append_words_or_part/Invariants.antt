use Rattle.text_filter.specs.Printed.{worded}
use Rattle.std.proofs.Common.{◌-◌, ◌≤◌, ◌++◌, length, take, drop}
use Rattle.text_filter.specs.Progress.{IsBoundary, Extends, AppendsReplaced}
use Rattle.text_filter.proofs.words.append_words_or_part.Given as goal

abbrev pub invariant-loop-more : goal.invariant-loop-more
invariant-loop-more g l =
    record {
      ordered : l.done ≤ l.from;
      inside : l.from ≤ length l.text;
      boundary : IsBoundary l.text l.from;
      extends : Extends l.fn.output l.output;
      -- what stands from `done` on is yet to be appended
      so_far : AppendsReplaced (worded g.S.SymbolReader.all g.S.SymbolReader.prints l.options) (take l.from l.text) l.fn.output (l.output ++ take (l.from - l.done) (drop l.done l.text));
    }

abbrev pub decreases-loop-more : goal.decreases-loop-more
decreases-loop-more g l = length l.text - l.from
