use Rattle.text_filter.specs.Printed.{placed}
use Rattle.std.proofs.Common.{◌≡◌, ◌-◌, ◌≤◌, [], length, take, drop}
use Rattle.text_filter.specs.Filtered.{AreWholeFiltered}
use Rattle.text_filter.proofs.writing.gather_whole.Given as goal

abbrev pub invariant-loop-output : goal.invariant-loop-output
invariant-loop-output g l =
    record {
      inside : length l.rest ≤ length l.complete_text;
      left : l.rest ≡ drop (length l.complete_text - length l.rest) l.complete_text;
      so_far : AreWholeFiltered (placed g.S.SymbolReader.all g.S.SymbolReader.prints l.placement) (take (length l.complete_text - length l.rest) l.complete_text) l.output;
      -- nothing is appended before the first line
      empty : length l.rest ≡ length l.complete_text → l.output ≡ [];
    }

abbrev pub decreases-loop-output : goal.decreases-loop-output
decreases-loop-output g l = length l.rest
