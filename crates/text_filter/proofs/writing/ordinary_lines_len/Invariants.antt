use Rattle.std.proofs.Common.{◌-◌, ◌≤◌, length, take}
use Rattle.text_filter.specs.Filtered.{AreLinesAnswered}
use Rattle.text_filter.proofs.writing.ordinary_lines_len.Given as goal

abbrev pub invariant-loop-len : goal.invariant-loop-len
invariant-loop-len g l =
    record {
      inside : l.len ≤ length l.lines;
      ordinary : AreLinesAnswered (g.S.SymbolReader.prints l.fn.printing) (take l.len l.lines) (take l.len l.lines);
    }

abbrev pub decreases-loop-len : goal.decreases-loop-len
decreases-loop-len g l = length l.lines - l.len
