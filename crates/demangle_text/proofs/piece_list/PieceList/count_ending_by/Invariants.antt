use Rattle.std.proofs.Common.{◌≤◌, length}
use Rattle.demangle_text.proofs.piece_list.PieceList.count_ending_by.Given as goal

abbrev pub invariant-loop-n : goal.invariant-loop-n
invariant-loop-n l = record { within : l.n ≤ length l.self }

abbrev pub decreases-loop-n : goal.decreases-loop-n
decreases-loop-n l = l.n
