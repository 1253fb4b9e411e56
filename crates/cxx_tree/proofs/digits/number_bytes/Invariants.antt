-- the digits that are left and those that are written are the number's
use Rattle.std.proofs.Common.{◌≡◌, ◌≤◌, ◌++◌, length, drop}
use Rattle.std.specs.Fmt.{decimal}
use Rattle.cxx_tree.proofs.digits.number_bytes.Given as goal

abbrev pub invariant-loop-left : goal.invariant-loop-left
invariant-loop-left l = record {
  digits : decimal l.fn.number ≡ decimal l.left ++ drop l.at l.spare;
  fit : length (decimal l.left) ≤ l.at;
  within : l.at ≤ length l.spare;
}

abbrev pub decreases-loop-left : goal.decreases-loop-left
decreases-loop-left l = l.left
