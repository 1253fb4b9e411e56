use Rattle.std.proofs.Common.{◌-◌, ◌≤◌, length}
use Rattle.abi_scalars.specs.Ascii.{AreAscii}
use Rattle.abi_scalars.proofs.utf8.is_long_ascii.Given as goal

abbrev pub invariant-loop-at : goal.invariant-loop-at
invariant-loop-at l =
    record {
      inside : l.at ≤ length l.bytes;
      low : AreAscii l.bytes 0 l.at;
    }

abbrev pub decreases-loop-at : goal.decreases-loop-at
decreases-loop-at l = length l.bytes - l.at
