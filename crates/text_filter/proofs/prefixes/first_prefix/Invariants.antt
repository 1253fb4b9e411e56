use Rattle.std.proofs.Common.{◌≡◌, ℕ, suc, ◌-◌, ◌<◌, ◌≤◌, length, get_or}
use Rattle.text_filter.specs.Progress.{underscore, capital_z}
use Rattle.text_filter.proofs.prefixes.first_prefix.Given as goal

abbrev pub invariant-loop-more : goal.invariant-loop-more
invariant-loop-more l =
    record {
      inside : l.at ≤ length l.bytes;
      none : (k : ℕ) → suc k < l.at → get_or l.bytes k 0 ≡ underscore → get_or l.bytes (suc k) 0 ≡ capital_z → ⊥;
    }

abbrev pub decreases-loop-more : goal.decreases-loop-more
decreases-loop-more l = length l.bytes - l.at
