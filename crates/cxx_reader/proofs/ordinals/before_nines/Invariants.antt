use Rattle.std.proofs.Common.{◌≡◌, ◌-◌, ◌≤◌, length, drop, true}
use Rattle.std.specs.Prelude.{replicate}
use Rattle.cxx_grammar.specs.Ordinals.{more_of}
use Rattle.cxx_reader.proofs.ordinals.before_nines.Given as goal

abbrev pub invariant-loop-k : goal.invariant-loop-k
invariant-loop-k l = record {
  within : l.k ≤ length l.digits;
  more : more_of (drop l.k l.digits) ≡ record { carries = true; digits = replicate (length l.digits - l.k) 48 };
}

abbrev pub decreases-loop-k : goal.decreases-loop-k
decreases-loop-k l = l.k
