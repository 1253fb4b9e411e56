use Rattle.std.proofs.Common.{◌≡◌, length}
use Rattle.cxx_grammar.specs.Ordinals.{without_zeros}
use Rattle.cxx_reader.proofs.ordinals.without_zeros.Given as goal

abbrev pub invariant-loop-rest : goal.invariant-loop-rest
invariant-loop-rest l = record { same : without_zeros l.rest ≡ without_zeros l.digits }

abbrev pub decreases-loop-rest : goal.decreases-loop-rest
decreases-loop-rest l = length l.rest
