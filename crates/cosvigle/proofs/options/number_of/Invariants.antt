use Rattle.std.proofs.Common.{◌≡◌, drop}
use Rattle.cosvigle.specs.Options.{number_of, number_from}
use Rattle.cosvigle.proofs.options.number_of.Given as goal

abbrev pub invariant-loop-at : goal.invariant-loop-at
invariant-loop-at l = number_of l.digits ≡ number_from l.number (drop l.at l.digits)
