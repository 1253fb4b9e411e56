use Rattle.std.proofs.Common.{◌≡◌, ◌+◌, drop}
use Rattle.cosvigle.specs.Options.{name_len}
use Rattle.cosvigle.proofs.options.name_len.Given as goal

abbrev pub invariant-loop-at : goal.invariant-loop-at
invariant-loop-at l = name_len l.bytes ≡ l.at + name_len (drop l.at l.bytes)
