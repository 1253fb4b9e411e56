use Rattle.std.proofs.Common.{◌≡◌, drop}
use Rattle.cosvigle.specs.declared.options.OptionState.TheVariants.{Ready}
use Rattle.cosvigle.specs.Options.{letters, after_letters}
use Rattle.cosvigle.proofs.options.after_letters.Given as goal

abbrev pub invariant-loop-at : goal.invariant-loop-at
invariant-loop-at l = after_letters l.fn.flags l.argument ≡ letters (Ready l.flags) (drop l.at l.argument)
