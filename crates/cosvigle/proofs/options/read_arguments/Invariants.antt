use Rattle.std.proofs.Common.{◌≡◌, [], drop}
use Rattle.cosvigle.specs.declared.options.OptionState.TheVariants.{Ready}
use Rattle.cosvigle.specs.Options.{texts, read, reading, flags_of}
use Rattle.cosvigle.proofs.options.read_arguments.Given as goal

abbrev pub invariant-loop-at : goal.invariant-loop-at
invariant-loop-at l =
    read (reading (Ready (flags_of l.program)) [] []) (texts l.arguments) ≡ read (reading l.state (texts l.symbols.items) l.last) (drop l.at (texts l.arguments))
