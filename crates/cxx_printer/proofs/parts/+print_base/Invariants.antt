use Rattle.cxx_printer.proofs.parts.+print_base.Given as goal

abbrev pub decreases-print_base : goal.decreases-print_base
decreases-print_base l = l.i
