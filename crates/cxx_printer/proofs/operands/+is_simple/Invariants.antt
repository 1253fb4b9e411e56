use Rattle.cxx_printer.proofs.operands.+is_simple.Given as goal

abbrev pub decreases-is_simple : goal.decreases-is_simple
decreases-is_simple l = l.i
