use Rattle.cxx_printer.proofs.parts.+print_scopes.Given as goal

abbrev pub decreases-print_scopes : goal.decreases-print_scopes
decreases-print_scopes l = l.i
