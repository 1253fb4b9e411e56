use Rattle.cxx_printer.proofs.shapes.+is_one_sided.Given as goal

abbrev pub decreases-is_one_sided : goal.decreases-is_one_sided
decreases-is_one_sided l = l.i
