use Rattle.cxx_reader.proofs.bases.+args_of.Given as goal

abbrev pub decreases-args_of : goal.decreases-args_of
decreases-args_of l = l.i
