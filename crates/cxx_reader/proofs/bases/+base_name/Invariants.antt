use Rattle.cxx_reader.proofs.bases.+base_name.Given as goal

abbrev pub decreases-base_name : goal.decreases-base_name
decreases-base_name l = l.i
