use Rattle.cxx_reader.proofs.bases.+declared_name.Given as goal

abbrev pub decreases-declared_name : goal.decreases-declared_name
decreases-declared_name l = l.i
