use Rattle.cxx_printer.proofs.Heights.{height_at}
use Rattle.cxx_printer.proofs.shapes.+referent_of.Given as goal

abbrev pub decreases-referent_of : goal.decreases-referent_of
decreases-referent_of l = height_at l.arena.now l.i
