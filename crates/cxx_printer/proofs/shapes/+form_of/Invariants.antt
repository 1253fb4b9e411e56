use Rattle.cxx_printer.proofs.Heights.{height_at}
use Rattle.cxx_printer.proofs.shapes.+form_of.Given as goal

abbrev pub decreases-form_of : goal.decreases-form_of
decreases-form_of l = height_at l.arena.now l.i
