use Rattle.cxx_printer.proofs.Heights.{height_at}
use Rattle.cxx_printer.proofs.shapes.+has_right.Given as goal

abbrev pub decreases-has_right : goal.decreases-has_right
decreases-has_right l = height_at l.arena.now l.i
