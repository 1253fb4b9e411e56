use Rattle.cxx_printer.proofs.Heights.{height_at}
use Rattle.cxx_printer.proofs.shapes.+is_closed.Given as goal

abbrev pub decreases-is_closed : goal.decreases-is_closed
decreases-is_closed l = height_at l.arena.now l.i
