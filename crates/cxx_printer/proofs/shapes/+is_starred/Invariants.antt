use Rattle.cxx_printer.proofs.Heights.{height_at}
use Rattle.cxx_printer.proofs.shapes.+is_starred.Given as goal

abbrev pub decreases-is_starred : goal.decreases-is_starred
decreases-is_starred l = height_at l.arena.now l.i
