-- all that lived before the mark lives on, and the list has the texts of the pieces so far
use Rattle.std.proofs.Common.{true, [], take, map}
use Rattle.demangle_text.specs.Shape.{plain_shape}
use Rattle.demangle_text.specs.State.{shape, Lives, Opens}
use Rattle.demangle_edit.specs.Built.{listed_each}
use Rattle.demangle_edit.proofs.lists.list_pieces.Given as goal

abbrev pub invariant-loop-i : goal.invariant-loop-i
invariant-loop-i l = record {
  run : Opens l.fn.buf l.buf l.mark;
  list : Lives l.buf l.list (listed_each true (plain_shape []) (map (shape l.fn.buf) (take l.i l.pieces)));
}
