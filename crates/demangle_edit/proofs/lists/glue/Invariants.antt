-- all that lived before the mark lives on, and the text has the parts so far
use Rattle.std.proofs.Common.{take, map}
use Rattle.demangle_text.specs.State.{shape, Lives, Opens}
use Rattle.demangle_edit.specs.Lists.{glued}
use Rattle.demangle_edit.specs.Calls.{part_text}
use Rattle.demangle_edit.proofs.lists.glue.Given as goal

abbrev pub invariant-loop-part : goal.invariant-loop-part
invariant-loop-part l = record {
  run : Opens l.fn.buf l.buf l.mark;
  all : Lives l.buf l.all (glued (map (part_text (shape l.fn.buf)) (take l.part-index l.parts)));
}
