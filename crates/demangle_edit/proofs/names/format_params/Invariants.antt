-- all that lived before the mark lives on, and the name has the parameters so far
use Rattle.std.proofs.Common.{true, take, map}
use Rattle.demangle_text.specs.State.{shape, Lives, Opens}
use Rattle.demangle_edit.specs.Built.{listed_each, params_opened}
use Rattle.demangle_edit.proofs.names.format_params.Given as goal

abbrev pub invariant-loop-i : goal.invariant-loop-i
invariant-loop-i l = record {
  run : Opens l.fn.buf l.buf l.mark;
  list : Lives l.buf l.list (listed_each true (params_opened (shape l.fn.buf l.fn.name)) (map (shape l.fn.buf) (take l.i l.params)));
}
