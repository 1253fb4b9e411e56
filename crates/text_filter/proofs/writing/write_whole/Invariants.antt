use Rattle.std.proofs.Common.{◌≡◌, false, length, IsTrue}
use Rattle.std.specs.Prelude.{IsUtf8}
use Rattle.text_filter.specs.Printed.{placed}
use Rattle.text_filter.specs.declared.symbols.Placement.TheVariants as code
use Rattle.text_filter.specs.Filtered.{AreWhole}
use Rattle.text_filter.specs.Progress.{FiltersUpTo}
use Rattle.text_filter.proofs.writing.write_whole.Given as goal

abbrev pub invariant-loop-rest : goal.invariant-loop-rest
invariant-loop-rest g l =
    record {
      not_failed : g.W.Sink.failed l.sink ≡ false;
      in_time : g.W.Sink.called_late l.sink ≡ g.W.Sink.called_late l.fn.sink;
      whole : AreWhole (placed g.S.SymbolReader.all g.S.SymbolReader.prints l.placement) l.rest;
      known : (printing : g.row.S-Printing.Denot) → l.placement ≡ code.Lines printing → IsTrue l.known_utf8 → IsUtf8 l.rest;
      so_far : FiltersUpTo (placed g.S.SymbolReader.all g.S.SymbolReader.prints l.placement) l.complete_text l.rest (g.W.Sink.taken l.fn.sink) (g.W.Sink.taken l.sink);
    }

abbrev pub decreases-loop-rest : goal.decreases-loop-rest
decreases-loop-rest g l = length l.rest
