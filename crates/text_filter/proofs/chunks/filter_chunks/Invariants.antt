use Rattle.text_filter.specs.Printed.{placed}
use Rattle.std.proofs.Common.{◌≡◌, ◌<◌, ◌≤◌, false, length, take}
use Rattle.text_filter.specs.Progress.{AreKept, CopiesUpTo}
use Rattle.text_filter.proofs.chunks.filter_chunks.Given as goal

abbrev pub invariant-chunks : goal.invariant-chunks
invariant-chunks g l =
    record {
      source_not_failed : g.R.Source.failed l.source ≡ false;
      sink_not_failed : g.W.Sink.failed l.sink ≡ false;
      source_in_time : g.R.Source.called_late l.source ≡ g.R.Source.called_late l.fn.source;
      sink_in_time : g.W.Sink.called_late l.sink ≡ g.W.Sink.called_late l.fn.sink;
      some : 0 < length l.chunk.items;
      within : l.kept ≤ length l.chunk.items;
      kept : AreKept (placed g.S.SymbolReader.all g.S.SymbolReader.prints l.placement) (take l.kept l.chunk.items);
      so_far : CopiesUpTo (placed g.S.SymbolReader.all g.S.SymbolReader.prints l.placement) l.mid_word (take l.kept l.chunk.items) (g.R.Source.remaining l.fn.source) (g.R.Source.remaining l.source) (g.W.Sink.taken l.fn.sink) (g.W.Sink.taken l.sink);
    }

abbrev pub decreases-chunks : goal.decreases-chunks
decreases-chunks g l = g.R.Source.calls_left l.source
