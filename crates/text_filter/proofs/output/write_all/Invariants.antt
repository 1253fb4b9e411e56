use Rattle.std.proofs.Common.{◌≡◌, false, length}
use Rattle.text_filter.specs.Progress.{WritesBytesUpTo}
use Rattle.text_filter.proofs.output.write_all.Given as goal

abbrev pub invariant-loop-rest : goal.invariant-loop-rest
invariant-loop-rest g l =
    record {
      not_failed : g.W.Sink.failed l.sink ≡ false;
      in_time : g.W.Sink.called_late l.sink ≡ g.W.Sink.called_late l.fn.sink;
      so_far : WritesBytesUpTo l.bytes l.rest (g.W.Sink.taken l.fn.sink) (g.W.Sink.taken l.sink);
    }

abbrev pub decreases-loop-rest : goal.decreases-loop-rest
decreases-loop-rest g l = length l.rest
