use Rattle.text_filter.specs.Printed.{placed}
use Rattle.text_filter.proofs.Printed.{placed_answers}
use Rattle.std.proofs.Common.{◌≡◌, ℕ, Bool, ◌-◌, ◌<◌, ◌≤◌, length, take, drop, arith, rules, refl, sym, ap, subst, ◌∙◌}
use Rattle.std.proofs.lemmas.List.{length-take-le}
use Rattle.std.proofs.lemmas.Result.{on_ok_weaker, on_err_weaker}
use Rattle.std.proofs.lemmas.Grind.{common_steps}
use Rattle.text_filter.specs.Filtered.{WritesFiltered, WritesBeginning}
use Rattle.text_filter.specs.Progress.{AreKept, WritesChunkUpTo, WritesChunkBeginning, WritesSomeOfChunk}
use Rattle.text_filter.proofs.ChunkBytes.{front_moved, none_moved}
use Rattle.text_filter.proofs.FilteredText.{at_fault}
use Rattle.text_filter.proofs.Copied.{run_read, run_written, run_last, none_read, at_end, none_whole, none_copied, none_kept, still_kept, kept_none, turn_copied, turn_fault, turn_refused, end_copied, read_fault, read_put, read_refused, last_copied, last_filtered, last_fault, last_refused}
use Rattle.text_filter.proofs.chunks.filter_chunks.Goals as goal
use Rattle.text_filter.proofs.chunks.filter_chunks.Goals.{then-done-gt0, else-done-gt0}

pub returns-in_err-chunk-clause-err : goal.returns-in_err-chunk-clause-err
returns-in_err-chunk-clause-err g c = at_fault _ (none_read (placed g.S.SymbolReader.all g.S.SymbolReader.prints c.args.placement) (placed_answers g.S.SymbolReader.all g.S.SymbolReader.prints g.met.S.SymbolReader.answers c.args.placement) _ _)

pub returns-in_err-chunk-clause-memory : goal.returns-in_err-chunk-clause-memory
returns-in_err-chunk-clause-memory g c = λ _. none_whole (placed g.S.SymbolReader.all g.S.SymbolReader.prints c.args.placement) _ _

pub chunks-init : goal.chunks-init
chunks-init g c = record {
  source_not_failed = c.requires.source_not_failed;
  sink_not_failed = c.requires.sink_not_failed;
  source_in_time = refl;
  sink_in_time = refl;
  some = search rules;
  within = search rules;
  kept = none_kept (placed g.S.SymbolReader.all g.S.SymbolReader.prints c.args.placement) _ refl;
  so_far = none_copied (placed g.S.SymbolReader.all g.S.SymbolReader.prints c.args.placement) _ _ _ refl;
}

pub returns-in_err-end-clause-err : goal.returns-in_err-end-clause-err
returns-in_err-end-clause-err g c = at_fault _ (read_fault (placed g.S.SymbolReader.all g.S.SymbolReader.prints c.args.placement) (placed_answers g.S.SymbolReader.all g.S.SymbolReader.prints g.met.S.SymbolReader.answers c.args.placement) _ _ _ _ _ _ _ c.chunks.invariant.so_far c.in_err-end.ensures.err)

pub returns-in_err-end-clause-put : goal.returns-in_err-end-clause-put
returns-in_err-end-clause-put g c = λ _. read_put (placed g.S.SymbolReader.all g.S.SymbolReader.prints c.args.placement) _ _ _ _ _ _ _ c.chunks.invariant.so_far c.chunks.invariant.kept c.in_err-end.ensures.err

pub returns-in_err-end-clause-memory : goal.returns-in_err-end-clause-memory
returns-in_err-end-clause-memory g c = λ refused.
    read_refused (placed g.S.SymbolReader.all g.S.SymbolReader.prints c.args.placement) _ _ _ _ _ _ _ _ c.chunks.invariant.so_far c.in_err-end.ensures.err (c.in_err-end.ensures.full (search rules)) c.chunks.invariant.some

pub write_chunk-requires-clause-kept : goal.write_chunk-requires-clause-kept
write_chunk-requires-clause-kept g c =
    let end = c.in_ok-end.end in
    let kept = c.chunks.kept in
    subst (λ l. AreKept (placed g.S.SymbolReader.all g.S.SymbolReader.prints c.args.placement) (take kept (take end l))) (sym c.deref-in-chunks.ensures.value)
    (still_kept (placed g.S.SymbolReader.all g.S.SymbolReader.prints c.args.placement) kept end _ _ _ _ c.chunks.invariant.kept c.in_ok-end.ensures.ok c.chunks.invariant.within)

pub write_chunk-requires-clause-mid_word_keeps_none : goal.write_chunk-requires-clause-mid_word_keeps_none
write_chunk-requires-clause-mid_word_keeps_none g c = kept_none (placed g.S.SymbolReader.all g.S.SymbolReader.prints c.args.placement) _ _ _ _ _ _ _ c.chunks.invariant.so_far c.chunks.invariant.within

pub returns-in_err-done-clause-err : goal.returns-in_err-done-clause-err
returns-in_err-done-clause-err g c =
    let end = c.in_ok-end.end in
    at_fault _ (turn_fault (placed g.S.SymbolReader.all g.S.SymbolReader.prints c.args.placement) c.chunks.mid_word _ end _ _ _ _ _ _ _ _ c.chunks.invariant.so_far c.in_ok-end.ensures.ok
    (subst (λ l. WritesChunkBeginning (placed g.S.SymbolReader.all g.S.SymbolReader.prints c.args.placement) c.chunks.mid_word (take end l) (g.W.Sink.taken c.chunks.sink) (g.W.Sink.taken c.write_chunk.new.sink)) c.deref-in-chunks.ensures.value c.in_err-done.ensures.err))

pub returns-in_err-done-clause-memory : goal.returns-in_err-done-clause-memory
returns-in_err-done-clause-memory g c = λ refused.
    let end = c.in_ok-end.end in
    turn_refused (placed g.S.SymbolReader.all g.S.SymbolReader.prints c.args.placement) c.chunks.mid_word _ end _ _ _ _ _ _ _ _ c.chunks.invariant.so_far c.in_ok-end.ensures.ok
    (subst (λ l. WritesSomeOfChunk (placed g.S.SymbolReader.all g.S.SymbolReader.prints c.args.placement) c.chunks.mid_word (take end l) (g.W.Sink.taken c.chunks.sink) (g.W.Sink.taken c.write_chunk.new.sink)) c.deref-in-chunks.ensures.value
    (c.in_err-done.ensures.memory (search rules)))

pub chunks-preserved : goal.chunks-preserved
chunks-preserved g c =
    let end = c.in_ok-end.end in
    let done = c.in_ok-done.done in
    let after = c.in_ok-done.goes_on in
    let all = c.read_more.new.chunk.items in
    let same : c.deref-in-chunks.result.now ≡ all = c.deref-in-chunks.ensures.value in
    let inside : end ≤ length all = c.in_ok-end.ensures.ok.inside in
    let within : done ≤ end = omega (arith, c.in_ok-done.ensures.bound, ap (λ l. length (take end l)) same, length-take-le end all inside) in
    let long : length c.if-done-gt0.chunk.items ≡ length all =
    elim c.if-done-gt0.branch [
      | then-done-gt0 w ↦ subst (λ v. length v.items ≡ length all) (sym w.chunk-is) (grind arith)
      | else-done-gt0 w ↦ ap (λ v. length v.items) w.chunk-is
    ] in
    let moved : take (end - done) c.if-done-gt0.chunk.items ≡ drop done (take end all) =
    elim c.if-done-gt0.branch [
      | then-done-gt0 w ↦ subst (λ v. take (end - done) v.items ≡ drop done (take end all)) (sym w.chunk-is) (front_moved all _ end done within inside w.copy_within.ensures.items)
      | else-done-gt0 w ↦ ap (λ v. take (end - done) v.items) w.chunk-is ∙ none_moved all end done w.if-done-gt0.false
    ] in
    record {
      source_not_failed = c.in_ok-end.ensures.outcome;
      sink_not_failed = c.in_ok-done.ensures.outcome;
      source_in_time = c.in_ok-end.ensures.in_time ∙ c.chunks.invariant.source_in_time;
      sink_in_time = c.in_ok-done.ensures.in_time ∙ c.chunks.invariant.sink_in_time;
      some = omega (arith, inside, long, c.in_ok-end.ensures.ok.low, c.if-end-kept.false);
      within = omega (arith, inside, long);
      kept = subst (AreKept (placed g.S.SymbolReader.all g.S.SymbolReader.prints c.args.placement)) (ap (λ l. drop done (take end l)) same ∙ sym moved) c.in_ok-done.ensures.kept;
      so_far = turn_copied (placed g.S.SymbolReader.all g.S.SymbolReader.prints c.args.placement) c.chunks.mid_word after c.chunks.kept end _ all _ (drop done (take end all)) _ _ _ _ _ _ c.chunks.invariant.so_far c.in_ok-end.ensures.ok
          (subst (λ l. WritesChunkUpTo (placed g.S.SymbolReader.all g.S.SymbolReader.prints c.args.placement) c.chunks.mid_word (take end l) (drop done (take end l)) after (g.W.Sink.taken c.chunks.sink) (g.W.Sink.taken c.write_chunk.new.sink)) same c.in_ok-done.ensures.ok)
          moved (λ is. ap (λ l. drop done (take end l)) (sym same) ∙ c.in_ok-done.ensures.mid_word_keeps_none is);
    }

pub returns-in_err-end-clause-outcome : goal.returns-in_err-end-clause-outcome
returns-in_err-end-clause-outcome g c = run_read _ ℕ _ _ _ _ c.chunks.invariant.sink_not_failed c.in_err-end.ensures.outcome c.from_residual-in_err-end.ensures.1

pub returns-in_err-done-clause-outcome : goal.returns-in_err-done-clause-outcome
returns-in_err-done-clause-outcome g c = run_written _ (ℕ × Bool) _ _ _ _ c.in_ok-end.ensures.outcome c.in_err-done.ensures.outcome c.from_residual-in_err-done.ensures.1

pub returns-then-end-kept-clause-outcome : goal.returns-then-end-kept-clause-outcome
returns-then-end-kept-clause-outcome g c = run_last _ _ _ c.in_ok-end.ensures.outcome c.write_last.ensures.outcome

pub returns-then-end-kept-clause-used_up : goal.returns-then-end-kept-clause-used_up
returns-then-end-kept-clause-used_up g c =
    let ended = end_copied (placed g.S.SymbolReader.all g.S.SymbolReader.prints c.args.placement) c.chunks.mid_word c.chunks.kept _ _ _ _ _ _ _ _ c.chunks.invariant.so_far c.in_ok-end.ensures.ok c.chunks.invariant.within c.if-end-kept.true in
    on_ok_weaker _ (λ _. at_end _ _ ended.read ended.consumed (c.in_ok-end.ensures.ok.ended c.if-end-kept.true)) c.write_last.ensures.ok

pub returns-then-end-kept-clause-ok : goal.returns-then-end-kept-clause-ok
returns-then-end-kept-clause-ok g c =
    let kept = c.chunks.kept in
    let t' = g.W.Sink.taken c.chunks.sink in
    let t'' = g.W.Sink.taken c.write_last.new.sink in
    let ended = end_copied (placed g.S.SymbolReader.all g.S.SymbolReader.prints c.args.placement) c.chunks.mid_word kept _ _ _ _ _ _ _ _ c.chunks.invariant.so_far c.in_ok-end.ensures.ok c.chunks.invariant.within c.if-end-kept.true in
    on_ok_weaker _ (λ writes. last_copied (placed g.S.SymbolReader.all g.S.SymbolReader.prints c.args.placement) c.chunks.mid_word (take kept c.read_more.new.chunk.items) _ _ _ t' t'' ended (c.in_ok-end.ensures.ok.ended c.if-end-kept.true)
    (subst (λ l. WritesFiltered (placed g.S.SymbolReader.all g.S.SymbolReader.prints c.args.placement) (take kept l) t' t'') c.deref.ensures.value writes)) c.write_last.ensures.ok

pub returns-then-end-kept-clause-all : goal.returns-then-end-kept-clause-all
returns-then-end-kept-clause-all g c =
    let kept = c.chunks.kept in
    let t' = g.W.Sink.taken c.chunks.sink in
    let t'' = g.W.Sink.taken c.write_last.new.sink in
    let ended = end_copied (placed g.S.SymbolReader.all g.S.SymbolReader.prints c.args.placement) c.chunks.mid_word kept _ _ _ _ _ _ _ _ c.chunks.invariant.so_far c.in_ok-end.ensures.ok c.chunks.invariant.within c.if-end-kept.true in
    on_ok_weaker _ (λ writes. last_filtered (placed g.S.SymbolReader.all g.S.SymbolReader.prints c.args.placement) c.chunks.mid_word (take kept c.read_more.new.chunk.items) _ _ _ t' t'' ended
    (subst (λ l. WritesFiltered (placed g.S.SymbolReader.all g.S.SymbolReader.prints c.args.placement) (take kept l) t' t'') c.deref.ensures.value writes)) c.write_last.ensures.ok

pub returns-then-end-kept-clause-err : goal.returns-then-end-kept-clause-err
returns-then-end-kept-clause-err g c =
    let kept = c.chunks.kept in
    let t' = g.W.Sink.taken c.chunks.sink in
    let t'' = g.W.Sink.taken c.write_last.new.sink in
    let ended = end_copied (placed g.S.SymbolReader.all g.S.SymbolReader.prints c.args.placement) c.chunks.mid_word kept _ _ _ _ _ _ _ _ c.chunks.invariant.so_far c.in_ok-end.ensures.ok c.chunks.invariant.within c.if-end-kept.true in
    on_err_weaker _ (λ begins. last_fault (placed g.S.SymbolReader.all g.S.SymbolReader.prints c.args.placement) c.chunks.mid_word (take kept c.read_more.new.chunk.items) _ _ _ t' t'' ended
    (subst (λ l. WritesBeginning (placed g.S.SymbolReader.all g.S.SymbolReader.prints c.args.placement) (take kept l) t' t'') c.deref.ensures.value begins)) c.write_last.ensures.err

pub returns-then-end-kept-clause-memory : goal.returns-then-end-kept-clause-memory
returns-then-end-kept-clause-memory g c = λ refused.
    let kept = c.chunks.kept in
    let ended = end_copied (placed g.S.SymbolReader.all g.S.SymbolReader.prints c.args.placement) c.chunks.mid_word kept _ _ _ _ _ _ _ _ c.chunks.invariant.so_far c.in_ok-end.ensures.ok c.chunks.invariant.within c.if-end-kept.true in
    last_refused (placed g.S.SymbolReader.all g.S.SymbolReader.prints c.args.placement) c.chunks.mid_word (take kept c.read_more.new.chunk.items) _ _ _ _ _ ended
    (subst (λ l. 0 < length (take kept l)) c.deref.ensures.value (c.write_last.ensures.some refused)) (c.write_last.ensures.memory refused)

pub returns-in_err-chunk-clause-outcome : goal.returns-in_err-chunk-clause-outcome
returns-in_err-chunk-clause-outcome g c = grind arith

pub slice_bounds-write_last-end : goal.slice_bounds-write_last-end
slice_bounds-write_last-end g c = grind (arith, common_steps)

pub write_last-requires-clause-unended : goal.write_last-requires-clause-unended
write_last-requires-clause-unended g c = grind (arith, common_steps)

pub returns-then-end-kept-clause-put : goal.returns-then-end-kept-clause-put
returns-then-end-kept-clause-put g c = grind arith

pub slice_bounds-write_chunk-end : goal.slice_bounds-write_chunk-end
slice_bounds-write_chunk-end g c = grind (arith, common_steps)

pub write_chunk-requires-clause-within : goal.write_chunk-requires-clause-within
write_chunk-requires-clause-within g c = grind (arith, common_steps)

pub copy_within-requires-clause-start_le_end : goal.copy_within-requires-clause-start_le_end
copy_within-requires-clause-start_le_end g c = grind (arith, common_steps)

pub copy_within-requires-clause-in_bounds : goal.copy_within-requires-clause-in_bounds
copy_within-requires-clause-in_bounds g c = grind arith

pub copy_within-requires-clause-dest_in_bounds : goal.copy_within-requires-clause-dest_in_bounds
copy_within-requires-clause-dest_in_bounds g c = grind arith

pub overflow_sub-kept : goal.overflow_sub-kept
overflow_sub-kept g c = grind (arith, common_steps)

pub chunks-smaller : goal.chunks-smaller
chunks-smaller g c = c.in_ok-end.ensures.fewer (omega (arith, c.in_ok-end.ensures.ok.low, c.if-end-kept.false))
