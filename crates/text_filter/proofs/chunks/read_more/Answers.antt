use Rattle.std.proofs.Common.{◌≡◌, ◌+◌, ◌<◌, ◌≤◌, length, take, arith, ap, sym, subst, ◌∙◌}
use Rattle.std.proofs.lemmas.Grind.{common_steps}
use Rattle.text_filter.proofs.ChunkBytes.{read_held, read_inside}
use Rattle.text_filter.proofs.chunks.read_more.Goals as goal
use Rattle.text_filter.proofs.chunks.read_more.Goals.{then-kept-len+in_ok-resize, else-kept-len}

pub returns-in-Ok-clause-ok : goal.returns-in-Ok-clause-ok
returns-in-Ok-clause-ok g c =
    let kept = c.args.kept in
    let count = c.in-Ok.count in
    let spare : kept < length c.if-kept-len.chunk.items =
    elim c.if-kept-len.branch [
      | then-kept-len+in_ok-resize w ↦ subst (λ v. kept < length v.items) (sym w.chunk-is) (grind arith)
      | else-kept-len w ↦ subst (λ v. kept < length v.items) (sym w.chunk-is) (grind arith)
    ] in
    let stays : take kept c.if-kept-len.chunk.items ≡ take kept c.args.chunk.now.items =
    elim c.if-kept-len.branch [
      | then-kept-len+in_ok-resize w ↦ subst (λ v. take kept v.items ≡ take kept c.args.chunk.now.items) (sym w.chunk-is) (grind (arith, common_steps))
      | else-kept-len w ↦ ap (λ v. take kept v.items) w.chunk-is
    ] in
    let inside : kept ≤ length c.deref_mut.result.now = omega (arith, spare, ap length c.deref_mut.ensures.value) in
    let small : count ≤ length c.take.new.into = c.in-Ok.ensures.bound in
    let fits : kept + count ≤ c.if-kept-len.chunk.len = omega (arith, inside, small) in
    record {
      piece = take count c.take.new.into;
      low = omega arith;
      inside = read_inside kept count _ _ c.take.new.into _ _ inside small fits;
      chunk = read_held kept count _ c.args.chunk.now.items _ c.take.new.into _ _ inside (ap (take kept) c.deref_mut.ensures.value ∙ stays) small fits;
      consumed = c.in-Ok.ensures.gives;
      ended = λ same. c.in-Ok.ensures.end (omega (arith, same)) (omega (arith, spare));
    }
