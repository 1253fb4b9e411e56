use Rattle.std.proofs.Common.{arith}
use Rattle.std.proofs.lemmas.Grind.{common_steps}
use Rattle.std.proofs.Common.{◌++◌, List, ℕ, sym, subst}
use Rattle.std.proofs.lemmas.List.{append-nil}
use Rattle.demangle_text.specs.Shape.{text, plain_shape}
use Rattle.demangle_text.specs.State.{shape, Lives}
use Rattle.demangle_text.proofs.Laws.{Opens-edit, AppendsPiece-close}
use Rattle.demangle_edit.specs.declared.glue_parts.Glue.{Glue}
use Rattle.demangle_edit.specs.Calls.{part_text}
use Rattle.demangle_edit.proofs.Glued.{text_put, part_more}
use Rattle.demangle_edit.proofs.lists.glue.Goals as goal
use Rattle.demangle_edit.proofs.lists.glue.Goals.{in-Text+in-Ok-append, in-Piece+in-Ok-join}

pub loop-part-preserved : goal.loop-part-preserved
loop-part-preserved c =
    let mid = c.loop-part.buf in
    let so_far = c.loop-part.invariant in
    elim c.match-part.branch [
      | in-Text+in-Ok-append w ↦
          let new = w.append.new.self in
          let put = text_put mid new c.loop-part.all w.in-Ok-append.value w.whole-all.result _ w.in-Text.bytes.now so_far.all.shape_is
          w.in-Ok-append.ensures.shape w.whole-all.ensures.shape in
          let joins = subst (λ (p : Glue). Lives new w.whole-all.result (plain_shape (text (shape mid c.loop-part.all) ++ part_text (shape mid) p))) (sym w.in-Text.is) put in
          rw (w.buf-is, w.all-is) (record {
            run = Opens-edit _ _ _ _ so_far.run w.in-Ok-append.ensures.edit;
            all = part_more _ _ _ _ _ _ _ _ _ so_far.run c.requires.parts c.loop-part-test.true so_far.all joins;
          })
      | in-Piece+in-Ok-join w ↦
          let new = w.join.new.self in
          let next = w.in-Ok-join.value in
          let before = text (shape mid c.loop-part.all) in
          let put = subst (λ (v : List ℕ). Lives new next (plain_shape (v ++ text (shape mid w.in-Piece.piece)))) (append-nil before) w.in-Ok-join.ensures.shape in
          let joins = subst (λ (p : Glue). Lives new next (plain_shape (before ++ part_text (shape mid) p))) (sym w.in-Piece.is) put in
          rw (w.buf-is, w.all-is) (record {
            run = Opens-edit _ _ _ _ so_far.run w.in-Ok-join.ensures.edit;
            all = part_more _ _ _ _ _ _ _ _ _ so_far.run c.requires.parts c.loop-part-test.true so_far.all joins;
          })
    ]

pub returns-clause-appends : goal.returns-clause-appends
returns-clause-appends c =
    AppendsPiece-close c.args.buf.now c.loop-part.buf c.close.new.self c.open-mark.result c.close.result
    c.open-mark.ensures.mark c.loop-part.invariant.run c.close.ensures.closed c.close.ensures.stands

pub returns-clause-shape : goal.returns-clause-shape
returns-clause-shape c = grind (arith, common_steps)

pub returns-clause-edit : goal.returns-clause-edit
returns-clause-edit c = grind (arith, common_steps)

pub loop-part-init : goal.loop-part-init
loop-part-init c = grind arith
