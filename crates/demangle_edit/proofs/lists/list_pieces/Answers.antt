use Rattle.std.proofs.Common.{arith}
use Rattle.std.proofs.lemmas.Grind.{common_steps}
use Rattle.std.proofs.Common.{rules, true, List, [], map, ap, ◌∙◌, refl, subst, IfOk}
use Rattle.std.proofs.lemmas.List.{take_all}
use Rattle.demangle_text.specs.declared.pieces.Piece.{Piece}
use Rattle.demangle_text.specs.Shape.{Shape, plain_shape, whole_shape}
use Rattle.demangle_text.specs.State.{shape, Lives}
use Rattle.demangle_text.proofs.Laws.{Opens-edit, AppendsPiece-close}
use Rattle.demangle_edit.specs.Built.{listed_each}
use Rattle.demangle_edit.proofs.Built.{piece_put, pack_built}
use Rattle.demangle_edit.proofs.lists.list_pieces.Goals as goal

pub loop-i-preserved : goal.loop-i-preserved
loop-i-preserved c = record {
  run = Opens-edit _ _ _ _ c.loop-i.invariant.run c.in-Ok-append_piece.ensures.edit;
  list = piece_put _ _ _ _ _ _ _ _ _ _ _ c.if-i-eq0.between.now c.loop-i.invariant.run c.requires.pieces c.loop-i-test.true c.loop-i.invariant.list c.in-Ok-append_piece.ensures.shape refl (search rules);
}

-- at the end all pieces are listed
pub returns-clause-shape : goal.returns-clause-shape
returns-clause-shape c =
    let old = c.args.buf.now in
    let all = take_all c.loop-i.i c.args.pieces.now c.loop-i-test.false in
    let is = c.whole-whole.ensures.shape.shape_is ∙ ap whole_shape c.loop-i.invariant.list.shape_is
    ∙ ap (λ (ps : List Piece). whole_shape (listed_each true (plain_shape []) (map (shape old) ps))) all
    ∙ pack_built (map (shape old) c.args.pieces.now) in
    subst (λ (s : Shape). IfOk c.close.result (λ p. Lives c.close.new.self p s)) is c.close.ensures.shape

pub returns-clause-appends : goal.returns-clause-appends
returns-clause-appends c =
    AppendsPiece-close c.args.buf.now c.loop-i.buf c.close.new.self c.open-mark.result c.close.result
    c.open-mark.ensures.mark c.loop-i.invariant.run c.close.ensures.closed c.close.ensures.stands

pub returns-clause-kept : goal.returns-clause-kept
returns-clause-kept c = grind (arith, common_steps)

pub loop-i-init : goal.loop-i-init
loop-i-init c = grind arith
