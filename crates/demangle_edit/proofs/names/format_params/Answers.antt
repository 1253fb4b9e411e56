use Rattle.std.proofs.Common.{arith}
use Rattle.std.proofs.lemmas.Grind.{common_steps}
use Rattle.std.proofs.Common.{rules, true, List, map, ap, ◌∙◌, refl, subst, IfOk}
use Rattle.std.proofs.lemmas.List.{take_all}
use Rattle.demangle_text.specs.declared.pieces.Piece.{Piece}
use Rattle.demangle_text.specs.Shape.{Shape}
use Rattle.demangle_text.specs.State.{shape, Lives}
use Rattle.demangle_text.proofs.Laws.{Opens-edit, AppendsPiece-close}
use Rattle.demangle_edit.specs.Built.{listed_each, params_opened, params_closed}
use Rattle.demangle_edit.proofs.Built.{piece_put, params_built}
use Rattle.demangle_edit.proofs.names.format_params.Goals as goal

pub loop-i-preserved : goal.loop-i-preserved
loop-i-preserved c = record {
  run = Opens-edit _ _ _ _ c.loop-i.invariant.run c.in-Ok-append_piece.ensures.edit;
  list = piece_put _ _ _ _ _ _ _ _ _ _ _ c.if-i-eq0.between.now c.loop-i.invariant.run c.requires.params c.loop-i-test.true c.loop-i.invariant.list c.in-Ok-append_piece.ensures.shape refl (search rules);
}

-- at the end all parameters are there
pub returns-clause-shape : goal.returns-clause-shape
returns-clause-shape c =
    let old = c.args.buf.now in
    let quals = c.args.quals in
    let name = shape old c.args.name in
    let all = take_all c.loop-i.i c.args.params.now c.loop-i-test.false in
    let is = c.in-Ok-close_params.ensures.shape.shape_is ∙ ap (params_closed quals) c.loop-i.invariant.list.shape_is
    ∙ ap (λ (ps : List Piece). params_closed quals (listed_each true (params_opened name) (map (shape old) ps))) all
    ∙ params_built name (map (shape old) c.args.params.now) quals in
    subst (λ (s : Shape). IfOk c.close.result (λ p. Lives c.close.new.self p s)) is c.close.ensures.shape

pub returns-clause-appends : goal.returns-clause-appends
returns-clause-appends c =
    let run = Opens-edit _ _ _ _ c.loop-i.invariant.run c.in-Ok-close_params.ensures.edit in
    AppendsPiece-close c.args.buf.now c.close_params.new.buf c.close.new.self c.open-mark.result c.close.result
    c.open-mark.ensures.mark run c.close.ensures.closed c.close.ensures.stands

pub returns-in-Err-append_piece-clause-shape : goal.returns-in-Err-append_piece-clause-shape
returns-in-Err-append_piece-clause-shape c = grind arith

pub returns-clause-edit : goal.returns-clause-edit
returns-clause-edit c = grind (arith, common_steps)

pub loop-i-init : goal.loop-i-init
loop-i-init c = grind arith

pub append_piece-requires : goal.append_piece-requires
append_piece-requires c = grind arith

pub close-requires : goal.close-requires
close-requires c = grind arith
