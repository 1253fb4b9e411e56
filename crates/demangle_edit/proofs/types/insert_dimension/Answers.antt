use Rattle.std.proofs.Common.{List, ℕ, ◌++◌, codes, ap, ◌∙◌, subst, IfOk, arith}
use Rattle.demangle_text.specs.Shape.{Shape, inserted}
use Rattle.demangle_text.specs.State.{shape, Lives}
use Rattle.demangle_edit.proofs.Insertions.{inserted_thrice}
use Rattle.std.proofs.lemmas.Result.{IfOk-weaker}
use Rattle.demangle_text.proofs.Laws.{IsEdit-trans, StaysInPlace-edit, StaysInPlace-trans}
use Rattle.demangle_edit.proofs.types.insert_dimension.Goals as goal

pub returns-clause-shape : goal.returns-clause-shape
returns-clause-shape c =
    let s = shape c.args.buf.now c.args.piece in
    let place = c.args.place in
    let opening = c.args.opening.now in
    let is = ap (inserted place (codes "]")) (c.in-Ok-insert.ensures.shape.shape_is ∙ ap (inserted place c.dimension_bytes-digits.result.now) c.in-Ok.ensures.shape.shape_is)
    ∙ inserted_thrice place opening c.dimension_bytes-digits.result.now (codes "]") s c.requires.not_first c.requires.fits
    ∙ ap (λ (e : List ℕ). inserted place (opening ++ (e ++ codes "]")) s) c.dimension_bytes-digits.ensures.value in
    subst (λ (t : Shape). IfOk c.insert-3.result (λ p. Lives c.insert-3.new.self p t)) is c.insert-3.ensures.shape

-- the piece stays where it stands
pub returns-clause-in_place : goal.returns-clause-in_place
returns-clause-in_place c =
    let at_opened = StaysInPlace-edit _ _ _ _ _ c.in-Ok.ensures.edit_of in
    let at_filled = StaysInPlace-trans _ _ _ _ _ _ c.in-Ok.ensures.edit at_opened (StaysInPlace-edit _ _ _ _ _ c.in-Ok-insert.ensures.edit_of) in
    IfOk-weaker c.insert-3.result _ _ (λ p k. StaysInPlace-trans _ _ _ _ _ _
    (IsEdit-trans _ _ _ c.in-Ok.ensures.edit c.in-Ok-insert.ensures.edit) at_filled
    (StaysInPlace-edit _ _ _ _ _ k)) c.insert-3.ensures.edit_of

pub insert-requires-3 : goal.insert-requires-3
insert-requires-3 c = grind arith

pub returns-clause-edit : goal.returns-clause-edit
returns-clause-edit c = grind arith
