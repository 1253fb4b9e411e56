use Rattle.std.proofs.Common.{codes, decimal, ap, ◌∙◌, subst, IfOk}
use Rattle.std.proofs.lemmas.Result.{IfOk-weaker}
use Rattle.demangle_text.specs.declared.pieces.Place.TheVariants.{End}
use Rattle.demangle_text.specs.Shape.{Shape, appended, flattened}
use Rattle.demangle_text.specs.State.{shape, Lives}
use Rattle.demangle_text.proofs.Laws.{IsEdit-trans, StaysInPlace-edit, StaysInPlace-trans, StaysInPlace-of}
use Rattle.demangle_edit.proofs.Insertions.{inserted_thrice}
use Rattle.demangle_edit.proofs.names.open_default_arg.Goals as goal

pub returns-clause-shape : goal.returns-clause-shape
returns-clause-shape c =
    let s = flattened (shape c.args.buf.now c.args.parent) in
    let digits = decimal c.args.number in
    let opened = c.in-Ok.ensures.shape.shape_is ∙ ap (appended (codes "::{default arg#")) c.plain-plain.ensures.shape.shape_is in
    let numbered = c.in-Ok-append_number.ensures.shape.shape_is ∙ ap (appended digits) opened in
    let is = ap (appended (codes "}::")) numbered ∙ inserted_thrice End (codes "::{default arg#") digits (codes "}::") s (λ e. cc) tt in
    subst (λ (t : Shape). IfOk c.append-2.result (λ p. Lives c.append-2.new.self p t)) is c.append-2.ensures.shape

-- the parent stays where it stands
pub returns-clause-in_place : goal.returns-clause-in_place
returns-clause-in_place c =
    let at_opened = StaysInPlace-of _ _ c.args.parent c.plain-plain.result _ c.plain-plain.ensures.stands (StaysInPlace-edit _ _ _ _ _ c.in-Ok.ensures.edit_of) in
    let at_numbered = StaysInPlace-trans _ _ _ _ _ _ c.in-Ok.ensures.edit at_opened c.in-Ok-append_number.ensures.in_place in
    IfOk-weaker c.append-2.result _ _ (λ p k. StaysInPlace-trans _ _ _ _ _ _
    (IsEdit-trans _ _ _ c.in-Ok.ensures.edit c.in-Ok-append_number.ensures.edit) at_numbered
    (StaysInPlace-edit _ _ _ _ _ k)) c.append-2.ensures.edit_of
