use Rattle.std.proofs.Common.{ℕ, List, ◌++◌, codes, ap, ◌∙◌, subst, IfOk}
use Rattle.demangle_quals.specs.Quals.{words_text}
use Rattle.demangle_text.specs.declared.pieces.Place.TheVariants.{End}
use Rattle.demangle_text.specs.Shape.{Shape, appended}
use Rattle.demangle_text.specs.State.{shape, Lives}
use Rattle.demangle_edit.proofs.Insertions.{inserted_thrice}
use Rattle.std.proofs.lemmas.Result.{IfOk-weaker}
use Rattle.demangle_text.proofs.Laws.{IsEdit-trans, StaysInPlace-edit, StaysInPlace-trans}
use Rattle.demangle_edit.proofs.lists.close_params.Goals as goal

pub returns-clause-shape : goal.returns-clause-shape
returns-clause-shape c =
    let s = shape c.args.buf.now c.args.list in
    let words = c.words.result.now in
    let reference = c.reference_bytes.result.now in
    let is = ap (appended reference) (c.in-Ok-append.ensures.shape.shape_is ∙ ap (appended words) c.in-Ok.ensures.shape.shape_is)
    ∙ inserted_thrice End (codes ")") words reference s (λ e. cc) tt
    ∙ ap (λ (w : List ℕ). appended (codes ")" ++ (w ++ reference)) s) c.words.ensures.value
    ∙ ap (λ (r : List ℕ). appended (codes ")" ++ (words_text c.args.quals ++ r)) s) c.reference_bytes.ensures.value in
    subst (λ (t : Shape). IfOk c.append-3.result (λ p. Lives c.append-3.new.self p t)) is c.append-3.ensures.shape

-- the piece stays where it stands
pub returns-clause-in_place : goal.returns-clause-in_place
returns-clause-in_place c =
    let at_closed = StaysInPlace-edit _ _ _ _ _ c.in-Ok.ensures.edit_of in
    let at_worded = StaysInPlace-trans _ _ _ _ _ _ c.in-Ok.ensures.edit at_closed (StaysInPlace-edit _ _ _ _ _ c.in-Ok-append.ensures.edit_of) in
    IfOk-weaker c.append-3.result _ _ (λ p k. StaysInPlace-trans _ _ _ _ _ _
    (IsEdit-trans _ _ _ c.in-Ok.ensures.edit c.in-Ok-append.ensures.edit) at_worded
    (StaysInPlace-edit _ _ _ _ _ k)) c.append-3.ensures.edit_of
