use Rattle.std.proofs.Common.{arith}
use Rattle.std.proofs.lemmas.Grind.{common_steps}
use Rattle.std.proofs.lemmas.Result.{IfOk-weaker}
use Rattle.demangle_text.proofs.Laws.{IsEdit-trans, StaysInPlace-edit, StaysInPlace-trans, StaysInPlace-of}
use Rattle.demangle_edit.proofs.names.tag.Goals as goal

-- the piece stays where it stands
pub returns-clause-in_place : goal.returns-clause-in_place
returns-clause-in_place c =
    let at_opened = StaysInPlace-of _ _ c.args.name c.plain-plain.result _ c.plain-plain.ensures.stands (StaysInPlace-edit _ _ _ _ _ c.in-Ok.ensures.edit_of) in
    let at_filled = StaysInPlace-trans _ _ _ _ _ _ c.in-Ok.ensures.edit at_opened (StaysInPlace-edit _ _ _ _ _ c.in-Ok-append.ensures.edit_of) in
    IfOk-weaker c.append-3.result _ _ (λ p k. StaysInPlace-trans _ _ _ _ _ _
    (IsEdit-trans _ _ _ c.in-Ok.ensures.edit c.in-Ok-append.ensures.edit) at_filled
    (StaysInPlace-edit _ _ _ _ _ k)) c.append-3.ensures.edit_of

pub returns-clause-shape : goal.returns-clause-shape
returns-clause-shape c = grind (arith, common_steps)
