use Rattle.std.proofs.Common.{arith}
use Rattle.std.proofs.lemmas.Grind.{common_steps}
use Rattle.demangle_text.proofs.Laws.{IsEdit-trans, StaysInPlace-edit, StaysInPlace-trans, StaysInPlace-named}
use Rattle.demangle_edit.proofs.lists.close_lambda.Goals as goal

-- the piece stays where it stands
pub returns-clause-in_place : goal.returns-clause-in_place
returns-clause-in_place c =
    let at_closed = StaysInPlace-edit _ _ _ _ _ c.in-Ok.ensures.edit_of in
    let at_numbered = StaysInPlace-trans _ _ _ _ _ _ c.in-Ok.ensures.edit at_closed c.in-Ok-append_number.ensures.in_place in
    let at_lambda = StaysInPlace-trans _ _ _ _ _ _
    (IsEdit-trans _ _ _ c.in-Ok.ensures.edit c.in-Ok-append_number.ensures.edit) at_numbered
    (StaysInPlace-edit _ _ _ _ _ c.in-Ok-append.ensures.edit_of) in
    StaysInPlace-named _ _ _ _ c.whole.result at_lambda c.whole.ensures.stands

pub returns-clause-shape : goal.returns-clause-shape
returns-clause-shape c = grind (arith, common_steps)
