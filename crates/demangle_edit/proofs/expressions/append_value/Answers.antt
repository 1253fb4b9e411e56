use Rattle.std.proofs.Common.{arith}
use Rattle.std.proofs.lemmas.Grind.{common_steps}
use Rattle.demangle_text.proofs.Laws.{StaysInPlace-edit, StaysInPlace-trans, StaysInPlace-named}
use Rattle.demangle_edit.proofs.expressions.append_value.Goals as goal

-- the piece stays where it stands
pub returns-clause-in_place : goal.returns-clause-in_place
returns-clause-in_place c =
    let at_signed = StaysInPlace-edit _ _ _ _ _ c.in-Ok.ensures.edit_of in
    let at_all = StaysInPlace-trans _ _ _ _ _ _ c.in-Ok.ensures.edit at_signed (StaysInPlace-edit _ _ _ _ _ c.in-Ok-append.ensures.edit_of) in
    StaysInPlace-named _ _ _ _ c.whole.result at_all c.whole.ensures.stands

pub returns-clause-shape : goal.returns-clause-shape
returns-clause-shape c = grind (arith, common_steps)
