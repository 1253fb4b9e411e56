use Rattle.std.proofs.Common.{arith}
use Rattle.demangle_text.proofs.Laws.{StaysInPlace-edit, StaysInPlace-named}
use Rattle.demangle_edit.proofs.types.open_function.Goals as goal

-- the piece stays where it stands
pub returns-then-is_none-clause-in_place : goal.returns-then-is_none-clause-in_place
returns-then-is_none-clause-in_place c =
    let at_opened = StaysInPlace-edit _ _ _ _ _ c.in-Ok.ensures.edit_of in
    let at_unflagged = StaysInPlace-named _ _ _ _ c.with_flags-unflagged.result at_opened c.with_flags-unflagged.ensures.stands in
    StaysInPlace-named _ _ _ _ c.whole.result at_unflagged c.whole.ensures.stands

pub returns-then-is_none-clause-shape : goal.returns-then-is_none-clause-shape
returns-then-is_none-clause-shape c = grind arith

pub returns-then-is_none-clause-edit : goal.returns-then-is_none-clause-edit
returns-then-is_none-clause-edit c = grind arith
