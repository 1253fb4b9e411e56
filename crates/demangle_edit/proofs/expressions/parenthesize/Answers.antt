use Rattle.std.proofs.Common.{arith}
use Rattle.demangle_text.proofs.Laws.{StaysInPlace-edit, StaysInPlace-trans, StaysInPlace-of, StaysInPlace-named}
use Rattle.demangle_edit.proofs.expressions.parenthesize.Goals as goal

-- the piece stays where it stands
pub returns-clause-in_place : goal.returns-clause-in_place
returns-clause-in_place c =
    let at_opened = StaysInPlace-of _ _ c.args.piece c.plain-plain.result _ c.plain-plain.ensures.stands (StaysInPlace-edit _ _ _ _ _ c.in-Ok.ensures.edit_of) in
    let at_closed = StaysInPlace-trans _ _ _ _ _ _ c.in-Ok.ensures.edit at_opened (StaysInPlace-edit _ _ _ _ _ c.in-Ok-append.ensures.edit_of) in
    let at_whole = StaysInPlace-named _ _ _ _ c.whole-whole.result at_closed c.whole-whole.ensures.stands in
    StaysInPlace-named _ _ _ _ c.with_flags.result at_whole c.with_flags.ensures.stands

pub returns-clause-shape : goal.returns-clause-shape
returns-clause-shape c = grind arith

pub returns-clause-edit : goal.returns-clause-edit
returns-clause-edit c = grind arith
