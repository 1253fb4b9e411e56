use Rattle.std.proofs.Common.{arith}
use Rattle.std.proofs.lemmas.Grind.{common_steps}
use Rattle.demangle_text.proofs.Laws.{StaysInPlace-of, StaysInPlace-named}
use Rattle.demangle_edit.proofs.types.close_function.Goals as goal

-- the piece stays where it stands
pub returns-clause-in_place : goal.returns-clause-in_place
returns-clause-in_place c =
    let at_closed = StaysInPlace-of _ _ c.args.list c.plain-plain.result _ c.plain-plain.ensures.stands c.in-Ok.ensures.in_place in
    let at_declared = StaysInPlace-named _ _ _ _ c.declare-declared.result at_closed c.declare-declared.ensures.stands in
    StaysInPlace-named _ _ _ _ c.with_flags.result at_declared c.with_flags.ensures.stands

pub returns-clause-shape : goal.returns-clause-shape
returns-clause-shape c = grind (arith, common_steps)
