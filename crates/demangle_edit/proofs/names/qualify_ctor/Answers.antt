use Rattle.std.proofs.Common.{arith}
use Rattle.std.proofs.lemmas.Grind.{common_steps}
use Rattle.demangle_text.proofs.Laws.{StaysInPlace-edit, StaysInPlace-of, StaysInPlace-named}
use Rattle.demangle_edit.proofs.names.qualify_ctor.Goals as goal

-- the piece stays where it stands
pub returns-clause-in_place : goal.returns-clause-in_place
returns-clause-in_place c =
    let at_whole = StaysInPlace-of _ _ c.args.parent c.plain-name.result _ c.plain-name.ensures.stands (StaysInPlace-edit _ _ _ _ _ c.in-Ok.ensures.edit_of) in
    let at_named = StaysInPlace-named _ _ _ _ c.own_at-named.result at_whole c.own_at-named.ensures.stands in
    StaysInPlace-named _ _ _ _ c.with_flags.result at_named c.with_flags.ensures.stands

pub own_at-named-requires-clause-ordered : goal.own_at-named-requires-clause-ordered
own_at-named-requires-clause-ordered c = grind (arith, common_steps)

pub returns-clause-shape : goal.returns-clause-shape
returns-clause-shape c = grind (arith, common_steps)
