use Rattle.demangle_text.proofs.Laws.{StaysInPlace-edit, StaysInPlace-of, StaysInPlace-named}
use Rattle.demangle_edit.proofs.lists.open_arguments.Goals as goal

-- the piece stays where it stands
pub returns-clause-in_place : goal.returns-clause-in_place
returns-clause-in_place c =
    let at_opened = StaysInPlace-of _ _ c.args.name c.plain-plain.result _ c.plain-plain.ensures.stands (StaysInPlace-edit _ _ _ _ _ c.in-Ok.ensures.edit_of) in
    StaysInPlace-named _ _ _ _ c.with_flags.result at_opened c.with_flags.ensures.stands
