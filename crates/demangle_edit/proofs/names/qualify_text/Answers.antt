use Rattle.std.proofs.Common.{arith}
use Rattle.std.proofs.lemmas.Grind.{common_steps}
use Rattle.demangle_text.proofs.Laws.{StaysInPlace-edit, StaysInPlace-trans}
use Rattle.demangle_edit.proofs.names.qualify_text.Goals as goal

-- the piece stays where it stands
pub returns-clause-in_place : goal.returns-clause-in_place
returns-clause-in_place c =
    StaysInPlace-trans _ _ _ _ _ _ c.in-Ok.ensures.edit
    (StaysInPlace-edit _ _ _ _ _ c.in-Ok.ensures.edit_of) (StaysInPlace-edit _ _ _ _ _ c.in-Ok-append_name.ensures.edit_of)

pub returns-clause-shape : goal.returns-clause-shape
returns-clause-shape c = grind (arith, common_steps)

pub returns-clause-edit : goal.returns-clause-edit
returns-clause-edit c = grind arith
