use Rattle.std.proofs.Common.{arith}
use Rattle.std.proofs.lemmas.Grind.{common_steps}
use Rattle.std.proofs.lemmas.Result.{IfOk-weaker}
use Rattle.demangle_text.specs.State.{edited}
use Rattle.demangle_text.proofs.Laws.{StaysInPlace-edit, StaysInPlace-trans, StaysInPlace-of}
use Rattle.demangle_edit.proofs.names.apply_name_qualifiers.Goals as goal

-- the piece stays where it stands
pub returns-clause-in_place : goal.returns-clause-in_place
returns-clause-in_place c =
    let at_worded = StaysInPlace-of _ _ c.args.name c.plain-plain.result _ c.plain-plain.ensures.stands (StaysInPlace-edit _ _ _ _ _ c.in-Ok.ensures.edit_of) in
    IfOk-weaker c.append-2.result _ _ (λ p k. edited (StaysInPlace-trans _ _ _ _ _ _ c.in-Ok.ensures.edit at_worded (StaysInPlace-edit _ _ _ _ _ k))) c.append-2.ensures.edit_of

pub returns-clause-shape : goal.returns-clause-shape
returns-clause-shape c = grind (arith, common_steps)
