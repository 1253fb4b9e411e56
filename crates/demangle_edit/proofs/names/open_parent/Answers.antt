use Rattle.std.proofs.lemmas.Result.{IfOk-weaker}
use Rattle.demangle_text.proofs.Laws.{StaysInPlace-edit, StaysInPlace-of}
use Rattle.demangle_edit.proofs.names.open_parent.Goals as goal

-- the piece stays where it stands
pub returns-clause-in_place : goal.returns-clause-in_place
returns-clause-in_place c =
    IfOk-weaker c.append.result _ _ (λ p k. StaysInPlace-of _ _ c.args.parent c.plain-plain.result _ c.plain-plain.ensures.stands (StaysInPlace-edit _ _ _ _ _ k)) c.append.ensures.edit_of
