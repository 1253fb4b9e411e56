use Rattle.std.proofs.lemmas.Result.{IfOk-weaker}
use Rattle.demangle_text.proofs.Laws.{StaysInPlace-edit}
use Rattle.demangle_edit.proofs.lists.append_number.Goals as goal

-- the piece stays where it stands
pub returns-clause-in_place : goal.returns-clause-in_place
returns-clause-in_place c =
    IfOk-weaker c.append.result _ _ (λ p k. StaysInPlace-edit _ _ _ _ _ k) c.append.ensures.edit_of
