use Rattle.std.proofs.lemmas.Result.{IfOk-weaker}
use Rattle.demangle_text.proofs.Laws.{StaysInPlace-edit}
use Rattle.demangle_edit.proofs.types.wrap_token.Goals as goal

-- the piece stays where it stands
pub returns-then-is_none-clause-in_place : goal.returns-then-is_none-clause-in_place
returns-then-is_none-clause-in_place c = IfOk-weaker c.append.result _ _ (λ p k. StaysInPlace-edit _ _ _ _ _ k) c.append.ensures.edit_of

pub returns-then-has_group-clause-in_place : goal.returns-then-has_group-clause-in_place
returns-then-has_group-clause-in_place c = IfOk-weaker c.insert.result _ _ (λ p k. StaysInPlace-edit _ _ _ _ _ k) c.insert.ensures.edit_of

pub returns-else-has_group-clause-in_place : goal.returns-else-has_group-clause-in_place
returns-else-has_group-clause-in_place c = IfOk-weaker c.open_group.result _ _ (λ p k. StaysInPlace-edit _ _ _ _ _ k) c.open_group.ensures.edit_of
