use Rattle.demangle_text.proofs.Laws.{StaysInPlace-trans}
use Rattle.std.proofs.Common.{arith}
use Rattle.std.proofs.lemmas.Grind.{common_steps}
use Rattle.demangle_edit.proofs.expressions.write_literal.Goals as goal
use Rattle.demangle_edit.proofs.expressions.write_literal.Goals.{in-Boolean, in-Boolean-2, in-Null, in-Integer+in-Ok, in-Float, in-Cast+in-Ok-parenthesize}

pub returns-clause-put : goal.returns-clause-put
returns-clause-put c = elim c.match-literal_form.branch [
  | in-Boolean w ↦ grind (arith, common_steps)
  | in-Boolean-2 w ↦ grind (arith, common_steps)
  | in-Null w ↦ grind (arith, common_steps)
  | in-Integer+in-Ok w ↦ grind (arith, common_steps)
  | in-Float w ↦ grind (arith, common_steps)
  -- the text of the type stays in front
  | in-Cast+in-Ok-parenthesize w ↦
      let cast = w.in-Ok-parenthesize.ensures in
      let value = rw (← w.literal-is, c.in-Ok-literal.is, ← w.buf-is) at w.append_value-literal-in-Cast.ensures.in_place in
      let stays = StaysInPlace-trans _ _ _ _ _ _ cast.edit cast.in_place value in
      grind (arith, common_steps)
]
