use Rattle.std.proofs.lemmas.Grind.{common_steps}
use Rattle.std.proofs.Common.{◌∙◌, arith}
use Rattle.demangle_text.specs.State.{shape}
use Rattle.demangle_edit.proofs.Insertions.{piece_after, moved_from_end, moved_inside}
use Rattle.demangle_text.proofs.Laws.{JoinsInPlace-join, JoinsInPlace-named}
use Rattle.demangle_edit.proofs.appends.append_piece.Goals as goal
use Rattle.demangle_edit.proofs.appends.append_piece.Goals.{then-before-from, else-before-from}

pub returns-clause-shape : goal.returns-clause-shape
returns-clause-shape c =
    let old = c.args.buf.now in
    let after = c.join.new.self in
    let is = piece_after (shape old c.args.first) (shape old c.args.second) (shape after c.in-Ok.value) (shape after c.own_at-named.result) _ _ _ _ _ _ _
    c.in-Ok.ensures.shape.shape_is c.len-before.ensures.value c.len-len.ensures.value c.own_range-from.ensures.own
    (elim c.if-before-from.branch [
      | then-before-from w ↦ moved_from_end _ _ _ _ w.if-before-from.true w.n-is
      | else-before-from w ↦ moved_inside _ _ _ _ w.if-before-from.false (omega (arith, c.own_range-from.ensures.within, c.len-before.ensures.value)) w.n-is
    ]) c.templ-templ.ensures.value c.ctor-ctor.ensures.value c.own_at-named.ensures.shape.shape_is in
    record { living = c.with_flags.ensures.shape.living; shape_is = c.with_flags.ensures.shape.shape_is ∙ is }

-- two pieces that stand one after the other stay there
pub returns-clause-in_place : goal.returns-clause-in_place
returns-clause-in_place c =
    let joined = JoinsInPlace-join _ _ _ _ _ _ c.in-Ok.ensures.join_of in
    let at_named = JoinsInPlace-named _ _ _ _ _ c.own_at-named.result joined c.own_at-named.ensures.stands in
    JoinsInPlace-named _ _ _ _ _ c.with_flags.result at_named c.with_flags.ensures.stands

pub overflow_sub-n : goal.overflow_sub-n
overflow_sub-n c = grind (arith, common_steps)

pub own_at-named-requires-clause-within : goal.own_at-named-requires-clause-within
own_at-named-requires-clause-within c = grind (arith, common_steps)
