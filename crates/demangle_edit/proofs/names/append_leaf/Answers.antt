use Rattle.std.proofs.Common.{arith}
use Rattle.std.proofs.lemmas.Grind.{common_steps}
use Rattle.demangle_text.proofs.Laws.{JoinsInPlace-join, JoinsInPlace-named}
use Rattle.demangle_edit.proofs.names.append_leaf.Goals as goal

-- two pieces that stand one after the other stay there
pub returns-clause-in_place : goal.returns-clause-in_place
returns-clause-in_place c =
    let joined = JoinsInPlace-join _ _ _ _ _ _ c.in-Ok.ensures.join_of in
    let at_named = JoinsInPlace-named _ _ _ _ _ c.own_at-named.result joined c.own_at-named.ensures.stands in
    JoinsInPlace-named _ _ _ _ _ c.with_flags.result at_named c.with_flags.ensures.stands

pub overflow_add-before : goal.overflow_add-before
overflow_add-before c = grind (arith, common_steps)

pub overflow_add-before-2 : goal.overflow_add-before-2
overflow_add-before-2 c = grind (arith, common_steps)

pub own_at-named-requires-clause-within : goal.own_at-named-requires-clause-within
own_at-named-requires-clause-within c = grind (arith, common_steps)

pub own_at-named-requires-clause-living : goal.own_at-named-requires-clause-living
own_at-named-requires-clause-living c = grind arith

pub own_at-named-requires-clause-kind : goal.own_at-named-requires-clause-kind
own_at-named-requires-clause-kind c = grind arith

pub returns-clause-edit : goal.returns-clause-edit
returns-clause-edit c = grind arith
