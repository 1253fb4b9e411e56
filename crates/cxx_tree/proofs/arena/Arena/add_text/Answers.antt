use Rattle.std.proofs.Common.{ap, arith, length, length-append, ◌≤◌}
use Rattle.cxx_tree.specs.View.{store_of}
use Rattle.cxx_tree.proofs.Forest.{kept-held}
use Rattle.cxx_tree.proofs.Grown.{held-more, texts-longer}
use Rattle.cxx_tree.proofs.arena.Arena.add_text.Goals as goal

pub invariant_of-self-2 : goal.invariant_of-self-2
invariant_of-self-2 c =
    let more = (c.in_ok-add_short.ensures {u = tt}).ok in
    let range = c.in_ok-range_behind.ensures {u = tt} in
    let w = c.self.invariant.2.within in
    let few : length c.add_short.new.self ≤ c.self.inside.limit = omega (arith, simp length-append at (ap length more), range.to, range.within, c.len.ensures) in
    kept-held c.self.inside.entries.items (store_of c.self.inside) _ c.self.invariant (texts-longer (store_of c.self.inside) _ _ more) w.items w.parts few

pub returns-clause-forest : goal.returns-clause-forest
returns-clause-forest c =
    let s = store_of c.self.inside in
    (held-more c.self.inside.entries.items s _ _ c.self.invariant c.self.view_is (texts-longer s _ _ (c.in_ok-add_short.ensures {u = tt}).ok)).0

pub returns-clause-grows : goal.returns-clause-grows
returns-clause-grows c =
    let s = store_of c.self.inside in
    (held-more c.self.inside.entries.items s _ _ c.self.invariant c.self.view_is (texts-longer s _ _ (c.in_ok-add_short.ensures {u = tt}).ok)).1
