use Rattle.std.proofs.Common.{ap, arith, length, length-append, ◌≤◌}
use Rattle.cxx_tree.specs.View.{store_of}
use Rattle.cxx_tree.proofs.Forest.{kept-held}
use Rattle.cxx_tree.proofs.Grown.{held-more, parts-longer}
use Rattle.cxx_tree.proofs.arena.Arena.parts.Goals as goal

pub invariant_of-self-2 : goal.invariant_of-self-2
invariant_of-self-2 c =
    let more = (c.in_ok-extend_from_slice.ensures {u = tt}).items in
    let range = c.in_ok-range.ensures {u = tt} in
    let w = c.self.invariant.2.within in
    let few : length c.extend_from_slice.new.self.items ≤ c.self.inside.limit = omega (arith, simp length-append at (ap length more), range.to, range.within, c.len.ensures) in
    kept-held c.self.inside.entries.items (store_of c.self.inside) _ c.self.invariant (parts-longer (store_of c.self.inside) _ _ more) w.items few w.texts

pub returns-clause-forest : goal.returns-clause-forest
returns-clause-forest c =
    let s = store_of c.self.inside in
    (held-more c.self.inside.entries.items s _ _ c.self.invariant c.self.view_is (parts-longer s _ _ (c.in_ok-extend_from_slice.ensures {u = tt}).items)).0

pub returns-clause-grows : goal.returns-clause-grows
returns-clause-grows c =
    let s = store_of c.self.inside in
    (held-more c.self.inside.entries.items s _ _ c.self.invariant c.self.view_is (parts-longer s _ _ (c.in_ok-extend_from_slice.ensures {u = tt}).items)).1
