use Rattle.std.proofs.Common.{ap, arith, length, length-append, length-take, ◌≤◌}
use Rattle.std.proofs.lemmas.List.{length-drop}
use Rattle.cxx_tree.specs.Stored.{size}
use Rattle.cxx_tree.specs.View.{store_of}
use Rattle.cxx_tree.proofs.Forest.{kept-held, below-drop}
use Rattle.cxx_tree.proofs.Grown.{held-more, lists-longer}
use Rattle.cxx_tree.proofs.arena.Arena.copied_from.Goals as goal

pub invariant_of-self-2 : goal.invariant_of-self-2
invariant_of-self-2 c =
    let more = (c.in_ok-extend_from_slice.ensures {u = tt}).items in
    let range = c.in_ok-range.ensures {u = tt} in
    let w = c.self.invariant.2.within in
    let few : length c.extend_from_slice.new.self.items ≤ c.self.inside.limit = omega (arith, simp (length-append, length-take, length-drop) at (ap length more), ap length c.deref.ensures.value, range.to, range.within, c.len.ensures, c.len-2.ensures) in
    kept-held c.self.inside.entries.items (store_of c.self.inside) _ c.self.invariant (lists-longer (store_of c.self.inside) _ _ more) few w.parts w.texts

pub returns-clause-forest : goal.returns-clause-forest
returns-clause-forest c =
    let s = store_of c.self.inside in
    (held-more c.self.inside.entries.items s _ _ c.self.invariant c.self.view_is (lists-longer s _ _ (c.in_ok-extend_from_slice.ensures {u = tt}).items)).0

pub returns-clause-grows : goal.returns-clause-grows
returns-clause-grows c =
    let s = store_of c.self.inside in
    (held-more c.self.inside.entries.items s _ _ c.self.invariant c.self.view_is (lists-longer s _ _ (c.in_ok-extend_from_slice.ensures {u = tt}).items)).1

pub returns-clause-below : goal.returns-clause-below
returns-clause-below c =
    let s = store_of c.self.inside in
    rw (← c.self.view_is) (below-drop c.args.from (size s) s.pending c.self.invariant.3.pending)
