use Rattle.std.proofs.Common.{ℕ, ◌≡◌, ◌+◌, false, List, ◌∙◌, sym, subst, ap, arith, rules, refl}
use Rattle.std.proofs.Math.ListN.{get_or}
use Rattle.cxx_tree.specs.declared.node.Part.{Part}
use Rattle.cxx_tree.specs.Tree.{Tree, Trees, Parts}
use Rattle.cxx_tree.specs.Measure.{measure, measure_each, measure_parts}
use Rattle.cxx_tree.specs.Stored.{forest, size, tree_at, trees_at, parts_of, tree_of, plain_tree}
use Rattle.cxx_tree.specs.Bind.{bind, bind_each, bind_parts, bound, binding_at, bound_at, node_at}
use Rattle.cxx_tree.proofs.Grown.{Makes-node, Grows-same, Grows-trans}
use Rattle.cxx_tree.proofs.Forest.{below-more}
use Rattle.cxx_tree.proofs.Making.{option_at-grows, trees_in-grows, list_below-grows}
use Rattle.cxx_tree.proofs.Replaced.{stays, Makes-err, Makes-grows, Makes-below, Makes-tree, Makes-unfit, few-pushed, some-params, limit_second, limit_of, tree-after, list-after, parts-after, all-push, each-unfit, is_listed, listed_below, list-few, list-bound, list-end, list-below, parts-unfit, is_parted, parted_below, part-after, parts-few, parts-bound, parts-end, all_parts-grows, list-all, parts-all, list-ready, parts-ready, part-ready, limit_third, three_same}
use Rattle.cxx_tree.proofs.Measured.{row-fit}
use Rattle.cxx_tree.proofs.+binding.Goals as goal

pub bind::bind-returns-then-measure-eq0-clause-makes : goal.bind::bind-returns-then-measure-eq0-clause-makes
bind::bind-returns-then-measure-eq0-clause-makes t c =
    let a = c.args.arena.now in
    let same =
    stays c.measure.result (binding_at a c.args.binding.now) (tree_at (forest a) c.args.i) c.measure.ensures.counts
    c.if-measure-eq0.true in
    Makes-node a a (bound_at a c.args.binding.now c.args.i) c.args.i c.requires.within same (Grows-same a a refl)
    (ap (λ (u : Tree). (measure u).fits) (sym same) ∙ row-fit _ _ c.measure.ensures.counts)

pub bind::bind-returns-then-measure-eq0-clause-bound : goal.bind::bind-returns-then-measure-eq0-clause-bound
bind::bind-returns-then-measure-eq0-clause-bound t c =
    stays c.measure.result (binding_at c.args.arena.now c.args.binding.now)
    (tree_at (forest c.args.arena.now) c.args.i) c.measure.ensures.counts c.if-measure-eq0.true

pub bind::bind-returns-in-Err-clause-makes : goal.bind::bind-returns-in-Err-clause-makes
bind::bind-returns-in-Err-clause-makes t c =
    let a = c.args.arena.now in
    Makes-err c.in-Err.error a c.bind_node.new.arena
    (bind (binding_at a c.args.binding.now) (node_at a c.node-node.result.now)) (bound_at a c.args.binding.now c.args.i)
    (c.in-Err.ensures {u = tt}).grows (c.in-Err.ensures {u = tt}).limit
    (ap (bind (binding_at a c.args.binding.now)) (sym c.node-node.ensures.tree))

pub bind::bind-returns-in-Some-clause-grows : goal.bind::bind-returns-in-Some-clause-grows
bind::bind-returns-in-Some-clause-grows t c =
    Makes-grows _ _ _ _ c.replaced.ensures.makes

pub bind::bind-returns-in-Some-clause-below : goal.bind::bind-returns-in-Some-clause-below
bind::bind-returns-in-Some-clause-below t c =
    Makes-below _ _ _ _ c.replaced.ensures.makes

pub bind::bind-returns-in-Some-clause-bound : goal.bind::bind-returns-in-Some-clause-bound
unfolding bind tree_of plain_tree
bind::bind-returns-in-Some-clause-bound t c =
    let a = c.args.arena.now in
    let is : tree_at (forest a) c.args.i ≡ tree_of a.held (forest a) c.node-node.result.now = c.node-node.ensures.tree in
    let e : bound (binding_at a c.args.binding.now) c.in-Some.level c.in-Some.index
    ≡ bound_at a c.args.binding.now c.args.i =
    sym (ap (bind (binding_at a c.args.binding.now))
    (is ∙ ap (tree_of a.held (forest a)) (c.in-Some.ensures {u = tt}).value)) in
    Makes-tree _ _ _ _ _ c.replaced.ensures.makes e

pub bind::bind-returns-in-Some-clause-limit : goal.bind::bind-returns-in-Some-clause-limit
unfolding bind tree_of plain_tree
bind::bind-returns-in-Some-clause-limit t c =
    let a = c.args.arena.now in
    let is : tree_at (forest a) c.args.i ≡ tree_of a.held (forest a) c.node-node.result.now = c.node-node.ensures.tree in
    let e : bound (binding_at a c.args.binding.now) c.in-Some.level c.in-Some.index
    ≡ bound_at a c.args.binding.now c.args.i =
    sym (ap (bind (binding_at a c.args.binding.now))
    (is ∙ ap (tree_of a.held (forest a)) (c.in-Some.ensures {u = tt}).value)) in
    Makes-unfit _ _ _ _ _ c.replaced.ensures.makes e

pub bind::bind-returns-in-Ok-clause-few : goal.bind::bind-returns-in-Ok-clause-few
bind::bind-returns-in-Ok-clause-few t c =
    let a = c.args.arena.now in
    let some =
    some-params c.measure.result (measure (tree_at (forest a) c.args.i)) c.measure.ensures.counts
    c.if-measure-eq0.false in
    let same = ap (λ (u : Tree). (measure u).params) c.node-node.ensures.tree in
    let more = few-pushed c.push.result c.bind_node.new.arena c.push.new.self c.push.ensures.size c.push.ensures.err in
    omega (arith, some, same, more, (c.in-Ok.ensures {u = tt}).few)

pub bind::bind-returns-in-Ok-clause-grows : goal.bind::bind-returns-in-Ok-clause-grows
bind::bind-returns-in-Ok-clause-grows t c =
    Grows-trans c.args.arena.now c.bind_node.new.arena c.push.new.self (c.in-Ok.ensures {u = tt}).grows
    (Makes-grows _ _ _ _ c.push.ensures.makes)

pub bind::bind-returns-in-Ok-clause-bound : goal.bind::bind-returns-in-Ok-clause-bound
bind::bind-returns-in-Ok-clause-bound t c =
    let a = c.args.arena.now in
    Makes-tree _ _ _ _ _ c.push.ensures.makes
    ((c.in-Ok.ensures {u = tt}).bound
    ∙ ap (bind (binding_at a c.args.binding.now)) (sym c.node-node.ensures.tree))

pub children::bind_pair-returns-in-Err-bind-clause-limit : goal.children::bind_pair-returns-in-Err-bind-clause-limit
children::bind_pair-returns-in-Err-bind-clause-limit t c =
    let same =
    tree-after c.args.arena.now c.bind.new.arena c.args.binding.now c.args.b (c.in-Ok.ensures {u = tt}).grows
    c.requires.named (omega arith) in
    limit_second _ _ c.in-Err-bind.error _ _ _ (c.in-Err-bind.ensures {u = tt}).limit
    (ap (λ (u : Tree). (measure u).fits) same.1)

pub children::bind_pair-returns-clause-bound : goal.children::bind_pair-returns-clause-bound
children::bind_pair-returns-clause-bound t c =
    let same =
    tree-after c.args.arena.now c.bind.new.arena c.args.binding.now c.args.b (c.in-Ok.ensures {u = tt}).grows
    c.requires.named (omega arith) in (
      (c.in-Ok-bind.ensures {u = tt}).grows.same c.in-Ok.value (c.in-Ok.ensures {u = tt}).below
          ∙ (c.in-Ok.ensures {u = tt}).bound,
      (c.in-Ok-bind.ensures {u = tt}).bound ∙ same.1,
    )

pub children::bind_with_list-returns-in-Err-bind_list-clause-few : goal.children::bind_with_list-returns-in-Err-bind_list-clause-few
children::bind_with_list-returns-in-Err-bind_list-clause-few t c =
    let same = list-after _ _ c.args.binding.now c.args.i c.args.list (c.in-Ok.ensures {u = tt}).grows c.requires.named c.requires.within c.requires.below.1 in
    omega (
      arith,
      ap (λ (u : Trees). (measure_each u).params) same.0,
      (c.in-Ok.ensures {u = tt}).few,
      (c.in-Err-bind_list.ensures {u = tt}).few,
    )

pub children::bind_with_list-returns-in-Err-bind_list-clause-limit : goal.children::bind_with_list-returns-in-Err-bind_list-clause-limit
children::bind_with_list-returns-in-Err-bind_list-clause-limit t c =
    let same = list-after _ _ c.args.binding.now c.args.i c.args.list (c.in-Ok.ensures {u = tt}).grows c.requires.named c.requires.within c.requires.below.1 in
    limit_second _ _ c.in-Err-bind_list.error _ _ _ (c.in-Err-bind_list.ensures {u = tt}).limit
    (ap (λ (u : Trees). (measure_each u).fits) same.1)

pub children::bind_with_list-returns-clause-few : goal.children::bind_with_list-returns-clause-few
children::bind_with_list-returns-clause-few t c =
    let same = list-after _ _ c.args.binding.now c.args.i c.args.list (c.in-Ok.ensures {u = tt}).grows c.requires.named c.requires.within c.requires.below.1 in
    omega (
      arith,
      ap (λ (u : Trees). (measure_each u).params) same.0,
      (c.in-Ok.ensures {u = tt}).few,
      (c.in-Ok-bind_list.ensures {u = tt}).few,
    )

pub children::bind_with_list-returns-clause-bound : goal.children::bind_with_list-returns-clause-bound
children::bind_with_list-returns-clause-bound t c =
    let same = list-after _ _ c.args.binding.now c.args.i c.args.list (c.in-Ok.ensures {u = tt}).grows c.requires.named c.requires.within c.requires.below.1 in (
      (c.in-Ok-bind_list.ensures {u = tt}).grows.same c.in-Ok.value (c.in-Ok.ensures {u = tt}).below
          ∙ (c.in-Ok.ensures {u = tt}).bound,
      (c.in-Ok-bind_list.ensures {u = tt}).bound ∙ same.1,
    )

pub children::bind_with_parts-returns-in-Err-bind_parts-clause-few : goal.children::bind_with_parts-returns-in-Err-bind_parts-clause-few
children::bind_with_parts-returns-in-Err-bind_parts-clause-few t c =
    let same = parts-after _ _ c.args.binding.now c.args.i c.args.parts (c.in-Ok.ensures {u = tt}).grows c.requires.named c.requires.within c.requires.below.1 in
    omega (
      arith,
      ap (λ (u : Parts). (measure_parts false u).params) same.0,
      (c.in-Ok.ensures {u = tt}).few,
      (c.in-Err-bind_parts.ensures {u = tt}).few false,
    )

pub children::bind_with_parts-returns-in-Err-bind_parts-clause-limit : goal.children::bind_with_parts-returns-in-Err-bind_parts-clause-limit
children::bind_with_parts-returns-in-Err-bind_parts-clause-limit t c =
    let same = parts-after _ _ c.args.binding.now c.args.i c.args.parts (c.in-Ok.ensures {u = tt}).grows c.requires.named c.requires.within c.requires.below.1 in
    limit_second _ _ c.in-Err-bind_parts.error _ _ _ (λ q. (c.in-Err-bind_parts.ensures {u = tt}).limit q false)
    (ap (λ (u : Parts). (measure_parts false u).fits) same.1)

pub children::bind_with_parts-returns-clause-few : goal.children::bind_with_parts-returns-clause-few
children::bind_with_parts-returns-clause-few t c =
    let same = parts-after _ _ c.args.binding.now c.args.i c.args.parts (c.in-Ok.ensures {u = tt}).grows c.requires.named c.requires.within c.requires.below.1 in
    omega (
      arith,
      ap (λ (u : Parts). (measure_parts false u).params) same.0,
      (c.in-Ok.ensures {u = tt}).few,
      (c.in-Ok-bind_parts.ensures {u = tt}).few false,
    )

pub children::bind_with_parts-returns-clause-bound : goal.children::bind_with_parts-returns-clause-bound
children::bind_with_parts-returns-clause-bound t c =
    let same = parts-after _ _ c.args.binding.now c.args.i c.args.parts (c.in-Ok.ensures {u = tt}).grows c.requires.named c.requires.within c.requires.below.1 in (
      (c.in-Ok-bind_parts.ensures {u = tt}).grows.same c.in-Ok.value (c.in-Ok.ensures {u = tt}).below
          ∙ (c.in-Ok.ensures {u = tt}).bound,
      (c.in-Ok-bind_parts.ensures {u = tt}).bound ∙ same.1,
    )

pub children::bind_three-returns-in-Err-bind_parts-clause-few : goal.children::bind_three-returns-in-Err-bind_parts-clause-few
children::bind_three-returns-in-Err-bind_parts-clause-few t c =
    let same = parts-after _ _ c.args.binding.now c.args.i c.args.parts (c.in-Ok.ensures {u = tt}).grows c.requires.named c.requires.within c.requires.below.2 in
    omega (
      arith,
      ap (λ (u : Parts). (measure_parts false u).params) same.0,
      (c.in-Ok.ensures {u = tt}).few,
      (c.in-Err-bind_parts.ensures {u = tt}).few false,
    )

pub children::bind_three-returns-in-Err-bind_parts-clause-limit : goal.children::bind_three-returns-in-Err-bind_parts-clause-limit
children::bind_three-returns-in-Err-bind_parts-clause-limit t c =
    let same = parts-after _ _ c.args.binding.now c.args.i c.args.parts (c.in-Ok.ensures {u = tt}).grows c.requires.named c.requires.within c.requires.below.2 in
    limit_third _ _ c.in-Err-bind_parts.error _ _ _ _ (λ q. (c.in-Err-bind_parts.ensures {u = tt}).limit q false)
    (ap (λ (u : Parts). (measure_parts false u).fits) same.1)

pub children::bind_three-returns-clause-few : goal.children::bind_three-returns-clause-few
children::bind_three-returns-clause-few t c =
    let same = parts-after _ _ c.args.binding.now c.args.i c.args.parts (c.in-Ok.ensures {u = tt}).grows c.requires.named c.requires.within c.requires.below.2 in
    omega (
      arith,
      ap (λ (u : Parts). (measure_parts false u).params) same.0,
      (c.in-Ok.ensures {u = tt}).few,
      (c.in-Ok-bind_parts.ensures {u = tt}).few false,
    )

pub children::bind_three-returns-clause-bound : goal.children::bind_three-returns-clause-bound
children::bind_three-returns-clause-bound t c =
    let same = parts-after _ _ c.args.binding.now c.args.i c.args.parts (c.in-Ok.ensures {u = tt}).grows c.requires.named c.requires.within c.requires.below.2 in (
      (c.in-Ok-bind_parts.ensures {u = tt}).grows.same c.in-Ok.value.0 (c.in-Ok.ensures {u = tt}).below.0
          ∙ (c.in-Ok.ensures {u = tt}).bound.0,
      trees_in-grows c.bind_with_list.new.arena c.bind_parts.new.arena (c.in-Ok-bind_parts.ensures {u = tt}).grows
          c.in-Ok.value.1 (c.in-Ok.ensures {u = tt}).below.1 ∙ (c.in-Ok.ensures {u = tt}).bound.1,
      (c.in-Ok-bind_parts.ensures {u = tt}).bound ∙ same.1,
    )

pub children::bind_four-returns-in-Err-bind_three-clause-few : goal.children::bind_four-returns-in-Err-bind_three-clause-few
children::bind_four-returns-in-Err-bind_three-clause-few t c =
    let one = tree-after _ _ c.args.binding.now c.args.a (c.in-Ok.ensures {u = tt}).grows c.requires.named (omega arith) in
    let two = list-after _ _ c.args.binding.now c.args.i c.args.list (c.in-Ok.ensures {u = tt}).grows c.requires.named c.requires.within c.requires.below.2 in
    let three = parts-after _ _ c.args.binding.now c.args.i c.args.parts (c.in-Ok.ensures {u = tt}).grows c.requires.named c.requires.within c.requires.below.3 in
    omega (
      arith,
      ap (λ (u : Tree). (measure u).params) one.0,
      ap (λ (u : Trees). (measure_each u).params) two.0,
      ap
          (λ (u : Parts). (measure_parts false u).params) three.0,
      (c.in-Ok.ensures {u = tt}).few,
      (c.in-Err-bind_three.ensures {u = tt}).few,
    )

pub children::bind_four-returns-clause-few : goal.children::bind_four-returns-clause-few
children::bind_four-returns-clause-few t c =
    let one = tree-after _ _ c.args.binding.now c.args.a (c.in-Ok.ensures {u = tt}).grows c.requires.named (omega arith) in
    let two = list-after _ _ c.args.binding.now c.args.i c.args.list (c.in-Ok.ensures {u = tt}).grows c.requires.named c.requires.within c.requires.below.2 in
    let three = parts-after _ _ c.args.binding.now c.args.i c.args.parts (c.in-Ok.ensures {u = tt}).grows c.requires.named c.requires.within c.requires.below.3 in
    omega (
      arith,
      ap (λ (u : Tree). (measure u).params) one.0,
      ap (λ (u : Trees). (measure_each u).params) two.0,
      ap
          (λ (u : Parts). (measure_parts false u).params) three.0,
      (c.in-Ok.ensures {u = tt}).few,
      (c.in-Ok-bind_three.ensures {u = tt}).few,
    )

pub children::bind_four-returns-in-Err-bind_three-clause-limit : goal.children::bind_four-returns-in-Err-bind_three-clause-limit
children::bind_four-returns-in-Err-bind_three-clause-limit t c =
    let one = tree-after _ _ c.args.binding.now c.args.a (c.in-Ok.ensures {u = tt}).grows c.requires.named (omega arith) in
    let two = list-after _ _ c.args.binding.now c.args.i c.args.list (c.in-Ok.ensures {u = tt}).grows c.requires.named c.requires.within c.requires.below.2 in
    let three = parts-after _ _ c.args.binding.now c.args.i c.args.parts (c.in-Ok.ensures {u = tt}).grows c.requires.named c.requires.within c.requires.below.3 in
    limit_second _ _ c.in-Err-bind_three.error _ _ _ (c.in-Err-bind_three.ensures {u = tt}).limit
    (three_same one.1 two.1 three.1)

pub children::bind_four-returns-clause-bound : goal.children::bind_four-returns-clause-bound
children::bind_four-returns-clause-bound t c =
    let one = tree-after _ _ c.args.binding.now c.args.a (c.in-Ok.ensures {u = tt}).grows c.requires.named (omega arith) in
    let two = list-after _ _ c.args.binding.now c.args.i c.args.list (c.in-Ok.ensures {u = tt}).grows c.requires.named c.requires.within c.requires.below.2 in
    let three = parts-after _ _ c.args.binding.now c.args.i c.args.parts (c.in-Ok.ensures {u = tt}).grows c.requires.named c.requires.within c.requires.below.3 in (
      option_at-grows c.bind_option.new.arena c.bind_three.new.arena (c.in-Ok-bind_three.ensures {u = tt}).grows
          c.in-Ok.value (c.in-Ok.ensures {u = tt}).below ∙ (c.in-Ok.ensures {u = tt}).bound,
      (c.in-Ok-bind_three.ensures {u = tt}).bound.0 ∙ one.1,
      (c.in-Ok-bind_three.ensures {u = tt}).bound.1 ∙ two.1,
      (c.in-Ok-bind_three.ensures {u = tt}).bound.2 ∙ three.1,
    )

pub children::bind_list-loop-t-preserved : goal.children::bind_list-loop-t-preserved
children::bind_list-loop-t-preserved t c =
    let is = is_listed c.args.arena.now c.args.i c.args.list _ _ _ c.requires.within c.requires.below c.deref-t-items.ensures.value (c.in_ok-old.ensures {u = tt}).items c.items.ensures.value in
    let made = (c.in-Ok.ensures {u = tt}) in
    let ns = (c.in-Ok-push.ensures {u = tt}).items in
    record {
      grows = Grows-trans c.args.arena.now c.loop-t.arena c.bind.new.arena c.loop-t.invariant.grows made.grows;
      few =
          list-few c.args.arena.now c.loop-t.arena c.bind.new.arena c.args.i c.args.list c.deref-t-items.result.now
          c.loop-t.t-index 0 is c.loop-t-test.true c.loop-t.invariant.grows c.loop-t.invariant.few made.few;
      below =
          all-push _ _ _ _ _
          (below-more (size c.loop-t.arena) (size c.bind.new.arena) c.loop-t.items.items made.grows.longer c.loop-t.invariant.below)
          made.below ns;
      bound =
          list-bound c.args.arena.now c.loop-t.arena c.bind.new.arena c.args.binding.now c.args.i c.args.list
          c.deref-t-items.result.now c.loop-t.items.items _ c.loop-t.t-index 0 c.in-Ok.value _ is
          c.loop-t-test.true c.loop-t.invariant.grows made.grows c.requires.named c.loop-t.invariant.below
          c.loop-t.invariant.bound made.bound ns;
    }

pub children::bind_list-returns-in-Err-push-clause-few : goal.children::bind_list-returns-in-Err-push-clause-few
children::bind_list-returns-in-Err-push-clause-few t c =
    let is = is_listed c.args.arena.now c.args.i c.args.list _ _ _ c.requires.within c.requires.below c.deref-t-items.ensures.value (c.in_ok-old.ensures {u = tt}).items c.items.ensures.value in
    list-all _ _ _ _ (size c.bind.new.arena) (c.loop-t.t-index + 1) is
    (list-few _ _ c.bind.new.arena _ _ _ c.loop-t.t-index 0 is c.loop-t-test.true c.loop-t.invariant.grows c.loop-t.invariant.few c.bind.ensures.few)

pub children::bind_list-returns-in-Err-clause-limit : goal.children::bind_list-returns-in-Err-clause-limit
children::bind_list-returns-in-Err-clause-limit t c =
    let is = is_listed c.args.arena.now c.args.i c.args.list _ _ _ c.requires.within c.requires.below c.deref-t-items.ensures.value (c.in_ok-old.ensures {u = tt}).items c.items.ensures.value in
    let low =
    listed_below c.args.arena.now c.args.i c.args.list c.deref-t-items.result.now c.loop-t.t-index 0 is
    c.loop-t-test.true in
    let same =
    tree-after c.args.arena.now c.loop-t.arena c.args.binding.now
    (get_or c.deref-t-items.result.now c.loop-t.t-index 0) c.loop-t.invariant.grows c.requires.named
    (omega (arith, low, c.requires.within)) in
    limit_of _ _ c.in-Err.error _ _ (c.in-Err.ensures {u = tt}).limit
    (λ f. subst
    (λ (js : List ℕ).
    (measure_each
    (bind_each (binding_at c.args.arena.now c.args.binding.now)
    (trees_at (forest c.args.arena.now) js))).fits ≡ false) is.same
    (each-unfit (binding_at c.args.arena.now c.args.binding.now) (forest c.args.arena.now) c.deref-t-items.result.now
    c.loop-t.t-index 0 c.loop-t-test.true (ap (λ (u : Tree). (measure u).fits) (sym same.1) ∙ f)))

pub children::bind_list-returns-clause-below : goal.children::bind_list-returns-clause-below
children::bind_list-returns-clause-below t c =
    list-below c.loop-t.arena c.list.new.self c.in_ok-list.field-0 c.loop-t.items.items c.loop-t.invariant.below
    (c.in_ok-list.ensures {u = tt}).within c.list.ensures.nodes
    ((c.in_ok-list.ensures {u = tt}).list ∙ c.deref.ensures.value)

pub children::bind_list-returns-clause-bound : goal.children::bind_list-returns-clause-bound
children::bind_list-returns-clause-bound t c =
    let is = is_listed c.args.arena.now c.args.i c.args.list _ _ _ c.requires.within c.requires.below c.deref-t-items.ensures.value (c.in_ok-old.ensures {u = tt}).items c.items.ensures.value in
    list-end c.args.arena.now c.loop-t.arena c.list.new.self c.args.binding.now c.args.i c.args.list
    c.in_ok-list.field-0 c.deref-t-items.result.now c.loop-t.items.items c.loop-t.t-index is c.loop-t-test.false
    c.loop-t.invariant.bound c.list.ensures.forest
    ((c.in_ok-list.ensures {u = tt}).list ∙ c.deref.ensures.value)

pub children::bind_parts-loop-part-preserved : goal.children::bind_parts-loop-part-preserved
children::bind_parts-loop-part-preserved t c =
    let is = is_parted c.args.arena.now c.args.i c.args.parts _ _ _ c.requires.within c.requires.below c.deref-part-items.ensures.value (c.in_ok-old.ensures {u = tt}).items c.parts_of.ensures.value in
    let made = (c.in-Ok.ensures {u = tt}) in
    let ns = (c.in-Ok-push.ensures {u = tt}).items in
    record {
      grows =
          Grows-trans c.args.arena.now c.loop-part.arena c.bind_part.new.arena c.loop-part.invariant.grows made.grows;
      few =
          λ reversed. parts-few c.args.arena.now c.loop-part.arena c.bind_part.new.arena c.args.binding.now c.args.i
          c.args.parts c.deref-part-items.result.now c.loop-part.part-index _ reversed is c.loop-part-test.true
          c.loop-part.invariant.grows c.requires.named (c.loop-part.invariant.few reversed) (made.few reversed);
      below =
          all-push _ _ _ _ _
          (all_parts-grows c.loop-part.arena c.bind_part.new.arena c.loop-part.items.items made.grows
          c.loop-part.invariant.below) made.below ns;
      bound =
          parts-bound c.args.arena.now c.loop-part.arena c.bind_part.new.arena c.args.binding.now c.args.i c.args.parts
          c.deref-part-items.result.now c.loop-part.items.items _ c.loop-part.part-index _ c.in-Ok.value _ is
          c.loop-part-test.true c.loop-part.invariant.grows made.grows c.requires.named
          c.loop-part.invariant.below c.loop-part.invariant.bound made.bound ns;
    }

pub children::bind_parts-returns-in-Err-clause-few : goal.children::bind_parts-returns-in-Err-clause-few
children::bind_parts-returns-in-Err-clause-few t c =
    let is = is_parted c.args.arena.now c.args.i c.args.parts _ _ _ c.requires.within c.requires.below c.deref-part-items.ensures.value (c.in_ok-old.ensures {u = tt}).items c.parts_of.ensures.value in
    λ reversed. parts-all _ _ _ _ (size c.bind_part.new.arena) (c.loop-part.part-index + 1) reversed is
    (parts-few _ _ c.bind_part.new.arena c.args.binding.now _ _ _ c.loop-part.part-index _ reversed is c.loop-part-test.true c.loop-part.invariant.grows c.requires.named (c.loop-part.invariant.few reversed) (c.bind_part.ensures.few reversed))

pub children::bind_parts-returns-in-Err-push-clause-few : goal.children::bind_parts-returns-in-Err-push-clause-few
children::bind_parts-returns-in-Err-push-clause-few t c =
    let is = is_parted c.args.arena.now c.args.i c.args.parts _ _ _ c.requires.within c.requires.below c.deref-part-items.ensures.value (c.in_ok-old.ensures {u = tt}).items c.parts_of.ensures.value in
    λ reversed. parts-all _ _ _ _ (size c.bind_part.new.arena) (c.loop-part.part-index + 1) reversed is
    (parts-few _ _ c.bind_part.new.arena c.args.binding.now _ _ _ c.loop-part.part-index _ reversed is c.loop-part-test.true c.loop-part.invariant.grows c.requires.named (c.loop-part.invariant.few reversed) (c.bind_part.ensures.few reversed))

pub children::bind_parts-returns-in-Err-clause-limit : goal.children::bind_parts-returns-in-Err-clause-limit
children::bind_parts-returns-in-Err-clause-limit t c =
    let is = is_parted c.args.arena.now c.args.i c.args.parts _ _ _ c.requires.within c.requires.below c.deref-part-items.ensures.value (c.in_ok-old.ensures {u = tt}).items c.parts_of.ensures.value in
    let same =
    part-after c.args.arena.now c.loop-part.arena c.args.binding.now c.args.i
    (get_or c.deref-part-items.result.now c.loop-part.part-index _) c.loop-part.invariant.grows
    c.requires.named c.requires.within
    (parted_below c.args.arena.now c.args.i c.args.parts c.deref-part-items.result.now
    c.loop-part.part-index _ is c.loop-part-test.true) in
    λ q reversed.
    limit_of _ _ c.in-Err.error _ _ (λ r. (c.in-Err.ensures {u = tt}).limit r reversed)
    (λ f. subst
    (λ (js : List Part).
    (measure_parts reversed
    (bind_parts (binding_at c.args.arena.now c.args.binding.now)
    (parts_of c.args.arena.now.held (forest c.args.arena.now) js))).fits ≡ false) is.same
    (parts-unfit (binding_at c.args.arena.now c.args.binding.now) c.args.arena.now.held (forest c.args.arena.now)
    reversed c.deref-part-items.result.now c.loop-part.part-index _ c.loop-part-test.true
    (ap (λ (u : Parts). (measure_parts reversed u).fits) (sym same.1) ∙ f))) q

pub children::bind_parts-returns-clause-bound : goal.children::bind_parts-returns-clause-bound
children::bind_parts-returns-clause-bound t c =
    let is = is_parted c.args.arena.now c.args.i c.args.parts _ _ _ c.requires.within c.requires.below c.deref-part-items.ensures.value (c.in_ok-old.ensures {u = tt}).items c.parts_of.ensures.value in
    parts-end c.args.arena.now c.loop-part.arena c.make_parts.new.self c.args.binding.now c.args.i c.args.parts
    c.in_ok-make_parts.field-0 c.deref-part-items.result.now c.loop-part.items.items c.loop-part.part-index is
    c.loop-part-test.false c.loop-part.invariant.bound c.make_parts.ensures.forest
    ((c.in_ok-make_parts.ensures {u = tt}).parts
    ∙ ap (parts_of c.loop-part.arena.held (forest c.loop-part.arena)) c.deref.ensures.value)

pub children::bind_with_list-bind_list-requires : goal.children::bind_with_list-bind_list-requires
children::bind_with_list-bind_list-requires t c =
    (search rules, list-ready _ _ c.args.binding.now c.args.i c.args.list (c.in-Ok.ensures {u = tt}).grows c.requires.within c.requires.named c.requires.below.1)

pub children::bind_with_parts-bind_parts-requires : goal.children::bind_with_parts-bind_parts-requires
children::bind_with_parts-bind_parts-requires t c =
    (search rules, parts-ready _ _ c.args.binding.now c.args.i c.args.parts (c.in-Ok.ensures {u = tt}).grows c.requires.within c.requires.named c.requires.below.1)

pub children::bind_three-bind_parts-requires : goal.children::bind_three-bind_parts-requires
children::bind_three-bind_parts-requires t c =
    (search rules, parts-ready _ _ c.args.binding.now c.args.i c.args.parts (c.in-Ok.ensures {u = tt}).grows c.requires.within c.requires.named c.requires.below.2)

pub children::bind_four-bind_three-requires : goal.children::bind_four-bind_three-requires
children::bind_four-bind_three-requires t c =
    let list = list-ready _ _ c.args.binding.now c.args.i c.args.list (c.in-Ok.ensures {u = tt}).grows c.requires.within c.requires.named c.requires.below.2 in
    let parts = parts-ready _ _ c.args.binding.now c.args.i c.args.parts (c.in-Ok.ensures {u = tt}).grows c.requires.within c.requires.named c.requires.below.3 in
    (search rules, (list.0, (list.1.0, (c.requires.below.1, list.1.1, parts.1.1))))

pub children::bind_three-returns-clause-below : goal.children::bind_three-returns-clause-below
children::bind_three-returns-clause-below t c = (
  omega (arith, (c.in-Ok.ensures {u = tt}).below.0, (c.in-Ok-bind_parts.ensures {u = tt}).grows.longer),
  list_below-grows c.bind_with_list.new.arena c.bind_parts.new.arena c.in-Ok.value.1
      (c.in-Ok-bind_parts.ensures {u = tt}).grows (c.in-Ok.ensures {u = tt}).below.1,
  (c.in-Ok-bind_parts.ensures {u = tt}).below,
)

pub children::bind_parts-bind_part-requires : goal.children::bind_parts-bind_part-requires
children::bind_parts-bind_part-requires t c =
    let is = is_parted c.args.arena.now c.args.i c.args.parts _ _ _ c.requires.within c.requires.below c.deref-part-items.ensures.value (c.in_ok-old.ensures {u = tt}).items c.parts_of.ensures.value in
    let below = parted_below _ _ _ _ c.loop-part.part-index _ is c.loop-part-test.true in
    (search rules, part-ready _ _ c.args.binding.now c.args.i _ c.loop-part.invariant.grows c.requires.within c.requires.named below)
