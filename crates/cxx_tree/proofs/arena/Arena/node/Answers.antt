use Rattle.std.proofs.Common.{◌≡◌, ◌<◌, [], ◌∙◌, sym, subst, length, ap, arith}
use Rattle.std.proofs.Math.ListN.{get_or}
use Rattle.std.proofs.lemmas.List.{get_or-map, length-map}
use Rattle.cxx_tree.specs.declared.arena.Entry as entry
use Rattle.cxx_tree.specs.declared.node.Node.{Node}
use Rattle.cxx_tree.specs.Stored.{Store, forest, trees_from, tree_of, tree_at, IsBelow}
use Rattle.cxx_tree.specs.View.{store_of, nodes_of}
use Rattle.cxx_tree.proofs.Forest.{forest-at, stored-at}
use Rattle.cxx_tree.proofs.Measured.{counted-in, row-fit}
use Rattle.cxx_tree.proofs.arena.Arena.node.Goals as goal

pub returns-clause-tree : goal.returns-clause-tree
unfolding forest
returns-clause-tree c =
    let es = c.self.inside.entries.items in
    let h = (store_of c.self.inside).held in
    let n = c.index.result.now.node in
    let small : c.args.i < length (nodes_of es) = omega (arith, c.requires.within, ap (λ (s : Store). length s.nodes) c.self.view_is) in
    let at = forest-at h (nodes_of es) c.args.i n c.self.invariant.0 small in
    let same : get_or (nodes_of es) c.args.i n ≡ n =
    get_or-map (λ (e : entry.Entry). e.node) es c.args.i c.index.result.now n (omega (arith, small, length-map es (λ (e : entry.Entry). e.node)))
    ∙ ap (λ (e : entry.Entry). e.node) (sym c.index.ensures) in
    subst (λ (s : Store). tree_at (forest s) c.args.i ≡ tree_of s.held (forest s) n) c.self.view_is (at ∙ ap (tree_of h (trees_from h [] (nodes_of es))) same)

pub returns-clause-below : goal.returns-clause-below
returns-clause-below c =
    let es = c.self.inside.entries.items in
    let h = (store_of c.self.inside).held in
    let n = c.index.result.now.node in
    let small : c.args.i < length (nodes_of es) = omega (arith, c.requires.within, ap (λ (s : Store). length s.nodes) c.self.view_is) in
    let same : get_or (nodes_of es) c.args.i n ≡ n =
    get_or-map (λ (e : entry.Entry). e.node) es c.args.i c.index.result.now n (omega (arith, small, length-map es (λ (e : entry.Entry). e.node)))
    ∙ ap (λ (e : entry.Entry). e.node) (sym c.index.ensures) in
    subst (λ (s : Store). IsBelow s.held c.args.i n) c.self.view_is
    (subst (λ (m : Node). IsBelow h c.args.i m) same (stored-at h (nodes_of es) c.args.i n c.self.invariant.0 small))

pub returns-clause-fits : goal.returns-clause-fits
returns-clause-fits c =
    row-fit _ _ (counted-in c.self.inside.entries.items (store_of c.self.inside) _ c.self.invariant.1 c.self.view_is c.args.i c.index.result.now c.requires.within).0
