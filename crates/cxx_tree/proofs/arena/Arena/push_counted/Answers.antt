use Rattle.std.proofs.Common.{◌≡◌, List, [], ◌∷◌, ◌++◌, ◌∙◌, sym, subst, ap, refl, arith, ◌+◌, length, length-append}
use Rattle.std.proofs.lemmas.List.{map-append, length-map}
use Rattle.cxx_tree.specs.declared.arena.Entry as entry
use Rattle.cxx_tree.specs.declared.node.Node.{Node}
use Rattle.cxx_tree.specs.Tree.{Tree}
use Rattle.cxx_tree.specs.Measure.{measure}
use Rattle.cxx_tree.specs.Counts.{AreCounted, Row, AreExact}
use Rattle.cxx_tree.specs.Stored.{Store, forest, size, tree_of, IsBelow}
use Rattle.cxx_tree.specs.View.{store_of, nodes_of, AreStored, HasNodes}
use Rattle.cxx_tree.proofs.Forest.{pushed-forest, stored-push, below-more}
use Rattle.cxx_tree.proofs.Measured.{counted-push, row-fit}
use Rattle.cxx_tree.proofs.Grown.{Makes-refused, Makes-node, Grows-same, Grows-push, new-tree}
use Rattle.cxx_tree.proofs.arena.Arena.push_counted.Goals as goal

-- a store whose entries are others
abbrev with_entries : Store → List entry.Entry → Store
with_entries s es = record { nodes = nodes_of es; held = s.held; saved = s.saved; pending = s.pending; limit = s.limit }

nodes-push : (es ds : List entry.Entry) (e : entry.Entry) → ds ≡ es ++ e ∷ [] → nodes_of ds ≡ nodes_of es ++ e.node ∷ []
nodes-push es ds e p = ap nodes_of p ∙ map-append (λ (d : entry.Entry). d.node) es (e ∷ [])

pub returns-then-index-self-clause-makes : goal.returns-then-index-self-clause-makes
returns-then-index-self-clause-makes c =
    let a = c.args.self.now in
    let s = store_of c.self.inside in
    Makes-refused a s (tree_of a.held (forest a) c.args.node) (Grows-same a s c.self.view_is)

pub returns-in-Err-clause-makes : goal.returns-in-Err-clause-makes
returns-in-Err-clause-makes c =
    let a = c.args.self.now in
    let s = store_of c.self.inside in
    let same = ap (with_entries s) (c.in-Err.ensures {u = tt}).items ∙ c.self.view_is in
    Makes-refused a (with_entries s c.push.new.self.items) (tree_of a.held (forest a) c.args.node) (Grows-same a _ same)

pub invariant_of-self-2 : goal.invariant_of-self-2
invariant_of-self-2 c =
    let s = store_of c.self.inside in
    let es = c.self.inside.entries.items in
    let node : Node = c.args.node in
    let t : Tree = tree_of s.held (forest s) node in
    let below = subst (λ (r : Store). IsBelow r.held (size r) node) (sym c.self.view_is) c.requires.below in
    let kept : Row c.args.counts (measure t) × AreExact (measure t) =
    subst (λ (r : Store). Row c.args.counts (measure (tree_of r.held (forest r) node)) × AreExact (measure (tree_of r.held (forest r) node))) (sym c.self.view_is)
    (c.requires.counts, c.requires.exact) in
    let e : entry.Entry = record { node = node; counts = c.args.counts } in
    let items = (c.in-Ok.ensures {u = tt}).items in
    let nodes = nodes-push es c.push.new.self.items e items in
    let b = with_entries s c.push.new.self.items in
    let grown : forest b ≡ forest s ++ t ∷ [] = pushed-forest s b node nodes refl in
    let long : size b ≡ size s + 1 = ap length nodes ∙ length-append s.nodes (node ∷ []) in
    let w = c.self.invariant.2.within in
    let has = c.self.invariant.3 in (
      subst (AreStored s.held 0) (sym nodes) (stored-push s.held s.nodes node (size s) refl c.self.invariant.0 below),
      subst (AreCounted c.push.new.self.items) (sym grown)
          (subst (λ (ds : List entry.Entry). AreCounted ds (forest s ++ t ∷ [])) (sym items)
          (counted-push es (forest s) e t c.self.invariant.1 kept.0 kept.1)),
      record {
        within =
            record {
              nodes = omega (arith, long, c.if-index-self.false, c.len-index.ensures, length-map es (λ (d : entry.Entry). d.node));
              items = w.items;
              parts = w.parts;
              texts = w.texts;
              saved = w.saved;
              pending = w.pending;
            };
        small = c.self.invariant.2.small;
      },
      record {
        saved = below-more (size s) (size b) s.saved (omega (arith, long)) has.saved;
        pending = below-more (size s) (size b) s.pending (omega (arith, long)) has.pending;
      },
    )

pub returns-clause-forest : goal.returns-clause-forest
returns-clause-forest c =
    let s = store_of c.self.inside in
    let b = with_entries s c.push.new.self.items in
    let nodes = nodes-push c.self.inside.entries.items c.push.new.self.items _ (c.in-Ok.ensures {u = tt}).items in
    subst (λ (r : Store). forest b ≡ forest r ++ tree_of r.held (forest r) c.args.node ∷ []) c.self.view_is (pushed-forest s b c.args.node nodes refl)

pub returns-clause-makes : goal.returns-clause-makes
returns-clause-makes c =
    let a = c.args.self.now in
    let s = store_of c.self.inside in
    let es = c.self.inside.entries.items in
    let b = with_entries s c.push.new.self.items in
    let t : Tree = tree_of a.held (forest a) c.args.node in
    let nodes = nodes-push es c.push.new.self.items _ (c.in-Ok.ensures {u = tt}).items in
    let long : size b ≡ size a + 1 = ap length nodes ∙ length-append s.nodes (c.args.node ∷ []) ∙ ap (λ (r : Store). size r + 1) c.self.view_is in
    let index : c.len-index.result ≡ size a = omega (arith, c.len-index.ensures, ap size c.self.view_is, length-map es (λ (d : entry.Entry). d.node), c.self.inside.entries.ok) in
    let made = returns-clause-forest c in
    let has = subst HasNodes c.self.view_is c.self.invariant.3 in
    Makes-node a b t c.len-index.result (omega (arith, long, index)) (new-tree a b t c.len-index.result index made)
    (Grows-push a b t has long made (ap (λ (r : Store). r.held) c.self.view_is) (ap (λ (r : Store). r.saved) c.self.view_is) (ap (λ (r : Store). r.pending) c.self.view_is) (ap (λ (r : Store). r.limit) c.self.view_is))
    (row-fit _ _ c.requires.counts)
