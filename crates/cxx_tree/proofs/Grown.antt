-- How an arena grows.
use Rattle.std.proofs.Common.{ℕ, ◌≡◌, ◌+◌, ◌<◌, List, [], ◌∷◌, ◌++◌, length, refl, ap, ◌∙◌, arith, append_assoc, true, false, Result, Ok, Err, map, take, sym, subst}
use Rattle.std.proofs.Math.ListN.{get_or-append}
use Rattle.std.proofs.Math.Seq.{get_or-append_seam}
use Rattle.std.proofs.lemmas.List.{map-append}
use Rattle.std.specs.List.{AllByRecursion}
use Rattle.cxx_tree.specs.Tree.{Tree, named}
use Rattle.cxx_tree.specs.Stored.{Held, Store, Begins, Extends, forest, size, tree_at, trees_at, stands, saved_trees}
use Rattle.cxx_tree.specs.Kept.{IsNode, taken, KeepsNodes, SameNodes}
use Rattle.cxx_tree.specs.Grows.{Grows, Makes}
use Rattle.cxx_tree.specs.Measure.{measure}
use Rattle.cxx_tree.specs.declared.arena.Stop.{Stop}
use Rattle.cxx_tree.specs.declared.arena.Stop.TheVariants.{Memory, Unreadable}
use Rattle.cxx_tree.specs.View.{HasNodes, IsKept}
use Rattle.cxx_tree.specs.declared.arena.Entry.{Entry}
use Rattle.cxx_tree.specs.declared.node.Part.{Part}
use Rattle.cxx_tree.proofs.Forest.{length-forest, Begins-same, Extends-same, map-same, trees_at-same, holding, grown-forest, same-forest}

Begins-trans : (A : Type 0) (xs ys zs : List A) → Begins A xs ys → Begins A ys zs → Begins A xs zs
Begins-trans A xs ys zs a b = (a.0 ++ b.0, b.1 ∙ ap (λ (l : List A). l ++ b.0) a.1 ∙ append_assoc xs a.0 b.0)

pub Extends-trans : (a b c : Held) → Extends a b → Extends b c → Extends a c
Extends-trans a b c x y =
    (Begins-trans _ a.lists b.lists c.lists x.0 y.0, Begins-trans _ a.parts b.parts c.parts x.1 y.1, Begins-trans _ a.texts b.texts c.texts x.2 y.2)

-- the nodes alone
pub nodes-grow : (a b : Store) → Grows a b → KeepsNodes a b
nodes-grow a b g = record { longer = g.longer; same = g.same; extends = g.extends; limit = g.limit }

nodes-held : (a b : Store) → size b ≡ size a → forest b ≡ forest a → Extends a.held b.held → b.limit ≡ a.limit → KeepsNodes a b
nodes-held a b n f e m =
    record { longer = omega (arith, n); same = λ i h. ap (λ (ts : List Tree). tree_at ts i) f; extends = e; limit = m }

pub nodes-same : (a b : Store) → SameNodes a b → KeepsNodes a b
nodes-same a b s =
    nodes-held a b (ap length s.nodes) (same-forest a b s.nodes s.held) (Extends-same a.held b.held s.held) s.limit

pub nodes-trans : (a b c : Store) → KeepsNodes a b → KeepsNodes b c → KeepsNodes a c
nodes-trans a b c g h =
    record {
      longer = omega (arith, g.longer, h.longer);
      same = λ i below. h.same i (omega (arith, g.longer)) ∙ g.same i below;
      extends = Extends-trans a.held b.held c.held g.extends h.extends;
      limit = h.limit ∙ g.limit;
    }

-- trees of an arena that grew
pub map-stands : (a b : Store) → KeepsNodes a b → (is : List ℕ) → AllByRecursion (IsNode a) is → map (stands b) is ≡ map (stands a) is
unfolding stands
map-stands a b k is h = map-same (size a) (forest b) (forest a) k.same is h

pub saved-same : (a b : Store) → forest b ≡ forest a → b.saved ≡ a.saved → saved_trees b ≡ saved_trees a
unfolding saved_trees stands
saved-same a b f s =
    ap (map (stands b)) s ∙ ap (λ (ts : List Tree). map (tree_at ts) a.saved) f

pub saved-push : (a b : Store) (i : ℕ) → b.nodes ≡ a.nodes → b.held ≡ a.held → b.saved ≡ a.saved ++ i ∷ [] → saved_trees b ≡ saved_trees a ++ stands a i ∷ []
unfolding saved_trees stands
saved-push a b i n h e =
    ap (map (stands b)) e
    ∙ ap (λ (ts : List Tree). map (tree_at ts) (a.saved ++ i ∷ [])) (same-forest a b n h)
    ∙ map-append (stands a) a.saved (i ∷ [])

-- nodes that stay, with the lists of nodes
Grows-nodes : (a b : Store) → KeepsNodes a b → saved_trees b ≡ saved_trees a → b.pending ≡ a.pending → Grows a b
Grows-nodes a b k s p =
    record { longer = k.longer; same = k.same; extends = k.extends; limit = k.limit; saved = s; pending = p }

pub Grows-same : (a b : Store) → b ≡ a → Grows a b
Grows-same a b e =
    let h : b.held ≡ a.held = ap (λ (s : Store). s.held) e in
    Grows-nodes a b (nodes-held a b (ap size e) (ap forest e) (Extends-same a.held b.held h) (ap (λ (s : Store). s.limit) e))
    (ap saved_trees e) (ap (λ (s : Store). s.pending) e)

pub Grows-trans : (a b c : Store) → Grows a b → Grows b c → Grows a c
Grows-trans a b c g h =
    Grows-nodes a c (nodes-trans a b c (nodes-grow a b g) (nodes-grow b c h)) (h.saved ∙ g.saved) (h.pending ∙ g.pending)

-- what is held grows alone
Grows-held : (a b : Store) → forest b ≡ forest a → b.nodes ≡ a.nodes → Extends a.held b.held → b.saved ≡ a.saved → b.pending ≡ a.pending → b.limit ≡ a.limit → Grows a b
Grows-held a b f n e s p m = Grows-nodes a b (nodes-held a b (ap length n) f e m) (saved-same a b f s) p

pub held-more : (es : List Entry) (s a : Store) (h : Held) → IsKept es s → s ≡ a → Extends s.held h → (forest (holding s h) ≡ forest a) × Grows a (holding s h)
held-more es s a h k e x =
    let same = grown-forest s (holding s h) refl x k.0 in
    (same ∙ ap forest e, subst (λ (r : Store). Grows r (holding s h)) e (Grows-held s (holding s h) same refl x refl refl refl))

-- at the end of what is held
pub lists-longer : (s : Store) (more new : List ℕ) → new ≡ s.held.lists ++ more → Extends s.held (record { lists = new; parts = s.held.parts; texts = s.held.texts })
lists-longer s more new e = ((more, e), Begins-same _ _ _ refl, Begins-same _ _ _ refl)

pub parts-longer : (s : Store) (more new : List Part) → new ≡ s.held.parts ++ more → Extends s.held (record { lists = s.held.lists; parts = new; texts = s.held.texts })
parts-longer s more new e = (Begins-same _ _ _ refl, (more, e), Begins-same _ _ _ refl)

pub texts-longer : (s : Store) (more new : List ℕ) → new ≡ s.held.texts ++ more → Extends s.held (record { lists = s.held.lists; parts = s.held.parts; texts = new })
texts-longer s more new e = (Begins-same _ _ _ refl, Begins-same _ _ _ refl, (more, e))

-- a node is new
pub Grows-push : (a b : Store) (t : Tree) → HasNodes a → size b ≡ size a + 1 → forest b ≡ forest a ++ t ∷ [] → b.held ≡ a.held → b.saved ≡ a.saved → b.pending ≡ a.pending → b.limit ≡ a.limit → Grows a b
unfolding saved_trees
Grows-push a b t has n f e s p m =
    let kept : KeepsNodes a b =
    record {
      longer = omega (arith, n);
      same = λ i h. ap (λ (ts : List Tree). tree_at ts i) f ∙ get_or-append (forest a) (t ∷ []) (named []) i (omega (arith, length-forest a));
      extends = Extends-same a.held b.held e;
      limit = m;
    } in
    Grows-nodes a b kept (ap (map (stands b)) s ∙ map-stands a b kept a.saved has.saved) p

-- without the nodes that are collected from an index on
pub forest-taken : (n : ℕ) (a : Store) → forest (taken n a) ≡ forest a
forest-taken n a = same-forest a (taken n a) refl refl

pub saved-taken : (n : ℕ) (a : Store) → saved_trees (taken n a) ≡ saved_trees a
saved-taken n a = saved-same a (taken n a) (forest-taken n a) refl

pub nodes-taken : (n : ℕ) (a b : Store) → Grows (taken n a) b → KeepsNodes a b
nodes-taken n a b g =
    nodes-trans a (taken n a) b (nodes-same a (taken n a) (record { nodes = refl; held = refl; limit = refl })) (nodes-grow (taken n a) b g)

pub Grows-taken : (n : ℕ) (a b : Store) → Grows a b → Grows (taken n a) (taken n b)
Grows-taken n a b g =
    let cut : KeepsNodes (taken n a) a = nodes-same (taken n a) a (record { nodes = refl; held = refl; limit = refl }) in
    let kept = nodes-trans (taken n a) a b cut (nodes-grow a b g) in
    let same = nodes-same b (taken n b) (record { nodes = refl; held = refl; limit = refl }) in
    Grows-nodes (taken n a) (taken n b) (nodes-trans (taken n a) b (taken n b) kept same)
    (saved-taken n b ∙ g.saved ∙ sym (saved-taken n a)) (ap (take n) g.pending)

pub new-tree : (a b : Store) (t : Tree) (i : ℕ) → i ≡ size a → forest b ≡ forest a ++ t ∷ [] → tree_at (forest b) i ≡ t
new-tree a b t i n f =
    ap (tree_at (forest b)) (omega (arith, n, length-forest a)) ∙ ap (λ (ts : List Tree). tree_at ts (length (forest a))) f ∙ get_or-append_seam (forest a) t [] (named [])

-- trees of a grown arena
pub trees_at-grows : (a b : Store) → Grows a b → (is : List ℕ) → AllByRecursion (λ t. t < size a) is → trees_at (forest b) is ≡ trees_at (forest a) is
trees_at-grows a b g is h = trees_at-same (size a) (forest b) (forest a) g.same is h

-- what a call makes
pub Makes-refused : (a b : Store) (t : Tree) → Grows a b → Makes (Err Memory) a b t
unfolding Makes
Makes-refused a b t g = g

pub Makes-limit : (a b : Store) (t : Tree) → (measure t).fits ≡ false → Grows a b → Makes (Err Unreadable) a b t
unfolding Makes
Makes-limit a b t f g = (f, g)

pub Makes-node : (a b : Store) (t : Tree) (i : ℕ) → i < size b → tree_at (forest b) i ≡ t → Grows a b → (measure t).fits ≡ true → Makes (Ok i) a b t
unfolding Makes
Makes-node a b t i l e g f = (l, e, g, f)

-- after what is held grew
pub Makes-after : (r : Result ℕ Stop) (a b c : Store) (t : Tree) → Grows a b → Makes r b c t → Makes r a c t
unfolding Makes
Makes-after (Ok i) a b c t g m = (m.0, m.1, Grows-trans a b c g m.2, m.3)
Makes-after (Err Unreadable) a b c t g m = (m.0, Grows-trans a b c g m.1)
Makes-after (Err Memory) a b c t g m = Grows-trans a b c g m

pub ruleset grows = (Grows-same, Grows-trans)
