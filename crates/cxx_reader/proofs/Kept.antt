-- What a reader keeps as its arena grows.
use Rattle.std.proofs.Common.{ℕ, ◌≡◌, ◌<◌, ◌≤◌, List, [], ◌∷◌, ◌++◌, length, map, take, refl, sym, ap, ◌∙◌, arith, subst, Result, Ok, Err, Option, Some, None}
use Rattle.std.specs.List.{AllByRecursion}
use Rattle.cxx_tree.specs.Tree.{Tree, Trees}
use Rattle.cxx_tree.specs.Grows.{Makes}
use Rattle.cxx_tree.specs.Kept.{KeepsNodes, SameNodes, IsNode, taken}
use Rattle.cxx_tree.specs.Stored.{Store, forest, tree_at, stands, saved_trees}
use Rattle.cxx_tree.specs.declared.arena.Stop.{Stop}
use Rattle.cxx_tree.specs.declared.arena.Stop.TheVariants.{Unreadable, Memory}
use Rattle.cxx_grammar.specs.State as grammar
use Rattle.cxx_grammar.specs.Parses.{make, make_saved}
use Rattle.cxx_reader.specs.declared.reader.Reader.{Reader}
use Rattle.cxx_grammar.specs.Bases.{args_of}
use Rattle.cxx_reader.specs.declared.reader.LearnedName.{LearnedName}
use Rattle.cxx_reader.specs.Outcome.{invented_at, Gives, Keeps, Moves, IsNamed, named_at, info_at, inherited_at}
use Rattle.cxx_tree.proofs.Forest.{same-forest}
use Rattle.cxx_tree.proofs.Grown.{nodes-grow, nodes-same, nodes-trans, nodes-taken, saved-taken}
use Rattle.std.specs.Prelude.{OnOk, IfSome}

-- trees of an arena that grew
pub map-stands : (a b : Store) → KeepsNodes a b → (is : List ℕ) → AllByRecursion (IsNode a) is → map (stands b) is ≡ map (stands a) is
unfolding stands
map-stands a b g [] h = refl
map-stands a b g (i ∷ is) h = let one = g.same i h.0 in let rest = map-stands a b g is h.1 in cc

-- the same nodes
pub stands-same : (a b : Store) (i : ℕ) → SameNodes a b → stands b i ≡ stands a i
unfolding stands
stands-same a b i s = ap (λ (ts : List Tree). tree_at ts i) (same-forest a b s.nodes s.held)

pub IsNode-same : (a b : Store) (i : ℕ) → SameNodes a b → IsNode a i → IsNode b i
IsNode-same a b i s n = omega (arith, n, ap length s.nodes)

-- the state after a node was made
pub gives_made : (r : Result ℕ Stop) (after : Reader) (a : Store) (t : Tree) (s : grammar.State) → Makes r a after.arena t
    → s ≡ record { rest = after.rest.now; saved = saved_trees a; replaced = after.replaced; invented = invented_at after.invented; level = after.level } → Gives r after (make t s)
unfolding Makes stands
gives_made (Ok i) after a t s m e =
    let stays = m.2.saved in let fits = m.3 in let is = m.1 in (m.0, cc)
gives_made (Err Unreadable) after a t s m e = let no = m.0 in cc
gives_made (Err Memory) after a t s m e = tt

-- the same of a node that holds a list, whose nodes are collected no more
pub gives_taken : (r : Result ℕ Stop) (after : Reader) (a : Store) (from : ℕ) (t : Tree) (s : grammar.State) → Makes r (taken from a) after.arena t
    → s ≡ record { rest = after.rest.now; saved = saved_trees a; replaced = after.replaced; invented = invented_at after.invented; level = after.level } → Gives r after (make t s)
gives_taken r after a from t s m e =
    gives_made r after (taken from a) t s m (e ∙ ap (λ (l : List Tree). record { rest = after.rest.now; saved = l; replaced = after.replaced; invented = invented_at after.invented; level = after.level }) (sym (saved-taken from a)))

tree-stands : (a : Store) (i : ℕ) (t : Tree) → tree_at (forest a) i ≡ t → stands a i ≡ t
unfolding stands
tree-stands a i t e = e

-- the state after a node was made and saved
pub gives_saved : (i : ℕ) (after : Reader) (a mid : Store) (t : Tree) (s : grammar.State) → Makes (Ok i) a mid t → saved_trees after.arena ≡ saved_trees mid ++ stands mid i ∷ []
    → SameNodes mid after.arena → s ≡ record { rest = after.rest.now; saved = saved_trees a; replaced = after.replaced; invented = invented_at after.invented; level = after.level } → Gives (Ok i) after (make_saved t s)
unfolding Makes
gives_saved i after a mid t s m w st e =
    let stays = m.2.saved in let fits = m.3 in let is : stands mid i ≡ t = tree-stands mid i t m.1 in
    let same = stands-same mid after.arena i st in
    (IsNode-same mid after.arena i st m.0, cc)

pub Keeps-same : (a : Reader) → Keeps a a
Keeps-same a = record { grows = nodes-same a.arena a.arena (record { nodes = refl; held = refl; limit = refl }); pending = refl; within = omega arith }

pub Keeps-trans : (a b c : Reader) → Keeps a b → Keeps b c → Keeps a c
Keeps-trans a b c k l =
    record {
      grows = nodes-trans a.arena b.arena c.arena k.grows l.grows;
      pending = l.pending ∙ k.pending;
      within = omega (arith, k.within, l.within);
    }

-- after a node was made
pub Keeps-made : (r : Result ℕ Stop) (a b : Reader) (x : Store) (t : Tree) → Makes r x b.arena t → x ≡ a.arena → length b.rest.now ≤ length a.rest.now → OnOk r (Keeps a b)
unfolding Makes
Keeps-made (Ok i) a b x t m e w =
    record {
      grows = subst (λ (y : Store). KeepsNodes y b.arena) e (nodes-grow x b.arena m.2);
      pending = m.2.pending ∙ ap (λ (y : Store). y.pending) e;
      within = w;
    }
Keeps-made (Err l) a b x t m e w = tt

-- after a node was made of a list
pub Grows-made : (r : Result ℕ Stop) (a b : Store) (from : ℕ) (t : Tree) → Makes r (taken from a) b t → OnOk r (KeepsNodes a b)
unfolding Makes
Grows-made (Ok i) a b from t m = nodes-taken from a b m.2
Grows-made (Err e) a b from t m = tt

pub pending-made : (r : Result ℕ Stop) (a b : Store) (from : ℕ) (t : Tree) → Makes r (taken from a) b t → OnOk r (b.pending ≡ take from a.pending)
unfolding Makes
pending-made (Ok i) a b from t m = m.2.pending
pending-made (Err e) a b from t m = tt

-- the nodes are the same, and so are the lists that are read
pub Keeps-kept : (a b : Reader) → SameNodes a.arena b.arena → b.arena.pending ≡ a.arena.pending → length b.rest.now ≤ length a.rest.now → Keeps a b
Keeps-kept a b s p w = record { grows = nodes-same a.arena b.arena s; pending = p; within = w }

-- a node was made, and saved
pub Keeps-saved : (i : ℕ) (a b : Reader) (m : Store) (t : Tree) → Makes (Ok i) a.arena m t → SameNodes m b.arena → b.arena.pending ≡ m.pending → length b.rest.now ≤ length a.rest.now → Keeps a b
unfolding Makes
Keeps-saved i a b m t made s p w =
    record {
      grows = nodes-trans a.arena m b.arena (nodes-grow a.arena m made.2) (nodes-same m b.arena s);
      pending = p ∙ made.2.pending;
      within = w;
    }

pub Keeps-arena : (a b : Reader) → b.arena ≡ a.arena → length b.rest.now ≤ length a.rest.now → Keeps a b
Keeps-arena a b e w =
    record {
      grows = nodes-same a.arena b.arena (record { nodes = ap (λ (x : Store). x.nodes) e; held = ap (λ (x : Store). x.held) e; limit = ap (λ (x : Store). x.limit) e });
      pending = ap (λ (x : Store). x.pending) e;
      within = w;
    }

pub Keeps-after : {A : Type 0} (r : Result A Stop) (a b c : Reader) → Keeps a b → OnOk r (Keeps b c) → OnOk r (Keeps a c)
Keeps-after (Ok x) a b c k l = Keeps-trans a b c k l
Keeps-after (Err e) a b c k l = tt

-- bytes are read
pub Moves-of : (a b : Reader) → Keeps a b → length b.rest.now < length a.rest.now → Moves a b
Moves-of a b k l = record { keeps = k; takes = l }

pub Moves-front : (a b c : Reader) → Keeps a b → Moves b c → Moves a c
Moves-front a b c k m = record { keeps = Keeps-trans a b c k m.keeps; takes = omega (arith, k.within, m.takes) }

pub Moves-skip : (a b c : Reader) → b.arena ≡ a.arena → length b.rest.now ≤ length a.rest.now → Moves b c → Moves a c
Moves-skip a b c e w m = Moves-front a b c (Keeps-arena a b e w) m

pub Moves-trans : (a b c : Reader) → Moves a b → Keeps b c → Moves a c
Moves-trans a b c m k = record { keeps = Keeps-trans a b c m.keeps k; takes = omega (arith, m.takes, k.within) }

pub Moves-after : {A : Type 0} (r : Result A Stop) (a b c : Reader) → Moves a b → OnOk r (Keeps b c) → OnOk r (Moves a c)
Moves-after (Ok x) a b c m k = Moves-trans a b c m k
Moves-after (Err e) a b c m k = tt

inherited_stays : (a b : Store) (o : Option ℕ) → KeepsNodes a b → IfSome o (IsNode a) → inherited_at b o ≡ inherited_at a o
unfolding stands
inherited_stays a b None g h = refl
inherited_stays a b (Some k) g h = ap (λ (t : Tree). args_of t) (g.same k h)

-- what was learned of a name stays
pub named_stays : (a b : Store) (n : LearnedName) → KeepsNodes a b → IsNamed a n → named_at b n ≡ named_at a n
unfolding named_at stands
named_stays a b n g h =
    ap (λ (t : Tree). record { tree = t; info = info_at b n.info }) (g.same n.node h.0)
    ∙ ap (λ (o : Option Trees). record { tree = stands a n.node; info = record (info_at a n.info) { inherited = o } }) (inherited_stays a b n.info.inherited g h.1)

pub ruleset readers = (gives_made, nodes-grow, Keeps-made, Keeps-same, Keeps-kept, Keeps-trans, Moves-of)
