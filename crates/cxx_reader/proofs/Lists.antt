-- The nodes of a list that is read stand after those of the lists around it.
use Rattle.std.proofs.Common.{ℕ, ◌≡◌, ◌+◌, ◌-◌, ◌<◌, ◌≤◌, List, [], ◌∷◌, ◌++◌, length, map, drop, take, refl, sym, ap, ◌∙◌, arith, subst, zero, suc, Option, Some, None, true, false, Bool, Result, Ok, Err, length-append}
use Rattle.std.specs.List.{AllByRecursion}
use Rattle.std.proofs.Math.ListN.{get_or}
use Rattle.std.proofs.lemmas.List.{map-append}
use Rattle.cxx_tree.specs.Tree.{Tree, Trees}
use Rattle.cxx_tree.specs.Kept.{KeepsNodes, SameNodes, IsNode}
use Rattle.cxx_tree.specs.declared.node.List as handle
use Rattle.std.specs.Prelude.{IfOk, OnOk, IsOkUnless, codes}
use Rattle.cxx_tree.specs.Stored.{Store, size, list_at, IsListBelow, trees_from_list}
use Rattle.cxx_tree.proofs.Grown.{nodes-same, nodes-grow, nodes-trans, saved-same}
use Rattle.cxx_tree.specs.Grows.{Makes}
use Rattle.abi_scalars.specs.Bytes.{begins}
use Rattle.cxx_grammar.specs.State.{State, LearnedName}
use Rattle.cxx_grammar.specs.Parses.{Parses, skip, item_more, is_e, repeat, past_word_if}
use Rattle.cxx_reader.specs.declared.reader.Reader.{Reader}
use Rattle.cxx_tree.specs.declared.arena.Stop.{Stop}
use Rattle.cxx_tree.specs.declared.arena.Stop.TheVariants.{Unreadable, Memory}
use Rattle.cxx_tree.specs.Stored.{Store, stands}
use Rattle.cxx_grammar.specs.Productions.{Productions}
use Rattle.cxx_grammar.specs.Names.{parse_next, parse_components}
use Rattle.cxx_grammar.specs.Expressions.{parse_to_underscore}
use Rattle.cxx_grammar.specs.Unresolved.{parse_next_scope, parse_scope_list}
use Rattle.cxx_grammar.specs.declared.rows.End.TheVariants as end
use Rattle.cxx_grammar.specs.declared.rows.Item.{Item}
use Rattle.cxx_grammar.specs.declared.rows.Maker.{Maker}
use Rattle.cxx_grammar.specs.Rows.{Row, Styled, item_as, make_as, make_few, parse_items, parse_row, list_after, rest_after, parse_list}
use Rattle.cxx_reader.specs.Outcome.{state, trees_behind, Keeps, Moves, KeepsFront, Gives, GivesList, GivesNamed, GivesFrom, list_trees}
use Rattle.cxx_tree.proofs.Forest.{below-more, below-push, same-forest}
use Rattle.cxx_reader.proofs.Kept.{map-stands, stands-same, IsNode-same, Moves-trans}
use Rattle.cxx_reader.proofs.Turns.{SoFar, steps_fail, steps_end, ItemsSoFar, row_fail}

pub drop-all : {A : Type 0} (n : ℕ) (xs : List A) → length xs ≤ n → drop n xs ≡ []
drop-all zero [] h = refl
drop-all zero (x ∷ xs) h = absurd (omega (arith, h))
drop-all (suc n) [] h = refl
drop-all (suc n) (x ∷ xs) h = drop-all n xs (omega (arith, h))

pub drop-length : (xs : List ℕ) → drop (length xs) xs ≡ []
drop-length [] = refl
drop-length (x ∷ xs) = drop-length xs

pub drop-push : (n : ℕ) (xs : List ℕ) (i : ℕ) → n ≤ length xs → drop n (xs ++ i ∷ []) ≡ drop n xs ++ i ∷ []
drop-push zero xs i h = refl
drop-push (suc n) [] i h = absurd (omega (arith, h))
drop-push (suc n) (x ∷ xs) i h = drop-push n xs i (omega (arith, h))

pub take-push : (n : ℕ) (xs : List ℕ) (i : ℕ) → n ≤ length xs → take n (xs ++ i ∷ []) ≡ take n xs
take-push zero xs i h = refl
take-push (suc n) [] i h = absurd (omega (arith, h))
take-push (suc n) (x ∷ xs) i h = ap (λ (l : List ℕ). x ∷ l) (take-push n xs i (omega (arith, h)))

pub take-length : (xs : List ℕ) → take (length xs) xs ≡ xs
take-length [] = refl
take-length (x ∷ xs) = ap (λ (l : List ℕ). x ∷ l) (take-length xs)

-- no item yet
pub none-yet : (a : Store) (from : ℕ) → from ≡ length a.pending → map (stands a) (drop from a.pending) ≡ []
none-yet a from e = ap (λ (n : ℕ). map (stands a) (drop n a.pending)) e ∙ ap (map (stands a)) (drop-length a.pending)

pub none-below : (a : Store) (from : ℕ) → from ≡ length a.pending → AllByRecursion (IsNode a) (drop from a.pending)
none-below a from e = subst (AllByRecursion (IsNode a)) (sym (ap (λ (n : ℕ). drop n a.pending) e ∙ drop-length a.pending)) tt

-- one item more
pub one-more : (a b : Store) (from i : ℕ) → KeepsNodes a b → AllByRecursion (IsNode a) (drop from a.pending) → from ≤ length a.pending → b.pending ≡ a.pending ++ i ∷ []
    → map (stands b) (drop from b.pending) ≡ map (stands a) (drop from a.pending) ++ stands b i ∷ []
one-more a b from i g below long e =
    ap (λ (l : List ℕ). map (stands b) (drop from l)) e ∙ ap (map (stands b)) (drop-push from a.pending i long)
    ∙ map-append (stands b) (drop from a.pending) (i ∷ []) ∙ ap (λ (l : List Tree). l ++ stands b i ∷ []) (map-stands a b g (drop from a.pending) below)

pub one-more-below : (a b : Store) (from i : ℕ) → KeepsNodes a b → AllByRecursion (IsNode a) (drop from a.pending) → from ≤ length a.pending → b.pending ≡ a.pending ++ i ∷ [] → IsNode b i
    → AllByRecursion (IsNode b) (drop from b.pending)
one-more-below a b from i g below long e n =
    subst (AllByRecursion (IsNode b)) (sym (ap (drop from) e ∙ drop-push from a.pending i long))
    (below-push (size b) (drop from a.pending) i (below-more (size a) (size b) (drop from a.pending) g.longer below) n)

-- a node that was made is added to the list that is read
pub record Pushed (item : Option (Tree × State)) (old after : Reader) (i : ℕ) : Type 0 where
  pub grows : KeepsNodes old.arena after.arena
  pub pending : after.arena.pending ≡ old.arena.pending ++ i ∷ []
  pub node : IsNode after.arena i
  pub parsed : item ≡ Some (stands after.arena i, state after)

pub pushed : {item : Option (Tree × State)} (old mid after : Reader) (i : ℕ) → Keeps old mid → SameNodes mid.arena after.arena → after.arena.saved ≡ mid.arena.saved
    → after.arena.pending ≡ mid.arena.pending ++ i ∷ [] → after.rest ≡ mid.rest → after.replaced ≡ mid.replaced → after.invented ≡ mid.invented → after.level ≡ mid.level
    → IsNode mid.arena i × (item ≡ Some (stands mid.arena i, state mid)) → Pushed item old after i
pushed old mid after i k st sv p r n w l g =
    let same = stands-same mid.arena after.arena i st in
    let trees = saved-same mid.arena after.arena (same-forest mid.arena after.arena st.nodes st.held) sv in
    let after-state : state mid ≡ state after = cc in
    record {
      grows = nodes-trans old.arena mid.arena after.arena k.grows (nodes-same mid.arena after.arena st);
      pending = p ∙ ap (λ (l : List ℕ). l ++ i ∷ []) k.pending;
      node = IsNode-same mid.arena after.arena i st g.0;
      parsed = g.1 ∙ ap (λ (u : Tree). Some (u, state mid)) (sym same) ∙ ap (λ (s : State). Some (stands after.arena i, s)) after-state;
    }

pub KeepsFront-same : (from : ℕ) (a : Reader) → from ≤ length a.arena.pending → KeepsFront from a a
KeepsFront-same from a h =
    record { grows = nodes-same a.arena a.arena (record { nodes = refl; held = refl; limit = refl }); front = refl; long = h; within = omega arith }

pub KeepsFront-push : (from : ℕ) (a b c : Reader) (i : ℕ) → KeepsFront from a b → KeepsNodes b.arena c.arena → c.arena.pending ≡ b.arena.pending ++ i ∷ [] → length c.rest.now ≤ length b.rest.now → KeepsFront from a c
KeepsFront-push from a b c i k g p w =
    record {
      grows = nodes-trans a.arena b.arena c.arena k.grows g;
      front = ap (take from) p ∙ take-push from b.arena.pending i k.long ∙ k.front;
      long = omega (arith, k.long, ap length p, length-append b.arena.pending (i ∷ []));
      within = omega (arith, k.within, w);
    }

pub KeepsFront-trans : (from : ℕ) (a b c : Reader) → KeepsFront from a b → KeepsFront from b c → KeepsFront from a c
KeepsFront-trans from a b c k l =
    record {
      grows = nodes-trans a.arena b.arena c.arena k.grows l.grows;
      front = l.front ∙ k.front;
      long = l.long;
      within = omega (arith, k.within, l.within);
    }

pub KeepsFront-after : {A : Type 0} (from : ℕ) (r : Result A Stop) (a b c : Reader) → KeepsFront from a b → OnOk r (KeepsFront from b c) → OnOk r (KeepsFront from a c)
KeepsFront-after from (Ok x) a b c k l = KeepsFront-trans from a b c k l
KeepsFront-after from (Err e) a b c k l = tt

-- an item is read, and its node is collected
pub collected : (r : Result (Unit {0}) Stop) (old mid after : Reader) (i from : ℕ) (item : Parses Tree) → IsOkUnless r Memory → Keeps old mid → SameNodes mid.arena after.arena → after.arena.saved ≡ mid.arena.saved
    → OnOk r (after.arena.pending ≡ mid.arena.pending ++ i ∷ []) → after.rest ≡ mid.rest → after.replaced ≡ mid.replaced → after.invented ≡ mid.invented → after.level ≡ mid.level → IsNode mid.arena i × (item (state old) ≡ Some (stands mid.arena i, state mid))
    → from ≤ length old.arena.pending → AllByRecursion (IsNode old.arena) (drop from old.arena.pending) → GivesFrom r from after (item_more item (trees_behind from old.arena) (state old))
collected (Ok u) old mid after i from item m k st sv p r e w v g long below =
    let one : Pushed (item (state old)) old after i = pushed old mid after i k st sv p r e w v g in (
      one-more-below old.arena after.arena from i one.grows below long one.pending one.node,
      rw one.parsed (ap (λ (ts : List Tree). Some (ts, state after)) (sym (one-more old.arena after.arena from i one.grows below long one.pending))),
    )
collected (Err Unreadable) old mid after i from item m k st sv p r e w v g long below = absurd (let f = m in cc)
collected (Err Memory) old mid after i from item m k st sv p r e w v g long below = tt

-- an item isn't read
pub item_stop : (e : Stop) (from : ℕ) (after : Reader) (item : Parses Tree) (trees : List Tree) (s : State) → Gives (Err e) after (item s) → GivesFrom (Err e) from after (item_more item trees s)
item_stop Unreadable from after item trees s f = rw f refl
item_stop Memory from after item trees s f = tt

-- a list isn't read
pub items_stop : (e : Stop) (from : ℕ) (after : Reader) {whole : Option (List Tree × State)} {is_end : List ℕ → Bool} {step : List Tree → Parses (List Tree)} {so_far : List Tree} {u : State} → SoFar whole is_end step so_far u → is_end u.rest ≡ false
    → GivesFrom (Err e) from after (step so_far u) → GivesFrom (Err e) from after whole
items_stop Unreadable from after l e f = steps_fail l e f
items_stop Memory from after l e f = tt

-- a row isn't read
pub row_stop : (e : Stop) (from : ℕ) (after : Reader) {whole : Option (List Tree × State)} {p : Productions} {trees : List Tree} {item : Item} {items : List Item} {s : State} → ItemsSoFar whole p trees (item ∷ items) s
    → GivesFrom (Err e) from after (item_as p trees item s) → GivesFrom (Err e) from after whole
row_stop Unreadable from after r f = row_fail r f
row_stop Memory from after r f = tt

pub drop-index : {A : Type 0} (d : A) (k : ℕ) (xs : List A) → k < length xs → drop k xs ≡ get_or xs k d ∷ drop (k + 1) xs
drop-index d k [] h = absurd (omega (arith, h))
drop-index d zero (x ∷ xs) h = refl
drop-index d (suc k) (x ∷ xs) h =
    let e : suc k + 1 ≡ suc (k + 1) = omega arith in
    drop-index d k xs (omega (arith, h)) ∙ ap (λ (j : ℕ). get_or xs k d ∷ drop j (x ∷ xs)) (sym e)

-- the next item of a row
pub next_item : (items : List Item) {whole : Option (List Tree × State)} {p : Productions} {trees : List Tree} {s : State} (d : Item) (k : ℕ) → k < length items
    → ItemsSoFar whole p trees (drop k items) s → ItemsSoFar whole p trees (get_or items k d ∷ drop (k + 1) items) s
next_item items {whole = whole} {p = p} {trees = trees} {s = s} d k h r = subst (λ (l : List Item). ItemsSoFar whole p trees l s) (drop-index d k items h) r

-- no item of a row is left
pub no_item : (items : List Item) {whole : Option (List Tree × State)} {p : Productions} {trees : List Tree} {s : State} (k : ℕ) → length items ≤ k
    → ItemsSoFar whole p trees (drop k items) s → ItemsSoFar whole p trees [] s
no_item items {whole = whole} {p = p} {trees = trees} {s = s} k h r = subst (λ (l : List Item). ItemsSoFar whole p trees l s) (drop-all k items h) r

-- a row, whose items are read or not
pub row_none : (e : Stop) (from : ℕ) (after : Reader) (p : Productions) (row : Row) (s : State) → GivesFrom (Err e) from after (parse_items p [] row.items (skip row.skip s)) → Gives (Err e) after (parse_row p row s)
unfolding parse_row
row_none Unreadable from after p row s f = rw f refl
row_none Memory from after p row s f = tt

pub row_read : (p : Productions) (row : Row) (s u : State) (trees : List Tree) → parse_items p [] row.items (skip row.skip s) ≡ Some (trees, u) → parse_row p row s ≡ make_as row.maker row.words trees u
unfolding parse_row
row_read p row s u trees e = rw e refl

-- an argument isn't read
pub list_stop : (e : Stop) (from : ℕ) (after : Reader) (p : Productions) (n : ℕ) (item : Item) (s : State) → GivesFrom (Err e) from after (list_after p item end.E [] (skip n s)) → GivesList (Err e) after (parse_list p n item s)
unfolding parse_list
list_stop Unreadable from after p n item s f = rw f refl
list_stop Memory from after p n item s f = tt

-- a component isn't read
pub components_stop : (e : Stop) (after : Reader) (p : Productions) (n : LearnedName) (s mid : State) (is_mark : Bool) {q : LearnedName} {u : State}
    → past_word_if (codes "M") s ≡ Some (is_mark, mid) → SoFar (repeat is_e (parse_next p) n mid) is_e (parse_next p) q u → is_e u.rest ≡ false
    → GivesNamed (Err e) after (parse_next p q u) → GivesNamed (Err e) after (parse_components p n s)
unfolding parse_components
components_stop Unreadable after p n s mid is_mark m l e f = rw (m, steps_fail l e f) refl
components_stop Memory after p n s mid is_mark m l e f = tt

-- all components are read
pub components_end : (p : Productions) (n : LearnedName) (s mid : State) (is_mark : Bool) {q : LearnedName} {u : State}
    → past_word_if (codes "M") s ≡ Some (is_mark, mid) → SoFar (repeat is_e (parse_next p) n mid) is_e (parse_next p) q u → is_e u.rest ≡ true
    → parse_components p n s ≡ Some (q, skip 1 u)
unfolding parse_components
components_end p n s mid is_mark m l e = rw (m, steps_end l e, e) refl

-- a list is made of the nodes that are collected
pub listed_gives : (r : Result handle.List Stop) (after : Reader) (a : Store) (from : ℕ) (u : State) {whole : Option (Trees × State)}
    → whole ≡ Some (trees_from_list (trees_behind from a), u)
    → IfOk r (λ l. list_at after.arena.held l ≡ drop from a.pending)
    → IfOk r (λ l. IsListBelow after.arena.held (size after.arena) l)
    → KeepsNodes a after.arena → AllByRecursion (IsNode a) (drop from a.pending)
    → state after ≡ u → IsOkUnless r Memory → GivesList r after whole
unfolding list_trees
listed_gives (Ok l) after a from u done is below g all st m =
    let trees : map (stands a) (drop from a.pending) ≡ map (stands after.arena) (list_at after.arena.held l) = sym (ap (map (stands after.arena)) is ∙ map-stands a after.arena g (drop from a.pending) all) in
    (below, done ∙ ap (λ (ts : List Tree). Some (trees_from_list ts, u)) trees ∙ ap (λ (v : State). Some (list_trees after.arena l, v)) (sym st))
listed_gives (Err Unreadable) after a from u done is below g all st m = absurd (let f = m in cc)
listed_gives (Err Memory) after a from u done is below g all st m = tt

-- all items are read
pub close_gives : (r : Result handle.List Stop) (after : Reader) (a : Store) (from : ℕ) (p : Productions) (n : ℕ) (item : Item) (s u : State)
    → list_after p item end.E [] (skip n s) ≡ Some (trees_behind from a, u) → is_e u.rest ≡ true
    → IfOk r (λ l. list_at after.arena.held l ≡ drop from a.pending)
    → IfOk r (λ l. IsListBelow after.arena.held (size after.arena) l)
    → KeepsNodes a after.arena → AllByRecursion (IsNode a) (drop from a.pending)
    → state after ≡ skip 1 u → IsOkUnless r Memory → GivesList r after (parse_list p n item s)
unfolding parse_list
close_gives r after a from p n item s u done e is below g all st m = listed_gives r after a from (skip 1 u) (rw (done, e) refl) is below g all st m

-- a list is read, and a byte behind it
pub list_moves : {A : Type 0} (r : Result A Stop) (old mid after : Reader) (from : ℕ) → from ≡ length old.arena.pending → KeepsFront from old mid
    → KeepsNodes mid.arena after.arena → after.arena.pending ≡ take from mid.arena.pending → length after.rest.now < length mid.rest.now → OnOk r (Moves old after)
list_moves (Ok l) old mid after from e k g p n =
    record {
      keeps = record {
        grows = nodes-trans old.arena mid.arena after.arena k.grows g;
        pending = p ∙ k.front ∙ ap (λ (j : ℕ). take j old.arena.pending) e ∙ take-length old.arena.pending;
        within = omega (arith, k.within, n);
      };
      takes = omega (arith, k.within, n);
    }
list_moves (Err stop) old mid after from e k g p n = tt

-- a node is made of the nodes that were collected behind others, and of what was read after them
pub function_keeps : (r : Result ℕ Stop) (old start mid last after : Reader) (from : ℕ) → Keeps old start → from ≡ length start.arena.pending → KeepsFront from start mid → Keeps mid last
    → OnOk r (KeepsNodes last.arena after.arena) → OnOk r (after.arena.pending ≡ take from last.arena.pending) → OnOk r (after.rest.now ≡ last.rest.now) → OnOk r (Keeps old after)
function_keeps (Ok i) old start mid last after from b e k l g p n =
    record {
      grows = nodes-trans old.arena start.arena after.arena b.grows (nodes-trans start.arena mid.arena after.arena k.grows (nodes-trans mid.arena last.arena after.arena l.grows g));
      pending = p ∙ ap (λ (is : List ℕ). take from is) l.pending ∙ k.front ∙ ap (λ (j : ℕ). take j start.arena.pending) e ∙ take-length start.arena.pending ∙ b.pending;
      within = omega (arith, b.within, k.within, l.within, ap (λ (bytes : List ℕ). length bytes) n);
    }
function_keeps (Err stop) old start mid last after from b e k l g p n = tt

pub begins_some : (letter : ℕ) (bytes : List ℕ) → begins (letter ∷ []) bytes ≡ true → 0 < length bytes
begins_some letter [] e = absurd (let f = e in cc)
begins_some letter (b ∷ bytes) e = omega arith

pub close_moves : (r : Result handle.List Stop) (old start mid after : Reader) (from : ℕ) → start.arena ≡ old.arena → length start.rest.now ≤ length old.rest.now → KeepsFront from start mid → from ≡ length start.arena.pending
    → 0 < length mid.rest.now → KeepsNodes mid.arena after.arena → after.arena.pending ≡ take from mid.arena.pending → length after.rest.now ≡ length mid.rest.now - 1 → OnOk r (Moves old after)
close_moves (Ok l) old start mid after from e w k f some g p n =
    record {
      keeps = record {
        grows = nodes-trans old.arena mid.arena after.arena (subst (λ (x : Store). KeepsNodes x mid.arena) e k.grows) g;
        pending = p ∙ k.front ∙ ap (λ (j : ℕ). take j start.arena.pending) f ∙ take-length start.arena.pending ∙ ap (λ (x : Store). x.pending) e;
        within = omega (arith, w, k.within, n);
      };
      takes = omega (arith, w, k.within, n, some);
    }
close_moves (Err stop) old start mid after from e w k f some g p n = tt

-- a node was made after others
pub grows-then : (r : Result ℕ Stop) (a mid b : Store) (t : Tree) → KeepsNodes a mid → Makes r mid b t → OnOk r (KeepsNodes a b)
unfolding Makes
grows-then (Ok i) a mid b t g m = nodes-trans a mid b g (nodes-grow mid b m.2)
grows-then (Err e) a mid b t g m = tt

pub pending-then : (r : Result ℕ Stop) (a mid b : Store) (from : ℕ) (t : Tree) → take from mid.pending ≡ take from a.pending → Makes r mid b t → OnOk r (take from b.pending ≡ take from a.pending)
unfolding Makes
pending-then (Ok i) a mid b from t e m = ap (take from) m.2.pending ∙ e
pending-then (Err e) a mid b from t p m = tt

-- no row is made of more than three nodes
pub few_none : (maker : Maker) (words : Styled) (ts : List Tree) (s : State) → 3 < length ts → make_few maker words ts s ≡ None
unfolding make_few
few_none maker words [] s h = absurd (omega (arith, h))
few_none maker words (a ∷ []) s h = absurd (omega (arith, h))
few_none maker words (a ∷ b ∷ []) s h = absurd (omega (arith, h))
few_none maker words (a ∷ b ∷ c ∷ []) s h = absurd (omega (arith, h))
few_none maker words (a ∷ b ∷ c ∷ d ∷ ts) s h = refl

-- items up to an `E` are read, or not
pub rest_end : (p : Productions) (item : Item) (trees more : List Tree) (s u : State) → list_after p item end.E trees s ≡ Some (more, u) → is_e u.rest ≡ true → rest_after p item trees s ≡ Some (more, skip 1 u)
rest_end p item trees more s u done e = rw (done, e) refl

pub rest_stop : (e : Stop) (from : ℕ) (after : Reader) (p : Productions) (item : Item) (trees : List Tree) (s : State) → GivesFrom (Err e) from after (list_after p item end.E trees s) → GivesFrom (Err e) from after (rest_after p item trees s)
rest_stop Unreadable from after p item trees s f = rw f refl
rest_stop Memory from after p item trees s f = tt

pub KeepsFront-arena : (from : ℕ) (a b c : Reader) → KeepsFront from a b → c.arena ≡ b.arena → length c.rest.now ≤ length b.rest.now → KeepsFront from a c
KeepsFront-arena from a b c k e w =
    record {
      grows = subst (λ (x : Store). KeepsNodes a.arena x) (sym e) k.grows;
      front = ap (λ (x : Store). take from x.pending) e ∙ k.front;
      long = omega (arith, k.long, ap (λ (x : Store). length x.pending) e);
      within = omega (arith, k.within, w);
    }

-- items up to a `_` are read, or not
pub place_stop : (e : Stop) (from : ℕ) (after : Reader) (p : Productions) (n : ℕ) (item : Item) (s : State) → GivesFrom (Err e) from after (list_after p item end.Underscore [] (skip n s)) → GivesList (Err e) after (parse_to_underscore p n item s)
unfolding parse_to_underscore
place_stop Unreadable from after p n item s f = rw f refl
place_stop Memory from after p n item s f = tt

pub place_gives : (r : Result handle.List Stop) (after : Reader) (a : Store) (from : ℕ) (p : Productions) (n : ℕ) (item : Item) (s u : State)
    → list_after p item end.Underscore [] (skip n s) ≡ Some (trees_behind from a, u) → begins (codes "_") u.rest ≡ true
    → IfOk r (λ l. list_at after.arena.held l ≡ drop from a.pending)
    → IfOk r (λ l. IsListBelow after.arena.held (size after.arena) l)
    → KeepsNodes a after.arena → AllByRecursion (IsNode a) (drop from a.pending)
    → state after ≡ skip 1 u → IsOkUnless r Memory → GivesList r after (parse_to_underscore p n item s)
unfolding parse_to_underscore
place_gives r after a from p n item s u done e is below g all st m = listed_gives r after a from (skip 1 u) (rw (done, e) refl) is below g all st m

-- a list is read, perhaps an empty one
pub list_keeps : {A : Type 0} (r : Result A Stop) (old mid after : Reader) (from : ℕ) → from ≡ length old.arena.pending → KeepsFront from old mid
    → KeepsNodes mid.arena after.arena → after.arena.pending ≡ take from mid.arena.pending → length after.rest.now ≤ length mid.rest.now → OnOk r (Keeps old after)
list_keeps (Ok l) old mid after from e k g p n =
    record {
      grows = nodes-trans old.arena mid.arena after.arena k.grows g;
      pending = p ∙ k.front ∙ ap (λ (j : ℕ). take j old.arena.pending) e ∙ take-length old.arena.pending;
      within = omega (arith, k.within, n);
    }
list_keeps (Err stop) old mid after from e k g p n = tt

-- scopes are read, or not
pub scopes_stop : (e : Stop) (after : Reader) (p : Productions) (outer : Tree) (s : State) {q : Tree} {u : State}
    → SoFar (repeat is_e (parse_next_scope p) outer s) is_e (parse_next_scope p) q u → is_e u.rest ≡ false
    → Gives (Err e) after (parse_next_scope p q u) → Gives (Err e) after (parse_scope_list p outer s)
unfolding parse_scope_list
scopes_stop Unreadable after p outer s l e f = rw (steps_fail l e f) refl
scopes_stop Memory after p outer s l e f = tt

pub scopes_end : (p : Productions) (outer : Tree) (s : State) {q : Tree} {u : State}
    → SoFar (repeat is_e (parse_next_scope p) outer s) is_e (parse_next_scope p) q u → is_e u.rest ≡ true → parse_scope_list p outer s ≡ Some (q, skip 1 u)
unfolding parse_scope_list
scopes_end p outer s l e = rw (steps_end l e, e) refl

-- bytes are read twice
pub Moves-then : {A : Type 0} (r : Result A Stop) (a b c : Reader) → Moves a b → OnOk r (Moves b c) → OnOk r (Moves a c)
Moves-then (Ok x) a b c m n = Moves-trans a b c m n.keeps
Moves-then (Err e) a b c m n = tt
