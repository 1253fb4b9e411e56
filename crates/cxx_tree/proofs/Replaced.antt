-- How template parameters are replaced.
use Rattle.std.proofs.Common.{ℕ, ◌≡◌, ◌+◌, ◌-◌, ◌<◌, ◌≤◌, Bool, true, false, ◌&&◌, List, [], ◌∷◌, ◌++◌, length, map, drop, refl, sym, ap, ◌∙◌, arith, subst, zero, suc, Result, Ok, Err}
use Rattle.std.proofs.Math.ListN.{get_or}
use Rattle.std.specs.List.{AllByRecursion}
use Rattle.std.specs.Result.{IfOk, OnOk, OnErr, IsErrOf}
use Rattle.std.proofs.lemmas.List.{drop_all}
use mathlib.Core.Bool.{true≢false}
use Rattle.cxx_tree.specs.declared.counts.Measure as stored
use Rattle.cxx_tree.specs.Counts.{Row}
use Rattle.cxx_tree.proofs.Measured.{each-step, in-list, in-parts}
use Rattle.cxx_tree.specs.declared.kinds.Manner.{Manner}
use Rattle.cxx_tree.specs.declared.kinds.Manner.TheVariants.{Whole, Operand, Scope, Callee, Address, Value, Argument, Count, Folded}
use Rattle.cxx_tree.specs.declared.node.Part.{Part}
use Rattle.cxx_tree.specs.declared.node.Part.TheVariants as part
use Rattle.cxx_tree.specs.declared.node.List as handle
use Rattle.cxx_tree.specs.declared.node.Parts as handles
use Rattle.cxx_tree.specs.declared.node.Node.{Node}
use Rattle.cxx_tree.specs.declared.bind.Binding as given
use Rattle.cxx_tree.specs.Tree.{Tree, Trees, Parts, named, leaf, std_name, phrase, scoped, with_args, abi_tag, in_module, data_name, objc_protocol, listed, expansion, param, type_param, non_type_param, template_param, pack_param, qualified, pointer, reference, member_pointer, array, function, encoding, pack, no_trees, more_trees, no_parts, text, tree, trees}
use Rattle.cxx_tree.specs.Measure.{Measure, measure, measure_each, measure_parts, part_measure, nothing, join_as, counted}
use Rattle.cxx_tree.specs.Stored.{Held, Store, text_at, forest, size, tree_at, trees_at, trees_in, list_at, parts_of, parts_at, parts_in, IsRange, IsListBelow, IsPartBelow, IsPartsBelow}
use Rattle.cxx_tree.specs.Grows.{Grows, Makes}
use Rattle.cxx_tree.specs.declared.arena.Stop.{Stop}
use Rattle.cxx_tree.specs.declared.arena.Stop.TheVariants.{Memory, Unreadable}
use Rattle.cxx_tree.proofs.Grown.{Makes-after, Makes-refused, Makes-limit, Grows-same, Grows-trans, trees_at-grows}
use Rattle.cxx_tree.proofs.Making.{Makes-memory, trees_in-grows, parts_of-grows, parts_in-grows}
use Rattle.cxx_tree.proofs.Forest.{Extends-same, map-same, below-more, IsListBelow-more, IsPartsBelow-more, IsPartBelow-more, all_parts-more}
use Rattle.cxx_tree.specs.Bind.{Binding, bind, bind_each, bind_parts, binding_at, names_at, AreNamed, bound_at, bound_list, bound_parts, part_at}

-- what isn't within the limits makes the whole so
pub unfit_left : (a b : Bool) → a ≡ false → a && b ≡ false
unfit_left a b e = ap (λ (x : Bool). x && b) e

pub unfit_right : (a b : Bool) → b ≡ false → a && b ≡ false
unfit_right true b e = e
unfit_right false b e = refl

only_left : (a : Bool) → a && true ≡ false → a ≡ false
only_left true e = e
only_left false e = refl

all-end : (A : Type 0) (P : A → Type 0) (xs : List A) (x : A) → AllByRecursion P xs → P x
    → AllByRecursion P (xs ++ x ∷ [])
all-end A P [] x h p = (p, tt)
all-end A P (y ∷ xs) x h p = (h.0, all-end A P xs x h.1 p)

pub inside_counted : (n : ℕ) → counted n - 1 ≡ n
inside_counted zero = refl
inside_counted (suc n) = omega arith

-- a tree without template parameters stays
no_sum_left : (m n : ℕ) → m + n ≡ 0 → m ≡ 0
no_sum_left m n e = omega (arith, e)

no_sum_right : (m n : ℕ) → m + n ≡ 0 → n ≡ 0
no_sum_right m n e = omega (arith, e)

none_counted : (n : ℕ) → counted n ≡ 0 → n ≡ 0
none_counted zero e = refl
none_counted (suc n) e = absurd (omega (arith, e))

params-join_as : (r : Bool) (m n : Measure) → (join_as r m n).params ≡ m.params + n.params
params-join_as false m n = refl
params-join_as true m n = omega arith

params-part : (manner : Manner) (m : Measure) → (part_measure manner m).params ≡ m.params
params-part (Whole context) m = refl
params-part (Operand prec looser) m = refl
params-part Scope m = refl
params-part Callee m = refl
params-part (Address prec) m = refl
params-part Value m = refl
params-part Argument m = refl
params-part (Count blank) m = refl
params-part Folded m = refl

mutual
  unfolding measure bind

  pub bind-none : (b : Binding) (t : Tree) → (measure t).params ≡ 0 → bind b t ≡ t
  bind-none b (named bytes) e = refl
  bind-none b (leaf simple x y) e = refl
  bind-none b (std_name std expanded) e = refl
  bind-none b (phrase attributes ps) e =
      ap (phrase attributes) (bind_parts-none b attributes.is_reversed ps (none_counted _ e))
  bind-none b (scoped friend scope name) e =
      let n = none_counted ((measure scope).params + (measure name).params) e in
      let one = bind-none b scope (no_sum_left _ _ n) in let two = bind-none b name (no_sum_right _ _ n) in cc
  bind-none b (with_args name args) e =
      let n = none_counted ((measure name).params + (measure_each args).params) e in
      let one = bind-none b name (no_sum_left _ _ n) in let two = bind_each-none b args (no_sum_right _ _ n) in cc
  bind-none b (abi_tag name tag) e = ap (λ (t : Tree). abi_tag t tag) (bind-none b name (none_counted _ e))
  bind-none b (in_module name owner) e =
      let n = none_counted ((measure name).params + (measure owner).params) e in
      let one = bind-none b name (no_sum_left _ _ n) in let two = bind-none b owner (no_sum_right _ _ n) in cc
  bind-none b (data_name name) e = ap data_name (bind-none b name (none_counted _ e))
  bind-none b (objc_protocol t protocol) e =
      ap (λ (u : Tree). objc_protocol u protocol) (bind-none b t (none_counted _ e))
  bind-none b (listed ts) e = ap listed (bind_each-none b ts (none_counted _ e))
  bind-none b (expansion t) e = ap expansion (bind-none b t (none_counted _ e))
  bind-none b (param level index) e = absurd (omega (arith, e))
  bind-none b (type_param constraint name) e =
      let n = none_counted ((measure constraint).params + (measure name).params) e in
      let one = bind-none b constraint (no_sum_left _ _ n) in let two = bind-none b name (no_sum_right _ _ n) in cc
  bind-none b (non_type_param name t) e =
      let n = none_counted ((measure name).params + (measure t).params) e in
      let one = bind-none b name (no_sum_left _ _ n) in let two = bind-none b t (no_sum_right _ _ n) in cc
  bind-none b (template_param name declarations rest) e =
      let n =
      none_counted
      ((measure name).params + ((measure_each declarations).params + (measure_parts false rest).params)) e in
      let m = no_sum_right _ _ n in
      let one = bind-none b name (no_sum_left _ _ n) in
      let two = bind_each-none b declarations (no_sum_left _ _ m) in
      let three = bind_parts-none b false rest (no_sum_right _ _ m) in
      cc
  bind-none b (pack_param declaration) e = ap pack_param (bind-none b declaration (none_counted _ e))
  bind-none b (qualified t cv) e = ap (λ (u : Tree). qualified u cv) (bind-none b t (none_counted _ e))
  bind-none b (pointer t) e = ap pointer (bind-none b t (none_counted _ e))
  bind-none b (reference t lvalue) e = ap (λ (u : Tree). reference u lvalue) (bind-none b t (none_counted _ e))
  bind-none b (member_pointer class member) e =
      let n = none_counted ((measure member).params + (measure class).params) e in
      let one = bind-none b member (no_sum_left _ _ n) in let two = bind-none b class (no_sum_right _ _ n) in cc
  bind-none b (array element dimension) e =
      let n = none_counted ((measure element).params + (measure_parts false dimension).params) e in
      let one = bind-none b element (no_sum_left _ _ n) in
      let two = bind_parts-none b false dimension (no_sum_right _ _ n) in cc
  bind-none b (function ret params cv ref exception) e =
      let n =
      none_counted ((measure ret).params + ((measure_each params).params + (measure_parts false exception).params))
      e in
      let m = no_sum_right _ _ n in
      let one = bind-none b ret (no_sum_left _ _ n) in
      let two = bind_each-none b params (no_sum_left _ _ m) in
      let three = bind_parts-none b false exception (no_sum_right _ _ m) in
      cc
  bind-none b (encoding ret name params cv ref rest) e =
      let n =
      none_counted
      ((measure_each ret).params
      + ((measure name).params + ((measure_each params).params + (measure_parts false rest).params))) e in
      let m = no_sum_right _ _ n in
      let k = no_sum_right _ _ m in
      let one = bind_each-none b ret (no_sum_left _ _ n) in
      let two = bind-none b name (no_sum_left _ _ m) in
      let three = bind_each-none b params (no_sum_left _ _ k) in
      let four = bind_parts-none b false rest (no_sum_right _ _ k) in
      cc
  bind-none b (pack ts) e = ap pack (bind_each-none b ts (none_counted _ e))

  pub bind_each-none : (b : Binding) (ts : Trees) → (measure_each ts).params ≡ 0 → bind_each b ts ≡ ts
  bind_each-none b no_trees e = refl
  bind_each-none b (more_trees t ts) e =
      let one = bind-none b t (no_sum_left _ _ e) in let rest = bind_each-none b ts (no_sum_right _ _ e) in cc

  pub bind_parts-none : (b : Binding) (r : Bool) (ps : Parts) → (measure_parts r ps).params ≡ 0 → bind_parts b ps
      ≡ ps
  bind_parts-none b r no_parts e = refl
  bind_parts-none b r (text x y ps) e = ap (text x y) (bind_parts-none b r ps e)
  bind_parts-none b r (tree manner t ps) e =
      let n = sym (params-join_as r (part_measure manner (measure t)) (measure_parts r ps)) ∙ e in
      let one = bind-none b t (sym (params-part manner (measure t)) ∙ no_sum_left _ _ n) in
      let rest = bind_parts-none b r ps (no_sum_right _ _ n) in
      cc
  bind_parts-none b r (trees listing ts ps) e =
      let n = sym (params-join_as r (measure_each ts) (measure_parts r ps)) ∙ e in
      let one = bind_each-none b ts (no_sum_left _ _ n) in
      let rest = bind_parts-none b r ps (no_sum_right _ _ n) in
      cc

-- what a call makes
pub Makes-then : (r : Result ℕ Stop) (a b c : Store) (t u : Tree) → Makes r b c t → t ≡ u → Grows a b
    → Makes r a c u
Makes-then r a b c t u m e g = Makes-after r a b c u g (subst (Makes r b c) e m)

-- the names of a binding, as an arena grows
pub binding_at-grows : (a b : Store) (x : given.Binding) → Grows a b → AreNamed a x → binding_at b x
    ≡ binding_at a x
binding_at-grows a b x g h =
    ap (λ (ts : List Tree). record { level = x.level; names = ts; others = x.others })
    (ap (λ (is : List ℕ). map (tree_at (forest b)) (drop x.from is)) g.pending ∙ map-same (size a) (forest b) (forest a) g.same (names_at a x) h.1)

AreNamed-grows : (a b : Store) (x : given.Binding) → Grows a b → AreNamed a x → AreNamed b x
AreNamed-grows a b x g h =
    (omega (arith, ap length g.pending, h.0), subst (λ (is : List ℕ). AllByRecursion (λ n. n < size b) (drop x.from is)) (sym g.pending) (below-more (size a) (size b) (names_at a x) g.longer h.1))

-- a tree, a list and parts, after an arena grew
pub tree-after : (a b : Store) (x : given.Binding) (i : ℕ) → Grows a b → AreNamed a x → i < size a
    → (tree_at (forest b) i ≡ tree_at (forest a) i) × (bound_at b x i ≡ bound_at a x i)
tree-after a b x i g h l =
    let one = binding_at-grows a b x g h in let two = g.same i l in (two, cc)

pub list_within : (a : Store) (n : ℕ) (l : handle.List) → n ≤ size a → IsListBelow a.held n l
    → IsListBelow a.held (size a) l
list_within a n l m b = IsListBelow-more a.held a.held (Extends-same a.held a.held refl) n (size a) m l b

pub parts_within : (a : Store) (n : ℕ) (ps : handles.Parts) → n ≤ size a → IsPartsBelow a.held n ps
    → IsPartsBelow a.held (size a) ps
parts_within a n ps m b = IsPartsBelow-more a.held a.held (Extends-same a.held a.held refl) n (size a) m ps b

-- what a call needs of a list, of parts and of a part, after an arena grew
pub list-ready : (a b : Store) (x : given.Binding) (n : ℕ) (l : handle.List) → Grows a b → n ≤ size a → AreNamed a x
    → IsListBelow a.held n l → (n ≤ size b) × (AreNamed b x × IsListBelow b.held n l)
list-ready a b x n l g h m k =
    (omega (arith, h, g.longer), (AreNamed-grows a b x g m, IsListBelow-more a.held b.held g.extends n n (omega arith) l k))

pub parts-ready : (a b : Store) (x : given.Binding) (n : ℕ) (ps : handles.Parts) → Grows a b → n ≤ size a
    → AreNamed a x → IsPartsBelow a.held n ps → (n ≤ size b) × (AreNamed b x × IsPartsBelow b.held n ps)
parts-ready a b x n ps g h m k =
    (omega (arith, h, g.longer), (AreNamed-grows a b x g m, IsPartsBelow-more a.held b.held g.extends n n (omega arith) ps k))

pub part-ready : (a b : Store) (x : given.Binding) (n : ℕ) (p : Part) → Grows a b → n ≤ size a → AreNamed a x
    → IsPartBelow a.held n p → (n ≤ size b) × (AreNamed b x × IsPartBelow b.held n p)
part-ready a b x n p g h m k =
    (omega (arith, h, g.longer), (AreNamed-grows a b x g m, IsPartBelow-more a.held b.held g.extends n n (omega arith) p k))

pub list-after : (a b : Store) (x : given.Binding) (n : ℕ) (l : handle.List) → Grows a b → AreNamed a x
    → n ≤ size a → IsListBelow a.held n l → (trees_in b.held (forest b) l ≡ trees_in a.held (forest a) l)
    × (bound_list b x l ≡ bound_list a x l)
list-after a b x n l g h m k =
    let one = binding_at-grows a b x g h in let two = trees_in-grows a b g l (list_within a n l m k) in (two, cc)

pub parts-after : (a b : Store) (x : given.Binding) (n : ℕ) (ps : handles.Parts) → Grows a b → AreNamed a x
    → n ≤ size a → IsPartsBelow a.held n ps → (parts_in b.held (forest b) ps ≡ parts_in a.held (forest a) ps)
    × (bound_parts b x ps ≡ bound_parts a x ps)
parts-after a b x n ps g h m k =
    let one = binding_at-grows a b x g h in let two = parts_in-grows a b g ps (parts_within a n ps m k) in (two, cc)

-- what a call made
pub Makes-grows : (r : Result ℕ Stop) (a b : Store) (t : Tree) → Makes r a b t → Grows a b
unfolding Makes
Makes-grows (Ok i) a b t m = m.2
Makes-grows (Err Unreadable) a b t m = m.1
Makes-grows (Err Memory) a b t m = m

pub Makes-below : (r : Result ℕ Stop) (a b : Store) (t : Tree) → Makes r a b t → IfOk r (λ i. i < size b)
unfolding Makes
Makes-below (Ok i) a b t m = m.0
Makes-below (Err e) a b t m = tt

pub Makes-tree : (r : Result ℕ Stop) (a b : Store) (t u : Tree) → Makes r a b t → t ≡ u
    → IfOk r (λ i. tree_at (forest b) i ≡ u)
unfolding Makes
Makes-tree (Ok i) a b t u m e = m.1 ∙ e
Makes-tree (Err l) a b t u m e = tt

pub Makes-unfit : (r : Result ℕ Stop) (a b : Store) (t u : Tree) → Makes r a b t → t ≡ u
    → IsErrOf r Unreadable → (measure u).fits ≡ false
unfolding Makes
Makes-unfit r a b t u m e q =
    ap (λ (v : Tree). (measure v).fits) (sym e) ∙ (subst (λ (p : Result ℕ Stop). Makes p a b t) q m).0

pub Makes-err : (e : Stop) (a b : Store) (t u : Tree) → Grows a b
    → (IsErrOf {T = Node} (Err e) Unreadable → (measure t).fits ≡ false) → t ≡ u → Makes (Err e) a b u
Makes-err Unreadable a b t u g f e = Makes-limit a b u (ap (λ (v : Tree). (measure v).fits) (sym e) ∙ f refl) g
Makes-err Memory a b t u g f e = Makes-refused a b u g

pub few-pushed : (r : Result ℕ Stop) (a b : Store) → OnOk r (size b ≡ size a + 1) → OnErr r (b ≡ a)
    → size b ≤ size a + 1
few-pushed (Ok i) a b o e = omega (arith, o)
few-pushed (Err l) a b o e = omega (arith, ap size e)

pub no-params : (c : stored.Measure) (m : Measure) → Row c m → c.params ≡ 0 → m.params ≡ 0
unfolding Row
no-params c m r e = omega (arith, r.0.4, e)

pub some-params : (c : stored.Measure) (m : Measure) → Row c m → (c.params ≡ 0 → ⊥) → 1 ≤ m.params
unfolding Row
some-params c m r n = omega (arith, r.0.4, n)

pub stays : (c : stored.Measure) (b : Binding) (t : Tree) → Row c (measure t) → c.params ≡ 0 → t ≡ bind b t
stays c b t r e = sym (bind-none b t (no-params c (measure t) r e))

-- an error is passed on
pub limit_second : (A B : Type 0) (e : Stop) (x y z : Bool) → (IsErrOf {T = A} (Err e) Unreadable → z ≡ false)
    → z ≡ y → IsErrOf {T = B} (Err e) Unreadable → x && y ≡ false
limit_second A B e x y z f s q =
    let same : e ≡ Unreadable = cc in unfit_right x y (sym s ∙ f (ap (λ (l : Stop). Err l) same))

pub limit_third : (A B : Type 0) (e : Stop) (x y z w : Bool) → (IsErrOf {T = A} (Err e) Unreadable → w ≡ false)
    → w ≡ z → IsErrOf {T = B} (Err e) Unreadable → x && (y && z) ≡ false
limit_third A B e x y z w f s q = unfit_right x (y && z) (limit_second A B e y z w f s q)

pub three_same : {t u : Tree} {ts us : Trees} {ps qs : Parts} → t ≡ u → ts ≡ us → ps ≡ qs
    → (measure t).fits && ((measure_each ts).fits && (measure_parts false ps).fits)
    ≡ (measure u).fits && ((measure_each us).fits && (measure_parts false qs).fits)
three_same a b c = cc

pub limit_of : (A B : Type 0) (e : Stop) (y z : Bool) → (IsErrOf {T = A} (Err e) Unreadable → z ≡ false)
    → (z ≡ false → y ≡ false) → IsErrOf {T = B} (Err e) Unreadable → y ≡ false
limit_of A B e y z f s q =
    let same : e ≡ Unreadable = cc in s (f (ap (λ (l : Stop). Err l) same))

-- trees in a row, and parts in a row
abbrev pub joined_trees : Trees → Trees → Trees
joined_trees no_trees us = us
joined_trees (more_trees t ts) us = more_trees t (joined_trees ts us)

abbrev pub joined_parts : Parts → Parts → Parts
joined_parts no_parts qs = qs
joined_parts (text x y ps) qs = text x y (joined_parts ps qs)
joined_parts (tree manner t ps) qs = tree manner t (joined_parts ps qs)
joined_parts (trees listing ts ps) qs = trees listing ts (joined_parts ps qs)

joined_trees-none : (ts : Trees) → joined_trees ts no_trees ≡ ts
joined_trees-none no_trees = refl
joined_trees-none (more_trees t ts) = ap (more_trees t) (joined_trees-none ts)

joined_parts-none : (ps : Parts) → joined_parts ps no_parts ≡ ps
joined_parts-none no_parts = refl
joined_parts-none (text x y ps) = ap (text x y) (joined_parts-none ps)
joined_parts-none (tree manner t ps) = ap (tree manner t) (joined_parts-none ps)
joined_parts-none (trees listing ts ps) = ap (trees listing ts) (joined_parts-none ps)

pub all-push : (A : Type 0) (P : A → Type 0) (xs ys : List A) (x : A) → AllByRecursion P xs → P x → ys
    ≡ xs ++ x ∷ [] → AllByRecursion P ys
all-push A P xs ys x h p e = subst (AllByRecursion P) (sym e) (all-end A P xs x h p)

-- the nodes of a list, one after the other
trees_at-then : (ts : List Tree) (is : List ℕ) (i : ℕ) (us : Trees)
    → joined_trees (trees_at ts (is ++ i ∷ [])) us ≡ joined_trees (trees_at ts is) (more_trees (tree_at ts i) us)
trees_at-then ts [] i us = refl
trees_at-then ts (j ∷ is) i us = ap (more_trees (tree_at ts j)) (trees_at-then ts is i us)

bind_each-step : (b : Binding) (ts : List Tree) (is : List ℕ) (k d : ℕ) → k < length is
    → bind_each b (trees_at ts (drop k is))
    ≡ more_trees (bind b (tree_at ts (get_or is k d))) (bind_each b (trees_at ts (drop (k + 1) is)))
unfolding bind
bind_each-step b ts [] k d h = absurd (omega arith)
bind_each-step b ts (i ∷ is) zero d h = refl
bind_each-step b ts (i ∷ is) (suc k) d h =
    let e : suc k + 1 ≡ suc (k + 1) = omega arith in
    bind_each-step b ts is k d (omega arith)
    ∙ ap (λ (j : ℕ). more_trees (bind b (tree_at ts (get_or is k d)))
    (bind_each b (trees_at ts (drop j (i ∷ is))))) (sym e)

pub each-unfit : (b : Binding) (ts : List Tree) (is : List ℕ) (k d : ℕ) → k < length is
    → (measure (bind b (tree_at ts (get_or is k d)))).fits ≡ false
    → (measure_each (bind_each b (trees_at ts is))).fits ≡ false
unfolding bind measure
each-unfit b ts [] k d h f = absurd (omega arith)
each-unfit b ts (i ∷ is) zero d h f = unfit_left _ _ f
each-unfit b ts (i ∷ is) (suc k) d h f = unfit_right _ _ (each-unfit b ts is k d (omega arith) f)

-- what a list is, whose nodes are those of another one
pub record Listed (a : Store) (n : ℕ) (l : handle.List) (is : List ℕ) : Type 0 where
  pub within : n ≤ size a
  pub below : IsListBelow a.held n l
  pub same : is ≡ list_at a.held l

pub is_listed : (a : Store) (n : ℕ) (l : handle.List) (is js ks : List ℕ) → n ≤ size a → IsListBelow a.held n l
    → is ≡ js → js ≡ ks → ks ≡ list_at a.held l → Listed a n l is
is_listed a n l is js ks w b e f g = record { within = w; below = b; same = e ∙ f ∙ g }

pub listed_below : (a : Store) (n : ℕ) (l : handle.List) (is : List ℕ) (k d : ℕ) → Listed a n l is
    → k < length is → get_or is k d < n
listed_below a n l is k d s h = in-list n is k d (subst (AllByRecursion (λ (t : ℕ). t < n)) (sym s.same) s.below.1) h

pub list-few : (a b c : Store) (n : ℕ) (l : handle.List) (is : List ℕ) (k d : ℕ) → Listed a n l is
    → k < length is → Grows a b
    → size b + (measure_each (trees_at (forest a) (drop k is))).params ≤ size a
    + (measure_each (trees_at (forest a) is)).params
    → size c ≤ size b + (measure (tree_at (forest b) (get_or is k d))).params
    → size c + (measure_each (trees_at (forest a) (drop (k + 1) is))).params ≤ size a
    + (measure_each (trees_at (forest a) is)).params
list-few a b c n l is k d s h g few more =
    let low = listed_below a n l is k d s h in
    let same = ap (λ (t : Tree). (measure t).params) (g.same (get_or is k d) (omega (arith, low, s.within))) in
    let step = ap (λ (m : Measure). m.params) (each-step (forest a) is k d h) in
    omega (arith, same, step, few, more)

pub list-all : (a : Store) (n : ℕ) (l : handle.List) (is : List ℕ) (m k : ℕ) → Listed a n l is
    → m + (measure_each (trees_at (forest a) (drop k is))).params ≤ size a
    + (measure_each (trees_at (forest a) is)).params
    → m ≤ size a + (measure_each (trees_in a.held (forest a) l)).params
list-all a n l is m k s few =
    let all = ap (λ (js : List ℕ). (measure_each (trees_at (forest a) js)).params) s.same in omega (arith, few, all)

pub list-bound :
    (a b c : Store) (x : given.Binding) (n : ℕ) (l : handle.List) (is ns ms : List ℕ) (k d r : ℕ) (all : Trees)
    → Listed a n l is → k < length is
    → Grows a b → Grows b c → AreNamed a x → AllByRecursion (λ t. t < size b) ns
    → joined_trees (trees_at (forest b) ns) (bind_each (binding_at a x) (trees_at (forest a) (drop k is))) ≡ all
    → tree_at (forest c) r ≡ bound_at b x (get_or is k d) → ms ≡ ns ++ r ∷ []
    → joined_trees (trees_at (forest c) ms) (bind_each (binding_at a x) (trees_at (forest a) (drop (k + 1) is)))
    ≡ all
list-bound a b c x n l is ns ms k d r all s h g g2 known low so_far here e =
    let t = get_or is k d in
    let rest = bind_each (binding_at a x) (trees_at (forest a) (drop (k + 1) is)) in
    let under = listed_below a n l is k d s h in
    let same : bound_at b x t ≡ bound_at a x t = (tree-after a b x t g known (omega (arith, under, s.within))).1 in
    ap (λ (js : List ℕ). joined_trees (trees_at (forest c) js) rest) e
    ∙ trees_at-then (forest c) ns r rest
    ∙ ap (λ (us : Trees). joined_trees us (more_trees (tree_at (forest c) r) rest)) (trees_at-grows b c g2 ns low)
    ∙ ap (λ (u : Tree). joined_trees (trees_at (forest b) ns) (more_trees u rest)) (here ∙ same)
    ∙ ap (joined_trees (trees_at (forest b) ns)) (sym (bind_each-step (binding_at a x) (forest a) is k d h))
    ∙ so_far

pub list-end : (a b c : Store) (x : given.Binding) (n : ℕ) (l m : handle.List) (is ns : List ℕ) (k : ℕ)
    → Listed a n l is → length is ≤ k
    → joined_trees (trees_at (forest b) ns) (bind_each (binding_at a x) (trees_at (forest a) (drop k is)))
    ≡ bind_each (binding_at a x) (trees_at (forest a) is)
    → forest c ≡ forest b → list_at c.held m ≡ ns → trees_in c.held (forest c) m ≡ bound_list a x l
unfolding bind
list-end a b c x n l m is ns k s h so_far f e =
    let none : drop k is ≡ [] = drop_all k is h in
    ap (trees_at (forest c)) e ∙ ap (λ (ts : List Tree). trees_at ts ns) f
    ∙ sym (joined_trees-none (trees_at (forest b) ns))
    ∙ ap (λ (js : List ℕ). joined_trees (trees_at (forest b) ns)
    (bind_each (binding_at a x) (trees_at (forest a) js))) (sym none)
    ∙ so_far
    ∙ ap (λ (js : List ℕ). bind_each (binding_at a x) (trees_at (forest a) js)) s.same

pub list-below : (a b : Store) (m : handle.List) (ns : List ℕ) → AllByRecursion (λ t. t < size a) ns
    → IsRange (length b.held.lists) m.range → b.nodes ≡ a.nodes → list_at b.held m ≡ ns
    → IsListBelow b.held (size b) m
list-below a b m ns low r n e = (
  r,
  subst (AllByRecursion (λ (t : ℕ). t < size b)) (sym e)
      (subst (λ (k : ℕ). AllByRecursion (λ (t : ℕ). t < k) ns) (sym (ap length n)) low),
)

-- parts, one after the other
parts_of-then : (h : Held) (ts : List Tree) (ps : List Part) (p : Part) (qs : Parts)
    → joined_parts (parts_of h ts (ps ++ p ∷ [])) qs
    ≡ joined_parts (parts_of h ts ps) (joined_parts (parts_of h ts (p ∷ [])) qs)
parts_of-then h ts [] p qs = refl
parts_of-then h ts (part.Text x y ∷ ps) p qs = ap (text (text_at h x) (text_at h y)) (parts_of-then h ts ps p qs)
parts_of-then h ts (part.Tree manner t ∷ ps) p qs = ap (tree manner (tree_at ts t)) (parts_of-then h ts ps p qs)
parts_of-then h ts (part.Trees listing l ∷ ps) p qs =
    ap (trees listing (trees_in h ts l)) (parts_of-then h ts ps p qs)

bind_parts-step : (b : Binding) (h : Held) (ts : List Tree) (ps : List Part) (k : ℕ) (d : Part) → k < length ps
    → bind_parts b (parts_of h ts (drop k ps))
    ≡ joined_parts (bind_parts b (parts_of h ts (get_or ps k d ∷ [])))
    (bind_parts b (parts_of h ts (drop (k + 1) ps)))
unfolding bind
bind_parts-step b h ts [] k d l = absurd (omega arith)
bind_parts-step b h ts (part.Text x y ∷ ps) zero d l = refl
bind_parts-step b h ts (part.Tree manner t ∷ ps) zero d l = refl
bind_parts-step b h ts (part.Trees listing t ∷ ps) zero d l = refl
bind_parts-step b h ts (p ∷ ps) (suc k) d l =
    let e : suc k + 1 ≡ suc (k + 1) = omega arith in
    bind_parts-step b h ts ps k d (omega arith)
    ∙ ap (λ (j : ℕ). joined_parts (bind_parts b (parts_of h ts (get_or ps k d ∷ [])))
    (bind_parts b (parts_of h ts (drop j (p ∷ ps))))) (sym e)

params-step : (h : Held) (ts : List Tree) (r : Bool) (ps : List Part) (k : ℕ) (d : Part) → k < length ps
    → (measure_parts r (parts_of h ts (drop k ps))).params
    ≡ (measure_parts r (parts_of h ts (get_or ps k d ∷ []))).params
    + (measure_parts r (parts_of h ts (drop (k + 1) ps))).params
unfolding measure
params-step h ts r [] k d l = absurd (omega arith)
params-step h ts r (part.Text x y ∷ ps) zero d l = omega arith
params-step h ts r (part.Tree manner t ∷ ps) zero d l =
    let m = part_measure manner (measure (tree_at ts t)) in
    omega (arith, params-join_as r m (measure_parts r (parts_of h ts ps)), params-join_as r m nothing)
params-step h ts r (part.Trees listing t ∷ ps) zero d l =
    let m = measure_each (trees_in h ts t) in
    omega (arith, params-join_as r m (measure_parts r (parts_of h ts ps)), params-join_as r m nothing)
params-step h ts r (p ∷ ps) (suc k) d l =
    let e : suc k + 1 ≡ suc (k + 1) = omega arith in
    params-step h ts r ps k d (omega arith)
    ∙ ap (λ (j : ℕ). (measure_parts r (parts_of h ts (get_or ps k d ∷ []))).params
    + (measure_parts r (parts_of h ts (drop j (p ∷ ps)))).params) (sym e)

only_unfit : (r : Bool) (m n : Measure) → (join_as r m nothing).fits ≡ false → (join_as r m n).fits ≡ false
only_unfit false m n e = unfit_left m.fits n.fits (only_left m.fits e)
only_unfit true m n e = unfit_right n.fits m.fits e

rest_unfit : (r : Bool) (m n : Measure) → n.fits ≡ false → (join_as r m n).fits ≡ false
rest_unfit false m n e = unfit_right m.fits n.fits e
rest_unfit true m n e = unfit_left n.fits m.fits e

pub parts-unfit : (b : Binding) (h : Held) (ts : List Tree) (r : Bool) (ps : List Part) (k : ℕ) (d : Part)
    → k < length ps → (measure_parts r (bind_parts b (parts_of h ts (get_or ps k d ∷ [])))).fits ≡ false
    → (measure_parts r (bind_parts b (parts_of h ts ps))).fits ≡ false
unfolding bind measure
parts-unfit b h ts r [] k d l f = absurd (omega arith)
parts-unfit b h ts r (part.Text x y ∷ ps) zero d l f = absurd (true≢false f)
parts-unfit b h ts r (part.Tree manner t ∷ ps) zero d l f =
    only_unfit r (part_measure manner (measure (bind b (tree_at ts t))))
    (measure_parts r (bind_parts b (parts_of h ts ps))) f
parts-unfit b h ts r (part.Trees listing t ∷ ps) zero d l f =
    only_unfit r (measure_each (bind_each b (trees_in h ts t))) (measure_parts r (bind_parts b (parts_of h ts ps))) f
parts-unfit b h ts r (part.Text x y ∷ ps) (suc k) d l f = parts-unfit b h ts r ps k d (omega arith) f
parts-unfit b h ts r (part.Tree manner t ∷ ps) (suc k) d l f =
    rest_unfit r (part_measure manner (measure (bind b (tree_at ts t))))
    (measure_parts r (bind_parts b (parts_of h ts ps))) (parts-unfit b h ts r ps k d (omega arith) f)
parts-unfit b h ts r (part.Trees listing t ∷ ps) (suc k) d l f =
    rest_unfit r (measure_each (bind_each b (trees_in h ts t))) (measure_parts r (bind_parts b (parts_of h ts ps)))
    (parts-unfit b h ts r ps k d (omega arith) f)

pub record Parted (a : Store) (n : ℕ) (l : handles.Parts) (ps : List Part) : Type 0 where
  pub within : n ≤ size a
  pub below : IsPartsBelow a.held n l
  pub same : ps ≡ parts_at a.held l

pub is_parted : (a : Store) (n : ℕ) (l : handles.Parts) (ps qs rs : List Part) → n ≤ size a → IsPartsBelow a.held n l
    → ps ≡ qs → qs ≡ rs → rs ≡ parts_at a.held l → Parted a n l ps
is_parted a n l ps qs rs w b e f g = record { within = w; below = b; same = e ∙ f ∙ g }

pub parted_below : (a : Store) (n : ℕ) (l : handles.Parts) (ps : List Part) (k : ℕ) (d : Part) → Parted a n l ps
    → k < length ps → IsPartBelow a.held n (get_or ps k d)
parted_below a n l ps k d s h =
    in-parts a.held n ps k d (subst (AllByRecursion (IsPartBelow a.held n)) (sym s.same) s.below.1) h

-- a part, after an arena grew
pub part-after : (a b : Store) (x : given.Binding) (n : ℕ) (p : Part) → Grows a b → AreNamed a x → n ≤ size a
    → IsPartBelow a.held n p → (part_at b p ≡ part_at a p)
    × (bind_parts (binding_at b x) (part_at b p) ≡ bind_parts (binding_at a x) (part_at a p))
part-after a b x n p g h m k =
    let one = binding_at-grows a b x g h in
    let two =
    parts_of-grows a b g (p ∷ [])
    (IsPartBelow-more a.held a.held (Extends-same a.held a.held refl) n (size a) m p k, tt) in
    (two, cc)

pub parts-few :
    (a b c : Store) (x : given.Binding) (n : ℕ) (l : handles.Parts) (ps : List Part) (k : ℕ) (d : Part) (r : Bool)
    → Parted a n l ps → k < length ps → Grows a b → AreNamed a x
    → size b + (measure_parts r (parts_of a.held (forest a) (drop k ps))).params ≤ size a
    + (measure_parts r (parts_of a.held (forest a) ps)).params
    → size c ≤ size b + (measure_parts r (part_at b (get_or ps k d))).params
    → size c + (measure_parts r (parts_of a.held (forest a) (drop (k + 1) ps))).params ≤ size a
    + (measure_parts r (parts_of a.held (forest a) ps)).params
parts-few a b c x n l ps k d r s h g known few more =
    let after = part-after a b x n (get_or ps k d) g known s.within (parted_below a n l ps k d s h) in
    let same = ap (λ (qs : Parts). (measure_parts r qs).params) after.0 in
    let step = params-step a.held (forest a) r ps k d h in
    omega (arith, same, step, few, more)

pub parts-all : (a : Store) (n : ℕ) (l : handles.Parts) (ps : List Part) (m k : ℕ) (r : Bool) → Parted a n l ps
    → m + (measure_parts r (parts_of a.held (forest a) (drop k ps))).params ≤ size a
    + (measure_parts r (parts_of a.held (forest a) ps)).params
    → m ≤ size a + (measure_parts r (parts_in a.held (forest a) l)).params
parts-all a n l ps m k r s few =
    let all = ap (λ (js : List Part). (measure_parts r (parts_of a.held (forest a) js)).params) s.same in
    omega (arith, few, all)

pub parts-bound :
    (a b c : Store) (x : given.Binding) (n : ℕ) (l : handles.Parts) (ps ns ms : List Part) (k : ℕ) (d q : Part)
    (all : Parts) → Parted a n l ps → k < length ps
    → Grows a b → Grows b c → AreNamed a x → AllByRecursion (IsPartBelow b.held (size b)) ns
    → joined_parts (parts_of b.held (forest b) ns)
    (bind_parts (binding_at a x) (parts_of a.held (forest a) (drop k ps))) ≡ all
    → part_at c q ≡ bind_parts (binding_at b x) (part_at b (get_or ps k d)) → ms ≡ ns ++ q ∷ []
    → joined_parts (parts_of c.held (forest c) ms)
    (bind_parts (binding_at a x) (parts_of a.held (forest a) (drop (k + 1) ps))) ≡ all
parts-bound a b c x n l ps ns ms k d q all s h g g2 known low so_far here e =
    let p = get_or ps k d in
    let rest = bind_parts (binding_at a x) (parts_of a.held (forest a) (drop (k + 1) ps)) in
    let same = (part-after a b x n p g known s.within (parted_below a n l ps k d s h)).1 in
    ap (λ (js : List Part). joined_parts (parts_of c.held (forest c) js) rest) e
    ∙ parts_of-then c.held (forest c) ns q rest
    ∙ ap (λ (us : Parts). joined_parts us (joined_parts (part_at c q) rest)) (parts_of-grows b c g2 ns low)
    ∙ ap (λ (u : Parts). joined_parts (parts_of b.held (forest b) ns) (joined_parts u rest)) (here ∙ same)
    ∙ ap (joined_parts (parts_of b.held (forest b) ns))
    (sym (bind_parts-step (binding_at a x) a.held (forest a) ps k d h))
    ∙ so_far

-- parts that are made, where no node is new
pub parts-end : (a b c : Store) (x : given.Binding) (n : ℕ) (l m : handles.Parts) (ps ns : List Part) (k : ℕ)
    → Parted a n l ps → length ps ≤ k
    → joined_parts (parts_of b.held (forest b) ns)
    (bind_parts (binding_at a x) (parts_of a.held (forest a) (drop k ps)))
    ≡ bind_parts (binding_at a x) (parts_of a.held (forest a) ps)
    → forest c ≡ forest b → parts_in c.held (forest b) m ≡ parts_of b.held (forest b) ns
    → parts_in c.held (forest c) m ≡ bound_parts a x l
unfolding bind
parts-end a b c x n l m ps ns k s h so_far f e =
    let none : drop k ps ≡ [] = drop_all k ps h in
    ap (λ (ts : List Tree). parts_in c.held ts m) f ∙ e
    ∙ sym (joined_parts-none (parts_of b.held (forest b) ns))
    ∙ ap (λ (js : List Part). joined_parts (parts_of b.held (forest b) ns)
    (bind_parts (binding_at a x) (parts_of a.held (forest a) js))) (sym none)
    ∙ so_far
    ∙ ap (λ (js : List Part). bind_parts (binding_at a x) (parts_of a.held (forest a) js)) s.same

pub all_parts-grows : (a b : Store) (ns : List Part) → Grows a b → AllByRecursion (IsPartBelow a.held (size a)) ns
    → AllByRecursion (IsPartBelow b.held (size b)) ns
all_parts-grows a b ns g low = all_parts-more a.held b.held g.extends (size a) (size b) g.longer ns low

pub ruleset binding = (unfit_left, inside_counted, Grows-same, Grows-trans, Makes-memory, Makes-then)
