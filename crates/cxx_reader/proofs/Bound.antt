-- The arguments of an encoding, one after the other.
use Rattle.std.proofs.Common.{ℕ, ◌≡◌, ◌+◌, ◌≤◌, List, [], ◌∷◌, ◌++◌, length, map, drop, refl, sym, ap, ◌∙◌, arith, zero, suc, Option, Some, None, Bool, Err}
use Rattle.cxx_tree.specs.Tree.{Tree}
use Rattle.cxx_tree.specs.Kept.{KeepsNodes, IsNode}
use Rattle.cxx_tree.specs.declared.node.List as handle
use Rattle.cxx_tree.specs.Stored.{size, list_at, trees_from_list, IsListBelow}
use Rattle.cxx_tree.proofs.Forest.{list_at-more, IsListBelow-more}
use Rattle.cxx_grammar.specs.State.{State}
use Rattle.cxx_grammar.specs.Binds.{bind_arg, bind_args}
use Rattle.cxx_reader.specs.declared.reader.Reader.{Reader}
use Rattle.cxx_tree.specs.declared.arena.Stop.{Stop}
use Rattle.cxx_tree.specs.declared.arena.Stop.TheVariants.{Unreadable, Memory}
use Rattle.cxx_tree.specs.Stored.{Store, stands}
use Rattle.cxx_reader.specs.Outcome.{Gives, GivesFrom, list_trees}
use Rattle.std.specs.Prelude.{IfSome, option_map}
use Rattle.cxx_reader.proofs.Kept.{map-stands}
use Rattle.cxx_reader.proofs.Lists.{drop-all}

-- what the arguments give, after some of them
pub record BoundSoFar (whole : Option (List Tree × State)) (is_inherited : Bool) (bound args : List Tree) (s : State) : Type 0 where
  pub is : whole ≡ bind_args is_inherited bound (trees_from_list args) s

pub bound_start : (is_inherited : Bool) (args : List Tree) (s : State) → BoundSoFar (bind_args is_inherited [] (trees_from_list args) s) is_inherited [] args s
bound_start is_inherited args s = record { is = refl }

pub bound_end : {whole : Option (List Tree × State)} {is_inherited : Bool} {bound : List Tree} {s : State} → BoundSoFar whole is_inherited bound [] s → whole ≡ Some (bound, s)
unfolding bind_args
bound_end b = b.is

pub bound_more : {whole : Option (List Tree × State)} {is_inherited : Bool} {bound args : List Tree} {s after : State} {a t : Tree}
    → BoundSoFar whole is_inherited bound (a ∷ args) s → bind_arg is_inherited bound a s ≡ Some (t, after) → BoundSoFar whole is_inherited (bound ++ t ∷ []) args after
unfolding bind_args
bound_more b e = record { is = b.is ∙ rw e refl }

bound_fail : {whole : Option (List Tree × State)} {is_inherited : Bool} {bound args : List Tree} {s : State} {a : Tree} → BoundSoFar whole is_inherited bound (a ∷ args) s → bind_arg is_inherited bound a s ≡ None → whole ≡ None
unfolding bind_args
bound_fail b e = b.is ∙ rw e refl

-- an argument isn't bound
pub bound_stop : (e : Stop) (from : ℕ) (after : Reader) {whole : Option (List Tree × State)} {is_inherited : Bool} {bound args : List Tree} {s : State} {a : Tree} → BoundSoFar whole is_inherited bound (a ∷ args) s
    → Gives (Err e) after (bind_arg is_inherited bound a s) → GivesFrom (Err e) from after whole
bound_stop Unreadable from after b f = bound_fail b f
bound_stop Memory from after b f = tt

-- the trees of a list
abbrev pub listed : Store → handle.List → List Tree
listed a l = map (stands a) (list_at a.held l)

-- the trees of a list of an arena that grew
pub list_below-keeps : (a b : Store) (l : handle.List) → KeepsNodes a b → IsListBelow a.held (size a) l → IsListBelow b.held (size b) l
list_below-keeps a b l g h = IsListBelow-more a.held b.held g.extends (size a) (size b) g.longer l h

pub listed-grows : (a b : Store) → KeepsNodes a b → (l : handle.List) → IsListBelow a.held (size a) l → listed b l ≡ listed a l
listed-grows a b g l h = ap (map (stands b)) (list_at-more a.held b.held g.extends l h.0) ∙ map-stands a b g (list_at a.held l) h.1

-- a node or none
pub some-stands : (a b : Store) → KeepsNodes a b → (o : Option ℕ) → IfSome o (IsNode a) → option_map (stands b) o ≡ option_map (stands a) o
unfolding stands
some-stands a b g None h = refl
some-stands a b g (Some i) h = ap (λ (t : Tree). Some t) (g.same i h)

-- the same of a list or none
pub some-below : (a b : Store) → KeepsNodes a b → (o : Option handle.List) → IfSome o (IsListBelow a.held (size a)) → IfSome o (IsListBelow b.held (size b))
some-below a b g None h = tt
some-below a b g (Some l) h = list_below-keeps a b l g h

pub some-trees : (a b : Store) → KeepsNodes a b → (o : Option handle.List) → IfSome o (IsListBelow a.held (size a)) → option_map (list_trees b) o ≡ option_map (list_trees a) o
unfolding list_trees
some-trees a b g None h = refl
some-trees a b g (Some l) h = ap (λ ts. Some (trees_from_list ts)) (listed-grows a b g l h)

map-drop : {A B : Type 0} (f : A → B) (k : ℕ) (xs : List A) → map f (drop k xs) ≡ drop k (map f xs)
map-drop f zero xs = refl
map-drop f (suc k) [] = refl
map-drop f (suc k) (x ∷ xs) = map-drop f k xs

-- the next argument
pub next_arg : (a b : Store) → KeepsNodes a b → (l : handle.List) → IsListBelow a.held (size a) l → (k i : ℕ)
    → drop k (list_at b.held l) ≡ i ∷ drop (k + 1) (list_at b.held l) → drop k (listed a l) ≡ stands b i ∷ drop (k + 1) (listed a l)
next_arg a b g l h k i e =
    ap (drop k) (sym (listed-grows a b g l h)) ∙ sym (map-drop (stands b) k (list_at b.held l)) ∙ ap (map (stands b)) e
    ∙ ap (λ (ts : List Tree). stands b i ∷ ts) (map-drop (stands b) (k + 1) (list_at b.held l)) ∙ ap (λ (ts : List Tree). stands b i ∷ drop (k + 1) ts) (listed-grows a b g l h)

pub length-map : {A B : Type 0} (f : A → B) (xs : List A) → length (map f xs) ≡ length xs
length-map f [] = refl
length-map f (x ∷ xs) = ap (λ (n : ℕ). suc n) (length-map f xs)

-- no argument is left
pub no_arg : (a : Store) (l : handle.List) (n : ℕ) → length (list_at a.held l) ≤ n → drop n (listed a l) ≡ []
no_arg a l n h = drop-all n (map (stands a) (list_at a.held l)) (omega (arith, h, length-map (stands a) (list_at a.held l)))

pub list_trees-grow : (a b : Store) → KeepsNodes a b → (l : handle.List) → IsListBelow a.held (size a) l → list_trees b l ≡ list_trees a l
unfolding list_trees
list_trees-grow a b g l h = ap (λ ts. trees_from_list ts) (listed-grows a b g l h)
