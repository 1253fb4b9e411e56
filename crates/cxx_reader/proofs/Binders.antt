-- Declarations of template parameters, and constraints.
use Rattle.std.proofs.Common.{ℕ, ◌≡◌, ◌+◌, ◌-◌, List, [], ◌∷◌, ◌++◌, length, map, drop, refl, sym, ap, ◌∙◌, arith, zero, suc, Option, Some, None, Err}
use Rattle.std.specs.Prelude.{IfSome, option_map}
use Rattle.std.specs.List.{AllByRecursion}
use Rattle.cxx_tree.specs.Tree.{Tree, Trees}
use Rattle.cxx_tree.specs.declared.lambdas.Signature.{Signature}
use Rattle.cxx_tree.specs.Kept.{KeepsNodes, IsNode}
use Rattle.cxx_tree.specs.Stored.{Store, stands, trees_from_list}
use Rattle.cxx_tree.specs.declared.arena.Stop.{Stop}
use Rattle.cxx_tree.specs.declared.arena.Stop.TheVariants.{Unreadable, Memory}
use Rattle.cxx_grammar.specs.State.{State}
use Rattle.cxx_grammar.specs.Bases.{declared_name}
use Rattle.cxx_grammar.specs.Binds.{names_of}
use Rattle.cxx_grammar.specs.Declarations.{declarations_after, parse_declarations}
use Rattle.cxx_grammar.specs.Parses.{make}
use Rattle.cxx_grammar.specs.Productions.{Productions}
use Rattle.cxx_grammar.specs.Unnamed.{Lambda, lambda_tree, parse_count, parse_lambda_end}
use Rattle.cxx_reader.specs.declared.reader.Reader.{Reader}
use Rattle.cxx_reader.specs.Outcome.{trees_behind, list_trees, signature_at, IsSignature, Gives, GivesFrom, GivesList}
use Rattle.cxx_reader.proofs.Kept.{map-stands}
use Rattle.cxx_reader.proofs.Bound.{length-map, list_below-keeps, list_trees-grow}

-- a node or none, of an arena that grew
pub node-below : (a b : Store) → KeepsNodes a b → (o : Option ℕ) → IfSome o (IsNode a) → IfSome o (IsNode b)
node-below a b g None h = tt
node-below a b g (Some i) h = omega (arith, h, g.longer)

pub node-grows : (a b : Store) → KeepsNodes a b → (o : Option ℕ) → IfSome o (IsNode a) → option_map (stands b) o ≡ option_map (stands a) o
unfolding stands
node-grows a b g None h = refl
node-grows a b g (Some i) h = ap (λ (t : Tree). Some t) (g.same i h)

-- a signature, of an arena that grew
pub signature-below : (a b : Store) → KeepsNodes a b → (l : Signature) → IsSignature a l → IsSignature b l
signature-below a b g l h =
    ((list_below-keeps a b l.declarations g h.0.0, node-below a b g l.before h.0.1), (list_below-keeps a b l.params g h.1.0, node-below a b g l.behind h.1.1))

pub signature-grows : (a b : Store) → KeepsNodes a b → (l : Signature) → IsSignature a l → signature_at b l ≡ signature_at a l
signature-grows a b g l h =
    ap (λ (ts : Trees). record { declarations = ts; before = option_map (stands b) l.before; params = list_trees b l.params; behind = option_map (stands b) l.behind }) (list_trees-grow a b g l.declarations h.0.0)
    ∙ ap (λ (o : Option Tree). record { declarations = list_trees a l.declarations; before = o; params = list_trees b l.params; behind = option_map (stands b) l.behind }) (node-grows a b g l.before h.0.1)
    ∙ ap (λ (ts : Trees). record { declarations = list_trees a l.declarations; before = option_map (stands a) l.before; params = ts; behind = option_map (stands b) l.behind }) (list_trees-grow a b g l.params h.1.0)
    ∙ ap (λ (o : Option Tree). record { declarations = list_trees a l.declarations; before = option_map (stands a) l.before; params = list_trees a l.params; behind = o }) (node-grows a b g l.behind h.1.1)

-- the value of a lambda isn't made
pub lambda_stop : (e : Stop) (after : Reader) (level : ℕ) (l : Lambda) (s u : State) (digits : List ℕ) → parse_count s ≡ Some (digits, u) → Gives (Err e) after (make (lambda_tree l) u) → Gives (Err e) after (parse_lambda_end level l s)
lambda_stop Unreadable after level l s u digits c f = rw (c, f) refl
lambda_stop Memory after level l s u digits c f = tt

-- the trees of nodes that stay collected
pub behind-grows : (a b : Store) (from : ℕ) → KeepsNodes a b → b.pending ≡ a.pending → AllByRecursion (IsNode a) (drop from a.pending) → trees_behind from b ≡ trees_behind from a
behind-grows a b from g e below = ap (λ (l : List ℕ). map (stands b) (drop from l)) e ∙ map-stands a b g (drop from a.pending) below

length-drop : (n : ℕ) (xs : List ℕ) → length (drop n xs) ≡ length xs - n
length-drop zero xs = omega arith
length-drop (suc n) [] = omega arith
length-drop (suc n) (x ∷ xs) = let less : length xs - n ≡ length (x ∷ xs) - suc n = omega arith in length-drop n xs ∙ less

-- how many nodes are collected, from an index on
pub count_behind : (from : ℕ) (a : Store) → length a.pending - from ≡ length (trees_behind from a)
count_behind from a = sym (length-map (stands a) (drop from a.pending) ∙ length-drop from a.pending)

-- declarations aren't read
pub declarations_stop : (e : Stop) (from : ℕ) (after : Reader) (p : Productions) (s : State) → GivesFrom (Err e) from after (declarations_after p [] s) → GivesList (Err e) after (parse_declarations p s)
unfolding parse_declarations
declarations_stop Unreadable from after p s f = rw f refl
declarations_stop Memory from after p s f = tt

-- all declarations are read
pub declarations_end : (p : Productions) (s u : State) (trees : List Tree) → declarations_after p [] s ≡ Some (trees, u) → parse_declarations p s ≡ Some (trees_from_list trees, u)
unfolding parse_declarations
declarations_end p s u trees e = rw e refl

snoc-append : (xs ys : List Tree) (y : Tree) → (xs ++ y ∷ []) ++ ys ≡ xs ++ (y ∷ ys)
snoc-append [] ys y = refl
snoc-append (x ∷ xs) ys y = ap (λ (l : List Tree). x ∷ l) (snoc-append xs ys y)

append-none : (xs : List Tree) → xs ++ [] ≡ xs
append-none [] = refl
append-none (x ∷ xs) = ap (λ (l : List Tree). x ∷ l) (append-none xs)

-- the names of declarations, after some of them
pub record NamesSoFar (whole names declarations : List Tree) : Type 0 where
  pub is : whole ≡ names ++ names_of (trees_from_list declarations)

pub names_start : (declarations : List Tree) → NamesSoFar (names_of (trees_from_list declarations)) [] declarations
names_start declarations = record { is = refl }

pub names_more : {whole names declarations : List Tree} {d name : Tree} → NamesSoFar whole names (d ∷ declarations) → name ≡ declared_name d → NamesSoFar whole (names ++ name ∷ []) declarations
unfolding names_of
names_more {whole = whole} {names = names} {declarations = declarations} {d = d} {name = name} n e =
    let rest = names_of (trees_from_list declarations) in
    record { is = n.is ∙ ap (λ (t : Tree). names ++ (t ∷ rest)) (sym e) ∙ sym (snoc-append names rest name) }

pub names_end : {whole names : List Tree} → NamesSoFar whole names [] → whole ≡ names
unfolding names_of
names_end {whole = whole} {names = names} n = n.is ∙ append-none names
