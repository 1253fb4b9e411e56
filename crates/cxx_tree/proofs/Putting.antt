-- Parts in front of others.
use Rattle.std.proofs.Common.{ℕ, ◌≡◌, List, [], ◌∷◌, ◌++◌, refl, ap, ◌∙◌, sym, subst, Result, Ok, Err, Bool, true, false, ◌==◌, length, Option, arith}
use Rattle.std.specs.Prelude.{OnOk, is_ok, if◌then◌else◌, not, option_map}
use Rattle.std.proofs.lemmas.Bool.Decides.{nat_tests}
use Rattle.cxx_tree.specs.declared.node.List as handle
use Rattle.cxx_tree.specs.Phrases.{declared, signature, constrained, constrained_before, parens}
use Rattle.std.specs.List.{AllByRecursion}
use Rattle.cxx_tree.specs.declared.node.Part.{Part}
use Rattle.cxx_tree.specs.declared.node.Part.TheVariants as part
use Rattle.cxx_tree.specs.Tree.{Tree, Parts, no_parts, text, tree, trees}
use Rattle.cxx_tree.specs.Stored.{Held, parts_of, text_at, tree_at, trees_at, trees_in, list_at, IsPartBelow}
use Rattle.cxx_tree.specs.Pieces.{part_of, put, Adds, AddsBelow, declared_if, signature_at}

pub put-append : (h : Held) (ts : List Tree) (ps qs : List Part) (behind : Parts) → put h ts (ps ++ qs) behind ≡ put h ts ps (put h ts qs behind)
put-append h ts [] qs behind = refl
put-append h ts (p ∷ ps) qs behind = ap (part_of h ts p) (put-append h ts ps qs behind)

pub parts_of-put : (h : Held) (ts : List Tree) (ps : List Part) → parts_of h ts ps ≡ put h ts ps no_parts
parts_of-put h ts [] = refl
parts_of-put h ts (part.Text a b ∷ ps) = ap (text (text_at h a) (text_at h b)) (parts_of-put h ts ps)
parts_of-put h ts (part.Tree manner t ∷ ps) = ap (tree manner (tree_at ts t)) (parts_of-put h ts ps)
parts_of-put h ts (part.Trees kind l ∷ ps) = ap (trees kind (trees_in h ts l)) (parts_of-put h ts ps)

pub all-append : (h : Held) (n : ℕ) (ps qs : List Part) → AllByRecursion (IsPartBelow h n) ps → AllByRecursion (IsPartBelow h n) qs → AllByRecursion (IsPartBelow h n) (ps ++ qs)
all-append h n [] qs a b = b
all-append h n (p ∷ ps) qs a b = (a.0, all-append h n ps qs a.1 b)

-- parts that are appended
pub adds : (old more new : List Part) (piece : Held → List Tree → Parts → Parts) → new ≡ old ++ more → ((h : Held) (ts : List Tree) (behind : Parts) → put h ts more behind ≡ piece h ts behind) → Adds old new piece
adds old more new piece e f h ts behind =
    ap (λ (l : List Part). put h ts l behind) e ∙ put-append h ts old more behind ∙ ap (put h ts old) (f h ts behind)

pub adds-below : (old more new : List Part) (P : Held → ℕ → Type 0) → new ≡ old ++ more → ((h : Held) (n : ℕ) → P h n → AllByRecursion (IsPartBelow h n) more) → AddsBelow old new P
adds-below old more new P e f h n p a =
    subst (AllByRecursion (IsPartBelow h n)) (sym e) (all-append h n old more a (f h n p))

-- what follows where a call appended
pub on_ok : {A E X : Type 0} (r : Result A E) (new more old : List X) (Q : Type 0) → new ≡ (if is_ok r then more else old) → (new ≡ more → Q) → OnOk r Q
on_ok (Ok x) new more old Q e f = f e
on_ok (Err x) new more old Q e f = tt

pub ok_map : {A E : Type 0} (r : Result A E) (P Q : Type 0) → OnOk r P → (P → Q) → OnOk r Q
ok_map (Ok x) P Q h f = f h
ok_map (Err x) P Q h f = tt

-- a piece between two others
between : (h : Held) (ts : List Tree) (none front one two back all : List Part) (piece : Parts → Parts) → none ≡ [] → one ≡ none ++ front → ((behind : Parts) → put h ts two behind ≡ put h ts one (piece behind)) → all ≡ two ++ back → parts_of h ts all ≡ put h ts front (piece (put h ts back no_parts))
between h ts none front one two back all piece e f g k =
    let first : one ≡ front = f ∙ ap (λ (l : List Part). l ++ front) e in
    parts_of-put h ts all
    ∙ ap (λ (l : List Part). put h ts l no_parts) k
    ∙ put-append h ts two back no_parts
    ∙ g (put h ts back no_parts)
    ∙ ap (λ (l : List Part). put h ts l (piece (put h ts back no_parts))) first

-- the declarations of a signature
declared-as : (ts : List Tree) (is : List ℕ) (any : Bool) (behind : Parts) → any ≡ not (length is == 0) → declared_if any (trees_at ts is) behind ≡ declared (trees_at ts is) behind
declared-as ts [] true behind e = absurd (grind (arith, nat_tests))
declared-as ts [] false behind e = refl
declared-as ts (i ∷ is) true behind e = refl
declared-as ts (i ∷ is) false behind e = absurd (grind (arith, nat_tests))

-- a signature between two others
pub signed : (h : Held) (ts : List Tree) (none front one two back all : List Part) (any : Bool) (dl pl : handle.List) (before after : Option ℕ) → none ≡ [] → one ≡ none ++ front → ((behind : Parts) → put h ts two behind ≡ put h ts one (signature_at h ts any dl before pl after behind)) → all ≡ two ++ back → any ≡ not (length (list_at h dl) == 0) → parts_of h ts all ≡ put h ts front (signature (trees_in h ts dl) (option_map (tree_at ts) before) (trees_in h ts pl) (option_map (tree_at ts) after) (put h ts back no_parts))
signed h ts none front one two back all any dl pl before after e f g k m =
    let behind : Parts = put h ts back no_parts in
    let rest = constrained_before (option_map (tree_at ts) before) (parens (trees_in h ts pl) (constrained (option_map (tree_at ts) after) behind)) in
    between h ts none front one two back all (signature_at h ts any dl before pl after) e f g k
    ∙ ap (put h ts front) (declared-as ts (list_at h dl) any rest m)
