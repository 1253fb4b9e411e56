-- Parts in front of others.
use Rattle.std.specs.Prelude.{ℕ, ◌≡◌, List, [], ◌∷◌, Bool, true, false, Option, option_map}
use Rattle.std.specs.List.{AllByRecursion}
use Rattle.cxx_tree.specs.declared.node.List as handle
use Rattle.cxx_tree.specs.declared.node.Part.{Part}
use Rattle.cxx_tree.specs.declared.node.Part.TheVariants as part
use Rattle.cxx_tree.specs.declared.kinds.Listing.TheVariants as listing
use Rattle.cxx_tree.specs.Tree.{Tree, Trees, Parts, text, tree, trees}
use Rattle.cxx_tree.specs.Stored.{Held, text_at, tree_at, trees_in, IsPartBelow, IsListBelow, IsOptionBelow}
use Rattle.cxx_tree.specs.Phrases.{constrained_before, parens, constrained}

-- what a part stands for, in front of others
abbrev pub part_of : Held → List Tree → Part → Parts → Parts
part_of h ts (part.Text a b) behind = text (text_at h a) (text_at h b) behind
part_of h ts (part.Tree manner t) behind = tree manner (tree_at ts t) behind
part_of h ts (part.Trees kind l) behind = trees kind (trees_in h ts l) behind

-- what parts stand for, in front of others
abbrev pub put : Held → List Tree → List Part → Parts → Parts
put h ts [] behind = behind
put h ts (p ∷ ps) behind = part_of h ts p (put h ts ps behind)

-- a piece is added at the end
abbrev pub Adds : List Part → List Part → (Held → List Tree → Parts → Parts) → Type 0
Adds old new piece =
    (h : Held) (ts : List Tree) (behind : Parts) → put h ts new behind ≡ put h ts old (piece h ts behind)

-- the parts that are added are in the arena and stand before an index, if a condition holds
abbrev pub AddsBelow : List Part → List Part → (Held → ℕ → Type 0) → Type 0
AddsBelow old new P =
    (h : Held) (n : ℕ) → P h n → AllByRecursion (IsPartBelow h n) old → AllByRecursion (IsPartBelow h n) new

-- the template parameters of a lambda, if the flag says that there are any
abbrev pub declared_if : Bool → Trees → Parts → Parts
declared_if true ts behind = trees listing.Declarations ts behind
declared_if false ts behind = behind

-- the signature of a lambda, whose lists were copied
abbrev pub signature_at : Held → List Tree → Bool → handle.List → Option ℕ → handle.List → Option ℕ → Parts → Parts
signature_at h ts any declarations before params after behind =
    declared_if any (trees_in h ts declarations)
    (constrained_before (option_map (tree_at ts) before)
    (parens (trees_in h ts params) (constrained (option_map (tree_at ts) after) behind)))

abbrev pub IsSignatureBelow : Held → ℕ → handle.List → Option ℕ → handle.List → Option ℕ → Type 0
IsSignatureBelow h n declarations before params after =
    IsListBelow h n declarations × IsOptionBelow n before × IsListBelow h n params × IsOptionBelow n after
