-- Making nodes: texts and parts of an arena stay right as it grows.
use Rattle.std.proofs.Common.{ℕ, ◌≡◌, List, refl, sym, subst, Option, Some, None, Result, Err}
use Rattle.std.specs.List.{AllByRecursion}
use Rattle.cxx_tree.specs.declared.node.NodeText.{NodeText}
use Rattle.cxx_tree.specs.declared.node.List as handle
use Rattle.cxx_tree.specs.declared.node.Parts as handles
use Rattle.cxx_tree.specs.declared.node.Part.{Part}
use Rattle.cxx_tree.specs.declared.arena.Stop.{Stop}
use Rattle.cxx_tree.specs.declared.arena.Stop.TheVariants.{Memory}
use Rattle.cxx_tree.specs.Tree.{Tree}
use Rattle.cxx_tree.specs.Grows.{Grows, Makes}
use Rattle.cxx_tree.specs.Stored.{Store, forest, size, tree_at, option_at, trees_in, text_at, parts_of, parts_in, IsOptionBelow, IsListBelow, IsText, IsPartBelow, IsPartsBelow}
use Rattle.cxx_tree.proofs.Forest.{option_at-same, trees_in-more, parts_of-more, parts_in-more, text_at-more, IsText-more, IsListBelow-more}
use Rattle.std.specs.Prelude.{option_map}
use Rattle.cxx_tree.specs.Phrases.{at_most_one}
use Rattle.cxx_tree.proofs.Grown.{Makes-after, Makes-refused}

-- trees, lists and parts of a grown arena
pub option_at-grows : (a b : Store) → Grows a b → (o : Option ℕ) → IsOptionBelow (size a) o → option_at (forest b) o ≡ option_at (forest a) o
option_at-grows a b g o h = option_at-same (size a) (forest b) (forest a) g.same o h

pub trees_in-grows : (a b : Store) → Grows a b → (l : handle.List) → IsListBelow a.held (size a) l → trees_in b.held (forest b) l ≡ trees_in a.held (forest a) l
trees_in-grows a b g l h = trees_in-more a.held b.held g.extends (size a) (forest a) (forest b) g.same l h

pub parts_of-grows : (a b : Store) → Grows a b → (ps : List Part) → AllByRecursion (IsPartBelow a.held (size a)) ps → parts_of b.held (forest b) ps ≡ parts_of a.held (forest a) ps
parts_of-grows a b g ps h = parts_of-more a.held b.held g.extends (size a) (forest a) (forest b) g.same ps h

pub parts_in-grows : (a b : Store) → Grows a b → (ps : handles.Parts) → IsPartsBelow a.held (size a) ps → parts_in b.held (forest b) ps ≡ parts_in a.held (forest a) ps
parts_in-grows a b g ps h = parts_in-more a.held b.held g.extends (size a) (forest a) (forest b) g.same ps h

pub list_below-grows : (a b : Store) (l : handle.List) → Grows a b → IsListBelow a.held (size a) l → IsListBelow b.held (size b) l
list_below-grows a b l g h = IsListBelow-more a.held b.held g.extends (size a) (size b) g.longer l h

-- memory was refused
pub Makes-memory : (r : Result ℕ Stop) (a b : Store) (t : Tree) → r ≡ Err Memory → Grows a b → Makes r a b t
Makes-memory r a b t e g = subst (λ (x : Result ℕ Stop). Makes x a b t) (sym e) (Makes-refused a b t g)

-- texts of a grown arena
pub text_at-grows : (a b : Store) (t : NodeText) → Grows a b → IsText a.held t → text_at b.held t ≡ text_at a.held t
text_at-grows a b t g i = text_at-more a.held b.held g.extends t i

pub IsText-grows : (a b : Store) (t : NodeText) → Grows a b → IsText a.held t → IsText b.held t
IsText-grows a b t g i = IsText-more a.held b.held g.extends t i

-- no return type or one
pub at_most_one-at : (ts : List Tree) (o : Option ℕ) → at_most_one (option_map (tree_at ts) o) ≡ option_at ts o
at_most_one-at ts None = refl
at_most_one-at ts (Some i) = refl

-- a list, and parts that were made after it
pub listing-below : (a b : Store) (l : handle.List) (ps : handles.Parts) → Grows a b → size b ≡ size a → IsListBelow a.held (size a) l → IsPartsBelow b.held (size a) ps → IsListBelow b.held (size b) l × IsPartsBelow b.held (size b) ps
listing-below a b l ps g e i j =
    (list_below-grows a b l g i, subst (λ (n : ℕ). IsPartsBelow b.held n ps) (sym e) j)

pub ruleset making = (Makes-memory, Makes-after, parts_of-grows, text_at-grows, IsText-grows, trees_in-grows, at_most_one-at)
