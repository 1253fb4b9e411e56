-- How high the trees are that functions print or ask. A function of a cycle calls others for lower trees, or for the same.
use Rattle.std.proofs.Common.{ℕ, zero, suc, ◌≡◌, ◌+◌, ◌*◌, ◌<◌, ◌≤◌, Bool, true, false, List, [], ◌∷◌, length, Option, refl, arith}
use Rattle.std.proofs.Math.ListN.{get_or}
use Rattle.cxx_tree.specs.declared.kinds.Manner.{Manner}
use Rattle.cxx_tree.specs.declared.kinds.Manner.TheVariants as manner
use Rattle.cxx_tree.specs.declared.kinds.Phrase.{Phrase}
use Rattle.cxx_tree.specs.declared.node.List as handle
use Rattle.cxx_tree.specs.declared.node.Parts as handles
use Rattle.cxx_tree.specs.declared.node.Part.{Part}
use Rattle.cxx_tree.specs.declared.node.Part.TheVariants as part
use Rattle.cxx_tree.specs.declared.node.Plain.{Plain}
use Rattle.cxx_tree.specs.declared.node.Declaration.{Declaration}
use Rattle.cxx_tree.specs.declared.node.Node.{Node}
use Rattle.cxx_tree.specs.Tree.{Parts, no_parts, text, tree, trees}
use Rattle.cxx_tree.specs.Measure.{Measure, measure, measure_parts, part_measure}
use Rattle.cxx_tree.specs.Stored.{Store, forest, tree_at, trees_at, tree_of, plain_tree, declaration_tree, option_at, list_at, parts_at, parts_of, parts_in}
use Rattle.cxx_printer.specs.Asked.{height, highest}

abbrev pub height_at : Store → ℕ → ℕ
height_at s i = height (tree_at (forest s) i)

abbrev pub height_of : Store → Node → ℕ
height_of s n = height (tree_of s.held (forest s) n)

abbrev pub plain_height : Store → Plain → ℕ
plain_height s p = height (plain_tree s.held (forest s) p)

abbrev pub declaration_height : Store → Declaration → ℕ
declaration_height s d = height (declaration_tree s.held (forest s) d)

abbrev pub option_height : Store → Option ℕ → ℕ
option_height s o = highest (option_at (forest s) o)

abbrev pub items_height : Store → List ℕ → ℕ
items_height s is = highest (trees_at (forest s) is)

abbrev pub list_height : Store → handle.List → ℕ
list_height s l = items_height s (list_at s.held l)

abbrev pub part_height : Store → Part → ℕ
part_height s (part.Text a b) = 0
part_height s (part.Tree m t) = height_at s t
part_height s (part.Trees listing l) = list_height s l

abbrev pub run_height : Store → List Part → ℕ
run_height s ps = (measure_parts false (parts_of s.held (forest s) ps)).height

abbrev pub parts_height : Store → handles.Parts → ℕ
parts_height s ps = run_height s (parts_at s.held ps)

abbrev pub phrase_height_of : Store → Phrase → handles.Parts → ℕ
phrase_height_of s p ps = (measure_parts p.is_reversed (parts_in s.held (forest s) ps)).height

-- an item is at most as high as its list
pub item_height : (s : Store) (is : List ℕ) (k d : ℕ) → k < length is → height_at s (get_or is k d) ≤ items_height s is
unfolding measure
item_height s [] k d h = absurd (omega arith)
item_height s (i ∷ is) zero d h = omega arith
item_height s (i ∷ is) (suc k) d h = omega (arith, item_height s is k d (omega arith))

-- how a tree is printed doesn't change its height
manner_height : (m : Manner) (x : Measure) → (part_measure m x).height ≡ x.height
manner_height (manner.Whole context) x = refl
manner_height (manner.Operand prec loose) x = refl
manner_height manner.Scope x = refl
manner_height manner.Callee x = refl
manner_height (manner.Address prec) x = refl
manner_height manner.Value x = refl
manner_height manner.Argument x = refl
manner_height (manner.Count blank) x = refl
manner_height manner.Folded x = refl

first_height : (s : Store) (p : Part) (ps : List Part) → part_height s p ≤ run_height s (p ∷ ps)
unfolding measure
first_height s (part.Text a b) ps = omega arith
first_height s (part.Tree m t) ps = omega (arith, manner_height m (measure (tree_at (forest s) t)))
first_height s (part.Trees listing l) ps = omega arith

rest_height : (s : Store) (p : Part) (ps : List Part) → run_height s ps ≤ run_height s (p ∷ ps)
unfolding measure
rest_height s (part.Text a b) ps = omega arith
rest_height s (part.Tree m t) ps = omega arith
rest_height s (part.Trees listing l) ps = omega arith

-- a part is at most as high as its phrase
in_run_height : (s : Store) (ps : List Part) (k : ℕ) (d : Part) → k < length ps → part_height s (get_or ps k d) ≤ run_height s ps
in_run_height s [] k d h = absurd (omega arith)
in_run_height s (p ∷ ps) zero d h = first_height s p ps
in_run_height s (p ∷ ps) (suc k) d h = omega (arith, in_run_height s ps k d (omega arith), rest_height s p ps)

pub part_falls : (s : Store) (ps : List Part) (k : ℕ) (d : Part) (t : ℕ) → k < length ps → 64 * run_height s ps + 54 < t → 64 * part_height s (get_or ps k d) + 54 < t
part_falls s ps k d t h e = omega (arith, in_run_height s ps k d h, e)

-- the order of its packs doesn't change the height of a phrase
pub phrase_height : (reversed : Bool) (ps : Parts) → (measure_parts reversed ps).height ≡ (measure_parts false ps).height
unfolding measure
phrase_height false ps = refl
phrase_height true no_parts = refl
phrase_height true (text a b ps) = phrase_height true ps
phrase_height true (tree m t ps) = omega (arith, phrase_height true ps)
phrase_height true (trees listing ts ps) = omega (arith, phrase_height true ps)
