-- What private functions of the printer return and append.
use Rattle.std.specs.Prelude.{ℕ, ◌≡◌, false, List, [], Option, MatchOption, unwrap_or}
use Rattle.cxx_tree.specs.declared.node.Part.{Part}
use Rattle.cxx_tree.specs.declared.node.Part.TheVariants as part
use Rattle.cxx_tree.specs.Tree.{Tree, Trees}
use Rattle.cxx_tree.specs.Measure.{measure, measure_each}
use Rattle.cxx_tree.specs.Stored.{Held, tree_at, trees_in, text_at}
use Rattle.cxx_printer.specs.declared.env.Env.{Env}
use Rattle.cxx_printer.specs.declared.shapes.Ending.{Ending}
use Rattle.cxx_printer.specs.declared.shapes.Ending.TheVariants.{Other}
use Rattle.cxx_printer.specs.declared.words.Form.TheVariants.{Plain}
use Rattle.cxx_printer.specs.Words.{ending, styled}
use Rattle.cxx_printer.specs.Print.{Printed, Sides, Item, print, simple, items_of, part_text, part_ends, list_of, list_ends}

-- a tree as a part of another
abbrev pub item : Tree → Item
item t = record { tree = t; printed = print t }

-- the height of a tree, and that of the highest of trees in a row
abbrev pub height : Tree → ℕ
height t = (measure t).height

abbrev pub highest : Trees → ℕ
highest ts = (measure_each ts).height

-- what a part of a phrase prints
unfoldable pub text_of_part : Held → List Tree → Env → Part → List ℕ
text_of_part h ts env (part.Text a b) = styled env (text_at h a) (text_at h b)
text_of_part h ts env (part.Tree manner t) = part_text manner env (item (tree_at ts t))
text_of_part h ts env (part.Trees listing l) = list_of listing env (items_of (trees_in h ts l))

-- how a part ends
unfoldable pub ends_of_part : Held → List Tree → Env → Part → Ending
ends_of_part h ts env (part.Text a b) = ending (text_at h b)
ends_of_part h ts env (part.Tree manner t) = part_ends manner env (item (tree_at ts t))
ends_of_part h ts env (part.Trees listing l) = list_ends listing

-- how parts end
abbrev pub run_ends : Option Ending → Ending
run_ends ends = unwrap_or ends Other

-- a text without a right side
abbrev pub IsLeft : Sides → Type 0
IsLeft t = (t.right ≡ []) × (t.bracket ≡ false) × (t.form ≡ Plain)

-- the tree has no right side, whatever it is printed in
unfoldable pub OneSided : Tree → Type 0
OneSided t = (env : Env) → IsLeft (print t env).text × IsLeft (print t env).base

-- what a reference refers to: nothing, or what the node at an index prints
abbrev pub Refers : Option ℕ → Sides → (ℕ → Printed) → Type 0
Refers o base f = MatchOption o (base ≡ simple []) (λ j. base ≡ (f j).text)
