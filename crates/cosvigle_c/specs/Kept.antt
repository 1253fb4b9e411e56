-- What a handle keeps from one call to the next.
use Rattle.std.specs.Prelude.{◌≡◌, ℕ, List, [], Bool, true, false, Option, Some, None}
use Rattle.cxx_tree.specs.Tree.{Tree}
use Rattle.cxx_grammar.specs.Parses.{◌<$>◌}
use Rattle.cxx_grammar.specs.State.{start}
use Rattle.cxx_grammar.specs.Symbol.{Reading, productions, max_depth, found_of, parse_symbol, parse_closed_type}
use Rattle.cxx_demangle.specs.Answer.{HasBounds, type_reading}
use Rattle.cxx_demangle.specs.Demangler.{LastAnswer, last_reading, last_tree}
use Rattle.cosvigle_engine.specs.Printed.{IsAnswer, is_type}
use Rattle.cosvigle_engine.specs.declared.reader.Printing.{Printing}
use Rattle.cosvigle_c.specs.Numbers.{printing_of, within}
use Rattle.cosvigle_c.specs.declared.kept.Kept.{Kept}

-- the text that is still to be taken, which is empty where there is none
abbrev pub text_of : Option Kept → List ℕ
text_of (Some kept) = kept.text.items
text_of None = []

-- the limit for symbols, where one is set
abbrev pub limit_of : Option Kept → Option ℕ
limit_of (Some kept) = kept.limit
limit_of None = None

-- what the demangler keeps of its last symbol, where there is a demangler
abbrev pub last_of : Option Kept → Option LastAnswer
last_of (Some kept) = Some kept.demangler
last_of None = None

-- the tree that the last symbol was read as, if it was read
abbrev pub tree_of : Option Kept → Option Tree
tree_of (Some kept) = last_tree kept.demangler
tree_of None = None

-- what a sum of flags asks for, within the limit of a handle
abbrev pub asked_within : Option Printing → Option ℕ → Option Printing
asked_within (Some printing) limit = Some (within printing limit)
asked_within None limit = None

abbrev pub asked_of : ℕ → Option Kept → Option Printing
asked_of flags kept = asked_within (printing_of flags) (limit_of kept)

-- what all of a text is read as: a type alone, or a symbol
abbrev pub parse_as : Bool → List ℕ → Option Reading
parse_as true text = found_of ((type_reading <$> parse_closed_type (productions max_depth)) (start text))
parse_as false text = parse_symbol text

-- what the demangler keeps of a symbol that it was asked for: its answer, what it was read as, and no more than its
-- limit
pub record HasRead (printing : Printing) (symbol : List ℕ) (last : LastAnswer) : Type 0 where
  pub answer : IsAnswer printing symbol last.text
  pub reads : parse_as (is_type printing symbol) symbol ≡ last_reading last
  pub bounds : HasBounds printing.part symbol last.store

-- the demangler keeps no symbol
pub record KeepsNothing (last : LastAnswer) : Type 0 where
  pub text : last.text ≡ None
  pub kept : last.kept ≡ None

-- there is a demangler, which keeps what a symbol leaves
abbrev pub KeepsSymbol : Printing → List ℕ → Option Kept → Type 0
KeepsSymbol printing symbol (Some kept) = HasRead printing symbol kept.demangler
KeepsSymbol printing symbol None = ⊥

-- no symbol is kept
abbrev pub KeepsNoSymbol : Option Kept → Type 0
KeepsNoSymbol (Some kept) = KeepsNothing kept.demangler
KeepsNoSymbol None = Unit {0}

-- what a handle keeps that gets a demangler where it has none
pub record IsNew (kept : Kept) : Type 0 where
  pub demangler : KeepsNothing kept.demangler
  pub limit : kept.limit ≡ None
  pub text : kept.text.items ≡ []
