-- What a symbol's answer is.
use Rattle.std.specs.Prelude.{◌≡◌, ◌≤◌, ℕ, ◌+◌, ◌*◌, ◌++◌, List, [], map, length, Option, Some, None, false}
use Rattle.std.specs.Str.{IsUtf8}
use Rattle.demangle_text.specs.Shape.{Shape}
use Rattle.itanium_syntax.specs.declared.context.Context.{Context}
use Rattle.itanium_grammar.specs.Tree.{Tree, shape_of, printing}
use Rattle.abi_scalars.specs.Symbol.{after_prefix, suffix}
use Rattle.itanium_grammar.specs.Grammar.{Position, Cost, SymbolName}

-- most counted productions that may nest
abbrev pub max_depth : ℕ
max_depth = 128

-- most bytes that a counted production may print
unfoldable pub max_text : ℕ
max_text = 1048576

-- the cost is within the limits: at most so many counted productions nest, and none of them prints more than max_text
pub record Fits (depth : ℕ) (cost : Cost) : Type 0 where
  pub depth_fits : cost.depth ≤ depth
  pub width_fits : cost.width ≤ max_text

-- the same of a symbol's reading: at most 128 counted productions nest, and none prints more than max_text bytes
abbrev pub IsWithin : Cost → Type 0
IsWithin cost = Fits max_depth cost

-- the context of a symbol: nothing is on
abbrev pub initial : Context
initial = record { words_shown = false; dots_hidden = false; lambda = false; in_type = false }

-- all bytes are left, and nothing is saved
abbrev pub start : List ℕ → Position
start bytes = record { rest = bytes; saved = []; scopes = [] }

-- the grammar reads the symbol as the tree, with this position after it and at this cost
pub record IsReading (symbol : List ℕ) (tree : Tree) (next : Position) (cost : Cost) : Type 0 where
  pub inside : List ℕ
  pub prefix : after_prefix symbol ≡ Some inside
  pub reading : SymbolName initial (start inside) tree next cost

-- a reading within the limits: its printing is UTF-8, and the answer is the printing with the suffix
pub record HasAnswer (symbol answer : List ℕ) : Type 0 where
  pub tree : Tree
  pub next : Position
  pub cost : Cost
  pub reading : IsReading symbol tree next cost
  pub within : IsWithin cost
  pub utf8 : IsUtf8 (printing tree)
  pub answer_is : answer ≡ printing tree ++ suffix next.rest

-- a fact of every reading of the symbol within the limits
abbrev pub OfEachReading : List ℕ → (Tree → Position → Cost → Type 0) → Type 0
OfEachReading symbol Fact =
    (tree : Tree) (next : Position) (cost : Cost)
    → IsReading symbol tree next cost
    → IsWithin cost
    → Fact tree next cost

-- no reading within the limits has a printing in UTF-8
abbrev pub HasNoAnswer : List ℕ → Type 0
HasNoAnswer symbol = OfEachReading symbol (λ tree next cost. IsUtf8 (printing tree) → ⊥)

-- the answer of a symbol: its name, or None
abbrev pub IsAnswer : List ℕ → Option (List ℕ) → Type 0
IsAnswer symbol (Some answer) = HasAnswer symbol answer
IsAnswer symbol None = HasNoAnswer symbol

-- any two readings of the symbol within the limits have the same tree, the same rest, saved trees and scopes after it,
-- and the same count, depth, peak and width
pub record HasAtMostOneReading (symbol : List ℕ) : Type 0 where
  pub agree :
      (t u : Tree) (q r : Position) (c d : Cost)
      → IsReading symbol t q c
      → IsReading symbol u r d
      → IsWithin c
      → IsWithin d
      → (t ≡ u) × (q ≡ r) × (c ≡ d)

-- the counts are those of every reading within the limits
abbrev pub HasCounts : List ℕ → ℕ → ℕ → Type 0
HasCounts symbol entered most_saved =
    OfEachReading symbol (λ tree next cost. (entered ≡ cost.count) × (most_saved ≡ cost.peak))

-- if there is an answer, the list has f of each tree that every reading within the limits leaves saved. Otherwise it is
-- empty
abbrev pub HasEach : {A : Type 0} → (Tree → A) → List ℕ → Option (List ℕ) → List A → Type 0
HasEach f symbol (Some answer) kept = OfEachReading symbol (λ tree next cost. kept ≡ map f next.saved)
HasEach f symbol None kept = kept ≡ []

-- if there is an answer, the printings of the trees that are left saved; otherwise none
abbrev pub HasComponents : List ℕ → Option (List ℕ) → List (List ℕ) → Type 0
HasComponents symbol answer components = HasEach printing symbol answer components

-- if there is an answer, the shapes of the trees that are left saved; otherwise none
abbrev pub HasSaved : List ℕ → Option (List ℕ) → List Shape → Type 0
HasSaved symbol answer shapes = HasEach shape_of symbol answer shapes

-- the greatest length of a printing in bytes: 2 · max_text + 28, since a construction vtable prints two types and 28
-- bytes of words
abbrev pub longest_printing : ℕ
longest_printing = 2097180

-- if there is an answer, it is no longer than the longest printing and the suffix of every reading within the limits
abbrev pub HasLength : List ℕ → Option (List ℕ) → Type 0
HasLength symbol (Some answer) =
    OfEachReading symbol (λ tree next cost. length answer ≤ longest_printing + length (suffix next.rest))
HasLength symbol None = Unit {0}

-- bounds of the two counts by the length of the symbol in bytes. `HasCounts` says what the counts are if there is a
-- reading within the limits
abbrev pub HasBounds : List ℕ → ℕ → ℕ → Type 0
HasBounds symbol entered most_saved = (entered ≤ 2 * length symbol) × (most_saved ≤ length symbol)
