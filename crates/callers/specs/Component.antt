-- One component of a symbol.
use Rattle.std.specs.Prelude.{◌≡◌, ℕ, List, Option, Some, None, option_map, slice_get}
use Rattle.itanium_grammar.specs.Tree.{Tree, printing}
use Rattle.itanium_grammar.specs.Grammar.{Position, Cost}
use Rattle.itanium_grammar.specs.Answer.{IsWithin, IsReading, IsAnswer}

-- of a symbol with this answer: where it is a text, the printing of the i-th tree that every reading within the limits
-- leaves saved, or none past the last; elsewhere none
abbrev pub IsComponentAt : List ℕ → Option (List ℕ) → ℕ → Option (List ℕ) → Type 0
IsComponentAt symbol (Some answer) i found =
    (tree : Tree) (next : Position) (cost : Cost)
    → IsReading symbol tree next cost
    → IsWithin cost
    → found ≡ option_map printing (slice_get next.saved i)
IsComponentAt symbol None i found = found ≡ None

-- the same, of the symbol's answer
pub record IsComponent (symbol : List ℕ) (i : ℕ) (found : Option (List ℕ)) : Type 0 where
  pub answer : Option (List ℕ)
  pub answers : IsAnswer symbol answer
  pub component : IsComponentAt symbol answer i found
