-- What a demangler keeps of the last symbol.
use Rattle.std.specs.Prelude.{ℕ, List, [], Option, None}
use Rattle.demangle_text.specs.Shape.{Shape}

-- what is left of the last symbol that was prepared
pub record LastResult : Type 0 where
  -- the name of the last symbol, if it has one
  pub text : Option (List ℕ)
  -- the counted productions that were entered
  pub entered : ℕ
  -- the most components that were saved at one moment
  pub most_saved : ℕ
  -- if there is a text, the texts of the components that are left saved
  pub components : List (List ℕ)
  -- the shapes of these components, in the same order
  pub saved : List Shape

-- nothing is left, as on a new value
abbrev pub no_result : LastResult
no_result = record { text = None; entered = 0; most_saved = 0; components = []; saved = [] }
