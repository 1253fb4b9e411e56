-- What is printed for symbols, and where symbols may be.
use Rattle.std.specs.Prelude.{ℕ, List, Bool, Option}
use Rattle.text_filter.specs.declared.symbols.Placement as code
use Rattle.text_filter.specs.declared.symbols.Placement.TheVariants as places
use Rattle.text_filter.specs.declared.symbols.ReplaceOptions as choices

-- what is printed for a symbol, or that it stays as it is
abbrev pub Printing : Type 1
Printing = List ℕ → Option (List ℕ) → Type 0

-- something is printed for each symbol, or it stays
pub record AnswersEach (printing : Printing) : Type 0 where
  pub each : (symbol : List ℕ) → (answer : Option (List ℕ)) × printing symbol answer

-- how symbols in words are replaced
pub record ReplaceOptions : Type 1 where
  -- one more underscore stands in front of each symbol, and is dropped
  pub strip : Bool
  -- each word is read, also one without the prefix of a symbol
  pub all : Bool
  -- what replaces a symbol
  pub printing : Printing

-- where a symbol may be, and what is printed for it
pub data Placement : Type 1 where
  -- a whole line may be one
  Lines : Printing → Placement
  -- it may be in a word, after the word's prefix characters
  Words : ReplaceOptions → Placement

-- what is printed
abbrev pub printing_of : Placement → Printing
printing_of (Lines printing) = printing
printing_of (Words options) = options.printing

-- the code's options, where a reader reads and prints so
abbrev pub worded : {P : Type 0} → (P → Bool) → (P → Printing) → choices.ReplaceOptions P → ReplaceOptions
worded all prints options =
    record { strip = options.strip; all = all options.printing; printing = prints options.printing }

-- the code's placement, where a reader reads and prints so
abbrev pub placed : {P : Type 0} → (P → Bool) → (P → Printing) → code.Placement P → Placement
placed all prints (places.Lines printing) = Lines (prints printing)
placed all prints (places.Words options) = Words (worded all prints options)
