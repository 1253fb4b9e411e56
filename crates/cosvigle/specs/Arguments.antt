-- What is printed for an argument that is a symbol.
use Rattle.std.specs.Prelude.{ℕ, List, ◌++◌, Bool, IsUtf8, Some, None}
use Rattle.text_filter.specs.declared.symbols.ReplaceOptions.{ReplaceOptions}
use Rattle.text_filter.specs.Replaced.{stripped, prefix_chars, past_prefix_chars}
use Rattle.cosvigle_engine.specs.declared.reader.Printing.{Printing}
use Rattle.cosvigle_engine.specs.Printed.{IsPrintedAs}

-- the byte that ends a line
abbrev pub line_feed : ℕ
line_feed = 10

-- the symbol that an argument is: all that follows its prefix characters, which are those of a word
abbrev pub symbol_of : Bool → List ℕ → List ℕ
symbol_of strip argument = stripped strip (past_prefix_chars strip argument)

-- an argument, and what is printed for it
pub data IsArgumentAnswer (options : ReplaceOptions Printing) (argument : List ℕ) : List ℕ → Type 0 where
  -- what stands in front of its symbol, and what is printed for that
  answered : {text : List ℕ} → IsUtf8 (symbol_of options.strip argument)
      → IsPrintedAs options.printing (symbol_of options.strip argument) (Some text)
      → IsArgumentAnswer options argument (prefix_chars options.strip argument ++ text)
  -- the argument itself, where nothing is printed for its symbol
  unanswered : IsUtf8 (symbol_of options.strip argument)
      → IsPrintedAs options.printing (symbol_of options.strip argument) None
      → IsArgumentAnswer options argument argument
  -- or isn't UTF-8
  not_utf8 : ¬ (IsUtf8 (symbol_of options.strip argument)) → IsArgumentAnswer options argument argument
