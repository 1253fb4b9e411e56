-- What a symbol's answer is.
use Rattle.std.specs.Prelude.{◌≡◌, ℕ, ◌+◌, ◌*◌, ◌≤◌, List, length, Option, Some, None, false}
use Rattle.std.specs.Str.{IsUtf8}
use Rattle.cxx_tree.specs.Tree.{Tree}
use Rattle.cxx_tree.specs.Stored.{Store, IsWithin}
use Rattle.cxx_printer.specs.Symbol.{symbol_text}
use Rattle.cxx_grammar.specs.Parses.{Parses, ◌<$>◌}
use Rattle.cxx_grammar.specs.State.{start}
use Rattle.cxx_grammar.specs.Symbol.{Reading, productions, max_depth, found_of, parse_mangled_name, parse_symbol, parse_closed_type}
use Rattle.cxx_demangle.specs.declared.demangler.Entry.{Entry}
use Rattle.cxx_demangle.specs.declared.demangler.Entry.TheVariants as entry
use Rattle.cxx_demangle.specs.declared.demangler.Printing.{Printing}

-- the most bytes of an answer
abbrev pub max_text : ℕ
max_text = 1048576

-- The grammar reads the whole symbol so, within the limits. The limits of trees stand where a tree is made
-- (`make` of `cxx_grammar/specs/Parses`), that of nested productions in `specs/Symbol`, and that of replaced nodes in
-- `specs/Binds`
abbrev pub Reads : List ℕ → Reading → Type 0
Reads symbol r = parse_symbol symbol ≡ Some r

-- a type alone, without a template parameter
abbrev pub type_reading : Tree → Reading
type_reading t = record { tree = t; is_block = false; suffix = None }

abbrev pub entry_parser : Entry → Parses Reading
entry_parser entry.Symbol = parse_mangled_name (productions max_depth)
entry_parser entry.Type = type_reading <$> parse_closed_type (productions max_depth)

-- what all of a text is read as: a symbol, or a type alone
abbrev pub parse_entry : Entry → List ℕ → Option Reading
parse_entry e text = found_of (entry_parser e (start text))

-- what a reading prints
abbrev pub text_of : Printing → Reading → List ℕ
text_of p r = symbol_text p.mode p.style (record { tree = r.tree; is_block = r.is_block; suffix = r.suffix })

-- a text that may be an answer
pub record IsText (text : List ℕ) : Type 0 where
  pub short : length text ≤ max_text
  pub utf8 : IsUtf8 text

-- the answer is the printing of what was read
pub record HasAnswer (printing : Printing) (read : Option Reading) (answer : List ℕ) : Type 0 where
  pub reading : Reading
  pub reads : read ≡ Some reading
  pub is : answer ≡ text_of printing reading
  pub text : IsText answer

-- nothing that was read has a printing that may be an answer
abbrev pub HasNoAnswer : Printing → Option Reading → Type 0
HasNoAnswer printing read = (reading : Reading) → read ≡ Some reading → IsText (text_of printing reading) → ⊥

-- the answer, or None
abbrev pub IsAnswerOf : Printing → Option Reading → Option (List ℕ) → Type 0
IsAnswerOf printing read (Some answer) = HasAnswer printing read answer
IsAnswerOf printing read None = HasNoAnswer printing read

-- the answer of a symbol
abbrev pub IsAnswer : Printing → List ℕ → Option (List ℕ) → Type 0
IsAnswer printing symbol answer = IsAnswerOf printing (parse_symbol symbol) answer

-- the answer of a type alone
abbrev pub IsTypeAnswer : Printing → List ℕ → Option (List ℕ) → Type 0
IsTypeAnswer printing text answer = IsAnswerOf printing (parse_entry entry.Type text) answer

-- the symbol has one reading at most
pub record HasAtMostOneReading (symbol : List ℕ) : Type 0 where
  pub agree : (r s : Reading) → Reads symbol r → Reads symbol s → r ≡ s

-- the limit for a symbol of n bytes: the one that is given, or the default
abbrev pub limit_of : Option ℕ → ℕ → ℕ
limit_of (Some limit) n = limit
limit_of None n = 16 * n + 4194304

-- what is kept of a symbol is within its limit: nodes and what they refer to, substitution candidates, and nodes of
-- lists that are read
pub record HasBounds (printing : Printing) (symbol : List ℕ) (store : Store) : Type 0 where
  pub within : IsWithin (limit_of printing.limit (length symbol)) store
