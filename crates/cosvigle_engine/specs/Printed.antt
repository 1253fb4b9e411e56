-- What is printed for a symbol.
use Rattle.std.proofs.Common.{refl}
use Rattle.std.specs.Prelude.{◌≡◌, ◌≢◌, ℕ, List, Bool, true, false, ◌&&◌, not, Option, None, slice_index, if◌then◌else◌}
use Rattle.cxx_demangle.specs.Answer as declarations
use Rattle.cxx_demangle.proofs.Whole.{no_underscore}
use Rattle.cxx_demangle.proofs.Answered.{each_answered, each_type_answered}
use Rattle.text_filter.specs.Printed.{AnswersEach}
use Rattle.text_filter.specs.Replaced.{has_prefix}
use Rattle.cosvigle_engine.specs.declared.reader.Printing.{Printing}

-- the text is read as a type
abbrev pub is_type : Printing → List ℕ → Bool
is_type printing text = printing.types && not (has_prefix text)

-- the answer of a type or of a symbol
abbrev pub IsAnswerAs : Bool → Printing → List ℕ → Option (List ℕ) → Type 0
IsAnswerAs true printing text answer = declarations.IsTypeAnswer printing.part text answer
IsAnswerAs false printing text answer = declarations.IsAnswer printing.part text answer

-- the printing of what the grammar reads: a type where types are asked for and the text has no symbol's prefix, and
-- else a symbol
abbrev pub IsAnswer : Printing → List ℕ → Option (List ℕ) → Type 0
IsAnswer printing text answer = IsAnswerAs (is_type printing text) printing text answer

-- what is printed for a symbol, or that it stays as it is
pub data IsPrintedAs (printing : Printing) (symbol : List ℕ) : Option (List ℕ) → Type 0 where
  -- its answer
  answered : {answer : Option (List ℕ)} → IsAnswer printing symbol answer → IsPrintedAs printing symbol answer
  -- it may stay where the caller set a limit
  over_limit : printing.part.limit ≢ None → IsPrintedAs printing symbol None

-- a type or a symbol has an answer
each_as : (as_type : Bool) (printing : Printing) (text : List ℕ)
    → (answer : Option (List ℕ)) × IsAnswerAs as_type printing text answer
each_as true printing text = each_type_answered printing.part text
each_as false printing text = each_answered printing.part text

-- something is printed for each symbol, or it stays
pub printed_each : (printing : Printing) → AnswersEach (IsPrintedAs printing)
printed_each printing =
    record {
      each = λ symbol. let found = each_as (is_type printing symbol) printing symbol in (found.0, answered found.1);
    }

-- what doesn't begin with an underscore stays, where no types are asked for
stays_as : (as_type : Bool) (printing : Printing) (text : List ℕ) → as_type ≡ false → slice_index text 0 ≢ 95
    → IsAnswerAs as_type printing text None
stays_as true printing text is other = absurd (cc)
stays_as false printing text is other = no_underscore printing.part text other

no_type : (types : Bool) (prefixed : Bool) → types ≡ false → (types && prefixed) ≡ false
no_type true prefixed is = absurd (cc)
no_type false prefixed is = refl

pub unprefixed_stays : (printing : Printing) → printing.types ≡ false → (symbol : List ℕ)
    → slice_index symbol 0 ≢ 95 → IsPrintedAs printing symbol None
unprefixed_stays printing no_types symbol other =
    let is = no_type printing.types (not (has_prefix symbol)) no_types in
    answered (stays_as (is_type printing symbol) printing symbol is other)
