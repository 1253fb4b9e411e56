-- What a demangler keeps between calls.
use Rattle.std.specs.Prelude.{◌≡◌, ℕ, List, Bool, true, false, Option, Some, None, option_map, IfSome, Result, Ok, Err}
use Rattle.std.specs.Str.{IsUtf8}
use Rattle.cxx_tree.specs.Tree.{Tree}
use Rattle.cxx_tree.specs.Stored.{Store}
use Rattle.cxx_reader.specs.declared.symbols.Reading as code
use Rattle.cxx_reader.specs.Outcome.{IsReading, reading_at}
use Rattle.cxx_demangle.specs.declared.demangler.Demangler.TheInside.{Inside}
use Rattle.cxx_grammar.specs.Symbol.{Reading}

-- the answer to the last symbol, if there is one
abbrev pub answer_of : Bool → List ℕ → Option (List ℕ)
answer_of true text = Some text
answer_of false text = None

-- what is left of the last symbol
pub record LastAnswer : Type 0 where
  pub text : Option (List ℕ)  -- its answer, if there is one
  pub kept : Option code.Reading  -- what it was read as, if it was read
  pub store : Store  -- its nodes, what they refer to, and its substitution candidates

-- what the fields mean
abbrev pub last_answer : Inside → LastAnswer
last_answer d = record {
  text = answer_of d.is_answered d.text;
  kept = d.reading;
  store = d.arena;
}

-- what the last symbol was read as, if it was read
abbrev pub last_reading : LastAnswer → Option Reading
last_reading last = option_map (reading_at last.store) last.kept

-- its tree
abbrev pub last_tree : LastAnswer → Option Tree
last_tree last = option_map (λ r. r.tree) (last_reading last)

-- a text, where there is one, is UTF-8
abbrev pub IsOptionUtf8 : Option (List ℕ) → Type 0
IsOptionUtf8 (Some text) = IsUtf8 text
IsOptionUtf8 None = Unit {0}

-- what is kept as an answer is UTF-8, and what is kept as a reading refers to the arena
abbrev pub KeepsAnswer : Inside → Type 0
KeepsAnswer d = IsOptionUtf8 (answer_of d.is_answered d.text) × IfSome d.reading (IsReading d.arena)

-- what was read; or nothing was
abbrev pub GivesWhole : {E : Type 0} → Result (Option code.Reading) E → Store → Option Reading → Type 0
GivesWhole (Ok (Some r)) after read = IsReading after r × (read ≡ Some (reading_at after r))
GivesWhole (Ok None) after read = read ≡ None
GivesWhole (Err e) after read = Unit {0}
