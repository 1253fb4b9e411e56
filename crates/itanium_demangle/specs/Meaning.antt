-- What the result of a parser or of a reader means in terms of trees, for the laws of `specs/Readers` and the clauses
-- of `read_mangled_name`.
use Rattle.std.specs.Prelude.{◌≡◌, ℕ, ◌+◌, max, map, Result, Ok, Err}
use Rattle.demangle_text.specs.State.{IsLiving, shape}
use Rattle.itanium_grammar.specs.Tree.{shape_of}
use Rattle.itanium_grammar.specs.Grammar.{Position, Cost, SymbolName}
use Rattle.itanium_grammar.specs.Answer.{Fits, initial}
use Rattle.itanium_reader.specs.Parser.{ParserState}
use Rattle.itanium_reader.specs.Outcome.{state}
use Rattle.itanium_reader.specs.declared.reader.Reader.{Reader}
use Rattle.itanium_reader.specs.declared.stop.Stop.{Stop}
use Rattle.itanium_reader.specs.declared.stop.Stop.TheVariants.{Unreadable, Memory}

-- the state at a position of trees, after so many productions entered, and so many trees saved at most
abbrev pub state_at : Position → ℕ → ℕ → ParserState
state_at p entered most_saved = record {
  rest = p.rest;
  saved = map shape_of p.saved;
  scopes = map (map shape_of) p.scopes;
  entered = entered;
  most_saved = most_saved;
}

-- the grammar reads these bytes within the limits: there is a tree that shows as what was found, what its reading
-- leaves is this state, with its count and its peak added, and every reading within the limits agrees with it
pub record HasReading {T A : Type 0} (R : T → Position → Cost → Type 0) (show : T → A)
    (depth entered most_saved : ℕ) (found : A) (after : ParserState) : Type 0 where
  pub tree : T
  pub next : Position
  pub cost : Cost
  pub reading : R tree next cost
  pub fits : Fits depth cost
  pub found_is : found ≡ show tree
  pub state_is : after ≡ state_at next (entered + cost.count) (max most_saved cost.peak)
  pub one :
      (t : T) (q : Position) (c : Cost)
      → R t q c
      → Fits depth c
      → (t ≡ tree) × (q ≡ next) × (c ≡ cost)

-- the grammar doesn't read these bytes within the limits
abbrev pub HasNoReading : {T : Type 0} → (T → Position → Cost → Type 0) → ℕ → Type 0
HasNoReading {T} R depth =
    (tree : T) (next : Position) (cost : Cost)
    → R tree next cost
    → Fits depth cost
    → ⊥

-- the position of trees that the reader stands for
abbrev pub StandsFor : Reader → Position → Type 0
StandsFor r p = state r ≡ state_at p r.entered (state r).most_saved

-- what a reader of symbols says of trees
abbrev pub ReadsAs : Result (Unit {0}) Stop → ℕ → Reader → Reader → Type 0
ReadsAs (Ok u) depth before after =
    IsLiving after.buffer.value after.found
    × ((p : Position) → StandsFor before p
    → HasReading (SymbolName initial p) shape_of depth before.entered (state before).most_saved
    (shape after.buffer.value after.found) (state after))
ReadsAs (Err Unreadable) depth before after =
    (p : Position) → StandsFor before p → HasNoReading (SymbolName initial p) depth
ReadsAs (Err Memory) depth before after = Unit {0}
