-- What the contracts of the readers say: how a result relates to that of the parser, how many counted productions a
-- call enters, and how the substitution table grows.
use Rattle.std.specs.Prelude.{◌≡◌, ◌≤◌, ℕ, ◌+◌, ◌*◌, ◌^◌, ◌<◌, ◌-◌, max, length, Bool, true, false, Option, Some, None}
use Rattle.std.specs.Prelude.{Result, Ok, Err}
use Rattle.demangle_text.specs.Shape.{Shape}
use Rattle.demangle_text.specs.State.{IsLiving, shape, saved, scopes}
use Rattle.std.specs.Option.{unwrap_or}
use Rattle.demangle_quals.specs.declared.quals.Quals.{Quals}
use Rattle.demangle_quals.specs.Quals.{no_quals}
use Rattle.itanium_syntax.specs.declared.context.Context.{Context}
use Rattle.itanium_reader.specs.Parser.{ParserState, Parses, Turn, loop, enter, save_if, is_too_wide}
use Rattle.itanium_reader.specs.Parser.{parse_bare_name, parse_name}
use Rattle.itanium_reader.specs.declared.reader.Reader.{Reader}
use Rattle.itanium_reader.specs.declared.stop.Stop.{Stop}
use Rattle.itanium_reader.specs.declared.stop.Stop.TheVariants.{Unreadable, Memory}

-- the parser's state that a reader stands for. `recorded_peak` changes only where a component is removed, or would be.
-- Since then the table has only grown, so the peak is the greater of `recorded_peak` and the length now.
abbrev pub state : Reader → ParserState
state r = record {
  rest = r.rest.now;
  saved = saved r.buffer.value;
  scopes = scopes r.buffer.value;
  entered = r.entered;
  most_saved = max r.recorded_peak (length (saved r.buffer.value));
}

-- the call gives what the parser gives: the piece that it found lives, with that shape; nothing is said where memory
-- was refused
abbrev pub Gives : Result (Unit {0}) Stop → Reader → Option (Shape × ParserState) → Type 0
Gives (Ok u) after parsed =
    IsLiving after.buffer.value after.found
    × (parsed ≡ Some (shape after.buffer.value after.found, state after))
Gives (Err Unreadable) after parsed = parsed ≡ None
Gives (Err Memory) after parsed = Unit {0}

-- the same of a name without its own qualifiers, which are left in the reader's field `quals`
abbrev pub GivesBareName : Result (Unit {0}) Stop → Reader → Option ((Shape × Quals) × ParserState) → Type 0
GivesBareName (Ok u) after parsed =
    IsLiving after.buffer.value after.found
    × (parsed ≡ Some ((shape after.buffer.value after.found, unwrap_or after.quals no_quals), state after))
GivesBareName (Err Unreadable) after parsed = parsed ≡ None
GivesBareName (Err Memory) after parsed = Unit {0}

-- the same of a <name>: bare, with its own qualifiers left in `quals`, or with them printed
abbrev pub GivesName : Bool → Result (Unit {0}) Stop → Reader → ℕ → Context → ParserState → Type 0
GivesName true result after d x s = GivesBareName result after (parse_bare_name d x s)
GivesName false result after d x s = Gives result after (parse_name d x s)

-- the same of the first segment of a <nested-name>: the call answers whether it is still to be saved
abbrev pub GivesCandidate : Result Bool Stop → Reader → Option (Shape × ParserState) → Type 0
GivesCandidate (Ok candidate) after parsed =
    IsLiving after.buffer.value after.found
    × (parsed ≡ Some (
      shape after.buffer.value after.found,
      save_if candidate (shape after.buffer.value after.found) (state after),
    ))
GivesCandidate (Err Unreadable) after parsed = parsed ≡ None
GivesCandidate (Err Memory) after parsed = Unit {0}

-- the same of a call that finds no piece: it leaves the state that the parser leaves
abbrev pub Leaves : Result (Unit {0}) Stop → Reader → Option ParserState → Type 0
Leaves (Ok u) after parsed = parsed ≡ Some (state after)
Leaves (Err Unreadable) after parsed = parsed ≡ None
Leaves (Err Memory) after parsed = Unit {0}

-- a counted production is entered where at most d may nest: then d is not 0, at most d - 1 may nest inside it, and the
-- count rises by one. Otherwise d is 0, and nothing changes.
abbrev pub Enters : Result ℕ Stop → ℕ → ParserState → ParserState → Type 0
Enters (Ok inner) d before after = (0 < d) × (inner ≡ d - 1) × (after ≡ enter before)
Enters (Err Unreadable) d before after = (d ≡ 0) × (after ≡ before)
Enters (Err Memory) d before after = ⊥

-- the shape isn't too long, or it isn't read
abbrev pub ChecksWidth : Result (Unit {0}) Stop → Shape → Type 0
ChecksWidth (Ok u) t = is_too_wide t ≡ false
ChecksWidth (Err e) t = (e ≡ Unreadable) × (is_too_wide t ≡ true)

-- The count of productions doesn't overflow: if two were entered for each byte that is left, and `more` besides, it
-- would still fit 64 bits.
abbrev pub CountFits : ℕ → ParserState → Type 0
CountFits more s = s.entered + 2 * length s.rest + more < 2 ^ 64

-- What a successful reading costs.
pub record CostBounds (least slack : ℕ) (before after : ParserState) : Type 0 where
  -- it takes at least so many bytes
  pub taken : length after.rest + least ≤ length before.rest
  -- it enters at most two counted productions for each byte that it takes, less the slack
  pub counted : after.entered + 2 * length after.rest + slack ≤ before.entered + 2 * length before.rest
  -- at least as many scopes are open as before
  pub scopes_stand : length before.scopes ≤ length after.scopes

-- What a call costs. A run that fails enters at most two productions for each byte that was left, and `more`. After an
-- allocation failure nothing is said.
abbrev pub Bounds : {A : Type 0} → ℕ → ℕ → ℕ → Result A Stop → ParserState → ParserState → Type 0
Bounds least slack more (Ok a) before after = CostBounds least slack before after
Bounds least slack more (Err Unreadable) before after = after.entered ≤ before.entered + 2 * length before.rest + more
Bounds least slack more (Err Memory) before after = Unit {0}

-- The bounds of a production that takes at least one byte: a reading enters at most `more` for the first byte, and two
-- for each further one.
abbrev pub TakesSome : {A : Type 0} → ℕ → Result A Stop → ParserState → ParserState → Type 0
TakesSome more result before after = Bounds 1 (2 - more) more result before after

-- The bounds of a production that may be empty.
abbrev pub MayTakeNone : {A : Type 0} → ℕ → Result A Stop → ParserState → ParserState → Type 0
MayTakeNone more result before after = Bounds 0 0 more result before after

-- The peak after the call is at most the larger of the peak before the call and (the table's length + the bytes left -
-- the slack), both counted before the call.
abbrev pub MostSaved : ℕ → ParserState → ParserState → Type 0
MostSaved slack before after =
    after.most_saved + slack ≤ max (before.most_saved + slack) (length before.saved + length before.rest)

-- How the substitution table grows in a successful reading.
pub record Growth (slack : ℕ) (before after : ParserState) : Type 0 where
  -- by at most one component for each byte that is taken, less the slack
  pub list : length after.saved + length after.rest + slack ≤ length before.saved + length before.rest
  -- at any moment by at most one for each byte that was left, less the slack. If there is a slack, one component more
  -- may be in the table for a time
  pub most : MostSaved (slack - 1) before after

-- How it grows in a call. If the call returns `Unreadable`, the peak keeps to the same bound.
abbrev pub SavedBounds : {A : Type 0} → ℕ → Result A Stop → ParserState → ParserState → Type 0
SavedBounds slack (Ok a) before after = Growth slack before after
SavedBounds slack (Err Unreadable) before after = MostSaved (slack - 1) before after
SavedBounds slack (Err Memory) before after = Unit {0}

-- One component is saved. A run that fails saves none.
abbrev pub SavesOne : {A : Type 0} → Result A Stop → ParserState → ParserState → Type 0
SavesOne (Ok a) before after =
    (length after.saved ≡ length before.saved + 1)
    × (after.most_saved ≡ max before.most_saved (length before.saved + 1))
SavesOne (Err Unreadable) before after = after.most_saved ≡ before.most_saved
SavesOne (Err Memory) before after = Unit {0}

-- a loop has come this far: the whole is what the rest of its turns give
pub record LoopSoFar {L A : Type 0} (whole : Option (A × ParserState)) (turn : L → Parses (Turn L A)) (so_far : L)
    (s : ParserState) : Type 0 where
  pub turns : ℕ
  pub enough : length s.rest < turns
  pub is : whole ≡ loop turn turns so_far s
