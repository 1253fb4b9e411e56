-- Parsers, and the steps that they are made of. A parser gives what it reads and the state after it, or nothing where
-- there is no reading. What a row of the grammar has chosen by the next bytes is never left again.
use Prim.Native.String.{String}
use Rattle.std.specs.Prelude.{ℕ, zero, suc, ◌+◌, Bool, true, false, if◌then◌else◌, List, [], ◌∷◌, ◌++◌, codes, drop, length, Option, Some, None}
use Rattle.cxx_tree.specs.Tree.{Tree}
use Rattle.cxx_tree.specs.Measure.{measure}
use Rattle.abi_scalars.specs.Bytes.{begins}
use Rattle.cxx_grammar.specs.State.{State}

abbrev pub Parses : Type 0 → Type 0
Parses A = State → Option (A × State)

-- One after another. They are written as a block, a step a line: `a ← p` gives what p reads a name, and a line without
-- an arrow drops what it reads.

abbrev pub and_then : {A B : Type 0} → Option (A × State) → (A → Parses B) → Option (B × State)
and_then None next = None
and_then (Some (a, s)) next = next a s

infixl 1 ◌>>=◌
abbrev pub ◌>>=◌ : {A B : Type 0} → Parses A → (A → Parses B) → Parses B
◌>>=◌ first next s = and_then (first s) next

infixl 1 ◌>>◌
abbrev pub ◌>>◌ : {A B : Type 0} → Parses A → Parses B → Parses B
◌>>◌ first second s = and_then (first s) (λ _. second)

-- reads nothing
abbrev pub pure : {A : Type 0} → A → Parses A
pure a s = Some (a, s)

-- a function of what is read
infixr 6 ◌<$>◌
abbrev pub ◌<$>◌ : {A B : Type 0} → (A → B) → Parses A → Parses B
◌<$>◌ f parser = do
  a ← parser
  pure (f a)

abbrev pub some : {A : Type 0} → A → Option A
some a = Some a

-- there is no reading
abbrev pub refused : {A : Type 0} → Parses A
refused s = None

-- goes on only if the test holds
abbrev pub check : Bool → Parses (Unit {0})
check test s = if test then Some (tt, s) else None

-- goes on with a value only if there is one
abbrev pub given : {A : Type 0} → Option A → Parses A
given None s = None
given (Some a) s = Some (a, s)

-- Bytes.

abbrev pub with_rest : List ℕ → State → State
with_rest rest s = record s { rest = rest }

abbrev pub skip : ℕ → State → State
skip n s = with_rest (drop n s.rest) s

-- the bytes that are next
abbrev pub look : Parses (List ℕ)
look s = Some (s.rest, s)

abbrev pub set_rest : List ℕ → Parses (Unit {0})
set_rest bytes s = Some (tt, with_rest bytes s)

-- past n bytes
abbrev pub past : ℕ → Parses (Unit {0})
past n s = Some (tt, skip n s)

abbrev pub past_word : List ℕ → Parses (Unit {0})
past_word word s = if begins word s.rest then Some (tt, skip (length word) s) else None

-- a word that must be next
abbrev pub expect : String → Parses (Unit {0})
expect word = past_word (codes word)

unfoldable pub past_word_if : List ℕ → Parses Bool
past_word_if word s = if begins word s.rest then Some (true, skip (length word) s) else Some (false, s)

-- a word that may be next; whether it was
abbrev pub optional : String → Parses Bool
optional word = past_word_if (codes word)

-- a function of the bytes, as a parser
abbrev pub of_bytes : {A : Type 0} → (List ℕ → Option (A × List ℕ)) → Parses A
of_bytes read = do
  bytes ← look
  found ← given (read bytes)
  set_rest found.1
  pure found.0

-- what a table has for the code that is next. Its codes have n letters
abbrev pub parse_code : {A : Type 0} → ℕ → (List ℕ → Option A) → Parses A
parse_code n value_of = do
  bytes ← look
  value ← given (value_of bytes)
  past n
  pure value

-- Choices.

-- the case that the next bytes select
abbrev pub by : {C A : Type 0} → (List ℕ → C) → (C → Parses A) → Parses A
by case_of reading s = reading (case_of s.rest) s

-- one parser if the test of the next bytes holds, and otherwise another one
abbrev pub if_bytes : {A : Type 0} → (List ℕ → Bool) → Parses A → Parses A → Parses A
if_bytes test chosen otherwise s = (if test s.rest then chosen else otherwise) s

-- one parser if a word is next, and otherwise another one
abbrev pub if_next : {A : Type 0} → String → Parses A → Parses A → Parses A
if_next word = if_bytes (begins (codes word))

-- Repetitions.

-- steps up to an end, at most n
unfoldable pub repeat_at_most : {A : Type 0} → ℕ → (List ℕ → Bool) → (A → Parses A) → A → Parses A
repeat_at_most zero is_end step a s = None
repeat_at_most (suc n) is_end step a s =
    (if is_end s.rest then pure a else (step a >>= repeat_at_most n is_end step)) s

-- steps up to an end. Each reads a byte at least
abbrev pub repeat : {A : Type 0} → (List ℕ → Bool) → (A → Parses A) → A → Parses A
repeat is_end step a s = repeat_at_most (length s.rest + 1) is_end step a s

-- one item more
abbrev pub item_more : {A : Type 0} → Parses A → List A → Parses (List A)
item_more item so_far = do
  a ← item
  pure (so_far ++ a ∷ [])

-- items up to an end, after others
abbrev pub items_after : {A : Type 0} → List A → (List ℕ → Bool) → Parses A → Parses (List A)
items_after first is_end item = repeat is_end (item_more item) first

abbrev pub is_e : List ℕ → Bool
is_e bytes = begins (codes "E") bytes

-- Levels.

abbrev pub level : Parses ℕ
level s = Some (s.level, s)

abbrev pub set_level : ℕ → Parses (Unit {0})
set_level n s = Some (tt, record s { level = n })

-- inside, the level is n
abbrev pub at_level : {A : Type 0} → ℕ → Parses A → Parses A
at_level n inside = do
  outer ← level
  set_level n
  a ← inside
  set_level outer
  pure a

-- Trees.

-- a tree within the limits
abbrev pub make : Tree → Parses Tree
make t = do
  check (measure t).fits
  pure t

abbrev pub save : Tree → Parses (Unit {0})
save t s = Some (tt, record s { saved = s.saved ++ t ∷ [] })

-- what is read is saved
abbrev pub saved : Parses Tree → Parses Tree
saved parser = do
  t ← parser
  save t
  pure t

-- a tree within the limits, which is saved
abbrev pub make_saved : Tree → Parses Tree
make_saved t = saved (make t)
