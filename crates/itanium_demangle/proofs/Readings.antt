-- How the parser and the grammar are compared: what is read within the limits.
use Rattle.std.proofs.Common.{◌≡◌, ◌≤◌, ℕ, ◌+◌, max, Bool, true, false, Option, Some, arith}
use Rattle.demangle_text.specs.Shape.{text_len}
use Rattle.itanium_syntax.specs.declared.context.Context.{Context}
use Rattle.itanium_grammar.specs.Tree.{shape_of}
use Rattle.itanium_grammar.specs.Grammar.{Position, Cost, Name, Args, Thunk, Pack, Expression, TypeOf}
use Rattle.itanium_grammar.specs.Answer.{max_text, Fits}
use Rattle.itanium_reader.specs.Parser.{ParserState, Parses, parse_bare_name, parse_name, parse_args, parse_pack, parse_type, parse_expression, parse_thunk, parse_argument}
use Rattle.itanium_demangle.specs.Meaning.{state_at}
use Rattle.itanium_demangle.specs.Readers.{Argument, bare_of, shape_of_args}
use Rattle.itanium_demangle.proofs.Fitting.{Met}

-- a cost is within the limits, in one inequality
abbrev pub Small : ℕ → Cost → Type 0
Small d c = max (c.depth + max_text) (c.width + d) ≤ d + max_text

pub small : {d : ℕ} {c : Cost} → Fits d c → Small d c
small f = let depth = f.depth_fits in let width = f.width_fits in omega arith

pub small_fits : {d : ℕ} {c : Cost} → Small d c → Fits d c
small_fits s = record { depth_fits = omega arith; width_fits = omega arith }

-- what a reading of cost c comes to, from so many entered and saved
abbrev pub reached : {T A : Type 0} → (T → A) → T → Position → Cost → ℕ → ℕ → A × ParserState
reached show t q c e m = (show t, state_at q (e + c.count) (max m c.peak))

-- and gives
abbrev pub given : {T A : Type 0} → (T → A) → T → Position → Cost → ℕ → ℕ → Option (A × ParserState)
given show t q c e m = Some (reached show t q c e m)

-- what the grammar reads within the limits, the parser reads
abbrev pub IsComplete : {T A : Type 0} → (Position → T → Position → Cost → Type 0) → (T → A) → ℕ → Parses A → Type 0
IsComplete {T} R show d parse = (p q : Position) (t : T) (c : Cost) → R p t q c → Small d c → (e m : ℕ) → parse (state_at p e m) ≡ given show t q c e m

-- the same of what isn't counted, where it isn't too long
abbrev pub IsMet : {T A : Type 0} → (Position → T → Position → Cost → Type 0) → (T → A) → (A → ℕ) → ℕ → Parses A → Type 0
IsMet {T} R show size d parse = (p q : Position) (t : T) (c : Cost) → R p t q c → Small d c → (e m : ℕ) → Met size (parse (state_at p e m)) (reached show t q c e m)

-- a reading within the limits
pub record Within {T : Type 0} (R : T → Position → Cost → Type 0) (d : ℕ) : Type 0 where
  pub tree : T
  pub next : Position
  pub cost : Cost
  pub reading : R tree next cost
  pub deep : Small d cost

-- a reading within the limits, and the answer y is what it gives
pub record Found {T A : Type 0} (R : T → Position → Cost → Type 0) (show : T → A) (d e m : ℕ) (y : A × ParserState) : Type 0 where
  pub within : Within R d
  pub is : y ≡ reached show within.tree within.next within.cost e m

-- what the parser reads, the grammar reads within the limits
abbrev pub IsSound : {T A : Type 0} → (Position → T → Position → Cost → Type 0) → (T → A) → ℕ → Parses A → Type 0
IsSound {T} {A} R show d parse = (p : Position) (e m : ℕ) (y : A × ParserState) → parse (state_at p e m) ≡ Some y → Found (R p) show d e m y

abbrev pub BareNamesComplete : ℕ → Type 0
BareNamesComplete d = (x : Context) → IsComplete (Name true x) bare_of d (parse_bare_name d x)

abbrev pub NamesComplete : ℕ → Type 0
NamesComplete d = (x : Context) → IsComplete (Name false x) shape_of d (parse_name d x)

abbrev pub ArgsComplete : ℕ → Type 0
ArgsComplete d = (x : Context) (of_name : Bool) → IsComplete (Args of_name x) shape_of_args d (parse_args d x of_name)

abbrev pub PacksComplete : ℕ → Type 0
PacksComplete d = (x : Context) → IsComplete (Pack x) shape_of d (parse_pack d x)

abbrev pub ThunksComplete : ℕ → Type 0
ThunksComplete d = (x : Context) → IsComplete (Thunk x) shape_of d (parse_thunk d x)

abbrev pub ExpressionsComplete : ℕ → Type 0
ExpressionsComplete d = (x : Context) → IsComplete (Expression x) shape_of d (parse_expression d x)

abbrev pub ArgumentsComplete : ℕ → Type 0
ArgumentsComplete d = (x : Context) → IsMet (Argument x) shape_of text_len d (parse_argument d x)

abbrev pub TypesComplete : ℕ → Type 0
TypesComplete d = (x : Context) → IsComplete (TypeOf x) shape_of d (parse_type d x)

abbrev pub BareNamesSound : ℕ → Type 0
BareNamesSound d = (x : Context) → IsSound (Name true x) bare_of d (parse_bare_name d x)

abbrev pub NamesSound : ℕ → Type 0
NamesSound d = (x : Context) → IsSound (Name false x) shape_of d (parse_name d x)

abbrev pub ArgsSound : ℕ → Type 0
ArgsSound d = (x : Context) (of_name : Bool) → IsSound (Args of_name x) shape_of_args d (parse_args d x of_name)

abbrev pub PacksSound : ℕ → Type 0
PacksSound d = (x : Context) → IsSound (Pack x) shape_of d (parse_pack d x)

abbrev pub ThunksSound : ℕ → Type 0
ThunksSound d = (x : Context) → IsSound (Thunk x) shape_of d (parse_thunk d x)

abbrev pub ExpressionsSound : ℕ → Type 0
ExpressionsSound d = (x : Context) → IsSound (Expression x) shape_of d (parse_expression d x)

abbrev pub ArgumentsSound : ℕ → Type 0
ArgumentsSound d = (x : Context) → IsSound (Argument x) shape_of d (parse_argument d x)

abbrev pub TypesSound : ℕ → Type 0
TypesSound d = (x : Context) → IsSound (TypeOf x) shape_of d (parse_type d x)
