-- Texts that are too long: a parser of what isn't counted answers nothing there at most where a counted one around it
-- answers nothing either.
use Rattle.std.proofs.Common.{◌≡◌, ◌<◌, ◌≤◌, ℕ, Bool, true, false, refl, sym, ◌∙◌, subst, arith, Option, Some, None, if◌then◌else◌, nat_lt}
use Rattle.std.proofs.lemmas.Bool.Decides.{nat_tests}
use Rattle.std.proofs.lemmas.Option.{same_Some, option_and_then_some}
use Rattle.demangle_text.specs.Shape.{Shape, text_len}
use Rattle.demangle_quals.specs.declared.quals.Quals.{Quals}
use Rattle.itanium_grammar.specs.Answer.{max_text}
use Rattle.itanium_reader.specs.Parser.{ParserState, ◌>>=◌, fitting, fitting_bare}

-- how long a name is without its own qualifiers
abbrev pub bare_len : Shape × Quals → ℕ
bare_len bare = text_len bare.0

-- what was parsed is this, or else nothing was parsed and this is too long
pub data Met {A : Type 0} (size : A → ℕ) (parsed : Option (A × ParserState)) (g : A × ParserState) : Type 0 where
  met : parsed ≡ Some g → Met size parsed g
  wide : max_text < size g.0 → parsed ≡ None → Met size parsed g

-- what follows makes a text no shorter
pub met_then : {A B : Type 0} {size : A → ℕ} {long : B → ℕ} {parsed : Option (A × ParserState)} {g : A × ParserState} {h : B × ParserState}
    (f : A × ParserState → Option (B × ParserState)) → Met size parsed g → size g.0 ≤ long h.0 → Met long (f g) h → Met long (parsed >>= f) h
met_then {long = long} {h = h} f (met is) grows more = subst (λ o. Met long (o >>= f) h) (sym is) more
met_then f (wide big none) grows more = wide (omega arith) (rw none refl)

-- the same where two steps follow
pub met_then_again : {A B C : Type 0} {size : A → ℕ} {long : C → ℕ} {parsed : Option (A × ParserState)} {g : A × ParserState} {h : C × ParserState}
    (f : A × ParserState → Option (B × ParserState)) (again : B × ParserState → Option (C × ParserState))
    → Met size parsed g → size g.0 ≤ long h.0 → Met long (f g >>= again) h → Met long (parsed >>= f >>= again) h
met_then_again {long = long} {h = h} f again (met is) grows more = subst (λ o. Met long (o >>= f >>= again) h) (sym is) more
met_then_again f again (wide big none) grows more = wide (omega arith) (rw none refl)

-- the same in other words
pub met_as : {A : Type 0} {size : A → ℕ} {parsed : Option (A × ParserState)} {g h : A × ParserState} → Met size parsed g → ◌≡◌ {A = Option (A × ParserState)} (Some g) (Some h) → Met size parsed h
met_as {size = size} {parsed = parsed} {g = g} {h = h} m same = subst (λ o. Met size parsed o) (same_Some g h same) m

-- a text that isn't too long is met
pub met_narrow : {A : Type 0} {size : A → ℕ} {parsed : Option (A × ParserState)} {g : A × ParserState} → Met size parsed g → size g.0 ≤ max_text → parsed ≡ Some g
met_narrow (met is) narrow = is
met_narrow (wide big none) narrow = absurd (omega arith)

-- what was parsed is what is met
pub met_is : {A : Type 0} {size : A → ℕ} {parsed : Option (A × ParserState)} {g y : A × ParserState} → Met size parsed g → parsed ≡ Some y → y ≡ g
met_is {g = g} {y = y} (met is) read = same_Some y g (sym read ∙ is)
met_is (wide big none) read = cc

-- a shape that isn't too long passes
pub fits : (g : Shape × ParserState) → text_len g.0 ≤ max_text → fitting g ≡ Some g
fits g narrow = let test : nat_lt max_text (text_len g.0) ≡ false = grind (arith, nat_tests) in rw test refl

pub fits_bare : (g : (Shape × Quals) × ParserState) → text_len g.0.0 ≤ max_text → fitting_bare g ≡ Some g
fits_bare g narrow = let test : nat_lt max_text (text_len g.0.0) ≡ false = grind (arith, nat_tests) in rw test refl

-- and what passes isn't too long
pub passed : (g y : Shape × ParserState) → fitting g ≡ Some y → (y ≡ g) × (text_len g.0 ≤ max_text)
passed g y is = go (nat_lt max_text (text_len g.0)) refl is
  where
    go : (b : Bool) → nat_lt max_text (text_len g.0) ≡ b → (if b then None else Some g) ≡ Some y → (y ≡ g) × (text_len g.0 ≤ max_text)
    go true e f = cc
    go false e f = (sym (same_Some g y f), grind (arith, nat_tests))

pub passed_bare : (g y : (Shape × Quals) × ParserState) → fitting_bare g ≡ Some y → (y ≡ g) × (text_len g.0.0 ≤ max_text)
passed_bare g y is = go (nat_lt max_text (text_len g.0.0)) refl is
  where
    go : (b : Bool) → nat_lt max_text (text_len g.0.0) ≡ b → (if b then None else Some g) ≡ Some y → (y ≡ g) × (text_len g.0.0 ≤ max_text)
    go true e f = cc
    go false e f = (sym (same_Some g y f), grind (arith, nat_tests))

pub met_fits_bare : {parsed : Option ((Shape × Quals) × ParserState)} {g : (Shape × Quals) × ParserState} → Met bare_len parsed g → bare_len g.0 ≤ max_text → (parsed >>= fitting_bare) ≡ Some g
met_fits_bare {g = g} m narrow = rw (met_narrow m narrow) (fits_bare g narrow)

-- what is met passes where it isn't too long
pub met_fits : {parsed : Option (Shape × ParserState)} {g : Shape × ParserState} → Met text_len parsed g → text_len g.0 ≤ max_text → (parsed >>= fitting) ≡ Some g
met_fits {g = g} m narrow = rw (met_narrow m narrow) (fits g narrow)

-- and isn't too long where it passes
pub met_passed : {parsed : Option (Shape × ParserState)} {g z y : Shape × ParserState} → Met text_len parsed g → parsed ≡ Some z → fitting z ≡ Some y → text_len g.0 ≤ max_text
met_passed {z = z} {y = y} m read through = rw (sym (met_is m read)) ((passed z y through).1)

pub met_passed_bare : {parsed : Option ((Shape × Quals) × ParserState)} {g z y : (Shape × Quals) × ParserState}
    → Met bare_len parsed g → parsed ≡ Some z → fitting_bare z ≡ Some y → bare_len g.0 ≤ max_text
met_passed_bare {z = z} {y = y} m read through = rw (sym (met_is m read)) ((passed_bare z y through).1)

-- a turn of a loop that ends where its list is too long
pub met_turn : {L B : Type 0} {long : B → ℕ} {h : B × ParserState} (l : Shape) (s : ParserState)
    (next : Shape × ParserState → Option (L × ParserState)) (again : L × ParserState → Option (B × ParserState))
    → text_len l ≤ long h.0 → Met long (next (l, s) >>= again) h → Met long (fitting (l, s) >>= next >>= again) h
met_turn {long = long} {h = h} l s next again grows more = go (nat_lt max_text (text_len l)) refl
  where
    go : (b : Bool) → nat_lt max_text (text_len l) ≡ b → Met long ((if b then None else Some (l, s)) >>= next >>= again) h
    go true e = let big : max_text < text_len l = grind (arith, nat_tests) in wide (omega arith) refl
    go false e = more

-- the same after what is met
pub met_step : {L B : Type 0} {long : B → ℕ} {parsed : Option (Shape × ParserState)} {g : Shape × ParserState} {h : B × ParserState}
    (next : Shape × ParserState → Option (L × ParserState)) (again : L × ParserState → Option (B × ParserState))
    → Met text_len parsed g → text_len g.0 ≤ long h.0 → Met long (next g >>= again) h → Met long (parsed >>= fitting >>= next >>= again) h
met_step {long = long} {g = g} {h = h} next again (met is) grows more =
    subst (λ o. Met long (o >>= fitting >>= next >>= again) h) (sym is) (met_turn g.0 g.1 next again grows more)
met_step next again (wide big none) grows more = wide (omega arith) (rw none refl)

-- a turn that was read was not too long
pub past_fitting : {B : Type 0} (g : Shape × ParserState) (next : Shape × ParserState → Option B) (v : B) → (fitting g >>= next) ≡ Some v → next g ≡ Some v
past_fitting g next v is = option_and_then_some next (fitting g) v is (λ z through more. let same = (passed g z through).0 in rw same at more)
