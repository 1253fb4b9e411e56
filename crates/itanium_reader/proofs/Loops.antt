-- Loops of the parser, turn by turn.
use Rattle.std.proofs.Common.{◌≡◌, ◌<◌, ℕ, zero, suc, ◌+◌, ◌-◌, length, refl, ◌∙◌, arith, Option, Some, None}
use Rattle.itanium_reader.specs.Parser.{ParserState, Parses, Turn, ends, goes_on, after_turn, loop, parse_loop, ◌>>=◌}
use Rattle.itanium_reader.specs.Outcome.{LoopSoFar}

module _ {L A : Type 0} (turn : L → Parses (Turn L A)) where
  -- one turn of a loop that has some left
  pub loop_opens : (n : ℕ) (so_far : L) (s : ParserState) → 0 < n → loop turn n so_far s ≡ (turn so_far s >>= λ t. after_turn t.0 (loop turn (n - 1)) t.1)
  unfolding loop
  loop_opens zero so_far s h = absurd (omega arith)
  loop_opens (suc n) so_far s h = let less : suc n - 1 ≡ n = omega arith in rw less refl

pub loop_start : {L A : Type 0} {whole : Option (A × ParserState)} {turn : L → Parses (Turn L A)} {so_far : L} {s : ParserState} → whole ≡ parse_loop turn so_far s
    → LoopSoFar whole turn so_far s
loop_start {s = s} whole = record { turns = length s.rest + 1; enough = omega arith; is = whole }

pub loop_end : {L A : Type 0} {whole : Option (A × ParserState)} {turn : L → Parses (Turn L A)} {so_far : L} {s after : ParserState} {answer : A}
    → LoopSoFar whole turn so_far s → turn so_far s ≡ Some (ends answer, after) → whole ≡ Some (answer, after)
loop_end {turn = turn} {so_far = so_far} {s = s} sofar there = sofar.is ∙ loop_opens turn sofar.turns so_far s (omega (arith, sofar.enough)) ∙ rw there refl

pub loop_fail : {L A : Type 0} {whole : Option (A × ParserState)} {turn : L → Parses (Turn L A)} {so_far : L} {s : ParserState}
    → LoopSoFar whole turn so_far s → turn so_far s ≡ None → whole ≡ None
loop_fail {turn = turn} {so_far = so_far} {s = s} sofar there = sofar.is ∙ loop_opens turn sofar.turns so_far s (omega (arith, sofar.enough)) ∙ rw there refl

pub loop_more : {L A : Type 0} {whole : Option (A × ParserState)} {turn : L → Parses (Turn L A)} {so_far next : L} {s after : ParserState}
    → LoopSoFar whole turn so_far s → turn so_far s ≡ Some (goes_on next, after) → length after.rest < length s.rest → LoopSoFar whole turn next after
loop_more {turn = turn} {so_far = so_far} {s = s} sofar there shorter = record {
  turns = sofar.turns - 1;
  enough = omega (arith, sofar.enough);
  is = sofar.is ∙ loop_opens turn sofar.turns so_far s (omega (arith, sofar.enough)) ∙ rw there refl;
}

-- `LoopSoFar` of a loop whose answer gets an end, or none: the whole is what the loop gives, with its end.
pub record ListSoFar {L A B : Type 0} (whole : Option (B × ParserState)) (turn : L → Parses (Turn L A))
    (finish : A × ParserState → Option (B × ParserState)) (so_far : L) (s : ParserState) : Type 0 where
  pub inner : Option (A × ParserState)
  pub loop : LoopSoFar inner turn so_far s
  pub is : whole ≡ (inner >>= finish)

pub list_start : {L A B : Type 0} {whole : Option (B × ParserState)} {turn : L → Parses (Turn L A)} {finish : A × ParserState → Option (B × ParserState)} {so_far : L} {s : ParserState}
    → whole ≡ (parse_loop turn so_far s >>= finish) → ListSoFar whole turn finish so_far s
list_start whole = record { inner = _; loop = loop_start refl; is = whole }

pub list_end : {L A B : Type 0} {whole : Option (B × ParserState)} {turn : L → Parses (Turn L A)}
    {finish : A × ParserState → Option (B × ParserState)} {so_far : L} {s after : ParserState} {answer : A}
    → ListSoFar whole turn finish so_far s → turn so_far s ≡ Some (ends answer, after) → whole ≡ finish (answer, after)
list_end {finish = finish} sofar there = sofar.is ∙ rw (loop_end sofar.loop there) refl

pub list_fail : {L A B : Type 0} {whole : Option (B × ParserState)} {turn : L → Parses (Turn L A)} {finish : A × ParserState → Option (B × ParserState)} {so_far : L} {s : ParserState}
    → ListSoFar whole turn finish so_far s → turn so_far s ≡ None → whole ≡ None
list_fail sofar there = sofar.is ∙ rw (loop_fail sofar.loop there) refl

pub list_more : {L A B : Type 0} {whole : Option (B × ParserState)} {turn : L → Parses (Turn L A)} {finish : A × ParserState → Option (B × ParserState)} {so_far next : L} {s after : ParserState}
    → ListSoFar whole turn finish so_far s → turn so_far s ≡ Some (goes_on next, after) → length after.rest < length s.rest → ListSoFar whole turn finish next after
list_more sofar there shorter = record { inner = sofar.inner; loop = loop_more sofar.loop there shorter; is = sofar.is }
