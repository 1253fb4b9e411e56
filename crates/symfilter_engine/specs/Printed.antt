-- What is printed for a symbol.
use Rattle.std.specs.Prelude.{◌≡◌, ◌≢◌, ℕ, List, Option, None, slice_index}
use Rattle.std.proofs.Common.{sym, ◌∙◌}
use Rattle.abi_scalars.specs.Symbol.{after_prefix}
use Rattle.itanium_grammar.specs.Answer.{IsAnswer}
use Rattle.itanium_demangle.proofs.Answered.{each_answered}
use Rattle.text_filter.specs.Printed.{AnswersEach}
use Rattle.text_filter.proofs.LineAnswers.{no_prefix}

-- what is printed for a symbol, or that it stays as it is: there is no choice
abbrev pub prints : Unit {0} → List ℕ → Option (List ℕ) → Type 0
prints printing = IsAnswer

-- no reading without a prefix
not_read : (line : List ℕ) → after_prefix line ≡ None → IsAnswer line None
not_read line prefix = λ tree next cost reading deep utf8. let e = sym prefix ∙ reading.prefix in cc

-- something is printed for each symbol, or it stays
pub prints_each : (printing : Unit {0}) → AnswersEach (prints printing)
prints_each printing = record { each = each_answered }

-- what doesn't begin with an underscore stays
pub unprefixed_stays : (printing : Unit {0}) (line : List ℕ) → slice_index line 0 ≢ 95 → prints printing line None
unprefixed_stays printing line ordinary = not_read line (no_prefix line ordinary)
