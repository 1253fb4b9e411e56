-- How long a symbol's answer is.
use Rattle.std.specs.Prelude.{◌≡◌, ℕ, List, length, Option, option_map}
use Rattle.itanium_grammar.specs.Answer.{IsAnswer}

-- so many bytes are in the symbol's answer: none where it has no answer
pub record IsAnswerLen (symbol : List ℕ) (len : Option ℕ) : Type 0 where
  pub answer : Option (List ℕ)
  pub answers : IsAnswer symbol answer
  pub len_is : len ≡ option_map length answer
