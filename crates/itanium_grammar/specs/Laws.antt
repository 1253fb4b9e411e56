-- Laws of readings and of answers.
use Rattle.std.specs.Prelude.{◌≡◌, ◌<◌, ℕ, List, ◌++◌, length, Option, Some, codes, true}
use Rattle.std.specs.Str.{IsUtf8}
use Rattle.abi_scalars.specs.Bytes.{begins}
use Rattle.itanium_grammar.specs.Tree.{Tree, printing}
use Rattle.itanium_grammar.specs.Grammar.{Position, Cost, SymbolName}
use Rattle.itanium_syntax.specs.declared.context.Context.{Context}
use Rattle.itanium_grammar.specs.Answer.{IsWithin, IsReading, HasAtMostOneReading, IsAnswer}

-- what holds of readings
pub record LawsOfReadings : Type 0 where
  -- two readings of a symbol within the limits agree
  pub one_reading : (symbol : List ℕ) → HasAtMostOneReading symbol
  -- a reading takes one byte at least
  pub takes :
      (x : Context) (p q : Position) (t : Tree) (c : Cost)
      → SymbolName x p t q c
      → length q.rest < length p.rest

-- what holds of answers
pub record LawsOfAnswers : Type 0 where
  -- a symbol has at most one answer
  pub one_answer :
      (symbol : List ℕ) (a b : Option (List ℕ))
      → IsAnswer symbol a
      → IsAnswer symbol b
      → a ≡ b
  -- an underscore in front of a symbol that begins with _Z changes nothing
  pub underscore :
      (symbol : List ℕ) (a : Option (List ℕ))
      → begins (codes "_Z") symbol ≡ true
      → IsAnswer symbol a
      → IsAnswer (codes "_" ++ symbol) a
  -- a dot right after what was read keeps itself and all that follows
  pub dot :
      (symbol rest : List ℕ) (tree : Tree) (next : Position) (cost : Cost)
      → IsReading symbol tree next cost
      → IsWithin cost
      → IsUtf8 (printing tree)
      → next.rest ≡ codes "." ++ rest
      → IsAnswer symbol (Some (printing tree ++ (codes "." ++ rest)))
