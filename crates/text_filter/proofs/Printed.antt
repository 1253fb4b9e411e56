-- What is printed at a placement.
use Rattle.std.specs.Prelude.{Bool}
use Rattle.text_filter.specs.Printed.{Printing, AnswersEach, printing_of, placed}
use Rattle.text_filter.specs.declared.symbols.Placement as code
use Rattle.text_filter.specs.declared.symbols.Placement.TheVariants as places

-- each symbol has an answer there, if a reader has one each time
pub placed_answers : {P : Type 0} (all : P → Bool) (prints : P → Printing) → ((printing : P) → AnswersEach (prints printing)) → (placement : code.Placement P) → AnswersEach (printing_of (placed all prints placement))
placed_answers all prints answers (places.Lines printing) = answers printing
placed_answers all prints answers (places.Words options) = answers options.printing
