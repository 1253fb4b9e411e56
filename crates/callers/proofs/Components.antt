-- One component of a symbol: from all that are left, and the answer that was found.
use Rattle.std.proofs.Common.{◌≡◌, ◌∙◌, ℕ, List, Option, Some, None, ap}
use Rattle.std.specs.Prelude.{slice_get}
use Rattle.std.proofs.lemmas.Option.{slice_get-map}
use Rattle.itanium_grammar.specs.Tree.{printing}
use Rattle.itanium_grammar.specs.Answer.{IsAnswer, HasComponents}
use Rattle.callers.specs.Component.{IsComponentAt, IsComponent}

at_answer : (symbol : List ℕ) (answer : Option (List ℕ)) (components : List (List ℕ)) (i : ℕ) (found : Option (List ℕ)) → HasComponents symbol answer components
    → found ≡ slice_get components i → IsComponentAt symbol answer i found
at_answer symbol None components i found has is = is ∙ ap (λ (texts : List (List ℕ)). slice_get texts i) has
at_answer symbol (Some answer) components i found has is = λ tree next cost reading deep.
    is ∙ ap (λ (texts : List (List ℕ)). slice_get texts i) (has tree next cost reading deep) ∙ slice_get-map printing next.saved i

-- the components are those of the symbol's answer
pub component_is : (symbol : List ℕ) (text : Option (List ℕ)) (components : List (List ℕ)) (i : ℕ) (found : Option (List ℕ)) → IsAnswer symbol text
    → HasComponents symbol text components → found ≡ slice_get components i → IsComponent symbol i found
component_is symbol text components i found answers has is =
    record { answer = text; answers = answers; component = at_answer symbol text components i found has is }
