-- What is written for a line.
use Rattle.std.proofs.Common.{◌≡◌, ◌≢◌, ℕ, List, [], ◌∷◌, Bool, true, false, Option, Some, None, get_or, refl, sym, subst, ◌∙◌}
use Rattle.std.specs.Prelude.{option_map, IsUtf8}
use Rattle.std.specs.Str.{is_utf8}
use Rattle.std.proofs.lemmas.Str.{IsUtf8-from_is_utf8, is_utf8-from_IsUtf8}
use Rattle.std.proofs.lemmas.Bool.{false≢true, ne_eqb}
use Rattle.abi_scalars.specs.Symbol.{after_prefix}
use Rattle.text_filter.specs.Printed.{Printing}
use Rattle.text_filter.specs.Filtered.{IsLineAnswer, answered, unanswered, not_utf8}

-- a line that isn't UTF-8
pub not_text : {printing : Printing} {line : List ℕ} → ¬ (IsUtf8 line) → IsLineAnswer printing line line
not_text no_text = not_utf8 no_text

-- a line without an answer
pub line_without : {A : Type 0} (printing : Printing) (text_of : A → List ℕ) (line symbol : List ℕ) (found : Option A)
    → symbol ≡ line → IsUtf8 line → printing symbol (option_map text_of found) → found ≡ None → IsLineAnswer printing line line
line_without printing text_of line symbol found symbol_is is_utf8 is_answer found_is =
    unanswered is_utf8 (subst (λ s. printing s None) symbol_is (subst (λ o. printing symbol (option_map text_of o)) found_is is_answer))

-- a line with one
pub line_with : {A : Type 0} (printing : Printing) (text_of : A → List ℕ) (line symbol text : List ℕ) (found : Option A) (answer : A)
    → symbol ≡ line → IsUtf8 line → printing symbol (option_map text_of found) → found ≡ Some answer → text ≡ text_of answer → IsLineAnswer printing line text
line_with printing text_of line symbol text found answer symbol_is is_utf8 is_answer found_is text_is =
    answered is_utf8 (subst
    (λ t. printing line (Some t)) (sym text_is) (subst
    (λ s. printing s (Some (text_of answer))) symbol_is (subst
    (λ o. printing symbol (option_map text_of o)) found_is is_answer)))

-- a symbol of the Itanium C++ ABI begins with an underscore
pub no_prefix : (line : List ℕ) → get_or line 0 0 ≢ 95 → after_prefix line ≡ None
no_prefix [] ordinary = refl
no_prefix (byte ∷ bytes) ordinary = rw (ne_eqb byte 95 ordinary) refl

-- a line that is ordinary stands for itself, whether it is UTF-8 or not
by_utf8 : (printing : Printing) (line : List ℕ) → printing line None → (b : Bool) → is_utf8 line ≡ b → IsLineAnswer printing line line
by_utf8 printing line none false bad = not_utf8 (λ good. false≢true (sym bad ∙ is_utf8-from_IsUtf8 line good))
by_utf8 printing line none true good = unanswered (IsUtf8-from_is_utf8 line good) none

pub other_line : (printing : Printing) (stays : (line : List ℕ) → get_or line 0 0 ≢ 95 → printing line None) (line : List ℕ) → get_or line 0 0 ≢ 95 → IsLineAnswer printing line line
other_line printing stays line ordinary = by_utf8 printing line (stays line ordinary) (is_utf8 line) refl
