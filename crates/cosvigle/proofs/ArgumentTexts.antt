-- What is printed for an argument.
use Rattle.std.proofs.Common.{◌≡◌, ℕ, List, ◌++◌, Option, Some, None, take, sym, subst}
use Rattle.std.specs.Prelude.{option_map, IsUtf8}
use Rattle.text_filter.specs.declared.symbols.ReplaceOptions.{ReplaceOptions}
use Rattle.cosvigle_engine.specs.declared.reader.Printing.{Printing}
use Rattle.cosvigle_engine.specs.Printed.{IsPrintedAs}
use Rattle.text_filter.specs.Replaced.{prefix_chars_len}
use Rattle.cosvigle.specs.Arguments.{symbol_of, IsArgumentAnswer, answered, unanswered, not_utf8}

pub no_text : (options : ReplaceOptions Printing) (argument symbol : List ℕ) → symbol ≡ symbol_of options.strip argument → ¬ (IsUtf8 symbol) → IsArgumentAnswer options argument argument
no_text options argument symbol symbol_is bad = not_utf8 (λ good. bad (subst IsUtf8 (sym symbol_is) good))

-- its symbol has a name
pub with_name : {A : Type 0} (text_of : A → List ℕ) (options : ReplaceOptions Printing) (argument symbol text : List ℕ) (len : ℕ) (found : Option A) (answer : A)
    → symbol ≡ symbol_of options.strip argument → len ≡ prefix_chars_len options.strip argument → IsUtf8 symbol → IsPrintedAs options.printing symbol (option_map text_of found) → found ≡ Some answer → text ≡ text_of answer
    → IsArgumentAnswer options argument (take len argument ++ text)
with_name text_of options argument symbol text len found answer symbol_is len_is good is_answer found_is text_is =
    subst (λ n. IsArgumentAnswer options argument (take n argument ++ text)) (sym len_is)
    (answered (subst IsUtf8 symbol_is good)
    (subst (λ t. IsPrintedAs options.printing (symbol_of options.strip argument) (Some t)) (sym text_is)
    (subst (λ s. IsPrintedAs options.printing s (Some (text_of answer))) symbol_is (subst (λ o. IsPrintedAs options.printing symbol (option_map text_of o)) found_is is_answer))))

-- it has none
pub without_name : {A : Type 0} (text_of : A → List ℕ) (options : ReplaceOptions Printing) (argument symbol : List ℕ) (found : Option A)
    → symbol ≡ symbol_of options.strip argument → IsUtf8 symbol → IsPrintedAs options.printing symbol (option_map text_of found) → found ≡ None → IsArgumentAnswer options argument argument
without_name text_of options argument symbol found symbol_is good is_answer found_is =
    unanswered (subst IsUtf8 symbol_is good)
    (subst (λ s. IsPrintedAs options.printing s None) symbol_is (subst (λ o. IsPrintedAs options.printing symbol (option_map text_of o)) found_is is_answer))
