-- Each symbol has an answer, a text or none.
use Rattle.std.proofs.Common.{◌≡◌, ℕ, List, Bool, true, false, Option, Some, None, ◌⊎◌, inl, inr, length, refl, sym, ◌∙◌, arith}
use Rattle.std.specs.Str.{is_utf8}
use Rattle.std.proofs.lemmas.Str.{IsUtf8-from_is_utf8, is_utf8-from_IsUtf8}
use Rattle.std.proofs.lemmas.Bool.{false≢true, cases_lt}
use Rattle.cxx_grammar.specs.Symbol.{Reading, parse_symbol}
use Rattle.cxx_demangle.specs.declared.demangler.Printing.{Printing}
use Rattle.cxx_demangle.specs.declared.demangler.Entry.TheVariants as entry
use Rattle.cxx_demangle.specs.Answer.{max_text, IsText, text_of, IsAnswer, IsAnswerOf, IsTypeAnswer, parse_entry}
use Rattle.cxx_demangle.proofs.Whole.{no_reading, has_answer, no_answer}

-- whether a text may be an answer
text_or_not : (text : List ℕ) (b : Bool) → is_utf8 text ≡ b → IsText text ⊎ (IsText text → ⊥)
text_or_not text true is = elim (cases_lt max_text (length text)) [
  | inl long ↦ inr (λ good. let short = good.short in absurd (omega (arith, long, short)))
  | inr short ↦ inl (record { short = short; utf8 = IsUtf8-from_is_utf8 text is })
]
text_or_not text false is = inr (λ good. false≢true (sym is ∙ is_utf8-from_IsUtf8 text good.utf8))

-- the printing of a reading is the answer, or there is none
at_reading : (printing : Printing) (read : Option Reading) (t : Reading) → read ≡ Some t → IsText (text_of printing t) ⊎ (IsText (text_of printing t) → ⊥)
    → (answer : Option (List ℕ)) × IsAnswerOf printing read answer
at_reading printing read t reads (inl good) = (Some (text_of printing t), has_answer printing read t (text_of printing t) reads refl good)
at_reading printing read t reads (inr bad) = (None, no_answer printing read t (text_of printing t) reads refl bad)

at_text : (printing : Printing) (read parsed : Option Reading) → read ≡ parsed → (answer : Option (List ℕ)) × IsAnswerOf printing read answer
at_text printing read None is = (None, no_reading printing read is)
at_text printing read (Some t) is = at_reading printing read t is (text_or_not (text_of printing t) (is_utf8 (text_of printing t)) refl)

-- each symbol has an answer
pub each_answered : (printing : Printing) (symbol : List ℕ) → (answer : Option (List ℕ)) × IsAnswer printing symbol answer
each_answered printing symbol = at_text printing (parse_symbol symbol) (parse_symbol symbol) refl

-- and each type alone
pub each_type_answered : (printing : Printing) (text : List ℕ) → (answer : Option (List ℕ)) × IsTypeAnswer printing text answer
each_type_answered printing text = at_text printing (parse_entry entry.Type text) (parse_entry entry.Type text) refl
