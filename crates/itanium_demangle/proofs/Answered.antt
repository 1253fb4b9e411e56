-- Each symbol has an answer, a text or none.
use Rattle.std.proofs.Common.{◌≡◌, ◌++◌, ◌∙◌, ℕ, List, Bool, true, false, Option, Some, None, refl, sym}
use Rattle.std.specs.Str.{is_utf8}
use Rattle.std.proofs.lemmas.Str.{IsUtf8-from_is_utf8, is_utf8-from_IsUtf8}
use Rattle.std.proofs.lemmas.Bool.{false≢true}
use Rattle.demangle_text.specs.Shape.{Shape, text}
use Rattle.itanium_grammar.specs.Answer.{start, initial, max_depth, IsAnswer}
use Rattle.abi_scalars.specs.Symbol.{after_prefix, suffix}
use Rattle.itanium_grammar.specs.Cases.{AfterName}
use Rattle.itanium_reader.specs.Parser.{ParserState, begun, parse_encoding}
use Rattle.itanium_demangle.proofs.Readers.{symbols}
use Rattle.itanium_demangle.proofs.Symbols.{no_prefix, not_read, printed}

-- a reading that was found is printed where it is UTF-8
at_reading : (symbol inside : List ℕ) (found : Shape) (after : ParserState) → after_prefix symbol ≡ Some inside → parse_encoding max_depth AfterName initial (begun inside) ≡ Some (found, after)
    → (b : Bool) → is_utf8 (text found) ≡ b → (answer : Option (List ℕ)) × IsAnswer symbol answer
at_reading symbol inside found after prefix is true utf8 =
    let has = (symbols max_depth initial).reads (start inside) 0 0 found after is in
    (Some (text found ++ suffix after.rest), printed symbol inside 0 0 found after (Some (text found ++ suffix after.rest)) prefix has (IsUtf8-from_is_utf8 (text found) utf8, refl))
at_reading symbol inside found after prefix is false utf8 =
    let has = (symbols max_depth initial).reads (start inside) 0 0 found after is in
    (None, printed symbol inside 0 0 found after None prefix has (λ good. false≢true (sym utf8 ∙ is_utf8-from_IsUtf8 (text found) good)))

-- after a prefix a reading is found or not
at_prefix : (symbol inside : List ℕ) → after_prefix symbol ≡ Some inside → (parsed : Option (Shape × ParserState)) → parse_encoding max_depth AfterName initial (begun inside) ≡ parsed
    → (answer : Option (List ℕ)) × IsAnswer symbol answer
at_prefix symbol inside prefix None is = (None, not_read symbol inside prefix ((symbols max_depth initial).none (start inside) 0 0 is))
at_prefix symbol inside prefix (Some (found, after)) is = at_reading symbol inside found after prefix is (is_utf8 (text found)) refl

at_symbol : (symbol : List ℕ) (inside : Option (List ℕ)) → after_prefix symbol ≡ inside → (answer : Option (List ℕ)) × IsAnswer symbol answer
at_symbol symbol None prefix = (None, no_prefix symbol prefix)
at_symbol symbol (Some inside) prefix = at_prefix symbol inside prefix (parse_encoding max_depth AfterName initial (begun inside)) refl

-- each symbol has an answer
pub each_answered : (symbol : List ℕ) → (answer : Option (List ℕ)) × IsAnswer symbol answer
each_answered symbol = at_symbol symbol (after_prefix symbol) refl
