-- What a demangler keeps between calls.
use Rattle.std.specs.Prelude.{◌≡◌, ℕ, ◌++◌, Bool, true, List, [], map, Option, Some, None}
use Rattle.std.specs.Str.{IsUtf8}
use Rattle.std.specs.Prelude.{Box}
use Rattle.std.specs.Global.{Global}
use Rattle.demangle_text.specs.declared.buffer.Buffer.{Buffer}
use Rattle.demangle_text.specs.Shape.{Shape, text}
use Rattle.demangle_text.specs.State.{saved, scopes, frame, outermost, main_bytes}
use Rattle.itanium_grammar.specs.Answer.{HasCounts, HasComponents, HasSaved, HasBounds, HasLength}
use Rattle.abi_scalars.specs.Symbol.{after_prefix}
use Rattle.itanium_demangle.specs.declared.demangler.Demangler.TheInside.{Inside}
use Rattle.itanium_demangle.specs.LastResult.{LastResult, no_result}

-- the answer: all of the buffer's output, where there is one
abbrev pub answer_text : Bool → Option (Box Buffer Global) → Option (List ℕ)
answer_text true (Some buffer) = Some (main_bytes buffer.value)
answer_text answered buffer = None

-- the texts of a buffer's components, where there is an answer
abbrev pub component_texts : Bool → Option (Box Buffer Global) → List (List ℕ)
component_texts true (Some buffer) = map text (saved buffer.value)
component_texts answered buffer = []

-- their shapes, where there is an answer
abbrev pub component_shapes : Bool → Option (Box Buffer Global) → List Shape
component_shapes true (Some buffer) = saved buffer.value
component_shapes answered buffer = []

-- what the fields mean
abbrev pub last_result : Inside → LastResult
last_result d = record {
  text = answer_text d.answered d.buffer;
  entered = d.entered;
  most_saved = d.most_saved;
  components = component_texts d.answered d.buffer;
  saved = component_shapes d.answered d.buffer;
}

-- a text, where there is one, is UTF-8
abbrev pub IsText : Option (List ℕ) → Type 0
IsText (Some text) = IsUtf8 text
IsText None = Unit {0}

-- If there is an answer, no scope is open in its buffer, and the innermost mark is at the start of the output, or none
-- is open.
abbrev pub IsEnded : Bool → Option (Box Buffer Global) → Type 0
IsEnded true (Some buffer) = (scopes buffer.value ≡ []) × (frame buffer.value ≡ outermost)
IsEnded answered buffer = Unit {0}

-- what is kept as an answer is UTF-8, in a buffer of which `IsEnded` holds
pub record KeepsAnswer (d : Inside) : Type 0 where
  pub text : IsText (answer_text d.answered d.buffer)
  pub ended : IsEnded d.answered d.buffer

-- a printing in UTF-8 with what is after it, and no text where it isn't UTF-8
abbrev pub IsPrinted : List ℕ → List ℕ → Option (List ℕ) → Type 0
IsPrinted printing after (Some text) = IsUtf8 printing × (text ≡ printing ++ after)
IsPrinted printing after None = ¬ (IsUtf8 printing)

-- after a symbol the counts, the components, their shapes and the length of the text are those of its readings, and
-- without a prefix nothing is left
pub record IsPrepared (symbol : List ℕ) (last : LastResult) : Type 0 where
  pub counts : HasCounts symbol last.entered last.most_saved
  pub components : HasComponents symbol last.text last.components
  pub saved : HasSaved symbol last.text last.saved
  pub bounds : HasBounds symbol last.entered last.most_saved
  pub longest : HasLength symbol last.text
  pub no_prefix : after_prefix symbol ≡ None → last ≡ no_result
