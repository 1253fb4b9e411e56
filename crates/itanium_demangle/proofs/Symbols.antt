-- What a reader of symbols says, in the grammar's words, and what follows for the answer.
use Rattle.std.proofs.Common.{◌≡◌, ◌<◌, ℕ, ◌++◌, List, [], ◌∷◌, Bool, true, false, Option, Some}
use Rattle.std.proofs.Common.{None, Result, Ok, Err, ap, if◌then◌else◌, map, ◌∙◌, sym, refl, subst, arith, length, drop}
use Rattle.std.proofs.Common.{get_or, ◌+◌, max}
use Rattle.std.proofs.lemmas.Simd.{map-map}
use Rattle.std.proofs.lemmas.Grind.{common_steps}
use Rattle.std.proofs.lemmas.List.{length-drop, get_or-drop}
use Rattle.std.proofs.lemmas.Str.{IsUtf8-append, IsUtf8-nil, IsUtf8-drop, IsCharBoundary-before_ascii}
use Rattle.std.specs.Str.{IsUtf8}
use Rattle.std.specs.Prelude.{Box}
use Rattle.std.specs.Global.{Global}
use Rattle.demangle_text.specs.Shape.{Shape, text}
use Rattle.demangle_text.specs.declared.buffer.Buffer.{Buffer}
use Rattle.demangle_text.specs.State.{shape, saved, scopes, main_bytes}
use Rattle.abi_scalars.specs.Bytes.{begins}
use Rattle.itanium_syntax.proofs.Fronts.{IsAfter, after_then}
use Rattle.itanium_grammar.specs.Tree.{shape_of, printing}
use Rattle.itanium_grammar.specs.Cases.{AfterName}
use Rattle.itanium_grammar.specs.Grammar.{Position, Cost, SymbolName}
use Rattle.itanium_grammar.specs.Answer.{start, initial, max_depth, HasAnswer, HasNoAnswer, IsAnswer, HasCounts, HasComponents, HasSaved}
use Rattle.abi_scalars.specs.Symbol.{after_prefix, suffix}
use Rattle.itanium_grammar.proofs.Agreement.{inside_takes}
use Rattle.itanium_reader.specs.declared.reader.Reader.{Reader}
use Rattle.itanium_reader.specs.declared.stop.Stop.{Stop}
use Rattle.itanium_reader.specs.declared.stop.Stop.TheVariants.{Unreadable, Memory}
use Rattle.itanium_reader.specs.Parser.{ParserState, begun, parse_encoding}
use Rattle.itanium_reader.specs.Outcome.{state, Gives}
use Rattle.itanium_demangle.specs.Meaning.{StandsFor, state_at, HasReading, HasNoReading, ReadsAs}
use Rattle.itanium_demangle.specs.Demangler.{IsPrinted, IsText, answer_text, component_texts, component_shapes}
use Rattle.itanium_demangle.proofs.Readers.{symbols}

-- what a call says of the parser, it says of trees
pub reads_as : (result : Result (Unit {0}) Stop) (d : ℕ) (before after : Reader) → Gives result after (parse_encoding d AfterName initial (state before))
    → ReadsAs result d before after
reads_as (Ok u) d before after gives = (
  gives.0,
  λ p stands.
      (symbols d initial).reads p before.entered (state before).most_saved (shape after.buffer.value after.found) (state after) (rw stands at gives.1),
)
reads_as (Err Unreadable) d before after none = λ p stands. (symbols d initial).none p before.entered (state before).most_saved (rw stands at none)
reads_as (Err Memory) d before after gives = tt

-- a reader at the front of a symbol
pub stands_at_start : (r : Reader) (bytes : List ℕ) → state r ≡ begun bytes → StandsFor r (start bytes)
stands_at_start r bytes is = is ∙ (λ j. record {
  rest = bytes;
  saved = [];
  scopes = [];
  entered = sym (ap (λ (s : ParserState). s.entered) is) j;
  most_saved = sym (ap (λ (s : ParserState). s.most_saved) is) j;
})

-- the state of a new reader over a buffer where nothing is saved and no scope is open
pub state_begun : (buffer : Buffer) (bytes : List ℕ) → saved buffer ≡ [] → scopes buffer ≡ []
    → record (begun bytes) { saved = saved buffer; scopes = scopes buffer; most_saved = max 0 (length (saved buffer)) } ≡ begun bytes
state_begun buffer bytes no_saved no_scopes = λ j. record (begun bytes) { saved = no_saved j; scopes = no_scopes j; most_saved = max 0 (length (no_saved j)) }

-- what is read from there
pub reading_from_start : (d : ℕ) (before after : ParserState) (found : Shape) (bytes : List ℕ) → before ≡ begun bytes
    → ((p : Position) → before ≡ state_at p before.entered before.most_saved → HasReading (SymbolName initial p) shape_of d before.entered before.most_saved found after)
    → HasReading (SymbolName initial (start bytes)) shape_of d 0 0 found after
reading_from_start d before after found bytes is reads =
    subst (λ (s : ParserState). (p : Position) → s ≡ state_at p s.entered s.most_saved → HasReading (SymbolName initial p) shape_of d s.entered s.most_saved found after) is reads (start bytes) refl

pub no_prefix : (symbol : List ℕ) → after_prefix symbol ≡ None → HasNoAnswer symbol
no_prefix symbol none tree next cost reading within utf8 = let p = reading.prefix in cc

begins_dot : (bytes : List ℕ) → begins (46 ∷ []) bytes ≡ true → (0 < length bytes) × (get_or bytes 0 0 ≡ 46)
begins_dot [] e = cc
begins_dot (b ∷ bytes) e = (omega arith, grind (arith, common_steps))

-- a text may be cut before a dot
cut_at_dot : (symbol : List ℕ) (n : ℕ) → IsUtf8 symbol → begins (46 ∷ []) (drop n symbol) ≡ true → IsUtf8 (drop n symbol)
cut_at_dot symbol n utf8 dot =
    let parts = begins_dot (drop n symbol) dot in
    let there : n < length symbol = omega (arith, parts.0, length-drop n symbol) in
    let is : get_or symbol n 0 ≡ 46 = ap (λ k. get_or symbol k 0) (omega arith) ∙ sym (get_or-drop n symbol 0 0) ∙ parts.1 in
    IsUtf8-drop symbol n utf8 (IsCharBoundary-before_ascii symbol n there (omega (arith, is)))

suffix_from : (symbol rest : List ℕ) → IsUtf8 symbol → IsAfter rest symbol → IsUtf8 (suffix rest)
suffix_from symbol rest utf8 after = go (begins (46 ∷ []) rest) refl
  where
    go : (t : Bool) → begins (46 ∷ []) rest ≡ t → IsUtf8 (if t then rest else [])
    go true e = rw after.is (cut_at_dot symbol after.count utf8 (ap (begins (46 ∷ [])) (sym after.is) ∙ e))
    go false e = IsUtf8-nil

prefix_after : (symbol inside : List ℕ) → after_prefix symbol ≡ Some inside → IsAfter inside symbol
prefix_after symbol inside e = go (begins (95 ∷ 90 ∷ []) symbol) (begins (95 ∷ 95 ∷ 90 ∷ []) symbol) e
  where
    go : (s t : Bool) → (if s then Some (drop 2 symbol) else (if t then Some (drop 3 symbol) else None)) ≡ Some inside → IsAfter inside symbol
    go true t e = record { count = 2; is = cc }
    go false true e = record { count = 3; is = cc }
    go false false e = cc

pub not_read : (symbol inside : List ℕ) → after_prefix symbol ≡ Some inside → HasNoReading (SymbolName initial (start inside)) max_depth → HasNoAnswer symbol
not_read symbol inside prefix none tree next cost reading within utf8 =
    let here : reading.inside ≡ inside = cc in
    none tree next cost (subst (λ v. SymbolName initial (start v) tree next cost) here reading.reading) within

read_wrongly : (symbol inside : List ℕ) (e m : ℕ) (found : Shape) (after : ParserState)
    → after_prefix symbol ≡ Some inside → HasReading (SymbolName initial (start inside)) shape_of max_depth e m found after
    → ¬ (IsUtf8 (text found)) → HasNoAnswer symbol
read_wrongly symbol inside e m found after prefix has bad tree next cost reading within utf8 =
    let here : reading.inside ≡ inside = cc in
    let same = has.one tree next cost (subst (λ v. SymbolName initial (start v) tree next cost) here reading.reading) within in
    let is : shape_of tree ≡ found = ap shape_of same.0 ∙ sym has.found_is in
    bad (subst (λ (v : Shape). IsUtf8 (text v)) is utf8)

read_rightly : (symbol inside answer : List ℕ) (e m : ℕ) (found : Shape) (after : ParserState)
    → after_prefix symbol ≡ Some inside → HasReading (SymbolName initial (start inside)) shape_of max_depth e m found after
    → IsUtf8 (text found) → answer ≡ text found ++ suffix after.rest → HasAnswer symbol answer
read_rightly symbol inside answer e m found after prefix has utf8 built =
    let same_rest : after.rest ≡ has.next.rest = ap (λ (s : ParserState). s.rest) has.state_is in
    record {
      tree = has.tree;
      next = has.next;
      cost = has.cost;
      reading = record { inside = inside; prefix = prefix; reading = has.reading };
      within = has.fits;
      utf8 = subst (λ (v : Shape). IsUtf8 (text v)) has.found_is utf8;
      answer_is = built ∙ ap (λ (v : Shape). text v ++ suffix after.rest) has.found_is ∙ ap (λ (v : List ℕ). printing has.tree ++ suffix v) same_rest;
    }

pub printed : (symbol inside : List ℕ) (e m : ℕ) (found : Shape) (after : ParserState) (answer : Option (List ℕ)) → after_prefix symbol ≡ Some inside
    → HasReading (SymbolName initial (start inside)) shape_of max_depth e m found after → IsPrinted (text found) (suffix after.rest) answer → IsAnswer symbol answer
printed symbol inside e m found after None prefix has bad = read_wrongly symbol inside e m found after prefix has bad
printed symbol inside e m found after (Some answer) prefix has good = read_rightly symbol inside answer e m found after prefix has good.0 good.1

pub suffix_utf8 : (symbol inside : List ℕ) (e m : ℕ) (found : Shape) (after : ParserState) → IsUtf8 symbol → after_prefix symbol ≡ Some inside
    → HasReading (SymbolName initial (start inside)) shape_of max_depth e m found after → IsUtf8 (suffix after.rest)
suffix_utf8 symbol inside e m found after utf8 prefix has =
    let same_rest : after.rest ≡ has.next.rest = ap (λ (s : ParserState). s.rest) has.state_is in
    rw same_rest (suffix_from symbol has.next.rest utf8 (after_then (prefix_after symbol inside prefix) (inside_takes inside has.tree has.next has.cost has.reading).after))

-- the counts of a reading that was found are those of every reading
pub counted : (symbol inside : List ℕ) (found : Shape) (after : ParserState) → after_prefix symbol ≡ Some inside
    → HasReading (SymbolName initial (start inside)) shape_of max_depth 0 0 found after → HasCounts symbol after.entered after.most_saved
counted symbol inside found after prefix has tree next cost reading within =
    let here : reading.inside ≡ inside = cc in
    let same = has.one tree next cost (subst (λ v. SymbolName initial (start v) tree next cost) here reading.reading) within in
    let entered : after.entered ≡ 0 + has.cost.count = ap (λ (s : ParserState). s.entered) has.state_is in
    let most : after.most_saved ≡ max 0 has.cost.peak = ap (λ (s : ParserState). s.most_saved) has.state_is in
    let count : cost.count ≡ has.cost.count = ap (λ (c : Cost). c.count) same.2 in
    let peak : cost.peak ≡ has.cost.peak = ap (λ (c : Cost). c.peak) same.2 in
    (omega (arith, entered, count), omega (arith, most, peak))

-- the components that a reading which was found leaves saved are those of every reading
left_saved : (symbol inside : List ℕ) (e m : ℕ) (found : Shape) (after : ParserState) (components : List (List ℕ)) (answer : List ℕ) → after_prefix symbol ≡ Some inside
    → HasReading (SymbolName initial (start inside)) shape_of max_depth e m found after → components ≡ map text after.saved → HasComponents symbol (Some answer) components
left_saved symbol inside e m found after components answer prefix has is tree next cost reading within =
    let here : reading.inside ≡ inside = cc in
    let same = has.one tree next cost (subst (λ v. SymbolName initial (start v) tree next cost) here reading.reading) within in
    is
    ∙ ap (map text) (ap (λ (s : ParserState). s.saved) has.state_is)
    ∙ map-map text shape_of has.next.saved
    ∙ sym (ap (λ (q : Position). map printing q.saved) same.1)

-- what is kept as components after a reading that was found
pub kept_components : (symbol inside : List ℕ) (e m : ℕ) (found : Shape) (after : ParserState) (buffer : Box Buffer Global) (answered : Bool) → after_prefix symbol ≡ Some inside
    → HasReading (SymbolName initial (start inside)) shape_of max_depth e m found after → saved buffer.value ≡ after.saved
    → HasComponents symbol (answer_text answered (Some buffer)) (component_texts answered (Some buffer))
kept_components symbol inside e m found after buffer false prefix has same = refl
kept_components symbol inside e m found after buffer true prefix has same = left_saved symbol inside e m found after _ (main_bytes buffer.value) prefix has (ap (map text) same)

-- the shapes that a reading which was found leaves saved are those of every reading
left_shapes : (symbol inside : List ℕ) (e m : ℕ) (found : Shape) (after : ParserState) (shapes : List Shape) (answer : List ℕ) → after_prefix symbol ≡ Some inside
    → HasReading (SymbolName initial (start inside)) shape_of max_depth e m found after → shapes ≡ after.saved → HasSaved symbol (Some answer) shapes
left_shapes symbol inside e m found after shapes answer prefix has is tree next cost reading within =
    let here : reading.inside ≡ inside = cc in
    let same = has.one tree next cost (subst (λ v. SymbolName initial (start v) tree next cost) here reading.reading) within in
    is ∙ ap (λ (s : ParserState). s.saved) has.state_is ∙ sym (ap (λ (q : Position). map shape_of q.saved) same.1)

-- what is kept as their shapes
pub kept_shapes : (symbol inside : List ℕ) (e m : ℕ) (found : Shape) (after : ParserState) (buffer : Box Buffer Global) (answered : Bool) → after_prefix symbol ≡ Some inside
    → HasReading (SymbolName initial (start inside)) shape_of max_depth e m found after → saved buffer.value ≡ after.saved
    → HasSaved symbol (answer_text answered (Some buffer)) (component_shapes answered (Some buffer))
kept_shapes symbol inside e m found after buffer false prefix has same = refl
kept_shapes symbol inside e m found after buffer true prefix has same = left_shapes symbol inside e m found after (saved buffer.value) (main_bytes buffer.value) prefix has same

-- an answer that is kept is UTF-8
pub kept_text : (printing after : List ℕ) (buffer : Box Buffer Global) (answered : Bool)
    → IsPrinted printing after (answer_text answered (Some buffer)) → IsUtf8 after
    → IsText (answer_text answered (Some buffer))
kept_text printing after buffer false printed good = tt
kept_text printing after buffer true printed good = subst IsUtf8 (sym printed.1) (IsUtf8-append printing after printed.0 good)
