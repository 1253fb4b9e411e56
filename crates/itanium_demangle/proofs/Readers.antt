-- What a parser reads, the grammar reads, and nothing else: the theorems of each production, put together.
use Rattle.std.proofs.Common.{◌≡◌, ◌∙◌, ℕ, Bool, true, false, Some, None, ap, sym}
use Rattle.std.proofs.lemmas.Option.{same_Some}
use Rattle.demangle_text.specs.Shape.{Shape, text_len}
use Rattle.itanium_syntax.specs.declared.context.Context.{Context}
use Rattle.itanium_grammar.specs.Tree.{Tree, shape_of}
use Rattle.itanium_grammar.specs.Grammar.{Position, Cost, Name, Thunk, SymbolName, Args, Pack, Expression, TypeOf}
use Rattle.itanium_grammar.specs.Cases.{EncodingEnd, AfterName}
use Rattle.itanium_grammar.proofs.Unambiguous.{Same, one_name, one_encoding_as, one_special, one_thunk, one_args, one_argument, one_pack, one_literal, one_expression, one_type}
use Rattle.itanium_reader.specs.Parser.{ParserState, Parses, parse_bare_name, parse_name, parse_encoding, parse_special}
use Rattle.itanium_reader.specs.Parser.{parse_thunk, parse_args, parse_argument, parse_pack}
use Rattle.itanium_reader.specs.Parser.{parse_primary, parse_expression, parse_type}
use Rattle.itanium_demangle.specs.Meaning.{state_at}
use Rattle.itanium_demangle.specs.Readers.{Encoding, IsParserOf, Narrow, bare_of, shape_of_args, SpecialName, Argument, Primary, LawsOfReaders}
use Rattle.itanium_demangle.proofs.Fitting.{met_narrow, met_is}
use Rattle.itanium_demangle.proofs.Readings.{Small, small, small_fits, IsComplete, IsMet, IsSound, Within, ArgumentsComplete, ArgumentsSound}
use Rattle.itanium_demangle.proofs.CompleteNames.{names_complete, special_complete, encoding_met}
use Rattle.itanium_demangle.proofs.CompleteExpressions.{primary_met, each_argument_met}
use Rattle.itanium_demangle.proofs.CompleteSymbols.{all_complete, symbol_complete}
use Rattle.itanium_demangle.proofs.SoundNames.{names_sound, special_sound, encoding_sound}
use Rattle.itanium_demangle.proofs.SoundExpressions.{primary_sound, each_argument_sound}
use Rattle.itanium_demangle.proofs.SoundSymbols.{all_sound, symbol_sound}

-- from one position there is at most one reading
abbrev IsOne : {T : Type 0} → (Position → T → Position → Cost → Type 0) → Type 0
IsOne {T} R = (p q r : Position) (t u : T) (c d : Cost) → R p t q c → R p u r d → Same t u q r c d

-- a parser that is sound, of a family with one reading at most, and that answers something where a reading is one of N
reads_all : {T A : Type 0} (R N : Position → T → Position → Cost → Type 0) (show : T → A) (d : ℕ) (parse : Parses A)
    → ((p q : Position) (t : T) (c : Cost) → N p t q c → Small d c → (e m : ℕ) → parse (state_at p e m) ≡ None → ⊥) → IsSound R show d parse → IsOne R → IsParserOf R N show d parse
reads_all {T} {A} R N show d parse some sound one = record {
  reads = λ p e m found after is.
      let there = sound p e m (found, after) is in
      let w = there.within in
      record {
        tree = w.tree;
        next = w.next;
        cost = w.cost;
        reading = w.reading;
        fits = small_fits w.deep;
        found_is = ap (λ (y : A × ParserState). y.0) there.is;
        state_is = ap (λ (y : A × ParserState). y.1) there.is;
        one = λ t q c r within. let same = one p q w.next t w.tree c w.cost r w.reading in (same.tree, same.next, same.cost);
      };
  none = λ p e m none t q c reading within. some p q t c reading (small within) e m none;
}

-- a parser that is complete and sound, of a family with one reading at most
parser_of : {T A : Type 0} (R : Position → T → Position → Cost → Type 0) (show : T → A) (d : ℕ) (parse : Parses A)
    → IsComplete R show d parse → IsSound R show d parse → IsOne R → IsParserOf R R show d parse
parser_of R show d parse complete sound one =
    reads_all R R show d parse (λ p q t c reading deep e m none. let there = complete p q t c reading deep e m in cc) sound one

-- the same of what isn't counted
narrow_parser_of : (R : Position → Tree → Position → Cost → Type 0) (d : ℕ) (parse : Parses Shape)
    → IsMet R shape_of text_len d parse → IsSound R shape_of d parse → IsOne R → IsParserOf R (Narrow R) shape_of d parse
narrow_parser_of R d parse each sound one =
    reads_all R (Narrow R) shape_of d parse (λ p q t c reading deep e m none. let there = met_narrow (each p q t c reading.0 deep e m) reading.1 in cc) sound one

-- what is read is what a complete parser answers
sound_by : {T A : Type 0} (R : Position → T → Position → Cost → Type 0) (show : T → A) (d : ℕ) (parse : Parses A) → IsComplete R show d parse
    → ((p : Position) (e m : ℕ) (y : A × ParserState) → parse (state_at p e m) ≡ Some y → Within (R p) d) → IsSound R show d parse
sound_by R show d parse complete within p e m y is =
    let w = within p e m y is in
    record { within = w; is = same_Some _ _ (sym is ∙ complete p w.next w.tree w.cost w.reading w.deep e m) }

-- the same of what isn't counted
sound_by_met : (R : Position → Tree → Position → Cost → Type 0) (d : ℕ) (parse : Parses Shape) → IsMet R shape_of text_len d parse
    → ((p : Position) (e m : ℕ) (y : Shape × ParserState) → parse (state_at p e m) ≡ Some y → Within (R p) d) → IsSound R shape_of d parse
sound_by_met R d parse each within p e m y is =
    let w = within p e m y is in
    record { within = w; is = met_is (each p w.next w.tree w.cost w.reading w.deep e m) is }

bare_names : (d : ℕ) (x : Context) → IsParserOf (Name true x) (Name true x) bare_of d (parse_bare_name d x)
bare_names d x =
    parser_of (Name true x) bare_of d (parse_bare_name d x)
    ((all_complete d).0 x) ((all_sound d).0 x) (λ p q r t u c f a b. one_name a b)

names : (d : ℕ) (x : Context) → IsParserOf (Name false x) (Name false x) shape_of d (parse_name d x)
names d x =
    parser_of (Name false x) shape_of d (parse_name d x)
    (names_complete d (all_complete d).0 x) (names_sound d (all_complete d).0 (all_sound d).0 x) (λ p q r t u c f a b. one_name a b)

encodings : (d : ℕ) (end : EncodingEnd) (x : Context) → IsParserOf (Encoding end x) (Narrow (Encoding end x)) shape_of d (parse_encoding d end x)
encodings d end x =
    let (bares_are, lists_are, packs_are, kinds_are, values_are, thunks_are) = all_complete d in
    let (bares, lists, packs, kinds, values, thunks) = all_sound d in
    narrow_parser_of (Encoding end x) d (parse_encoding d end x)
    (λ p q t c a deep e m. encoding_met d kinds_are bares_are thunks_are end a deep e m)
    (encoding_sound d kinds_are bares_are thunks_are kinds bares thunks end x) (λ p q r t u c f a b. one_encoding_as a b)

special_names_complete : (d : ℕ) (x : Context) → IsComplete (SpecialName x) shape_of d (parse_special d x)
special_names_complete d x p q t c a deep e m =
    let (bares, lists, packs, kinds, values, thunks) = all_complete d in special_complete d kinds bares thunks a deep e m

special_names : (d : ℕ) (x : Context) → IsParserOf (SpecialName x) (SpecialName x) shape_of d (parse_special d x)
special_names d x =
    let (bares_are, lists_are, packs_are, kinds_are, values_are, thunks_are) = all_complete d in
    let (bares, lists, packs, kinds, values, thunks) = all_sound d in
    parser_of (SpecialName x) shape_of d (parse_special d x) (special_names_complete d x)
    (sound_by (SpecialName x) shape_of d (parse_special d x) (special_names_complete d x) (special_sound d kinds_are bares_are thunks_are kinds bares thunks x))
    (λ p q r t u c f a b. one_special a b)

thunks : (d : ℕ) (x : Context) → IsParserOf (Thunk x) (Thunk x) shape_of d (parse_thunk d x)
thunks d x = parser_of (Thunk x) shape_of d (parse_thunk d x) ((all_complete d).5 x) ((all_sound d).5 x) (λ p q r t u c f a b. one_thunk a b)

pub symbols : (d : ℕ) (x : Context) → IsParserOf (SymbolName x) (SymbolName x) shape_of d (parse_encoding d AfterName x)
symbols d x =
    parser_of (SymbolName x) shape_of d (parse_encoding d AfterName x)
    (λ p q t c a deep e m. symbol_complete a d deep e m) (symbol_sound d x) (λ p q r t u c f a b. one_encoding_as a b)

lists : (d : ℕ) (x : Context) (of_name : Bool) → IsParserOf (Args of_name x) (Args of_name x) shape_of_args d (parse_args d x of_name)
lists d x of_name =
    parser_of (Args of_name x) shape_of_args d (parse_args d x of_name)
    ((all_complete d).1 x of_name) ((all_sound d).1 x of_name) (λ p q r t u c f a b. one_args a b)

arguments_met : (d : ℕ) → ArgumentsComplete d
arguments_met d =
    let (bares, lists, packs, kinds, values, thunks) = all_complete d in each_argument_met d packs kinds bares thunks values

arguments_sound : (d : ℕ) → ArgumentsSound d
arguments_sound d =
    let (bares_are, lists_are, packs_are, kinds_are, values_are, thunks_are) = all_complete d in
    let (bares, lists, packs, kinds, values, thunks) = all_sound d in
    each_argument_sound d packs_are kinds_are bares_are thunks_are values_are packs kinds bares thunks values

arguments : (d : ℕ) (x : Context) → IsParserOf (Argument x) (Narrow (Argument x)) shape_of d (parse_argument d x)
arguments d x =
    narrow_parser_of (Argument x) d (parse_argument d x)
    (arguments_met d x) (arguments_sound d x) (λ p q r t u c f a b. one_argument a b)

packs : (d : ℕ) (x : Context) → IsParserOf (Pack x) (Pack x) shape_of d (parse_pack d x)
packs d x = parser_of (Pack x) shape_of d (parse_pack d x) ((all_complete d).2 x) ((all_sound d).2 x) (λ p q r t u c f a b. one_pack a b)

primaries_met : (d : ℕ) (x : Context) → IsMet (Primary x) shape_of text_len d (parse_primary d x)
primaries_met d x p q t c a deep e m =
    let (bares, lists, packs, kinds, values, thunks) = all_complete d in primary_met d kinds bares thunks a deep e m

primaries : (d : ℕ) (x : Context) → IsParserOf (Primary x) (Narrow (Primary x)) shape_of d (parse_primary d x)
primaries d x =
    let (bares_are, lists_are, packs_are, kinds_are, values_are, thunks_are) = all_complete d in
    let (bares, lists, packs, kinds, values, thunks) = all_sound d in
    narrow_parser_of (Primary x) d (parse_primary d x) (primaries_met d x)
    (sound_by_met (Primary x) d (parse_primary d x) (primaries_met d x) (primary_sound d kinds_are bares_are thunks_are kinds bares thunks x))
    (λ p q r t u c f a b. one_literal a b)

expressions : (d : ℕ) (x : Context) → IsParserOf (Expression x) (Expression x) shape_of d (parse_expression d x)
expressions d x =
    parser_of (Expression x) shape_of d (parse_expression d x)
    ((all_complete d).4 x) ((all_sound d).4 x) (λ p q r t u c f a b. one_expression a b)

types : (d : ℕ) (x : Context) → IsParserOf (TypeOf x) (TypeOf x) shape_of d (parse_type d x)
types d x = parser_of (TypeOf x) shape_of d (parse_type d x) ((all_complete d).3 x) ((all_sound d).3 x) (λ p q r t u c f a b. one_type a b)

pub laws_of_readers : LawsOfReaders
laws_of_readers = record {
  bare_names = bare_names;
  names = names;
  encodings = encodings;
  special_names = special_names;
  thunks = thunks;
  symbols = symbols;
  lists = lists;
  arguments = arguments;
  packs = packs;
  primaries = primaries;
  expressions = expressions;
  types = types;
}
