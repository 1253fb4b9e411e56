-- Of names: what the parser reads, the grammar reads.
use Rattle.std.proofs.Common.{◌≡◌, ◌<◌, ℕ, zero, suc, ◌+◌, max, Bool, true, false, List, map, length, drop, refl, ap, ◌∙◌, sym, arith, Option, Some, None, codes}
use Rattle.std.proofs.lemmas.Option.{same_Some, option_and_then_some, slice_get-map}
use Rattle.std.specs.Prelude.{option_map, slice_get, is_some}
use Rattle.demangle_text.specs.Shape.{Shape, plain_shape, text_len}
use Rattle.itanium_syntax.specs.declared.context.Context.{Context}
use Rattle.abi_scalars.specs.declared.numerals.Radix.TheVariants.{Decimal, Base36}
use Rattle.abi_scalars.specs.Scalars.{source_name, index_of, source_text}
use Rattle.itanium_syntax.specs.Numbers.{ordinal}
use Rattle.itanium_syntax.specs.Abbreviations.{abbreviation_of}
use Rattle.itanium_syntax.specs.Offsets.{thunk_offsets, past_base_offset}
use Rattle.itanium_syntax.specs.Specials.{special_case}
use Rattle.itanium_syntax.specs.Names.{name_case, unscoped_case, first_segment_case, segment_case}
use Rattle.itanium_syntax.specs.Names.{unqualified_case, ordinary_case, tag_case, substitution_case, past_internal}
use Rattle.itanium_syntax.specs.Names.{past_name_quals, first_segment_is_candidate}
use Rattle.itanium_syntax.specs.Args.{attached_case}
use Rattle.itanium_syntax.proofs.Fronts.{initializer_after, after_drop, source_takes, after-le}
use Rattle.itanium_grammar.specs.Tree.{Tree, bare_shape, own_quals, plain_text, abbreviation, ctor_dtor_of, tagged_with, with_args, trees, shape_of}
use Rattle.itanium_grammar.specs.Grammar.{Position, Cost, with_rest, skip, save, last_of, past_initializer, both}
use Rattle.itanium_grammar.specs.Grammar.{saving, SubstitutionAs, Substitution, ArgumentNamed, TemplateParam, TaggedAs}
use Rattle.itanium_grammar.specs.Grammar.{OrdinaryAs, UnqualifiedAs, Unqualified, FirstAs, NameAs, Name, nothing, SpecialAs}
use Rattle.itanium_grammar.specs.Grammar.{Thunk, special_encoding, type_special, name_special}
use Rattle.itanium_grammar.specs.Grammar.{temporary_special, construction_special, thunk_special, thunk, name_encoding}
use Rattle.itanium_grammar.specs.Grammar.{Local, EntityAs, EncodingAs, ReturnAs, EncodingParamsAs}
use Rattle.itanium_grammar.specs.Grammar.{UnscopedAs, AttachedAs, Nested, SegmentsAs, Args}
use Rattle.itanium_grammar.specs.Grammar.{abbreviation_substitution, component_substitution}
use Rattle.itanium_grammar.specs.Grammar.{auto_parameter, scope_parameter, template_param, no_tag, next_tag, ordinary_source}
use Rattle.itanium_grammar.specs.Grammar.{ordinary_unnamed_type, ordinary_lambda, ordinary_conversion, ordinary_literal_operator}
use Rattle.itanium_grammar.specs.Grammar.{ordinary_operator, constructor_unqualified, destructor_unqualified}
use Rattle.itanium_grammar.specs.Grammar.{ordinary_unqualified, unqualified, template_param_first, std_first, substitution_first}
use Rattle.itanium_grammar.specs.Grammar.{name_first, name, nested_name, local_name, local, string_literal_entity}
use Rattle.itanium_grammar.specs.Grammar.{default_argument_entity, name_entity, full_encoding, no_return_type}
use Rattle.itanium_grammar.specs.Grammar.{some_return_type, no_encoding_params, some_encoding_params, unscoped_name, std_name}
use Rattle.itanium_grammar.specs.Grammar.{substitution_name, plain_name, none_attached, args_attached, nested}
use Rattle.itanium_grammar.specs.Grammar.{end_of_segments, args_segment, name_segment}
use Rattle.itanium_grammar.proofs.Progress.{unqualified_takes, args_takes}
use Rattle.itanium_grammar.specs.Cases.{EncodingEnd, AfterName, AtE, EncodingCase, SpecialEncoding, NameEncoding, FullEncoding, SpecialCase, TypeSpecial, NameSpecial}
use Rattle.itanium_grammar.specs.Cases.{TemporarySpecial, ConstructionSpecial, ThunkSpecial, UnreadableSpecial, ReturnCase}
use Rattle.itanium_grammar.specs.Cases.{NoReturnType, SomeReturnType, EncodingParamsCase, NoEncodingParams, SomeEncodingParams}
use Rattle.itanium_grammar.specs.Cases.{EntityCase, StringLiteralEntity, DefaultArgumentEntity, NameEntity, UnreadableEntity}
use Rattle.itanium_grammar.specs.Cases.{SubstitutionCase, AbbreviationSubstitution, ComponentSubstitution, TagCase}
use Rattle.itanium_grammar.specs.Cases.{NoTag, NextTag, UnqualifiedCase, ConstructorName, DestructorName, OrdinaryName}
use Rattle.itanium_grammar.specs.Cases.{OrdinaryCase, SourceName, UnnamedTypeName, LambdaName, ConversionName}
use Rattle.itanium_grammar.specs.Cases.{LiteralOperatorName, OperatorName, UnreadableName, FirstSegmentCase, TemplateParamFirst, StdFirst}
use Rattle.itanium_grammar.specs.Cases.{SubstitutionFirst, NameFirst, NameCase, NestedName, LocalName, UnscopedName}
use Rattle.itanium_grammar.specs.Cases.{UnscopedCase, StdName, SubstitutionName, PlainName, AttachedCase, NoneAttached}
use Rattle.itanium_grammar.specs.Cases.{ArgsAttached, SegmentCase, EndOfSegments, ArgsSegment, NameSegment}
use Rattle.itanium_reader.specs.Parser.{ParserState, after_turn, loop, ◌>>=◌, next_segment, substitution_as}
use Rattle.itanium_reader.specs.Parser.{parse_substitution, template_param_as, parse_template_param, tag_as, tag_turn, parse_tags}
use Rattle.itanium_reader.specs.Parser.{params_as, ordinary_as, parse_ordinary, ctor_dtor_as, unqualified_as}
use Rattle.itanium_reader.specs.Parser.{parse_unqualified, first_as, fitting, attached_by, attached_as, template_as}
use Rattle.itanium_reader.specs.Parser.{unscoped_as, segment_as, segment_turn, parse_segments, parse_nested, return_as}
use Rattle.itanium_reader.specs.Parser.{encoding_params_as, special_as, parse_special, encoding_by, thunk_by}
use Rattle.itanium_reader.specs.Parser.{parse_thunk, encoding_as, parse_encoding, entity_as, parse_local, name_as}
use Rattle.itanium_reader.specs.Parser.{parse_bare_name, parse_name, parse_args, parse_type}
use Rattle.itanium_demangle.specs.Meaning.{state_at}
use Rattle.itanium_demangle.specs.Readers.{bare_of}
use Rattle.itanium_demangle.proofs.Shapes.{same_state, one_more, some-map, last-map, shape-plain_text, shape-ctor_dtor_of, shape-tagged_with, shape-with_args}
use Rattle.itanium_demangle.proofs.Readings.{Small, Within, Found, reached, given, ArgsSound, ArgsComplete, TypesSound}
use Rattle.itanium_demangle.proofs.Readings.{TypesComplete, BareNamesComplete, BareNamesSound, NamesSound}
use Rattle.itanium_demangle.proofs.Readings.{ThunksComplete, ThunksSound}
use Rattle.itanium_demangle.proofs.Waiting.{same_return, whole_name}
use Rattle.itanium_demangle.proofs.Whole.{with_own_quals}
use Rattle.itanium_demangle.proofs.Fitting.{Met, met_is, met_passed, met_passed_bare, passed}
use Rattle.itanium_demangle.proofs.CompleteNames.{substitution_complete, template_param_complete, ordinary_met, unqualified_met}
use Rattle.itanium_demangle.proofs.CompleteNames.{first_met, segments_met, encoding_met, thunk_by_met, name_as_met}
use Rattle.itanium_demangle.proofs.CompleteNames.{bare_names_complete, names_complete, thunks_complete}
use Rattle.itanium_syntax.specs.Types.{params_case}
use Rattle.itanium_syntax.specs.Operators.{operator_here}
use Rattle.itanium_syntax.specs.Context.{inside_lambda, showing_words, inside_encoding}
use Rattle.itanium_syntax.specs.Encodings.{return_case, encoding_params_case, entity_case, encoding_case}
use Rattle.itanium_reader.specs.Parser.{shows_words}
use Rattle.demangle_quals.specs.declared.quals.Quals.{Quals}
use Rattle.demangle_edit.specs.Built.{params_opened}
use Rattle.demangle_edit.specs.Names.{with_name_qualifiers}
use Rattle.itanium_demangle.proofs.SoundLists.{typed_params_sound}

-- a reading that isn't counted, and the answer y is what it gives
pub record Free (R : Tree → Position → Type 0) (e m : ℕ) (y : Shape × ParserState) : Type 0 where
  pub tree : Tree
  pub next : Position
  pub reading : R tree next
  pub is : y ≡ (shape_of tree, state_at next e m)

-- the tree of a saved shape
record Saved (ts : List Tree) (i : ℕ) : Type 0 where
  tree : Tree
  there : slice_get ts i ≡ Some tree

saved_tree : (ts : List Tree) (i : ℕ) (v : Shape) → slice_get (map shape_of ts) i ≡ Some v → Saved ts i
saved_tree ts i v is = go (slice_get ts i) refl (sym (slice_get-map shape_of ts i) ∙ is)
  where
    go : (o : Option Tree) → slice_get ts i ≡ o → option_map shape_of o ≡ Some v → Saved ts i
    go None f e = cc
    go (Some t) f e = record { tree = t; there = f }

record Substituted (case : SubstitutionCase) (p : Position) : Type 0 where
  tree : Tree
  next : Position
  reading : SubstitutionAs case p tree next

substitution_as_sound : (case : SubstitutionCase) (p : Position) (e m : ℕ) (y : Shape × ParserState) → substitution_as case (state_at p e m) ≡ Some y → Substituted case p
substitution_as_sound AbbreviationSubstitution p e m y is =
    option_and_then_some _ (abbreviation_of p.rest) y is (λ a found _. record { tree = abbreviation a; next = skip 1 p; reading = abbreviation_substitution found })
substitution_as_sound ComponentSubstitution p e m y is =
    option_and_then_some _ (index_of Base36 p.rest) y is (λ found number stored.
    option_and_then_some _ (slice_get (map shape_of p.saved) found.0) y stored (λ v got _.
    let t = saved_tree p.saved found.0 v got in record { tree = t.tree; next = with_rest found.1 p; reading = component_substitution number t.there }))

pub substitution_sound : (p : Position) (e m : ℕ) (y : Shape × ParserState) → parse_substitution (state_at p e m) ≡ Some y → Free (Substitution p) e m y
unfolding parse_substitution
substitution_sound p e m y is =
    let s = substitution_as_sound (substitution_case (drop 1 p.rest)) (skip 1 p) e m y is in
    let r : Substitution p s.tree s.next = s.reading in
    record { tree = s.tree; next = s.next; reading = r; is = same_Some _ _ (sym is ∙ substitution_complete p r e m) }

record Named (lambda : Bool) (i : ℕ) (p : Position) : Type 0 where
  tree : Tree
  reading : ArgumentNamed lambda i p tree

parameter_as_sound : (lambda : Bool) (i : ℕ) (p : Position) (e m : ℕ) (v : Shape) → template_param_as lambda i (state_at p e m) ≡ Some v → Named lambda i p
parameter_as_sound true i p e m v is = record { tree = plain_text (codes "auto"); reading = auto_parameter }
parameter_as_sound false i p e m v is =
    let t = saved_tree (last_of p.scopes) i v (ap (λ (ts : List Shape). slice_get ts i) (sym (last-map p.scopes)) ∙ is) in record { tree = t.tree; reading = scope_parameter t.there }

pub template_param_sound : (x : Context) (p : Position) (e m : ℕ) (y : Shape × ParserState) → parse_template_param x (state_at p e m) ≡ Some y → Free (TemplateParam x p) e m y
unfolding parse_template_param
template_param_sound x p e m y is =
    option_and_then_some _ (index_of Decimal (drop 1 p.rest)) y is (λ found number named.
    option_and_then_some _ (template_param_as x.lambda found.0 (state_at p e m)) y named (λ v got _.
    let t = parameter_as_sound x.lambda found.0 p e m v got in
    let r : TemplateParam x p t.tree (with_rest found.1 p) = template_param number t.reading in
    record { tree = t.tree; next = with_rest found.1 p; reading = r; is = same_Some _ _ (sym is ∙ whole r) }))
  where
    whole : {t : Tree} {q : Position} → TemplateParam x p t q → parse_template_param x (state_at p e m) ≡ Some (shape_of t, state_at q e m)
    whole r = template_param_complete r e m

-- tags up to their end, in n turns
record Tagged (case : TagCase) (t : Tree) (p : Position) : Type 0 where
  tree : Tree
  next : Position
  reading : TaggedAs case t p tree next

abbrev TagsSound : ℕ → Type 0
TagsSound n = (t : Tree) (p : Position) (e m : ℕ) (y : Shape × ParserState) → length p.rest < n → loop tag_turn n (shape_of t) (state_at p e m) ≡ Some y → Tagged (tag_case p.rest) t p

tag_as_sound : (n : ℕ) → TagsSound n → (case : TagCase) (t : Tree) (p : Position) (e m : ℕ) (y : Shape × ParserState) → length p.rest < suc n
    → (tag_as case (shape_of t) (state_at p e m) >>= λ r. after_turn r.0 (loop tag_turn n) r.1) ≡ Some y → Tagged case t p
tag_as_sound n again NoTag t p e m y enough is = record { tree = t; next = p; reading = no_tag }
tag_as_sound n again NextTag t p e m y enough is =
    option_and_then_some _ (tag_as NextTag (shape_of t) (state_at p e m)) y is (λ v turned rest.
    option_and_then_some _ (source_name (drop 1 p.rest)) v turned (λ b found made.
    let shorter = (source_takes (drop 1 p.rest) b found).shorter in
    let within = after-le (after_drop 1 p.rest) in
    let there = rw (← same_Some _ _ made, ← shape-tagged_with t (source_text b.0)) at rest in
    let i = again (tagged_with t (source_text b.0)) (with_rest b.1 p) e m y (omega arith) there in
    record { tree = i.tree; next = i.next; reading = next_tag found i.reading }))

tags_sound : (n : ℕ) → TagsSound n
unfolding loop tag_turn
tags_sound zero t p e m y enough is = cc
tags_sound (suc n) t p e m y enough is = tag_as_sound n (tags_sound n) (tag_case p.rest) t p e m y enough is

-- a name with its tags
parse_tags_sound : (t : Tree) (p : Position) (e m : ℕ) (y : Shape × ParserState) → parse_tags (shape_of t) (state_at p e m) ≡ Some y → Tagged (tag_case p.rest) t p
parse_tags_sound t p e m y is = tags_sound (length p.rest + 1) t p e m y (omega arith) is

-- the source name that a reading begins with
pub source_is : (p : Position) (e m : ℕ) (x : Shape × ParserState) (b : List ℕ × List ℕ)
    → ◌≡◌ {A = Option (Shape × ParserState)} (Some (plain_shape (source_text b.0), state_at (with_rest b.1 p) e m))
    (Some x)
    → x ≡ (shape_of (plain_text (source_text b.0)), state_at (with_rest b.1 p) e m)
source_is p e m x b made = sym (same_Some _ _ made) ∙ ap (λ v. (v, state_at (with_rest b.1 p) e m)) (sym (shape-plain_text (source_text b.0)))

ctor_dtor_sound : (destructor : Bool) (parent : Tree) (p : Position) (e m : ℕ) (y : Shape × ParserState) → ctor_dtor_as destructor (Some (shape_of parent)) (state_at p e m) ≡ Some y
    → Tagged (tag_case (drop 2 p.rest)) (ctor_dtor_of parent destructor) (skip 2 p)
ctor_dtor_sound destructor parent p e m y is = parse_tags_sound (ctor_dtor_of parent destructor) (skip 2 p) e m y (rw (shape-ctor_dtor_of parent destructor) is)

module _ (d : ℕ) (complete : TypesComplete d) (lists_are : ArgsComplete d) (kinds : TypesSound d) where
  ordinary_sound : (case : OrdinaryCase) (x : Context) (p : Position) (e m : ℕ) (y : Shape × ParserState)
      → ordinary_as case (parse_type d x) (parse_type d (inside_lambda x)) (state_at p e m) ≡ Some y → Found (OrdinaryAs case x p) shape_of d e m y
  ordinary_sound UnreadableName x p e m y is = cc
  ordinary_sound SourceName x p e m y is =
      option_and_then_some _ (source_name p.rest) y is (λ b found _.
      let w : Within (OrdinaryAs SourceName x p) d = record { tree = _; next = _; cost = _; reading = ordinary_source found; deep = omega arith } in
      record { within = w; is = met_is (ordinary_met d lists_are complete w.reading w.deep e m) is })
  ordinary_sound UnnamedTypeName x p e m y is =
      option_and_then_some _ (ordinal (drop 2 p.rest)) y is (λ b found _.
      let w : Within (OrdinaryAs UnnamedTypeName x p) d = record { tree = _; next = _; cost = _; reading = ordinary_unnamed_type found; deep = omega arith } in
      record { within = w; is = met_is (ordinary_met d lists_are complete w.reading w.deep e m) is })
  ordinary_sound LambdaName x p e m y is =
      option_and_then_some _ (params_as (params_case (drop 2 p.rest)) false (parse_type d (inside_lambda x)) (plain_shape (codes "{lambda(")) (state_at (skip 2 p) e m)) y is (λ z params ends.
      let listed = typed_params_sound false d complete kinds (params_case (drop 2 p.rest)) (inside_lambda x) (plain_shape (codes "{lambda(")) (skip 2 p) e m z params in
      let o = listed.within in
      let there = rw listed.is at ends in
      option_and_then_some _ (ordinal (drop 1 o.next.rest)) y there (λ b found _.
      let w : Within (OrdinaryAs LambdaName x p) d = record { tree = _; next = _; cost = _; reading = ordinary_lambda o.reading found; deep = omega (arith, o.deep) } in
      record { within = w; is = met_is (ordinary_met d lists_are complete w.reading w.deep e m) is }))
  ordinary_sound ConversionName x p e m y is =
      option_and_then_some _ (parse_type d x (state_at (skip 2 p) e m)) y is (λ z inner _.
      let i = (kinds x (skip 2 p) e m z inner).within in
      let w : Within (OrdinaryAs ConversionName x p) d = record { tree = _; next = _; cost = _; reading = ordinary_conversion i.reading; deep = omega (arith, i.deep) } in
      record { within = w; is = met_is (ordinary_met d lists_are complete w.reading w.deep e m) is })
  ordinary_sound LiteralOperatorName x p e m y is =
      option_and_then_some _ (source_name (drop 2 p.rest)) y is (λ b found _.
      let w : Within (OrdinaryAs LiteralOperatorName x p) d = record { tree = _; next = _; cost = _; reading = ordinary_literal_operator found; deep = omega arith } in
      record { within = w; is = met_is (ordinary_met d lists_are complete w.reading w.deep e m) is })
  ordinary_sound OperatorName x p e m y is =
      option_and_then_some _ (operator_here p.rest) y is (λ b found _.
      let w : Within (OrdinaryAs OperatorName x p) d = record { tree = _; next = _; cost = _; reading = ordinary_operator found; deep = omega arith } in
      record { within = w; is = met_is (ordinary_met d lists_are complete w.reading w.deep e m) is })

  unqualified_as_sound : (case : UnqualifiedCase) (x : Context) (parent : Option Tree) (p : Position) (e m : ℕ) (y : Shape × ParserState)
      → unqualified_as case (parse_type d x) (parse_type d (inside_lambda x)) (option_map shape_of parent) (state_at p e m) ≡ Some y → Within (UnqualifiedAs case x parent p) d
  unqualified_as_sound ConstructorName x None p e m y is = cc
  unqualified_as_sound ConstructorName x (Some parent) p e m y is =
      let t = ctor_dtor_sound false parent p e m y is in record { tree = _; next = _; cost = _; reading = constructor_unqualified t.reading; deep = omega arith }
  unqualified_as_sound DestructorName x None p e m y is = cc
  unqualified_as_sound DestructorName x (Some parent) p e m y is =
      let t = ctor_dtor_sound true parent p e m y is in record { tree = _; next = _; cost = _; reading = destructor_unqualified t.reading; deep = omega arith }
  unqualified_as_sound OrdinaryName x parent p e m y is =
      option_and_then_some _ (parse_ordinary (parse_type d x) (parse_type d (inside_lambda x)) (state_at p e m)) y is (λ v named _.
      option_and_then_some _ (ordinary_as (ordinary_case p.rest) (parse_type d x) (parse_type d (inside_lambda x)) (state_at p e m)) v named (λ z first tags.
      let found = ordinary_sound (ordinary_case p.rest) x p e m z first in
      let i = found.within in
      let t = parse_tags_sound i.tree i.next (e + i.cost.count) (max m i.cost.peak) v (rw found.is at tags) in
      record { tree = _; next = _; cost = _; reading = ordinary_unqualified i.reading t.reading; deep = omega (arith, i.deep) }))

  pub unqualified_sound : (x : Context) (parent : Option Tree) (p : Position) (e m : ℕ) (y : Shape × ParserState)
      → parse_unqualified (parse_type d x) (parse_type d (inside_lambda x)) (option_map shape_of parent) (state_at p e m) ≡ Some y → Found (Unqualified x parent p) shape_of d e m y
  unfolding parse_unqualified
  unqualified_sound x parent p e m y is =
      let r = unqualified_as_sound (unqualified_case (is_some parent) (past_internal p.rest)) x parent (with_rest (past_internal p.rest) p) e m y (rw (some-map parent) at is) in
      let w : Within (Unqualified x parent p) d = record { tree = _; next = _; cost = _; reading = unqualified r.reading; deep = r.deep } in
      record { within = w; is = met_is (whole w.reading w.deep) is }
    where
      whole : {t : Tree} {q : Position} {c : Cost} → Unqualified x parent p t q c → Small d c
          → Met text_len (parse_unqualified (parse_type d x) (parse_type d (inside_lambda x)) (option_map shape_of parent) (state_at p e m)) (reached shape_of t q c e m)
      whole a deep = unqualified_met d lists_are complete a deep e m

  first_sound : (case : FirstSegmentCase) (x : Context) (p : Position) (e m : ℕ) (y : Shape × ParserState)
      → first_as case (parse_unqualified (parse_type d x) (parse_type d (inside_lambda x))) x (state_at p e m) ≡ Some y
      → Within (FirstAs case x p) d
  first_sound TemplateParamFirst x p e m y is =
      option_and_then_some _ (parse_template_param x (state_at p e m)) y is (λ z found _.
      let i = template_param_sound x p e m z found in record { tree = _; next = _; cost = _; reading = template_param_first i.reading; deep = omega arith })
  first_sound SubstitutionFirst x p e m y is =
      let i = substitution_sound p e m y is in record { tree = _; next = _; cost = _; reading = substitution_first i.reading; deep = omega arith }
  first_sound StdFirst x p e m y is = record { tree = _; next = _; cost = _; reading = std_first; deep = omega arith }
  first_sound NameFirst x p e m y is =
      option_and_then_some _ (parse_unqualified (parse_type d x) (parse_type d (inside_lambda x)) None (state_at p e m)) y is (λ z named _.
      let i = (unqualified_sound x None p e m z named).within in record { tree = _; next = _; cost = _; reading = name_first i.reading; deep = omega (arith, i.deep) })

-- a list of arguments after a tree, and the answer y is what the tree with them gives
pub record Attached (x : Context) (of_name : Bool) (name : Tree) (p : Position) (d e m : ℕ) (y : Shape × ParserState) : Type 0 where
  pub within : Within (Args of_name x p) d
  pub is : y ≡ (shape_of (with_args name (trees within.tree)), state_at within.next (e + within.cost.count) (max m within.cost.peak))

pub attached_sound : (d : ℕ) → ArgsSound d → (x : Context) (of_name : Bool) (name : Tree) (p : Position) (e m : ℕ) (y : Shape × ParserState)
    → attached_by (parse_args d x of_name) (shape_of name) (state_at p e m) ≡ Some y → Attached x of_name name p d e m y
attached_sound d lists x of_name t p e m y is =
    option_and_then_some _ (parse_args d x of_name (state_at p e m)) y is (λ z list made.
    let found = lists x of_name p e m z list in
    let w = found.within in
    let there = rw (found.is, ← shape-with_args t w.tree) at made in
    record { within = w; is = sym (same_Some _ _ there) })

record Templated (case : AttachedCase) (x : Context) (t : Tree) (p : Position) (d : ℕ) : Type 0 where
  case_is : case ≡ ArgsAttached
  within : Within (Args true x p) d

module _ (d : ℕ) (complete : TypesComplete d) (lists_are : ArgsComplete d) (kinds : TypesSound d) (lists : ArgsSound d) where
  attached_as_sound : (case : AttachedCase) (x : Context) (t : Tree) (p : Position) (e m : ℕ) (y : Shape × ParserState)
      → attached_as case (parse_args d x true) (shape_of t) (state_at p e m) ≡ Some y → Within (AttachedAs case x t p) d
  attached_as_sound NoneAttached x t p e m y is = record { tree = _; next = _; cost = _; reading = none_attached; deep = omega arith }
  attached_as_sound ArgsAttached x t p e m y is =
      let a = (attached_sound d lists x true t (save t p) e (max m (length (map shape_of p.saved) + 1)) y (rw (one_more p.saved t) at is)).within in
      record { tree = _; next = _; cost = _; reading = args_attached a.reading; deep = omega (arith, a.deep) }

  template_sound : (case : AttachedCase) (x : Context) (t : Tree) (p : Position) (e m : ℕ) (y : Shape × ParserState)
      → template_as case (parse_args d x true) (shape_of t) (state_at p e m) ≡ Some y → Templated case x t p d
  template_sound NoneAttached x t p e m y is = cc
  template_sound ArgsAttached x t p e m y is = record { case_is = refl; within = (attached_sound d lists x true t p e m y is).within }

  unscoped_sound : (case : UnscopedCase) (x : Context) (p : Position) (e m : ℕ) (y : Shape × ParserState)
      → unscoped_as case (parse_unqualified (parse_type d x) (parse_type d (inside_lambda x))) (parse_args d x true) (state_at p e m) ≡ Some y → Within (UnscopedAs case x p) d
  unscoped_sound SubstitutionName x p e m y is =
      option_and_then_some _ (parse_substitution (state_at p e m)) y is (λ z first more.
      let i = substitution_sound p e m z first in
      let l = template_sound (attached_case i.next.rest) x i.tree i.next e m y (rw i.is at more) in
      record { tree = _; next = _; cost = _; reading = substitution_name i.reading l.case_is l.within.reading; deep = l.within.deep })
  unscoped_sound StdName x p e m y is =
      option_and_then_some _ (parse_unqualified (parse_type d x) (parse_type d (inside_lambda x)) (Some (plain_shape (codes "std"))) (state_at (skip 2 p) e m)) y is (λ z first more.
      let found = unqualified_sound d complete lists_are kinds x (Some (plain_text (codes "std"))) (skip 2 p) e m z (rw (shape-plain_text (codes "std")) first) in
      let i = found.within in
      let l = attached_as_sound (attached_case i.next.rest) x i.tree i.next (e + i.cost.count) (max m i.cost.peak) y (rw found.is at more) in
      record { tree = _; next = _; cost = _; reading = std_name i.reading l.reading; deep = omega (arith, i.deep, l.deep) })
  unscoped_sound PlainName x p e m y is =
      option_and_then_some _ (parse_unqualified (parse_type d x) (parse_type d (inside_lambda x)) None (state_at p e m)) y is (λ z first more.
      let found = unqualified_sound d complete lists_are kinds x None p e m z first in
      let i = found.within in
      let l = attached_as_sound (attached_case i.next.rest) x i.tree i.next (e + i.cost.count) (max m i.cost.peak) y (rw found.is at more) in
      record { tree = _; next = _; cost = _; reading = plain_name i.reading l.reading; deep = omega (arith, i.deep, l.deep) })

-- the segments after what stands, in n turns
abbrev SegmentsSound : ℕ → ℕ → Type 0
SegmentsSound d n = (x : Context) (candidate : Bool) (t : Tree) (p : Position) (e m : ℕ) (y : Shape × ParserState) → length p.rest < n
    → loop (segment_turn (parse_unqualified (parse_type d x) (parse_type d (inside_lambda x))) (parse_args d x true))
    n (candidate, shape_of t) (state_at p e m) ≡ Some y → Found (SegmentsAs (segment_case p.rest) candidate x t p) shape_of d e m y

module _ (d : ℕ) (complete : TypesComplete d) (lists_are : ArgsComplete d) (kinds : TypesSound d) (lists : ArgsSound d) where
  segment_sound : (n : ℕ) → SegmentsSound d n → (case : SegmentCase) (x : Context) (candidate : Bool) (t : Tree) (p : Position) (e m : ℕ) (y : Shape × ParserState) → length p.rest < suc n
      → (segment_as case (parse_unqualified (parse_type d x) (parse_type d (inside_lambda x))) (parse_args d x true)
      (candidate, shape_of t) (state_at p e m) >>= λ r. after_turn r.0
      (loop (segment_turn (parse_unqualified (parse_type d x) (parse_type d (inside_lambda x))) (parse_args d x true))
      n) r.1) ≡ Some y
      → Within (SegmentsAs case candidate x t p) d
  segment_sound n again EndOfSegments x candidate t p e m y enough is = record { tree = _; next = _; cost = _; reading = end_of_segments; deep = omega arith }
  segment_sound n again ArgsSegment x candidate t p e m y enough is =
      option_and_then_some _ (attached_by (parse_args d x true) (shape_of t) (state_at p e m) >>= fitting >>= next_segment) y is (λ v turned rest.
      option_and_then_some _ (attached_by (parse_args d x true) (shape_of t) (state_at p e m) >>= fitting) v turned (λ u fitted next.
      option_and_then_some _ (attached_by (parse_args d x true) (shape_of t) (state_at p e m)) u fitted (λ z list through.
      let made = rw ((passed z u through).0) at next in
      let found = attached_sound d lists x true t p e m z list in
      let i = found.within in
      let shorter = (args_takes i.reading).shorter in
      let within = after-le (initializer_after i.next.rest) in
      let whole = with_args t (trees i.tree) in
      let there = rw (← same_Some _ _ made, found.is, one_more i.next.saved whole) at rest in
      let o = (again x true whole (past_initializer (save whole i.next)) (e + i.cost.count) (max (max m i.cost.peak) (length (map shape_of i.next.saved) + 1)) y (omega arith) there).within in
      record {
        tree = o.tree;
        next = o.next;
        cost = both i.cost (both (saving i.next) o.cost);
        reading = args_segment {r = o.next} {v = o.tree} {d = o.cost} i.reading o.reading;
        deep = omega (arith, i.deep, o.deep);
      })))
  segment_sound n again NameSegment x candidate t p e m y enough is =
      option_and_then_some _ (parse_unqualified (parse_type d x) (parse_type d (inside_lambda x)) (Some (shape_of t)) (state_at p e m) >>= fitting >>= next_segment) y is (λ v turned rest.
      option_and_then_some _ (parse_unqualified (parse_type d x) (parse_type d (inside_lambda x)) (Some (shape_of t)) (state_at p e m) >>= fitting) v turned (λ u fitted next.
      option_and_then_some _ (parse_unqualified (parse_type d x) (parse_type d (inside_lambda x)) (Some (shape_of t)) (state_at p e m)) u fitted (λ z named through.
      let made = rw ((passed z u through).0) at next in
      let found = unqualified_sound d complete lists_are kinds x (Some t) p e m z named in
      let i = found.within in
      let shorter = (unqualified_takes i.reading).shorter in
      let within = after-le (initializer_after i.next.rest) in
      let there = rw (← same_Some _ _ made, found.is, one_more i.next.saved i.tree) at rest in
      let o = (again x true i.tree (past_initializer (save i.tree i.next)) (e + i.cost.count) (max (max m i.cost.peak) (length (map shape_of i.next.saved) + 1)) y (omega arith) there).within in
      record {
        tree = o.tree;
        next = o.next;
        cost = both i.cost (both (saving i.next) o.cost);
        reading = name_segment {r = o.next} {v = o.tree} {d = o.cost} i.reading o.reading;
        deep = omega (arith, i.deep, o.deep);
      })))

  segments_sound : (n : ℕ) → SegmentsSound d n
  unfolding loop segment_turn
  segments_sound zero x candidate t p e m y enough is = cc
  segments_sound (suc n) x candidate t p e m y enough is =
      let w = segment_sound n (segments_sound n) (segment_case p.rest) x candidate t p e m y enough is in
      record { within = w; is = met_is (segments_met d lists_are complete (suc n) _ _ _ _ _ _ _ w.reading w.deep e m enough) is }

  nested_sound : (x : Context) (p : Position) (e m : ℕ) (y : (Shape × Quals) × ParserState)
      → parse_nested (parse_unqualified (parse_type d x) (parse_type d (inside_lambda x))) (parse_args d x true) x
      (state_at p e m) ≡ Some y → Within (Nested x p) d
  unfolding parse_nested
  nested_sound x p e m y is =
      let begun = with_rest (past_name_quals p.rest) p in
      let case = first_segment_case (past_name_quals p.rest) in
      option_and_then_some _ (first_as case (parse_unqualified (parse_type d x) (parse_type d (inside_lambda x))) x (state_at begun e m)) y is (λ z first more.
      let i = first_sound d complete lists_are kinds case x begun e m z first in
      let is_z : z ≡ (shape_of i.tree, state_at i.next (e + i.cost.count) (max m i.cost.peak)) = met_is (first_met d lists_are complete i.reading i.deep e m) first in
      let there = rw is_z at more in
      option_and_then_some _ (parse_segments (parse_unqualified (parse_type d x) (parse_type d (inside_lambda x)))
      (parse_args d x true) (first_segment_is_candidate case) (shape_of i.tree)
      (state_at (past_initializer i.next) (e + i.cost.count) (max m i.cost.peak))) y there (λ v rest _.
      let o = (segments_sound (length (past_initializer i.next).rest + 1) x (first_segment_is_candidate case) i.tree (past_initializer i.next) (e + i.cost.count) (max m i.cost.peak) v (omega arith) rest).within in
      record { tree = _; next = o.next; cost = _; reading = nested i.reading o.reading; deep = omega (arith, i.deep, o.deep) }))

-- the state that a return type leaves
record Returned (case : ReturnCase) (x : Context) (p : Position) (d e m : ℕ) (after : ParserState) : Type 0 where
  next : Position
  cost : Cost
  reading : ReturnAs case x p next cost
  deep : Small d cost
  is : after ≡ state_at next (e + cost.count) (max m cost.peak)

return_sound : (d : ℕ) → TypesSound d → (case : ReturnCase) (x : Context) (p : Position) (e m : ℕ) (after : ParserState)
    → return_as case (parse_type d x) (state_at p e m) ≡ Some after → Returned case x p d e m after
return_sound d kinds NoReturnType x p e m after is =
    record { next = p; cost = nothing; reading = no_return_type; deep = omega arith; is = sym (same_Some _ _ is) ∙ same_Some _ _ (same_state refl refl (omega arith) (omega arith)) }
return_sound d kinds SomeReturnType x p e m after is =
    option_and_then_some _ (parse_type d x (state_at p e m)) after is (λ z read left.
    let found = kinds x p e m z read in
    let i = found.within in
    record { next = i.next; cost = i.cost; reading = some_return_type i.reading; deep = i.deep; is = sym (same_Some _ _ left) ∙ ap (λ (y : Shape × ParserState). y.1) found.is })

encoding_params_sound : (d : ℕ) → TypesComplete d → TypesSound d → (case : EncodingParamsCase) (x : Context) (t : Tree) (p : Position) (e m : ℕ) (y : Shape × ParserState)
    → encoding_params_as case (parse_type d x) (bare_of t) (state_at p e m) ≡ Some y → Within (EncodingParamsAs case x t p) d
encoding_params_sound d complete kinds NoEncodingParams x t p e m y is = record { tree = _; next = _; cost = _; reading = no_encoding_params; deep = omega arith }
encoding_params_sound d complete kinds SomeEncodingParams x t p e m y is =
    option_and_then_some _ (params_as (params_case p.rest) false (parse_type d x) (params_opened (bare_shape t)) (state_at p e m)) y is (λ z params _.
    let i = (typed_params_sound false d complete kinds (params_case p.rest) x (params_opened (bare_shape t)) p e m z params).within in
    record { tree = _; next = _; cost = _; reading = some_encoding_params i.reading; deep = i.deep })

-- a name with its own qualifiers
pub names_sound : (d : ℕ) → BareNamesComplete d → BareNamesSound d → NamesSound d
unfolding parse_name
names_sound d bares_are bares x p e m y is =
    option_and_then_some _ (parse_bare_name d x (state_at p e m)) y is (λ z read through.
    let found = bares x p e m z read in
    let i = found.within in
    let g : Shape × ParserState = (with_name_qualifiers (bare_shape i.tree) (own_quals i.tree) (shows_words (name_case p.rest) x.words_shown), state_at i.next (e + i.cost.count) (max m i.cost.peak)) in
    let there : fitting g ≡ Some y = rw found.is at through in
    let narrow = (passed g y there).1 in
    let same_len = ap text_len (whole_name i.reading) in
    let own = with_own_quals i.reading in
    let w : Within (Name false x p) d = record { tree = i.tree; next = i.next; cost = own.cost; reading = own.reading; deep = omega (arith, i.deep, own.depth_is, own.width_in) } in
    record { within = w; is = same_Some _ _ (sym is ∙ whole w.reading w.deep) })
  where
    whole : {t : Tree} {q : Position} {c : Cost} → Name false x p t q c → Small d c → parse_name d x (state_at p e m) ≡ given shape_of t q c e m
    whole a deep = names_complete d bares_are x _ _ _ _ a deep e m

module _ (d : ℕ) (complete : TypesComplete d) (bares_are : BareNamesComplete d) (thunks_are : ThunksComplete d) (kinds : TypesSound d) (bares : BareNamesSound d) (thunks : ThunksSound d) where
  special_as_sound : (case : SpecialCase) (x : Context) (p : Position) (e m : ℕ) (y : Shape × ParserState)
      → special_as case (parse_type d x) (parse_name d x) (parse_thunk d x) (state_at p e m) ≡ Some y → Within (SpecialAs case x p) d
  special_as_sound TypeSpecial x p e m y is =
      option_and_then_some _ (parse_type d x (state_at (skip 2 p) e m)) y is (λ z read _.
      let i = (kinds x (skip 2 p) e m z read).within in record { tree = _; next = _; cost = _; reading = type_special i.reading; deep = i.deep })
  special_as_sound NameSpecial x p e m y is =
      option_and_then_some _ (parse_name d x (state_at (skip 2 p) e m)) y is (λ z read _.
      let i = (names_sound d bares_are bares x (skip 2 p) e m z read).within in record { tree = _; next = _; cost = _; reading = name_special i.reading; deep = i.deep })
  special_as_sound TemporarySpecial x p e m y is =
      option_and_then_some _ (parse_name d x (state_at (skip 2 p) e m)) y is (λ z read more.
      let found = names_sound d bares_are bares x (skip 2 p) e m z read in
      let i = found.within in
      let there = rw found.is at more in
      option_and_then_some _ (index_of Base36 i.next.rest) y there (λ k number _.
      record { tree = _; next = _; cost = _; reading = temporary_special i.reading number; deep = i.deep }))
  special_as_sound ConstructionSpecial x p e m y is =
      option_and_then_some _ (parse_type d x (state_at (skip 2 p) e m)) y is (λ z read more.
      let found = kinds x (skip 2 p) e m z read in
      let i = found.within in
      let there = rw found.is at more in
      option_and_then_some _ (past_base_offset i.next.rest) y there (λ r offset second.
      option_and_then_some _ (parse_type d x (state_at (with_rest r i.next) (e + i.cost.count) (max m i.cost.peak))) y second (λ w other _.
      let o = (kinds x (with_rest r i.next) (e + i.cost.count) (max m i.cost.peak) w other).within in
      record { tree = _; next = _; cost = _; reading = construction_special i.reading offset o.reading; deep = omega (arith, i.deep, o.deep) })))
  special_as_sound ThunkSpecial x p e m y is =
      let i = (thunks x p e m y is).within in record { tree = _; next = _; cost = _; reading = thunk_special i.reading; deep = i.deep }
  special_as_sound UnreadableSpecial x p e m y is = cc

  pub special_sound : (x : Context) (p : Position) (e m : ℕ) (y : Shape × ParserState) → parse_special d x (state_at p e m) ≡ Some y → Within (SpecialAs (special_case p.rest) x p) d
  unfolding parse_special
  special_sound x p e m y is = special_as_sound (special_case p.rest) x p e m y is

  encoding_as_sound : (case : EncodingCase) (x : Context) (p : Position) (e m : ℕ) (y : Shape × ParserState)
      → encoding_as case (parse_special d x) (parse_name d x) (parse_bare_name d x) (parse_type d x) (state_at p e m) ≡ Some y → Within (EncodingAs case x p) d
  encoding_as_sound SpecialEncoding x p e m y is =
      let i = special_sound x p e m y is in record { tree = _; next = _; cost = _; reading = special_encoding i.reading; deep = i.deep }
  encoding_as_sound NameEncoding x p e m y is =
      let i = (names_sound d bares_are bares x p e m y is).within in record { tree = _; next = _; cost = _; reading = name_encoding i.reading; deep = i.deep }
  encoding_as_sound FullEncoding x p e m y is =
      option_and_then_some _ (parse_bare_name d x (state_at p e m)) y is (λ z named ends.
      let found = bares x p e m z named in
      let i = found.within in
      let case = return_case (shape_of i.tree).templ (shape_of i.tree).ctor i.next.rest in
      let there = rw (found.is, same_return i.reading i.next.rest) at ends in
      option_and_then_some _ (return_as case (parse_type d x) (state_at i.next (e + i.cost.count) (max m i.cost.peak))) y there (λ after left params.
      let r = return_sound d kinds case x i.next (e + i.cost.count) (max m i.cost.peak) after left in
      let s = encoding_params_sound d complete kinds (encoding_params_case r.next.rest) x i.tree r.next (e + i.cost.count + r.cost.count) (max (max m i.cost.peak) r.cost.peak) y (rw r.is at params) in
      record { tree = _; next = _; cost = _; reading = full_encoding i.reading r.reading s.reading; deep = omega (arith, i.deep, r.deep, s.deep) }))

  pub encoding_sound : (end : EncodingEnd) (x : Context) (p : Position) (e m : ℕ) (y : Shape × ParserState) → parse_encoding d end x (state_at p e m) ≡ Some y → Found (EncodingAs (encoding_case end p.rest) x p) shape_of d e m y
  unfolding parse_encoding
  encoding_sound end x p e m y is =
      let w = encoding_as_sound (encoding_case end p.rest) x p e m y is in
      record { within = w; is = met_is (encoding_met d complete bares_are thunks_are end w.reading w.deep e m) is }

  pub thunks_sound : ThunksSound (suc d)
  unfolding parse_thunk parse_special parse_name
  thunks_sound x p e m y is =
      option_and_then_some _ (thunk_by (encoding_by AfterName (parse_type d x) (parse_bare_name d x) (parse_thunk d x) x) (state_at p (e + 1) m)) y is (λ u thunked through.
      option_and_then_some _ (thunk_offsets (drop 1 p.rest)) u thunked (λ o offsets more.
      option_and_then_some _ (encoding_as (encoding_case AfterName o.1) (parse_special d x) (parse_name d x) (parse_bare_name d x) (parse_type d x) (state_at (with_rest o.1 p) (e + 1) m)) u more (λ z read _.
      let i = encoding_as_sound (encoding_case AfterName o.1) x (with_rest o.1 p) (e + 1) m z read in
      let narrow = met_passed (thunk_by_met d complete bares_are thunks_are p offsets i.reading i.deep (e + 1) m) thunked through in
      let w : Within (Thunk x p) (suc d) = record { tree = _; next = _; cost = _; reading = thunk offsets i.reading; deep = omega (arith, i.deep, narrow) } in
      record { within = w; is = same_Some _ _ (sym is ∙ thunks_complete d complete bares_are thunks_are x _ _ _ _ w.reading w.deep e m) })))

  entity_sound : (case : EntityCase) (x : Context) (t : Tree) (p : Position) (e m : ℕ) (y : (Shape × Quals) × ParserState)
      → entity_as case (parse_bare_name d x) (shape_of t) (state_at p e m) ≡ Some y → Within (EntityAs case true x t p) d
  entity_sound StringLiteralEntity x t p e m y is = record { tree = _; next = _; cost = _; reading = string_literal_entity; deep = omega arith }
  entity_sound DefaultArgumentEntity x t p e m y is =
      option_and_then_some _ (ordinal (drop 2 p.rest)) y is (λ n number more.
      option_and_then_some _ (parse_bare_name d x (state_at (with_rest n.1 p) e m)) y more (λ z read _.
      let i = (bares x (with_rest n.1 p) e m z read).within in
      record { tree = _; next = _; cost = _; reading = default_argument_entity number i.reading; deep = i.deep }))
  entity_sound NameEntity x t p e m y is =
      option_and_then_some _ (parse_bare_name d x (state_at (skip 1 p) e m)) y is (λ z read _.
      let i = (bares x (skip 1 p) e m z read).within in
      record { tree = _; next = _; cost = _; reading = name_entity i.reading; deep = i.deep })
  entity_sound UnreadableEntity x t p e m y is = cc

  local_sound : (x : Context) (p : Position) (e m : ℕ) (y : (Shape × Quals) × ParserState)
      → parse_local (parse_encoding d AtE (inside_encoding x)) (parse_bare_name d (showing_words x)) (state_at p e m) ≡ Some y
      → Within (Local true x p) d
  unfolding parse_local
  local_sound x p e m y is =
      option_and_then_some _ (parse_encoding d AtE (inside_encoding x) (state_at p e m)) y is (λ z read more.
      let found = encoding_sound AtE (inside_encoding x) p e m z read in
      let i = found.within in
      let o = entity_sound (entity_case i.next.rest) (showing_words x) i.tree i.next (e + i.cost.count) (max m i.cost.peak) y (rw found.is at more) in
      record { tree = _; next = _; cost = _; reading = local i.reading o.reading; deep = omega (arith, i.deep, o.deep) })

module _ (d : ℕ) (complete : TypesComplete d) (lists_are : ArgsComplete d) (bares_are : BareNamesComplete d)
    (thunks_are : ThunksComplete d) (kinds : TypesSound d) (lists : ArgsSound d) (bares : BareNamesSound d)
    (thunks : ThunksSound d) where
  name_as_sound : (case : NameCase) (x : Context) (p : Position) (e m : ℕ) (y : (Shape × Quals) × ParserState)
      → name_as case (parse_unqualified (parse_type d x) (parse_type d (inside_lambda x))) (parse_args d x true)
      (parse_local (parse_encoding d AtE (inside_encoding x)) (parse_bare_name d (showing_words x))) x (state_at p e m) ≡ Some y
      → Within (NameAs case true x p) d
  name_as_sound NestedName x p e m y is =
      let i = nested_sound d complete lists_are kinds lists x (skip 1 p) e m y is in record { tree = _; next = _; cost = _; reading = nested_name i.reading; deep = i.deep }
  name_as_sound LocalName x p e m y is =
      let i = local_sound d complete bares_are thunks_are kinds bares thunks x (skip 1 p) e m y is in record { tree = _; next = _; cost = _; reading = local_name i.reading; deep = i.deep }
  name_as_sound UnscopedName x p e m y is =
      option_and_then_some _ (unscoped_as (unscoped_case p.rest) (parse_unqualified (parse_type d x) (parse_type d (inside_lambda x))) (parse_args d x true) (state_at p e m)) y is (λ z read _.
      let i = unscoped_sound d complete lists_are kinds lists (unscoped_case p.rest) x p e m z read in record { tree = _; next = _; cost = _; reading = unscoped_name i.reading; deep = i.deep })

pub bare_names_sound : (d : ℕ) → ArgsComplete d → TypesComplete d → BareNamesComplete d → ThunksComplete d → ArgsSound d → TypesSound d → BareNamesSound d → ThunksSound d → BareNamesSound (suc d)
unfolding parse_bare_name parse_encoding parse_special parse_name
bare_names_sound d lists_are complete bares_are thunks_are lists kinds bares thunks x p e m y is =
    option_and_then_some _ (name_as (name_case p.rest) (parse_unqualified (parse_type d x) (parse_type d (inside_lambda x))) (parse_args d x true)
    (parse_local (parse_encoding d AtE (inside_encoding x)) (parse_bare_name d (showing_words x))) x (state_at p (e + 1) m)) y is (λ z read through.
    let r = name_as_sound d complete lists_are bares_are thunks_are kinds lists bares thunks (name_case p.rest) x p (e + 1) m z read in
    let narrow = met_passed_bare (name_as_met d lists_are complete bares_are thunks_are r.reading r.deep (e + 1) m) read through in
    let w : Within (Name true x p) (suc d) = record { tree = _; next = _; cost = _; reading = name r.reading; deep = omega (arith, r.deep, narrow) } in
    record { within = w; is = same_Some _ _ (sym is ∙ bare_names_complete d lists_are complete bares_are thunks_are x _ _ _ _ w.reading w.deep e m) })
