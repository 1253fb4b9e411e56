-- Of names: what the grammar reads, the parser reads.
use Rattle.std.proofs.Common.{◌≡◌, ◌<◌, ◌≤◌, ℕ, zero, suc, ◌+◌, max, Bool, true, false, List, ◌++◌, drop, map, length, refl, ◌∙◌, sym, arith, subst, Option, Some, ap, ap₂}
use Rattle.std.proofs.lemmas.List.{length-map}
use Rattle.std.specs.Prelude.{codes, option_map}
use Rattle.std.proofs.lemmas.Option.{slice_get-map}
use Rattle.demangle_text.specs.Shape.{Shape, plain_shape, text_len}
use Rattle.demangle_edit.proofs.Built.{lambda_built, params_built}
use Rattle.demangle_edit.specs.Built.{listed_each, params_opened}
use Rattle.demangle_edit.specs.Names.{with_name_qualifiers}
use Rattle.itanium_syntax.specs.declared.context.Context.{Context}
use Rattle.itanium_syntax.specs.declared.offsets.ThunkOffsets.{ThunkOffsets}
use Rattle.itanium_syntax.specs.Offsets.{thunk_offsets}
use Rattle.itanium_syntax.specs.Specials.{special_case, special_text, special_close}
use Rattle.itanium_syntax.specs.Names.{segment_case}
use Rattle.itanium_syntax.specs.Names.{name_case, name_quals, tag_case}
use Rattle.abi_scalars.specs.Scalars.{source_text}
use Rattle.itanium_reader.specs.Parser.{shows_words}
use Rattle.itanium_syntax.specs.Context.{inside_lambda, showing_words, inside_encoding}
use Rattle.itanium_syntax.specs.Encodings.{encoding_case}
use Rattle.itanium_syntax.proofs.Fronts.{alone_after_name, initializer_after, after_drop, source_takes, after-le}
use Rattle.itanium_grammar.specs.Tree.{Tree, bare_shape, own_quals, thunk_of, with_args, trees, unnamed_text, literal_operator_text, shape_of, name_printing}
use Rattle.itanium_grammar.specs.Grammar.{Position, Cost, with_rest, SpecialAs, special_encoding}
use Rattle.itanium_grammar.specs.Grammar.{type_special, name_special, temporary_special, construction_special}
use Rattle.itanium_grammar.specs.Grammar.{thunk_special, thunk, name_encoding, past_initializer, last_of}
use Rattle.itanium_grammar.specs.Grammar.{SubstitutionAs, Substitution, ArgumentNamed, TemplateParam, TaggedAs, UnqualifiedAs}
use Rattle.itanium_grammar.specs.Grammar.{Unqualified, FirstAs, Name, NameAs, Local, EntityAs, EncodingAs}
use Rattle.itanium_grammar.specs.Grammar.{ReturnAs, EncodingParamsAs, UnscopedAs, AttachedAs, Nested, SegmentsAs}
use Rattle.itanium_grammar.specs.Grammar.{abbreviation_substitution, component_substitution}
use Rattle.itanium_grammar.specs.Grammar.{auto_parameter, scope_parameter, template_param, no_tag, next_tag, OrdinaryAs}
use Rattle.itanium_grammar.specs.Grammar.{ordinary_source, ordinary_unnamed_type, ordinary_lambda, ordinary_conversion}
use Rattle.itanium_grammar.specs.Grammar.{ordinary_literal_operator, ordinary_operator, constructor_unqualified}
use Rattle.itanium_grammar.specs.Grammar.{destructor_unqualified, ordinary_unqualified, unqualified, template_param_first}
use Rattle.itanium_grammar.specs.Grammar.{std_first, substitution_first, name_first, name, nested_name, local_name}
use Rattle.itanium_grammar.specs.Grammar.{local, string_literal_entity, default_argument_entity, name_entity}
use Rattle.itanium_grammar.specs.Grammar.{full_encoding, no_return_type, some_return_type, no_encoding_params, some_encoding_params}
use Rattle.itanium_grammar.specs.Grammar.{unscoped_name, std_name, substitution_name, plain_name, none_attached}
use Rattle.itanium_grammar.specs.Grammar.{args_attached, nested, end_of_segments, args_segment, name_segment}
use Rattle.itanium_grammar.proofs.Progress.{unqualified_takes, args_takes}
use Rattle.itanium_grammar.specs.Cases.{EncodingEnd, AfterName, AtE, EncodingCase, SpecialCase, ReturnCase, EncodingParamsCase, EntityCase}
use Rattle.itanium_grammar.specs.Cases.{SubstitutionCase, TagCase, UnqualifiedCase, OrdinaryCase, FirstSegmentCase, NameCase}
use Rattle.itanium_grammar.specs.Cases.{UnscopedCase, AttachedCase, SegmentCase}
use Rattle.itanium_reader.specs.Parser.{ParserState, after_turn, loop, ◌>>=◌, tag_as, tag_turn, parse_tags, ordinary_as}
use Rattle.itanium_reader.specs.Parser.{parse_ordinary, parse_type, substitution_as, parse_substitution, template_param_as}
use Rattle.itanium_reader.specs.Parser.{parse_template_param, unqualified_as, parse_unqualified, first_as, attached_by}
use Rattle.itanium_reader.specs.Parser.{attached_as, unscoped_as, segment_as, segment_turn, parse_nested, return_as}
use Rattle.itanium_reader.specs.Parser.{encoding_params_as, special_as, parse_special, encoding_by, thunk_by}
use Rattle.itanium_reader.specs.Parser.{parse_thunk, encoding_as, parse_encoding, entity_as, parse_local, name_as}
use Rattle.itanium_reader.specs.Parser.{parse_bare_name, parse_name, parse_args}
use Rattle.itanium_demangle.specs.Meaning.{state_at}
use Rattle.itanium_demangle.specs.Readers.{bare_of}
use Rattle.itanium_demangle.proofs.Shapes.{shape-worded, shape-temporary_of, shape-construction_of, shape-thunk_of}
use Rattle.itanium_demangle.proofs.Shapes.{same_read, same_state, one_more, taken-map, some-map, last-map}
use Rattle.itanium_demangle.proofs.Shapes.{shape-plain_text, shape-abbreviation, shape-ctor_dtor_of, shape-tagged_with}
use Rattle.itanium_demangle.proofs.Shapes.{shape-lambda_of, shape-conversion_to, shape-with_args, shape-in_parent}
use Rattle.itanium_demangle.proofs.Shapes.{shape-encoding_of, shape-function_encoding}
use Rattle.itanium_demangle.proofs.CompleteLists.{typed_params_met}
use Rattle.itanium_demangle.proofs.Fitting.{bare_len, Met, met, met_then, met_as, met_step, met_fits, met_fits_bare, fits}
use Rattle.itanium_demangle.proofs.Grows.{lambda_longer, params_longer}
use Rattle.itanium_demangle.proofs.Longer.{in_parent_longer, thunk_longer, tags_longer, attached_as_longer, segment_longer, entity_longer}
use Rattle.itanium_demangle.proofs.Whole.{without_quals}
use Rattle.itanium_demangle.proofs.Readings.{Small, reached, given, ArgsComplete, TypesComplete, BareNamesComplete, NamesComplete, ThunksComplete}
use Rattle.itanium_demangle.proofs.Waiting.{unscoped_none, bare-nested_of, bare-string_literal_of, bare-default_argument_of, bare-local_in, same_return, whole_name}

-- without a counted production the limits are no matter
substitution_as_complete : {case : SubstitutionCase} {p q : Position} {t : Tree} → SubstitutionAs case p t q → (e m : ℕ)
    → substitution_as case (state_at p e m) ≡ Some (shape_of t, state_at q e m)
substitution_as_complete (abbreviation_substitution {abbreviated = a} found) e m = rw (found, ← shape-abbreviation a) refl
substitution_as_complete (component_substitution {p = p} {i = i} found there) e m = rw (found, slice_get-map shape_of p.saved i, there) refl

pub substitution_complete : (p : Position) {q : Position} {t : Tree} → Substitution p t q → (e m : ℕ) → parse_substitution (state_at p e m) ≡ Some (shape_of t, state_at q e m)
unfolding parse_substitution
substitution_complete p a e m = substitution_as_complete a e m

template_param_as_complete : {lambda : Bool} {i : ℕ} {p : Position} {t : Tree} → ArgumentNamed lambda i p t → (e m : ℕ) → template_param_as lambda i (state_at p e m) ≡ Some (shape_of t)
template_param_as_complete auto_parameter e m = ap Some (sym (shape-plain_text (codes "auto")))
template_param_as_complete (scope_parameter {p = p} {i = i} there) e m = rw (last-map p.scopes, slice_get-map shape_of (last_of p.scopes) i, there) refl

pub template_param_complete : {x : Context} {p q : Position} {t : Tree} → TemplateParam x p t q → (e m : ℕ) → parse_template_param x (state_at p e m) ≡ Some (shape_of t, state_at q e m)
unfolding parse_template_param
template_param_complete (template_param found a) e m = rw (found, template_param_as_complete a e m) refl

-- tags up to their end, in n turns
abbrev TagsComplete : ℕ → Type 0
TagsComplete n = (t u : Tree) (p q : Position) → TaggedAs (tag_case p.rest) t p u q → (e m : ℕ) → length p.rest < n
    → loop tag_turn n (shape_of t) (state_at p e m) ≡ Some (shape_of u, state_at q e m)

tag_as_complete : (n : ℕ) → TagsComplete n → {case : TagCase} {t u : Tree} {p q : Position} → TaggedAs case t p u q → (e m : ℕ) → length p.rest < suc n
    → (tag_as case (shape_of t) (state_at p e m) >>= λ r. after_turn r.0 (loop tag_turn n) r.1) ≡ Some (shape_of u, state_at q e m)
tag_as_complete n again no_tag e m enough = refl
tag_as_complete n again (next_tag {p = p} {t = t} {bytes = b} {rest = r} found tags) e m enough =
    let shorter = (source_takes (drop 1 p.rest) (b, r) found).shorter in
    let within = after-le (after_drop 1 p.rest) in
    rw (found, ← shape-tagged_with t (source_text b)) (again _ _ _ _ tags e m (omega arith))

pub tags_complete : (n : ℕ) → TagsComplete n
unfolding loop tag_turn
tags_complete zero t u p q a e m enough = absurd (omega arith)
tags_complete (suc n) t u p q a e m enough = tag_as_complete n (tags_complete n) a e m enough

-- tags up to their end
pub parse_tags_complete : {t u : Tree} {p q : Position} → TaggedAs (tag_case p.rest) t p u q → (e m : ℕ) → parse_tags (shape_of t) (state_at p e m) ≡ Some (shape_of u, state_at q e m)
parse_tags_complete {p = p} a e m = tags_complete (length p.rest + 1) _ _ _ _ a e m (omega arith)

module _ (d : ℕ) (lists : ArgsComplete d) (kinds : TypesComplete d) where
  pub ordinary_met : {case : OrdinaryCase} {x : Context} {p q : Position} {t : Tree} {c : Cost} → OrdinaryAs case x p t q c → Small d c → (e m : ℕ)
      → Met text_len (ordinary_as case (parse_type d x) (parse_type d (inside_lambda x)) (state_at p e m)) (reached shape_of t q c e m)
  ordinary_met (ordinary_source {bytes = b} found) deep e m = met (rw (found, ← shape-plain_text (source_text b)) (same_read refl refl refl (omega arith) (omega arith)))
  ordinary_met (ordinary_unnamed_type {k = k} found) deep e m = met (rw (found, ← shape-plain_text (unnamed_text k)) (same_read refl refl refl (omega arith) (omega arith)))
  ordinary_met (ordinary_lambda {ts = ts} {k = k} params found) deep e m =
      let begun = plain_shape (codes "{lambda(") in
      let list = listed_each true begun (map shape_of ts) in
      let whole = lambda_built (map shape_of ts) k ∙ sym (shape-lambda_of ts k) in
      met_then _ (typed_params_met false d kinds params deep e m begun)
      (subst (λ (s : Shape). text_len list ≤ text_len s) whole (lambda_longer k list))
      (met (rw found (same_read whole refl refl refl refl)))
  ordinary_met (ordinary_conversion {t = t} a) deep e m = met (rw (kinds _ _ _ _ _ a deep e m, ← shape-conversion_to t) refl)
  ordinary_met (ordinary_literal_operator {bytes = b} found) deep e m =
      met (rw (found, ← shape-plain_text (literal_operator_text b)) (same_read refl refl refl (omega arith) (omega arith)))
  ordinary_met (ordinary_operator {text = o} found) deep e m =
      met (rw (found, ← shape-plain_text (codes "operator" ++ o)) (same_read refl refl refl (omega arith) (omega arith)))

  unqualified_as_met : {case : UnqualifiedCase} {x : Context} {parent : Option Tree} {p q : Position} {t : Tree} {c : Cost} → UnqualifiedAs case x parent p t q c → Small d c → (e m : ℕ)
      → Met text_len (unqualified_as case (parse_type d x) (parse_type d (inside_lambda x)) (option_map shape_of parent) (state_at p e m)) (reached shape_of t q c e m)
  unqualified_as_met (constructor_unqualified {parent = parent} tags) deep e m =
      met (rw (← shape-ctor_dtor_of parent false, parse_tags_complete tags e m) (same_read refl refl refl (omega arith) (omega arith)))
  unqualified_as_met (destructor_unqualified {parent = parent} tags) deep e m =
      met (rw (← shape-ctor_dtor_of parent true, parse_tags_complete tags e m) (same_read refl refl refl (omega arith) (omega arith)))
  unqualified_as_met (ordinary_unqualified {x = x} {p = p} {r = r} {u = u} {parent = parent} {c = c} a tags) deep e m =
      let named : Met text_len (parse_ordinary (parse_type d x) (parse_type d (inside_lambda x)) (state_at p e m)) (reached shape_of u r c e m) =
      met_then _ (ordinary_met a deep e m) (tags_longer tags) (met (parse_tags_complete tags (e + c.count) (max m c.peak))) in
      met_then _ named (in_parent_longer parent u) (met (same_read (sym (shape-in_parent parent u)) refl refl refl refl))

  pub unqualified_met : {x : Context} {parent : Option Tree} {p q : Position} {t : Tree} {c : Cost} → Unqualified x parent p t q c → Small d c → (e m : ℕ)
      → Met text_len (parse_unqualified (parse_type d x) (parse_type d (inside_lambda x)) (option_map shape_of parent) (state_at p e m)) (reached shape_of t q c e m)
  unfolding parse_unqualified
  unqualified_met (unqualified {parent = parent} a) deep e m = rw (some-map parent) (unqualified_as_met a deep e m)

  pub first_met : {case : FirstSegmentCase} {x : Context} {p q : Position} {t : Tree} {c : Cost} → FirstAs case x p t q c → Small d c → (e m : ℕ)
      → Met text_len (first_as case (parse_unqualified (parse_type d x) (parse_type d (inside_lambda x))) x (state_at p e m)) (reached shape_of t q c e m)
  first_met (template_param_first {q = q} {t = t} a) deep e m =
      met (rw (template_param_complete a e m) (same_read refl (one_more q.saved t) refl (omega arith) (omega (arith, length-map q.saved shape_of))))
  first_met std_first deep e m = met (same_read (sym (shape-plain_text (codes "std"))) refl refl (omega arith) (omega arith))
  first_met (substitution_first {p = p} a) deep e m = met (substitution_complete p a e m ∙ same_read refl refl refl (omega arith) (omega arith))
  first_met (name_first {q = q} {t = t} a) deep e m =
      met_then _ (unqualified_met a (omega arith) e m) (omega arith) (met (same_read refl (one_more q.saved t) refl (omega arith) (omega (arith, length-map q.saved shape_of))))

  attached_complete : {case : AttachedCase} {x : Context} {t u : Tree} {p q : Position} {c : Cost} → AttachedAs case x t p u q c → Small d c → (e m : ℕ)
      → attached_as case (parse_args d x true) (shape_of t) (state_at p e m) ≡ given shape_of u q c e m
  attached_complete none_attached deep e m = same_read refl refl refl (omega arith) (omega arith)
  attached_complete (args_attached {p = p} {t = t} {ts = ts} a) deep e m =
      rw (one_more p.saved t, lists _ _ _ _ _ _ a (omega arith) e (max m (length (map shape_of p.saved) + 1)), ← shape-with_args t ts)
      (same_read refl refl refl (omega arith) (omega (arith, length-map p.saved shape_of)))

  unscoped_met : {case : UnscopedCase} {x : Context} {p q : Position} {t : Tree} {c : Cost} → UnscopedAs case x p t q c → Small d c → (e m : ℕ)
      → Met text_len (unscoped_as case (parse_unqualified (parse_type d x) (parse_type d (inside_lambda x))) (parse_args d x true) (state_at p e m)) (reached shape_of t q c e m)
  unscoped_met (std_name {c = c} a b) deep e m =
      rw (← shape-plain_text (codes "std"))
      (met_then _ (unqualified_met a (omega arith) e m) (attached_as_longer b)
      (met (attached_complete b (omega arith) (e + c.count) (max m c.peak) ∙ same_read refl refl refl (omega arith) (omega arith))))
  unscoped_met (substitution_name {p = p} {t = t} {ts = ts} a case b) deep e m =
      met (rw (substitution_complete p a e m, case, lists _ _ _ _ _ _ b deep e m, ← shape-with_args t ts) refl)
  unscoped_met (plain_name {c = c} a b) deep e m =
      met_then _ (unqualified_met a (omega arith) e m) (attached_as_longer b)
      (met (attached_complete b (omega arith) (e + c.count) (max m c.peak) ∙ same_read refl refl refl (omega arith) (omega arith)))

  -- the segments after what stands, in n turns
  abbrev SegmentsMet : ℕ → Type 0
  SegmentsMet n = (x : Context) (candidate : Bool) (t u : Tree) (p q : Position) (c : Cost) → SegmentsAs (segment_case p.rest) candidate x t p u q c → Small d c → (e m : ℕ) → length p.rest < n
      → Met text_len (loop (segment_turn (parse_unqualified (parse_type d x) (parse_type d (inside_lambda x)))
      (parse_args d x true)) n (candidate, shape_of t) (state_at p e m)) (reached shape_of u q c e m)

  segment_met : (n : ℕ) → SegmentsMet n → {case : SegmentCase} {x : Context} {candidate : Bool} {t u : Tree} {p q : Position} {c : Cost} → SegmentsAs case candidate x t p u q c → Small d c → (e m : ℕ) → length p.rest < suc n
      → Met text_len (segment_as case (parse_unqualified (parse_type d x) (parse_type d (inside_lambda x)))
      (parse_args d x true) (candidate, shape_of t) (state_at p e m) >>= λ r. after_turn r.0
      (loop (segment_turn (parse_unqualified (parse_type d x) (parse_type d (inside_lambda x)))
      (parse_args d x true)) n) r.1) (reached shape_of u q c e m)
  segment_met n again (end_of_segments {candidate = candidate} {p = p}) deep e m enough = met (same_read refl (taken-map candidate p.saved) refl (omega arith) (omega arith))
  segment_met n again (args_segment {x = x} {p = p} {q = q} {t = t} {ts = ts} {c = c} a b) deep e m enough =
      let attached : attached_by (parse_args d x true) (shape_of t) (state_at p e m) ≡ given shape_of (with_args t (trees ts)) q c e m =
      rw (lists _ _ _ _ _ _ a (omega arith) e m, ← shape-with_args t ts) refl in
      let shorter = (args_takes a).shorter in
      let within = after-le (initializer_after q.rest) in
      let rest = again _ _ _ _ _ _ _ b (omega arith) (e + c.count) (max (max m c.peak) (length (map shape_of q.saved) + 1)) (omega arith) in
      met_step _ _ (met attached) (segment_longer b)
      (rw (one_more q.saved (with_args t (trees ts)))
      (met_as rest (same_read refl refl refl (omega arith) (omega (arith, length-map q.saved shape_of)))))
  segment_met n again (name_segment {q = q} {u = u} {c = c} a b) deep e m enough =
      let shorter = (unqualified_takes a).shorter in
      let within = after-le (initializer_after q.rest) in
      let rest = again _ _ _ _ _ _ _ b (omega arith) (e + c.count) (max (max m c.peak) (length (map shape_of q.saved) + 1)) (omega arith) in
      met_step _ _ (unqualified_met a (omega arith) e m) (segment_longer b)
      (rw (one_more q.saved u)
      (met_as rest (same_read refl refl refl (omega arith) (omega (arith, length-map q.saved shape_of)))))

  pub segments_met : (n : ℕ) → SegmentsMet n
  unfolding loop segment_turn
  segments_met zero x candidate t u p q c a deep e m enough = absurd (omega arith)
  segments_met (suc n) x candidate t u p q c a deep e m enough = segment_met n (segments_met n) a deep e m enough

  nested_met : {x : Context} {p q : Position} {t : Tree} {c : Cost} → Nested x p t q c → Small d c → (e m : ℕ)
      → Met bare_len (parse_nested (parse_unqualified (parse_type d x) (parse_type d (inside_lambda x))) (parse_args d x true) x (state_at p e m)) (reached bare_of t q c e m)
  unfolding parse_nested
  nested_met (nested {x = x} {p = p} {q = q} {u = u} {c = c} a b) deep e m =
      let bare = bare-nested_of u (name_quals p.rest) x.words_shown in
      let same_len = ap text_len bare in
      let longer = segment_longer b in
      met_then _ (first_met a (omega arith) e m) (omega arith)
      (met_then _ (segments_met (length (past_initializer q).rest + 1) _ _ _ _ _ _ _ b (omega arith) (e + c.count) (max m c.peak) (omega arith)) (omega arith)
      (met (same_read (ap (λ s. (s, name_quals p.rest)) (sym bare)) refl refl (omega arith) (omega arith))))

-- the return type of an encoding
return_complete : (d : ℕ) → TypesComplete d → {case : ReturnCase} {x : Context} {p q : Position} {c : Cost} → ReturnAs case x p q c → Small d c → (e m : ℕ)
    → return_as case (parse_type d x) (state_at p e m) ≡ Some (state_at q (e + c.count) (max m c.peak))
return_complete d kinds no_return_type deep e m = same_state refl refl (omega arith) (omega arith)
return_complete d kinds (some_return_type a) deep e m = rw (kinds _ _ _ _ _ a deep e m) refl

-- the parameters of an encoding
encoding_params_met : (d : ℕ) → TypesComplete d → {case : EncodingParamsCase} {x : Context} {t u : Tree} {p q : Position} {c : Cost} → EncodingParamsAs case x t p u q c → Small d c → (e m : ℕ)
    → Met text_len (encoding_params_as case (parse_type d x) (bare_of t) (state_at p e m)) (reached shape_of u q c e m)
encoding_params_met d kinds (no_encoding_params {t = t}) deep e m = met (same_read (sym (shape-encoding_of t)) refl refl (omega arith) (omega arith))
encoding_params_met d kinds (some_encoding_params {t = t} {ts = ts} params) deep e m =
    let list = listed_each true (params_opened (bare_shape t)) (map shape_of ts) in
    let whole = params_built (bare_shape t) (map shape_of ts) (own_quals t) ∙ sym (shape-function_encoding t ts) in
    met_then _ (typed_params_met false d kinds params deep e m (params_opened (bare_shape t)))
    (subst (λ (s : Shape). text_len list ≤ text_len s) whole (params_longer (own_quals t) list))
    (met (same_read whole refl refl refl refl))

-- a name isn't longer than its reading is wide
name_narrow : {bare : Bool} {x : Context} {p q : Position} {t : Tree} {c : Cost} → Name bare x p t q c → length (name_printing bare t) ≤ c.width
name_narrow (name a) = omega arith

-- a name with its own qualifiers
pub names_complete : (d : ℕ) → BareNamesComplete d → NamesComplete d
unfolding parse_name
names_complete d bares x p q t c a deep e m =
    let bare = without_quals a in
    let whole = whole_name a in
    let narrow = name_narrow a in
    let same_len = ap text_len whole in
    let read = bares x p q t bare.cost bare.reading (omega (arith, bare.depth_is, bare.width_in)) e m in
    let g : Shape × ParserState = (with_name_qualifiers (bare_shape t) (own_quals t) (shows_words (name_case p.rest) x.words_shown), state_at q (e + bare.cost.count) (max m bare.cost.peak)) in
    rw read (fits g (omega arith) ∙ same_read whole refl refl (omega (arith, bare.count_is)) (omega (arith, bare.peak_is)))

module _ (d : ℕ) (kinds : TypesComplete d) (bares : BareNamesComplete d) (thunks : ThunksComplete d) where
  special_as_complete : {case : SpecialCase} {x : Context} {p q : Position} {t : Tree} {c : Cost} → SpecialAs case x p t q c → Small d c → (e m : ℕ)
      → special_as case (parse_type d x) (parse_name d x) (parse_thunk d x) (state_at p e m) ≡ given shape_of t q c e m
  special_as_complete (type_special {p = p} {t = t} a) deep e m =
      rw (kinds _ _ _ _ _ a deep e m) (same_read (sym (shape-worded (special_text p.rest) t (special_close p.rest))) refl refl refl refl)
  special_as_complete (name_special {p = p} {t = t} a) deep e m =
      rw (names_complete d bares _ _ _ _ _ a deep e m) (same_read (sym (shape-worded (special_text p.rest) t (special_close p.rest))) refl refl refl refl)
  special_as_complete (temporary_special {t = t} {number = k} a found) deep e m =
      rw (names_complete d bares _ _ _ _ _ a deep e m, found) (same_read (sym (shape-temporary_of k t)) refl refl refl refl)
  special_as_complete (construction_special {t = t} {u = u} {c = c} a found b) deep e m =
      rw (kinds _ _ _ _ _ a (omega arith) e m, found, kinds _ _ _ _ _ b (omega arith) (e + c.count) (max m c.peak))
      (same_read (sym (shape-construction_of u t)) refl refl (omega arith) (omega arith))
  special_as_complete (thunk_special a) deep e m = thunks _ _ _ _ _ a deep e m

  pub special_complete : {x : Context} {p q : Position} {t : Tree} {c : Cost} → SpecialAs (special_case p.rest) x p t q c → Small d c → (e m : ℕ)
      → parse_special d x (state_at p e m) ≡ given shape_of t q c e m
  unfolding parse_special
  special_complete a deep e m = special_as_complete a deep e m

  encoding_as_met : {case : EncodingCase} {x : Context} {p q : Position} {t : Tree} {c : Cost} → EncodingAs case x p t q c → Small d c → (e m : ℕ)
      → Met text_len (encoding_as case (parse_special d x) (parse_name d x) (parse_bare_name d x) (parse_type d x) (state_at p e m)) (reached shape_of t q c e m)
  encoding_as_met (special_encoding a) deep e m = met (special_complete a deep e m)
  encoding_as_met (name_encoding a) deep e m = met (names_complete d bares _ _ _ _ _ a deep e m)
  encoding_as_met (full_encoding {q = q} {r = r} {c = c} {d = f} a b g) deep e m =
      rw (
        bares _ _ _ _ _ a (omega arith) e m,
        same_return a q.rest,
        return_complete d kinds b (omega arith) (e + c.count) (max m c.peak),
      )
      (met_as (encoding_params_met d kinds g (omega arith) (e + c.count + f.count) (max (max m c.peak) f.peak)) (same_read refl refl refl (omega arith) (omega arith)))

  pub encoding_met : (end : EncodingEnd) {x : Context} {p q : Position} {t : Tree} {c : Cost} → EncodingAs (encoding_case end p.rest) x p t q c → Small d c → (e m : ℕ)
      → Met text_len (parse_encoding d end x (state_at p e m)) (reached shape_of t q c e m)
  unfolding parse_encoding
  encoding_met end a deep e m = encoding_as_met a deep e m

  -- where it ends after its name it isn't measured, and nothing in it is too long
  alone_as_complete : {case : EncodingCase} {x : Context} {p q : Position} {t : Tree} {c : Cost} → encoding_case AfterName p.rest ≡ case → EncodingAs case x p t q c → Small d c → (e m : ℕ)
      → encoding_as case (parse_special d x) (parse_name d x) (parse_bare_name d x) (parse_type d x) (state_at p e m) ≡ given shape_of t q c e m
  alone_as_complete is (special_encoding a) deep e m = special_complete a deep e m
  alone_as_complete is (name_encoding a) deep e m = names_complete d bares _ _ _ _ _ a deep e m
  alone_as_complete {p = p} is (full_encoding a b g) deep e m = absurd (alone_after_name p.rest is)

  pub alone_complete : {x : Context} {p q : Position} {t : Tree} {c : Cost} → EncodingAs (encoding_case AfterName p.rest) x p t q c → Small d c → (e m : ℕ)
      → parse_encoding d AfterName x (state_at p e m) ≡ given shape_of t q c e m
  unfolding parse_encoding
  alone_complete a deep e m = alone_as_complete refl a deep e m

  -- the offsets of a thunk, and its encoding
  pub thunk_by_met : {x : Context} (p : Position) {q : Position} {t : Tree} {c : Cost} {offsets : ThunkOffsets} {rest : List ℕ} → thunk_offsets (drop 1 p.rest) ≡ Some (offsets, rest)
      → EncodingAs (encoding_case AfterName rest) x (with_rest rest p) t q c → Small d c → (e m : ℕ)
      → Met text_len (thunk_by (encoding_by AfterName (parse_type d x) (parse_bare_name d x) (parse_thunk d x) x) (state_at p e m)) (reached shape_of (thunk_of offsets t) q c e m)
  unfolding parse_special parse_name
  thunk_by_met p {t = t} {offsets = o} found a deep e m =
      rw found (met_then _ (encoding_as_met a deep e m) (thunk_longer o t) (met (same_read (sym (shape-thunk_of o t)) refl refl refl refl)))

  pub thunks_complete : ThunksComplete (suc d)
  unfolding parse_thunk
  thunks_complete x p q t c (thunk found a) deep e m =
      met_fits (met_as (thunk_by_met p found a (omega arith) (e + 1) m) (same_read refl refl refl (omega arith) refl)) (omega arith)

  entity_complete : {case : EntityCase} {x : Context} {t u : Tree} {p q : Position} {c : Cost} → EntityAs case true x t p u q c → Small d c → (e m : ℕ)
      → entity_as case (parse_bare_name d x) (shape_of t) (state_at p e m) ≡ given bare_of u q c e m
  entity_complete (string_literal_entity {t = t}) deep e m = same_read (bare-string_literal_of t) refl refl (omega arith) (omega arith)
  entity_complete (default_argument_entity {t = t} {u = u} {number = k} found a) deep e m =
      rw (found, bares _ _ _ _ _ a deep e m) (same_read (ap (λ s. (s, own_quals u)) (sym (bare-default_argument_of t k u))) refl refl refl refl)
  entity_complete (name_entity {t = t} {u = u} a) deep e m =
      rw (bares _ _ _ _ _ a deep e m) (same_read (ap (λ s. (s, own_quals u)) (sym (bare-local_in t u))) refl refl refl refl)

  pub local_met : {x : Context} {p q : Position} {t : Tree} {c : Cost} → Local true x p t q c → Small d c → (e m : ℕ)
      → Met bare_len (parse_local (parse_encoding d AtE (inside_encoding x)) (parse_bare_name d (showing_words x)) (state_at p e m)) (reached bare_of t q c e m)
  unfolding parse_local
  local_met (local {c = c} a b) deep e m =
      met_then _ (encoding_met AtE a (omega arith) e m) (entity_longer b)
      (met (entity_complete b (omega arith) (e + c.count) (max m c.peak) ∙ same_read refl refl refl (omega arith) (omega arith)))

module _ (d : ℕ) (lists : ArgsComplete d) (kinds : TypesComplete d) (bares : BareNamesComplete d) (thunks : ThunksComplete d) where
  pub name_as_met : {case : NameCase} {x : Context} {p q : Position} {t : Tree} {c : Cost} → NameAs case true x p t q c → Small d c → (e m : ℕ)
      → Met bare_len (name_as case (parse_unqualified (parse_type d x) (parse_type d (inside_lambda x))) (parse_args d x true)
      (parse_local (parse_encoding d AtE (inside_encoding x)) (parse_bare_name d (showing_words x))) x (state_at p e m))
      (reached bare_of t q c e m)
  name_as_met (nested_name a) deep e m = nested_met d lists kinds a deep e m
  name_as_met (local_name a) deep e m = local_met d kinds bares thunks a deep e m
  name_as_met (unscoped_name a) deep e m =
      let none = unscoped_none a in
      let same_len = ap text_len none.bare in
      met_then _ (unscoped_met d lists kinds a deep e m) (omega arith)
      (met (same_read (ap₂ (λ s q. (s, q)) (sym none.bare) (sym none.quals)) refl refl refl refl))

pub bare_names_complete : (d : ℕ) → ArgsComplete d → TypesComplete d → BareNamesComplete d → ThunksComplete d → BareNamesComplete (suc d)
unfolding parse_bare_name parse_encoding parse_special parse_name
bare_names_complete d lists kinds bares thunks x p q t c (name a) deep e m =
    met_fits_bare (met_as (name_as_met d lists kinds bares thunks a (omega arith) (e + 1) m) (same_read refl refl refl (omega arith) refl)) (omega arith)
