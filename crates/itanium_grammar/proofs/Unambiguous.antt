-- Of one position there is at most one reading.
use Rattle.std.proofs.Common.{◌≡◌, ℕ, Bool, true, ◌∷◌, List, Option, length, refl, sym, subst, ap, ap₂, ◌∙◌, ◌++◌, drop, codes, []}
use Rattle.std.specs.Prelude.{option_map}
use Rattle.std.proofs.lemmas.Option.{some_pair_parts, same_Some}
use Rattle.demangle_quals.specs.declared.quals.Quals.{Quals}
use Rattle.itanium_syntax.specs.declared.context.Context.{Context}
use Rattle.itanium_grammar.specs.Cases.{AfterName, EncodingCase, SpecialCase, PrimaryCase, ExpressionCase, NameCase, ReturnCase}
use Rattle.itanium_grammar.specs.Cases.{EncodingParamsCase, EntityCase, UnscopedCase, AttachedCase, FirstSegmentCase, SegmentCase}
use Rattle.itanium_grammar.specs.Cases.{UnqualifiedCase, OrdinaryCase, TagCase, SubstitutionCase, ArgumentListCase, ArgumentCase}
use Rattle.itanium_grammar.specs.Cases.{TypeCase, CvCase, ParamsCase, TypeListCase}
use Rattle.itanium_syntax.specs.Names.{segment_case, tag_case, past_name_quals, name_quals, first_segment_is_candidate, first_segment_case}
use Rattle.abi_scalars.specs.Scalars.{source_text, index_of}
use Rattle.itanium_syntax.specs.Numbers.{ordinal}
use Rattle.abi_scalars.specs.declared.numerals.Radix.TheVariants.{Base36}
use Rattle.itanium_syntax.specs.Context.{showing_words}
use Rattle.itanium_syntax.specs.Expressions.{is_external, literal_value, expression_text}
use Rattle.itanium_syntax.specs.Offsets.{past_base_offset}
use Rattle.itanium_syntax.specs.Specials.{special_text, special_close}
use Rattle.itanium_syntax.specs.Encodings.{return_case, encoding_params_case, entity_case, encoding_case}
use Rattle.itanium_syntax.specs.Args.{attached_case, argument_list_case}
use Rattle.itanium_syntax.specs.Types.{params_case, type_list_case, elaborated_text, with_reference, past_reference}
use Rattle.itanium_grammar.specs.Tree.{Tree, worded, temporary_of, construction_of, thunk_of, Operand, operand}
use Rattle.itanium_grammar.specs.Tree.{literal_of, address_of, pre_of, unary_of, post_of, binary_of, greater_of}
use Rattle.itanium_grammar.specs.Tree.{conditional_of, local_in, default_argument_of, function_encoding, name_printing}
use Rattle.itanium_grammar.specs.Tree.{shape_of, tagged_with, lambda_of, conversion_to, pack_of, unnamed_text}
use Rattle.itanium_grammar.specs.Tree.{literal_operator_text, expanded, plain_text, abbreviation, with_args, nested_of}
use Rattle.itanium_grammar.specs.Tree.{pointer_to, cv_of, array_of, member_of, function_to, elaborated, trees}
use Rattle.itanium_grammar.specs.Tree.{in_parent, printing, list_printing}
use Rattle.itanium_grammar.specs.Grammar.{Position, Cost, SpecialAs, Thunk, special_encoding, type_special}
use Rattle.itanium_grammar.specs.Grammar.{name_special, temporary_special, construction_special, thunk_special, thunk}
use Rattle.itanium_grammar.specs.Grammar.{Expression, ExpressionAs, OperandOf, PrimaryAs}
use Rattle.itanium_grammar.specs.Grammar.{expression_argument, primary_argument, external_name, value_literal}
use Rattle.itanium_grammar.specs.Grammar.{expression, operand_of, pre_expression, address_expression, unary_expression}
use Rattle.itanium_grammar.specs.Grammar.{post_expression, binary_expression, greater_expression}
use Rattle.itanium_grammar.specs.Grammar.{conditional_expression, template_param_expression, primary_expression, with_rest}
use Rattle.itanium_grammar.specs.Grammar.{skip, counted, saving, save, past_initializer, both}
use Rattle.itanium_grammar.specs.Grammar.{SubstitutionAs, ArgumentNamed, TemplateParam, TaggedAs, UnqualifiedAs}
use Rattle.itanium_grammar.specs.Grammar.{Unqualified, FirstAs, Name, NameAs, Local, EntityAs, EncodingAs}
use Rattle.itanium_grammar.specs.Grammar.{ReturnAs, EncodingParamsAs, UnscopedAs, AttachedAs, Nested, SegmentsAs}
use Rattle.itanium_grammar.specs.Grammar.{Args, ArgumentListAs, ArgumentAs, TypeOf, TypeAs, CvAs, Function, ParamsAs}
use Rattle.itanium_grammar.specs.Grammar.{TypeListAs, TypeAttachedAs, abbreviation_substitution}
use Rattle.itanium_grammar.specs.Grammar.{component_substitution, auto_parameter, scope_parameter}
use Rattle.itanium_grammar.specs.Grammar.{template_param, no_tag, next_tag, ordinary_source, ordinary_unnamed_type, ordinary_lambda}
use Rattle.itanium_grammar.specs.Grammar.{ordinary_conversion, ordinary_literal_operator, ordinary_operator, OrdinaryAs}
use Rattle.itanium_grammar.specs.Grammar.{ordinary_unqualified, nothing, constructor_unqualified, destructor_unqualified}
use Rattle.itanium_grammar.specs.Grammar.{unqualified, template_param_first, std_first, substitution_first, name_first, name}
use Rattle.itanium_grammar.specs.Grammar.{nested_name, local_name, local, string_literal_entity}
use Rattle.itanium_grammar.specs.Grammar.{default_argument_entity, name_entity, full_encoding, no_return_type}
use Rattle.itanium_grammar.specs.Grammar.{some_return_type, no_encoding_params, some_encoding_params, unscoped_name, std_name}
use Rattle.itanium_grammar.specs.Grammar.{substitution_name, plain_name, none_attached, args_attached, nested}
use Rattle.itanium_grammar.specs.Grammar.{end_of_segments, args_segment, name_segment, args, end_of_arguments}
use Rattle.itanium_grammar.specs.Grammar.{one_more_argument, pack_argument, type_argument, Pack, PackedAs, pack}
use Rattle.itanium_grammar.specs.Grammar.{end_of_pack, one_more_packed, expansion_type, type, builtin_type, vendor_type}
use Rattle.itanium_grammar.specs.Grammar.{array_type, function_type, pointer_to_member_type, pointer_type, cv_type}
use Rattle.itanium_grammar.specs.Grammar.{elaborated_type, template_param_type, substitution_type, name_type, cv_function}
use Rattle.itanium_grammar.specs.Grammar.{cv_other, function, no_params, some_params, end_of_types, one_more_type}
use Rattle.itanium_grammar.specs.Grammar.{none_attached_to_type, args_attached_to_type, name_encoding}

-- two readings have the same tree, the same position after them and the same cost
pub record Same {T : Type 0} (t u : T) (q r : Position) (c d : Cost) : Type 0 where
  pub tree : t ≡ u
  pub next : q ≡ r
  pub cost : c ≡ d

-- the same reading, from equal parts
along : {A B : Type 0} (P : A → B → Type 0) {a c : A} {b d : B} → a ≡ c → b ≡ d → P a b → P c d
along P {a} {c} {b} {d} e f h = subst (λ x. P x d) e (subst (P a) f h)

-- a tree that is saved after it was read
same_saved : {t u : Tree} {q r : Position} {c d : Cost} → Same t u q r c d → Same t u (save t q) (save u r) (both c (saving q)) (both d (saving r))
same_saved same = record {
  tree = same.tree;
  next = ap₂ save same.tree same.next;
  cost = ap₂ both same.cost (ap saving same.next);
}

-- a tree that is made of the one that was read
same_made : {t u : Tree} {q r : Position} {c d : Cost} (f : Tree → Tree) → Same t u q r c d → Same (f t) (f u) q r c d
same_made f same = record { tree = ap f same.tree; next = same.next; cost = same.cost }

-- what is made of a part that was read
same_from : {A B : Type 0} {a b : A} {q r : Position} {c d : Cost} (f : A → B) → Same a b q r c d → Same (f a) (f b) q r c d
same_from f same = record { tree = ap f same.tree; next = same.next; cost = same.cost }

-- a tree whose E is gone past
same_skipped : {t u : Tree} {q r : Position} {c d : Cost} → Same t u q r c d → Same t u (skip 1 q) (skip 1 r) c d
same_skipped same = record { tree = same.tree; next = ap (skip 1) same.next; cost = same.cost }

-- a counted production around what was read
pub same_counted : {t u : Tree} {q r : Position} {c d : Cost} (text : Tree → List ℕ) → Same t u q r c d → Same t u q r (counted (length (text t)) c) (counted (length (text u)) d)
same_counted text same = record {
  tree = same.tree;
  next = same.next;
  cost = ap₂ counted (ap (λ t. length (text t)) same.tree) same.cost;
}

one_substitution_as : {case : SubstitutionCase} {p q r : Position} {t u : Tree} → SubstitutionAs case p t q → SubstitutionAs case p u r
    → (t ≡ u) × (q ≡ r)
one_substitution_as (abbreviation_substitution e) (abbreviation_substitution g) = (ap abbreviation (same_Some _ _ (sym e ∙ g)), refl)
one_substitution_as (component_substitution e f) (component_substitution g h) = let found = some_pair_parts _ _ _ _ (sym e ∙ g) in (cc, cc)

one_parameter_as : {lambda : Bool} {i : ℕ} {p : Position} {t u : Tree} → ArgumentNamed lambda i p t → ArgumentNamed lambda i p u → t ≡ u
one_parameter_as auto_parameter auto_parameter = refl
one_parameter_as (scope_parameter e) (scope_parameter g) = same_Some _ _ (sym e ∙ g)

pub one_template_param : {x : Context} {p q r : Position} {t u : Tree} → TemplateParam x p t q → TemplateParam x p u r → (t ≡ u) × (q ≡ r)
one_template_param (template_param {x = x} {p = p} e a) (template_param {t = u} g b) =
    let found = some_pair_parts _ _ _ _ (sym g ∙ e) in
    (one_parameter_as a (subst (λ k. ArgumentNamed x.lambda k p u) found.0 b), ap (λ v. with_rest v p) (sym found.1))

one_tagged : {case : TagCase} {t u v : Tree} {p q r : Position} → TaggedAs case t p u q → TaggedAs case t p v r → (u ≡ v) × (q ≡ r)
one_tagged no_tag no_tag = (refl, refl)
one_tagged (next_tag {p = p} {t = t} e a) (next_tag {q = r} {u = u} g b) =
    let found = some_pair_parts _ _ _ _ (sym g ∙ e) in
    one_tagged a (along (λ s v. TaggedAs (tag_case v) (tagged_with t (source_text s)) (with_rest v p) u r) found.0 found.1 b)

-- a text with a front of the bytes taken, and nothing read inside
same_text : {A : Type 0} (f : A → List ℕ) (p : Position) {a b : A} {v w : List ℕ} → (a ≡ b) × (v ≡ w) → Same (plain_text (f a)) (plain_text (f b)) (with_rest v p) (with_rest w p) nothing nothing
same_text f p same = record { tree = ap (λ a. plain_text (f a)) same.0; next = ap (λ v. with_rest v p) same.1; cost = refl }

mutual
  pub one_name : {bare : Bool} {x : Context} {p q r : Position} {t u : Tree} {c d : Cost} → Name bare x p t q c → Name bare x p u r d → Same t u q r c d
  one_name (name {bare = bare} a) (name b) = same_counted (name_printing bare) (one_name_as a b)

  one_name_as : {case : NameCase} {bare : Bool} {x : Context} {p q r : Position} {t u : Tree} {c d : Cost} → NameAs case bare x p t q c → NameAs case bare x p u r d
      → Same t u q r c d
  one_name_as (nested_name a) (nested_name b) = one_nested a b
  one_name_as (local_name a) (local_name b) = one_local a b
  one_name_as (unscoped_name a) (unscoped_name b) = one_unscoped a b

  one_local : {bare : Bool} {x : Context} {p q r : Position} {t u : Tree} {c d : Cost} → Local bare x p t q c → Local bare x p u r d → Same t u q r c d
  one_local (local {bare = bare} {x = x} a b) (local {r = r} {u = v} {d = d} f h) =
      let first = one_encoding_as a f in
      let same = one_entity b (along (λ s o. EntityAs (entity_case o.rest) bare (showing_words x) s o v r d) (sym first.tree) (sym first.next) h) in
      record { tree = same.tree; next = same.next; cost = ap₂ both first.cost same.cost }

  one_entity : {case : EntityCase} {bare : Bool} {x : Context} {t u v : Tree} {p q r : Position} {c d : Cost}
      → EntityAs case bare x t p u q c → EntityAs case bare x t p v r d → Same u v q r c d
  one_entity string_literal_entity string_literal_entity = record { tree = refl; next = refl; cost = refl }
  one_entity (default_argument_entity {bare = bare} {x = x} {p = p} {t = t} e a) (default_argument_entity {q = r} {u = v} {c = d} g b) =
      let found = some_pair_parts _ _ _ _ (sym g ∙ e) in
      let same = one_name a (subst (λ o. Name bare x (with_rest o p) v r d) found.1 b) in
      record { tree = ap₂ (default_argument_of t) (sym found.0) same.tree; next = same.next; cost = same.cost }
  one_entity (name_entity {t = t} a) (name_entity b) = same_made (local_in t) (one_name a b)

  pub one_encoding_as : {case : EncodingCase} {x : Context} {p q r : Position} {t u : Tree} {c d : Cost} → EncodingAs case x p t q c → EncodingAs case x p u r d
      → Same t u q r c d
  one_encoding_as (special_encoding a) (special_encoding b) = one_special a b
  one_encoding_as (name_encoding a) (name_encoding b) = one_name a b
  one_encoding_as (full_encoding {x = x} a b g) (full_encoding {r = r} {s = s} {u = u} {d = d} {e = e} f h k) =
      let first = one_name a f in
      let mid = one_return b (along (λ t o. ReturnAs (return_case (shape_of t).templ (shape_of t).ctor o.rest) x o r d) (sym first.tree) (sym first.next) h) in
      let same = one_encoding_params g (along (λ t o. EncodingParamsAs (encoding_params_case o.rest) x t o u s e) (sym first.tree) (sym mid.0) k) in
      record { tree = same.tree; next = same.next; cost = ap₂ both first.cost (ap₂ both mid.1 same.cost) }

  pub one_special : {case : SpecialCase} {x : Context} {p q r : Position} {t u : Tree} {c d : Cost}
      → SpecialAs case x p t q c → SpecialAs case x p u r d → Same t u q r c d
  one_special (type_special {p = p} a) (type_special b) = same_made (λ t. worded (special_text p.rest) t (special_close p.rest)) (one_type a b)
  one_special (name_special {p = p} a) (name_special b) = same_made (λ t. worded (special_text p.rest) t (special_close p.rest)) (one_name a b)
  one_special (temporary_special a e) (temporary_special b g) =
      let same = one_name a b in
      let found = some_pair_parts _ _ _ _ (sym e ∙ ap (λ o. index_of Base36 o.rest) same.next ∙ g) in
      record { tree = ap₂ temporary_of found.0 same.tree; next = ap₂ with_rest found.1 same.next; cost = same.cost }
  one_special (construction_special {x = x} a e b) (construction_special {r = r} {u = v} {d = d} f g h) =
      let first = one_type a f in
      let left = same_Some _ _ (sym e ∙ ap (λ o. past_base_offset o.rest) first.next ∙ g) in
      let same = one_type b (subst (λ o. TypeOf x o v r d) (sym (ap₂ with_rest left first.next)) h) in
      record { tree = ap₂ construction_of same.tree first.tree; next = same.next; cost = ap₂ both first.cost same.cost }
  one_special (thunk_special a) (thunk_special b) = one_thunk a b

  pub one_thunk : {x : Context} {p q r : Position} {t u : Tree} {c d : Cost} → Thunk x p t q c → Thunk x p u r d → Same t u q r c d
  one_thunk (thunk {x = x} {p = p} e a) (thunk {q = r} {t = u} {c = d} g b) =
      let found = some_pair_parts _ _ _ _ (sym g ∙ e) in
      let same = one_encoding_as a (subst (λ v. EncodingAs (encoding_case AfterName v) x (with_rest v p) u r d) found.1 b) in
      same_counted printing (record { tree = ap₂ thunk_of (sym found.0) same.tree; next = same.next; cost = same.cost })

  one_return : {case : ReturnCase} {x : Context} {p q r : Position} {c d : Cost} → ReturnAs case x p q c → ReturnAs case x p r d → (q ≡ r) × (c ≡ d)
  one_return no_return_type no_return_type = (refl, refl)
  one_return (some_return_type a) (some_return_type b) = let same = one_type a b in (same.next, same.cost)

  one_encoding_params : {case : EncodingParamsCase} {x : Context} {t u v : Tree} {p q r : Position} {c d : Cost}
      → EncodingParamsAs case x t p u q c → EncodingParamsAs case x t p v r d → Same u v q r c d
  one_encoding_params no_encoding_params no_encoding_params = record { tree = refl; next = refl; cost = refl }
  one_encoding_params (some_encoding_params {t = t} a) (some_encoding_params b) =
      let same = one_params a b in record { tree = ap (λ ts. function_encoding t (trees ts)) same.tree; next = same.next; cost = same.cost }

  one_unscoped : {case : UnscopedCase} {x : Context} {p q r : Position} {t u : Tree} {c d : Cost}
      → UnscopedAs case x p t q c → UnscopedAs case x p u r d → Same t u q r c d
  one_unscoped (std_name {x = x} a b) (std_name {r = r} {u = v} {d = d} f h) =
      let first = one_unqualified a f in
      let same = one_attached b (along (λ s o. AttachedAs (attached_case o.rest) x s o v r d) (sym first.tree) (sym first.next) h) in
      record { tree = same.tree; next = same.next; cost = ap₂ both first.cost same.cost }
  one_unscoped (substitution_name {x = x} a e b) (substitution_name {r = r} {ts = us} {c = d} f g h) =
      let first = one_substitution_as a f in
      let same = one_args b (subst (λ o. Args true x o us r d) (sym first.1) h) in
      record { tree = ap₂ (λ n ts. with_args n (trees ts)) first.0 same.tree; next = same.next; cost = same.cost }
  one_unscoped (plain_name {x = x} a b) (plain_name {r = r} {u = v} {d = d} f h) =
      let first = one_unqualified a f in
      let same = one_attached b (along (λ s o. AttachedAs (attached_case o.rest) x s o v r d) (sym first.tree) (sym first.next) h) in
      record { tree = same.tree; next = same.next; cost = ap₂ both first.cost same.cost }

  one_attached : {case : AttachedCase} {x : Context} {t u v : Tree} {p q r : Position} {c d : Cost}
      → AttachedAs case x t p u q c → AttachedAs case x t p v r d → Same u v q r c d
  one_attached none_attached none_attached = record { tree = refl; next = refl; cost = refl }
  one_attached (args_attached {p = p} {t = t} a) (args_attached b) =
      let same = one_args a b in
      record { tree = ap (λ ts. with_args t (trees ts)) same.tree; next = same.next; cost = ap (both (saving p)) same.cost }

  one_ordinary : {case : OrdinaryCase} {x : Context} {p q r : Position} {t u : Tree} {c d : Cost} → OrdinaryAs case x p t q c → OrdinaryAs case x p u r d → Same t u q r c d
  one_ordinary (ordinary_source {p = p} e) (ordinary_source g) = same_text source_text p (some_pair_parts _ _ _ _ (sym e ∙ g))
  one_ordinary (ordinary_unnamed_type {p = p} e) (ordinary_unnamed_type g) = same_text unnamed_text p (some_pair_parts _ _ _ _ (sym e ∙ g))
  one_ordinary (ordinary_lambda a e) (ordinary_lambda b g) =
      let params = one_params a b in
      let found = some_pair_parts _ _ _ _ (sym e ∙ ap (λ o. ordinal (drop 1 o.rest)) params.next ∙ g) in
      record {
        tree = λ j. lambda_of (trees (params.tree j)) (found.0 j);
        next = λ j. with_rest (found.1 j) (params.next j);
        cost = params.cost;
      }
  one_ordinary (ordinary_conversion a) (ordinary_conversion b) = same_made conversion_to (one_type a b)
  one_ordinary (ordinary_literal_operator {p = p} e) (ordinary_literal_operator g) = same_text literal_operator_text p (some_pair_parts _ _ _ _ (sym e ∙ g))
  one_ordinary (ordinary_operator e) (ordinary_operator g) =
      record { tree = ap (λ s. plain_text (codes "operator" ++ s)) (same_Some _ _ (sym e ∙ g)); next = refl; cost = refl }

  one_unqualified_as : {case : UnqualifiedCase} {x : Context} {parent : Option Tree} {p q r : Position} {t u : Tree} {c d : Cost}
      → UnqualifiedAs case x parent p t q c → UnqualifiedAs case x parent p u r d → Same t u q r c d
  one_unqualified_as (constructor_unqualified a) (constructor_unqualified b) =
      let same = one_tagged a b in record { tree = same.0; next = same.1; cost = refl }
  one_unqualified_as (destructor_unqualified a) (destructor_unqualified b) =
      let same = one_tagged a b in record { tree = same.0; next = same.1; cost = refl }
  one_unqualified_as (ordinary_unqualified {parent = parent} a tags) (ordinary_unqualified {r = r} {u = u} b others) =
      let first = one_ordinary a b in
      let same = one_tagged tags (along (λ s o. TaggedAs (tag_case o.rest) s o u r) (sym first.tree) (sym first.next) others) in
      record { tree = ap (in_parent parent) same.0; next = same.1; cost = first.cost }

  pub one_unqualified : {x : Context} {parent : Option Tree} {p q r : Position} {t u : Tree} {c d : Cost}
      → Unqualified x parent p t q c → Unqualified x parent p u r d → Same t u q r c d
  one_unqualified (unqualified a) (unqualified b) = one_unqualified_as a b

  one_first : {case : FirstSegmentCase} {x : Context} {p q r : Position} {t u : Tree} {c d : Cost} → FirstAs case x p t q c → FirstAs case x p u r d
      → Same t u q r c d
  one_first (template_param_first a) (template_param_first b) =
      let same = one_template_param a b in record { tree = same.0; next = ap₂ save same.0 same.1; cost = ap saving same.1 }
  one_first std_first std_first = record { tree = refl; next = refl; cost = refl }
  one_first (substitution_first a) (substitution_first b) = let same = one_substitution_as a b in record { tree = same.0; next = same.1; cost = refl }
  one_first (name_first a) (name_first b) = same_saved (one_unqualified a b)

  one_nested : {x : Context} {p q r : Position} {t u : Tree} {c d : Cost} → Nested x p t q c → Nested x p u r d → Same t u q r c d
  one_nested (nested {x = x} {p = p} a b) (nested {r = r} {u = v} {d = d} g h) =
      let first = one_first a g in
      let candidate = first_segment_is_candidate (first_segment_case (past_name_quals p.rest)) in
      let same = one_segment_as b (along (λ s o. SegmentsAs (segment_case o.rest) candidate x s o v r d) (sym first.tree) (ap past_initializer (sym first.next)) h) in
      record { tree = ap (λ n. nested_of n (name_quals p.rest) x.words_shown) same.tree; next = same.next; cost = ap₂ both first.cost same.cost }

  one_segment_as : {case : SegmentCase} {x : Context} {candidate : Bool} {s t u : Tree} {p q r : Position} {c d : Cost}
      → SegmentsAs case candidate x s p t q c → SegmentsAs case candidate x s p u r d → Same t u q r c d
  one_segment_as end_of_segments end_of_segments = record { tree = refl; next = refl; cost = refl }
  one_segment_as (args_segment {x = x} {t = t} a b) (args_segment {r = r} {v = v} {d = d} e f) =
      let list = one_args a e in
      let whole = ap (λ ts. with_args t (trees ts)) list.tree in
      let next = ap past_initializer (ap₂ save (sym whole) (sym list.next)) in
      let same = one_segment_as b (along (λ s o. SegmentsAs (segment_case o.rest) true x s o v r d) (sym whole) next f) in
      record { tree = same.tree; next = same.next; cost = ap₂ both list.cost (ap₂ both (ap saving list.next) same.cost) }
  one_segment_as (name_segment {x = x} a b) (name_segment {r = r} {v = v} {d = d} e f) =
      let first = one_unqualified a e in
      let next = ap past_initializer (ap₂ save (sym first.tree) (sym first.next)) in
      let same = one_segment_as b (along (λ s o. SegmentsAs (segment_case o.rest) true x s o v r d) (sym first.tree) next f) in
      record { tree = same.tree; next = same.next; cost = ap₂ both first.cost (ap₂ both (ap saving first.next) same.cost) }

  pub one_args : {x : Context} {of_name : Bool} {p q r : Position} {ts us : List Tree} {c d : Cost}
      → Args of_name x p ts q c → Args of_name x p us r d → Same ts us q r c d
  one_args (args a) (args b) =
      let same = one_arguments a b in
      record { tree = same.tree; next = same.next; cost = ap₂ counted (ap (λ ts. length (list_printing ts)) same.tree) same.cost }

  one_arguments : {case : ArgumentListCase} {x : Context} {outer : List (List Tree)} {own : Option (List Tree)} {p q r : Position} {ts us : List Tree} {c d : Cost}
      → ArgumentListAs case x outer own p ts q c → ArgumentListAs case x outer own p us r d → Same ts us q r c d
  one_arguments end_of_arguments end_of_arguments = record { tree = refl; next = refl; cost = refl }
  one_arguments (one_more_argument {x = x} {outer = outer} {own = own} a b) (one_more_argument {r = r} {ts = us} {d = d} g h) =
      let first = one_argument a g in
      let same = one_arguments b (along (λ t o. ArgumentListAs (argument_list_case o.rest) x outer (option_map (λ args. args ++ t ∷ []) own) o us r d) (sym first.tree) (sym first.next) h) in
      record { tree = ap₂ (λ t ts. t ∷ ts) first.tree same.tree; next = same.next; cost = ap₂ both first.cost same.cost }

  pub one_argument : {case : ArgumentCase} {x : Context} {p q r : Position} {t u : Tree} {c d : Cost}
      → ArgumentAs case x p t q c → ArgumentAs case x p u r d → Same t u q r c d
  one_argument (expression_argument a end) (expression_argument b other) = same_skipped (one_expression a b)
  one_argument (pack_argument a) (pack_argument b) = one_pack a b
  one_argument (primary_argument a) (primary_argument b) = one_literal a b
  one_argument (type_argument a) (type_argument b) = one_type a b

  pub one_literal : {case : PrimaryCase} {x : Context} {p q r : Position} {t u : Tree} {c d : Cost}
      → PrimaryAs case x p t q c → PrimaryAs case x p u r d → Same t u q r c d
  one_literal (external_name a end) (external_name b other) = same_skipped (one_encoding_as a b)
  one_literal (value_literal a e has) (value_literal b g also) =
      let same = one_type a b in
      let found = some_pair_parts _ _ _ _ (sym e ∙ ap (λ o. literal_value o.rest) same.next ∙ g) in
      record { tree = ap₂ literal_of same.tree found.0; next = ap₂ with_rest found.1 same.next; cost = same.cost }

  pub one_expression : {x : Context} {p q r : Position} {t u : Tree} {c d : Cost} → Expression x p t q c → Expression x p u r d → Same t u q r c d
  one_expression (expression a) (expression b) = same_counted printing (one_expression_as a b)

  one_operand : {x : Context} {p q r : Position} {o m : Operand} {c d : Cost} → OperandOf x p o q c → OperandOf x p m r d → Same o m q r c d
  one_operand (operand_of {p = p} a) (operand_of b) = same_from (operand (is_external p.rest)) (one_expression a b)

  one_expression_as : {case : ExpressionCase} {x : Context} {p q r : Position} {t u : Tree} {c d : Cost}
      → ExpressionAs case x p t q c → ExpressionAs case x p u r d → Same t u q r c d
  one_expression_as (pre_expression {p = p} a) (pre_expression b) = same_made (pre_of (expression_text p.rest)) (one_expression a b)
  one_expression_as (address_expression a) (address_expression b) = same_made address_of (one_expression a b)
  one_expression_as (unary_expression {p = p} a) (unary_expression b) = same_from (unary_of (expression_text p.rest)) (one_operand a b)
  one_expression_as (post_expression {p = p} a) (post_expression b) = same_from (λ o. post_of o (expression_text p.rest)) (one_operand a b)
  one_expression_as (binary_expression {x = x} {p = p} a b) (binary_expression {r = r} {m = n} {d = d} f h) =
      let first = one_operand a f in
      let same = one_operand b (subst (λ o. OperandOf x o n r d) (sym first.next) h) in
      record { tree = ap₂ (λ o m. binary_of o (expression_text p.rest) m) first.tree same.tree; next = same.next; cost = ap₂ both first.cost same.cost }
  one_expression_as (greater_expression {x = x} a b) (greater_expression {r = r} {u = v} {d = d} f h) =
      let first = one_expression a f in
      let same = one_expression b (subst (λ o. Expression x o v r d) (sym first.next) h) in
      record { tree = ap₂ greater_of first.tree same.tree; next = same.next; cost = ap₂ both first.cost same.cost }
  one_expression_as (conditional_expression {x = x} a b g) (conditional_expression {r = r} {s = s} {m = v} {n = w} {d = d} {e = e} f h k) =
      let first = one_operand a f in
      let mid = one_operand b (subst (λ o. OperandOf x o v r d) (sym first.next) h) in
      let same = one_operand g (subst (λ o. OperandOf x o w s e) (sym mid.next) k) in
      record {
        tree = λ j. conditional_of (first.tree j) (mid.tree j) (same.tree j);
        next = same.next;
        cost = ap₂ both first.cost (ap₂ both mid.cost same.cost);
      }
  one_expression_as (template_param_expression a) (template_param_expression b) = let same = one_template_param a b in record { tree = same.0; next = same.1; cost = refl }
  one_expression_as (primary_expression a) (primary_expression b) = one_literal a b

  pub one_pack : {x : Context} {p q r : Position} {t u : Tree} {c d : Cost} → Pack x p t q c → Pack x p u r d → Same t u q r c d
  one_pack (pack a) (pack b) =
      let same = one_packed a b in
      same_counted printing (record { tree = ap (λ ts. pack_of (trees ts)) same.tree; next = same.next; cost = same.cost })

  one_packed : {case : ArgumentListCase} {x : Context} {p q r : Position} {ts us : List Tree} {c d : Cost}
      → PackedAs case x p ts q c → PackedAs case x p us r d → Same ts us q r c d
  one_packed end_of_pack end_of_pack = record { tree = refl; next = refl; cost = refl }
  one_packed (one_more_packed {x = x} a b) (one_more_packed {r = r} {ts = us} {d = d} g h) =
      let first = one_argument a g in
      let same = one_packed b (subst (λ v. PackedAs (argument_list_case v.rest) x v us r d) (sym first.next) h) in
      record { tree = ap₂ (λ t ts. t ∷ ts) first.tree same.tree; next = same.next; cost = ap₂ both first.cost same.cost }

  pub one_type : {x : Context} {p q r : Position} {t u : Tree} {c d : Cost} → TypeOf x p t q c → TypeOf x p u r d → Same t u q r c d
  one_type (type a) (type b) = same_counted printing (one_type_as a b)

  one_type_as : {case : TypeCase} {x : Context} {p q r : Position} {t u : Tree} {c d : Cost} → TypeAs case x p t q c → TypeAs case x p u r d
      → Same t u q r c d
  one_type_as builtin_type builtin_type = record { tree = refl; next = refl; cost = refl }
  one_type_as (expansion_type {x = x} a) (expansion_type b) = same_saved (same_made (expanded x.dots_hidden) (one_type a b))
  one_type_as (vendor_type {p = p} e f) (vendor_type g h) =
      let found = some_pair_parts _ _ _ _ (sym e ∙ g) in
      let source = ap (λ v. plain_text (source_text v)) found.0 in
      record { tree = source; next = ap₂ save source (ap (λ v. with_rest v p) found.1); cost = refl }
  one_type_as (array_type {x = x} {p = p} e a there) (array_type {q = r} {t = u} {c = d} g b here) =
      let found = some_pair_parts _ _ _ _ (sym g ∙ e) in
      let same = one_type a (subst (λ v. TypeOf x (with_rest v p) u r d) found.1 b) in
      same_saved (record { tree = ap₂ array_of (sym found.0) same.tree; next = same.next; cost = same.cost })
  one_type_as (function_type a) (function_type b) = same_saved (one_function a b)
  one_type_as (pointer_to_member_type {x = x} a b there) (pointer_to_member_type {r = r} {u = v} {d = d} e f here) =
      let class = one_type a e in
      let inner = one_type b (subst (λ o. TypeOf x o v r d) (sym class.next) f) in
      let whole = ap₂ member_of class.tree inner.tree in
      record {
        tree = whole;
        next = ap₂ save whole inner.next;
        cost = ap₂ both class.cost (ap₂ both inner.cost (ap saving inner.next));
      }
  one_type_as (pointer_type {kind = kind} a) (pointer_type b) = same_saved (same_made (pointer_to kind) (one_type a b))
  one_type_as (cv_type a) (cv_type b) = same_saved (one_cv a b)
  one_type_as (elaborated_type {p = p} a) (elaborated_type b) = same_saved (same_made (elaborated (elaborated_text p.rest)) (one_name a b))
  one_type_as (template_param_type {x = x} a b) (template_param_type {r = r} {u = v} {c = d} f h) =
      let found = one_template_param a f in
      let same = one_type_attached b (along (λ s o. TypeAttachedAs (attached_case o.rest) x s (save s o) v r d) (sym found.0) (sym found.1) h) in
      record { tree = same.tree; next = same.next; cost = ap₂ both (ap saving found.1) same.cost }
  one_type_as (substitution_type {x = x} a b) (substitution_type {r = r} {u = v} {c = d} f h) =
      let found = one_substitution_as a f in
      one_type_attached b (along (λ s o. TypeAttachedAs (attached_case o.rest) x s o v r d) (sym found.0) (sym found.1) h)
  one_type_as (name_type a) (name_type b) = same_saved (one_name a b)

  one_cv : {case : CvCase} {x : Context} {quals : Quals} {p q r : Position} {t u : Tree} {c d : Cost}
      → CvAs case x quals p t q c → CvAs case x quals p u r d → Same t u q r c d
  one_cv (cv_function a) (cv_function b) = one_function a b
  one_cv (cv_other {quals = quals} a) (cv_other b) = same_made (cv_of quals) (one_type a b)

  one_function : {x : Context} {quals : Quals} {p q r : Position} {t u : Tree} {c d : Cost}
      → Function x quals p t q c → Function x quals p u r d → Same t u q r c d
  one_function (function {x = x} {quals = quals} plain a b there) (function {r = r} {ts = us} {d = d} other f h here) =
      let ret = one_type a f in
      let params = one_params b (subst (λ o. ParamsAs (params_case o.rest) true x o us r d) (sym ret.next) h) in
      let quals_same = ap (λ o. with_reference quals o.rest) params.next in
      record {
        tree = λ j. function_to (ret.tree j) (trees (params.tree j)) (quals_same j);
        next = ap (λ o. skip 1 (with_rest (past_reference o.rest) o)) params.next;
        cost = ap₂ both ret.cost params.cost;
      }

  one_params : {case : ParamsCase} {in_function_type : Bool} {x : Context} {p q r : Position} {ts us : List Tree} {c d : Cost}
      → ParamsAs case in_function_type x p ts q c → ParamsAs case in_function_type x p us r d → Same ts us q r c d
  one_params no_params no_params = record { tree = refl; next = refl; cost = refl }
  one_params (some_params a) (some_params b) = one_types a b

  one_types : {case : TypeListCase} {in_function_type : Bool} {x : Context} {p q r : Position} {ts us : List Tree} {c d : Cost}
      → TypeListAs case in_function_type x p ts q c → TypeListAs case in_function_type x p us r d → Same ts us q r c d
  one_types end_of_types end_of_types = record { tree = refl; next = refl; cost = refl }
  one_types (one_more_type {in_function_type = f} {x = x} a b) (one_more_type {r = r} {ts = us} {d = d} e g) =
      let first = one_type a e in
      let others = one_types b (subst (λ o. TypeListAs (type_list_case f o.rest) f x o us r d) (sym first.next) g) in
      record { tree = ap₂ (λ t ts. t ∷ ts) first.tree others.tree; next = others.next; cost = ap₂ both first.cost others.cost }

  one_type_attached : {case : AttachedCase} {x : Context} {t u v : Tree} {p q r : Position} {c d : Cost}
      → TypeAttachedAs case x t p u q c → TypeAttachedAs case x t p v r d → Same u v q r c d
  one_type_attached none_attached_to_type none_attached_to_type = record { tree = refl; next = refl; cost = refl }
  one_type_attached (args_attached_to_type {t = t} a) (args_attached_to_type b) =
      let same = one_args a b in
      same_saved (record { tree = ap (λ ts. with_args t (trees ts)) same.tree; next = same.next; cost = same.cost })
