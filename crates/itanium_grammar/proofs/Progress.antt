-- Each reading takes a front of the bytes, of one byte at least.
use Rattle.std.proofs.Common.{◌≡◌, Bool, List, Option, drop, refl, arith, is_some}
use Rattle.demangle_quals.specs.declared.quals.Quals.{Quals}
use Rattle.itanium_syntax.specs.declared.context.Context.{Context}
use Rattle.abi_scalars.specs.declared.numerals.Radix.TheVariants.{Decimal, Base36}
use Rattle.itanium_grammar.specs.Cases.{EncodingCase, SpecialCase, PrimaryCase, ExpressionCase, NameCase, ReturnCase}
use Rattle.itanium_grammar.specs.Cases.{EncodingParamsCase, EntityCase, UnscopedCase, AttachedCase, FirstSegmentCase, SegmentCase}
use Rattle.itanium_grammar.specs.Cases.{UnqualifiedCase, OrdinaryCase, TagCase, SubstitutionCase, ArgumentListCase, ArgumentCase}
use Rattle.itanium_grammar.specs.Cases.{TypeCase, CvCase, ParamsCase, TypeListCase}
use Rattle.itanium_syntax.specs.Names.{first_segment_case, segment_case, unqualified_case}
use Rattle.itanium_syntax.specs.Args.{argument_list_case}
use Rattle.itanium_syntax.specs.Types.{type_case, past_reference}
use Rattle.itanium_syntax.proofs.Fronts.{IsAfter, Takes, after_none, after_drop, after_then, takes_then, after_takes}
use Rattle.itanium_syntax.proofs.Fronts.{takes_takes, takes_drop, internal_after, initializer_after, cv_after}
use Rattle.itanium_syntax.proofs.Fronts.{quals_after, reference_after, builtin_after, builtin_shorter}
use Rattle.itanium_syntax.proofs.Fronts.{abbreviation_takes, index_takes, source_takes, optional_number_takes}
use Rattle.itanium_syntax.proofs.Fronts.{constructor_some, destructor_some, std_shorter, segments_end_shorter}
use Rattle.itanium_syntax.proofs.Fronts.{arguments_end_shorter, ordinal_takes, operator_takes, literal_value_takes}
use Rattle.itanium_syntax.proofs.Fronts.{thunk_offsets_after, base_offset_takes}
use Rattle.itanium_grammar.specs.Tree.{Tree, Operand}
use Rattle.itanium_grammar.specs.Grammar.{Position, Cost, SpecialAs, Thunk, special_encoding, type_special}
use Rattle.itanium_grammar.specs.Grammar.{name_special, temporary_special, construction_special, thunk_special, thunk}
use Rattle.itanium_grammar.specs.Grammar.{Expression, ExpressionAs, OperandOf, PrimaryAs}
use Rattle.itanium_grammar.specs.Grammar.{expression_argument, primary_argument, external_name, value_literal}
use Rattle.itanium_grammar.specs.Grammar.{expression, operand_of, pre_expression, address_expression, unary_expression}
use Rattle.itanium_grammar.specs.Grammar.{post_expression, binary_expression, greater_expression}
use Rattle.itanium_grammar.specs.Grammar.{conditional_expression, template_param_expression, primary_expression}
use Rattle.itanium_grammar.specs.Grammar.{SubstitutionAs, Substitution, TemplateParam, TaggedAs, UnqualifiedAs, Unqualified}
use Rattle.itanium_grammar.specs.Grammar.{FirstAs, Name, NameAs, Local, EntityAs, EncodingAs, ReturnAs}
use Rattle.itanium_grammar.specs.Grammar.{EncodingParamsAs, UnscopedAs, AttachedAs, Nested, SegmentsAs, Args}
use Rattle.itanium_grammar.specs.Grammar.{ArgumentListAs, ArgumentAs, TypeOf, TypeAs, CvAs, Function, ParamsAs, TypeListAs}
use Rattle.itanium_grammar.specs.Grammar.{TypeAttachedAs, abbreviation_substitution}
use Rattle.itanium_grammar.specs.Grammar.{component_substitution, template_param, no_tag, next_tag}
use Rattle.itanium_grammar.specs.Grammar.{ordinary_source, ordinary_unnamed_type, ordinary_lambda, ordinary_conversion}
use Rattle.itanium_grammar.specs.Grammar.{ordinary_literal_operator, ordinary_operator, OrdinaryAs, ordinary_unqualified}
use Rattle.itanium_grammar.specs.Grammar.{constructor_unqualified, destructor_unqualified, unqualified, template_param_first}
use Rattle.itanium_grammar.specs.Grammar.{std_first, substitution_first, name_first, name, nested_name, local_name}
use Rattle.itanium_grammar.specs.Grammar.{local, string_literal_entity, default_argument_entity, name_entity}
use Rattle.itanium_grammar.specs.Grammar.{full_encoding, no_return_type, some_return_type, no_encoding_params, some_encoding_params}
use Rattle.itanium_grammar.specs.Grammar.{unscoped_name, std_name, substitution_name, plain_name, none_attached}
use Rattle.itanium_grammar.specs.Grammar.{args_attached, nested, end_of_segments, args_segment, name_segment}
use Rattle.itanium_grammar.specs.Grammar.{args, end_of_arguments, one_more_argument, pack_argument, type_argument, Pack}
use Rattle.itanium_grammar.specs.Grammar.{PackedAs, pack, end_of_pack, one_more_packed, expansion_type, type}
use Rattle.itanium_grammar.specs.Grammar.{builtin_type, vendor_type, array_type, function_type, pointer_to_member_type}
use Rattle.itanium_grammar.specs.Grammar.{pointer_type, cv_type, elaborated_type, template_param_type, substitution_type}
use Rattle.itanium_grammar.specs.Grammar.{name_type, cv_function, cv_other, function, no_params, some_params}
use Rattle.itanium_grammar.specs.Grammar.{end_of_types, one_more_type, none_attached_to_type, args_attached_to_type}
use Rattle.itanium_grammar.specs.Grammar.{name_encoding}

substitution_as_takes : {case : SubstitutionCase} {p q : Position} {t : Tree} → SubstitutionAs case p t q → Takes q.rest p.rest
substitution_as_takes (abbreviation_substitution {p = p} known) = abbreviation_takes p.rest _ known
substitution_as_takes (component_substitution {p = p} {i = i} {rest = r} found there) = index_takes Base36 p.rest (i, r) found

pub substitution_takes : (p : Position) {q : Position} {t : Tree} → Substitution p t q → Takes q.rest p.rest
substitution_takes p a = after_takes (after_drop 1 p.rest) (substitution_as_takes a)

pub template_param_takes : {x : Context} {p q : Position} {t : Tree} → TemplateParam x p t q → Takes q.rest p.rest
template_param_takes (template_param {p = p} {i = i} {rest = r} found there) = after_takes (after_drop 1 p.rest) (index_takes Decimal (drop 1 p.rest) (i, r) found)

pub tagged_after : {case : TagCase} {t u : Tree} {p q : Position} → TaggedAs case t p u q → IsAfter q.rest p.rest
tagged_after (no_tag {p = p}) = after_none p.rest
tagged_after (next_tag {p = p} {bytes = b} {rest = r} found tags) =
    after_then (after_then (after_drop 1 p.rest) (source_takes (drop 1 p.rest) (b, r) found).after) (tagged_after tags)

mutual
  pub name_takes : {bare : Bool} {x : Context} {p q : Position} {t : Tree} {c : Cost} → Name bare x p t q c → Takes q.rest p.rest
  name_takes (name a) = name_as_takes a

  name_as_takes : {case : NameCase} {bare : Bool} {x : Context} {p q : Position} {t : Tree} {c : Cost} → NameAs case bare x p t q c → Takes q.rest p.rest
  name_as_takes (nested_name {p = p} a) = after_takes (after_drop 1 p.rest) (nested_takes a)
  name_as_takes (local_name {p = p} a) = after_takes (after_drop 1 p.rest) (local_takes a)
  name_as_takes (unscoped_name a) = unscoped_takes a

  pub local_takes : {bare : Bool} {x : Context} {p q : Position} {t : Tree} {c : Cost} → Local bare x p t q c → Takes q.rest p.rest
  local_takes (local a b) = takes_then (encoding_as_takes a) (entity_after b)

  entity_after : {case : EntityCase} {bare : Bool} {x : Context} {t u : Tree} {p q : Position} {c : Cost} → EntityAs case bare x t p u q c → IsAfter q.rest p.rest
  entity_after (string_literal_entity {p = p}) = after_drop 2 p.rest
  entity_after (default_argument_entity {p = p} {number = n} {rest = r} found a) =
      after_then (after_drop 2 p.rest) (takes_takes (ordinal_takes (drop 2 p.rest) (n, r) found) (name_takes a)).after
  entity_after (name_entity {p = p} a) = after_then (after_drop 1 p.rest) (name_takes a).after

  pub encoding_as_takes : {case : EncodingCase} {x : Context} {p q : Position} {t : Tree} {c : Cost} → EncodingAs case x p t q c → Takes q.rest p.rest
  encoding_as_takes (special_encoding a) = special_takes a
  encoding_as_takes (name_encoding a) = name_takes a
  encoding_as_takes (full_encoding a b d) = takes_then (name_takes a) (after_then (return_after b) (encoding_params_after d))

  special_takes : {case : SpecialCase} {x : Context} {p q : Position} {t : Tree} {c : Cost} → SpecialAs case x p t q c → Takes q.rest p.rest
  special_takes (type_special {p = p} a) = after_takes (after_drop 2 p.rest) (type_takes a)
  special_takes (name_special {p = p} a) = after_takes (after_drop 2 p.rest) (name_takes a)
  special_takes (temporary_special {p = p} {q = q} {number = k} {rest = r} a found) =
      takes_takes (after_takes (after_drop 2 p.rest) (name_takes a)) (index_takes Base36 q.rest (k, r) found)
  special_takes (construction_special {p = p} {q = q} {rest = r} a found b) =
      after_takes (after_drop 2 p.rest) (takes_takes (type_takes a) (takes_takes (base_offset_takes q.rest r found) (type_takes b)))
  special_takes (thunk_special a) = thunk_takes a

  pub thunk_takes : {x : Context} {p q : Position} {t : Tree} {c : Cost} → Thunk x p t q c → Takes q.rest p.rest
  thunk_takes (thunk {p = p} {offsets = o} {rest = r} found a) =
      after_takes (after_then (after_drop 1 p.rest) (thunk_offsets_after (drop 1 p.rest) (o, r) found)) (encoding_as_takes a)

  return_after : {case : ReturnCase} {x : Context} {p q : Position} {c : Cost} → ReturnAs case x p q c → IsAfter q.rest p.rest
  return_after (no_return_type {p = p}) = after_none p.rest
  return_after (some_return_type a) = (type_takes a).after

  encoding_params_after : {case : EncodingParamsCase} {x : Context} {t u : Tree} {p q : Position} {c : Cost} → EncodingParamsAs case x t p u q c → IsAfter q.rest p.rest
  encoding_params_after (no_encoding_params {p = p}) = after_none p.rest
  encoding_params_after (some_encoding_params a) = params_after a

  unscoped_takes : {case : UnscopedCase} {x : Context} {p q : Position} {t : Tree} {c : Cost} → UnscopedAs case x p t q c → Takes q.rest p.rest
  unscoped_takes (std_name {p = p} a b) = takes_then (after_takes (after_drop 2 p.rest) (unqualified_takes a)) (attached_after b)
  unscoped_takes (substitution_name {p = p} a form b) = takes_then (substitution_takes p a) (args_after b)
  unscoped_takes (plain_name a b) = takes_then (unqualified_takes a) (attached_after b)

  attached_after : {case : AttachedCase} {x : Context} {t u : Tree} {p q : Position} {c : Cost} → AttachedAs case x t p u q c → IsAfter q.rest p.rest
  attached_after (none_attached {p = p}) = after_none p.rest
  attached_after (args_attached a) = args_after a

  ordinary_takes : {case : OrdinaryCase} {x : Context} {p q : Position} {t : Tree} {c : Cost} → OrdinaryAs case x p t q c → Takes q.rest p.rest
  ordinary_takes (ordinary_source {p = p} {bytes = b} {rest = r} found) = source_takes p.rest (b, r) found
  ordinary_takes (ordinary_unnamed_type {p = p} {k = k} {rest = r} found) = after_takes (after_drop 2 p.rest) (ordinal_takes (drop 2 p.rest) (k, r) found)
  ordinary_takes (ordinary_lambda {p = p} {q = q} {k = k} {rest = r} params found) =
      let front = after_then (after_then (after_drop 2 p.rest) (params_after params)) (after_drop 1 q.rest) in
      after_takes front (ordinal_takes (drop 1 q.rest) (k, r) found)
  ordinary_takes (ordinary_conversion {p = p} a) = after_takes (after_drop 2 p.rest) (type_takes a)
  ordinary_takes (ordinary_literal_operator {p = p} {bytes = b} {rest = r} found) = after_takes (after_drop 2 p.rest) (source_takes (drop 2 p.rest) (b, r) found)
  ordinary_takes (ordinary_operator {p = p} {text = o} found) = operator_takes p.rest o found

  pub unqualified_as_takes : {case : UnqualifiedCase} {x : Context} {parent : Option Tree} {p q : Position} {t : Tree} {c : Cost} → unqualified_case (is_some parent) p.rest ≡ case
      → UnqualifiedAs case x parent p t q c → Takes q.rest p.rest
  unqualified_as_takes case (constructor_unqualified {p = p} tags) = takes_then (takes_drop 2 p.rest (omega arith) (constructor_some p.rest case)) (tagged_after tags)
  unqualified_as_takes case (destructor_unqualified {p = p} tags) = takes_then (takes_drop 2 p.rest (omega arith) (destructor_some p.rest case)) (tagged_after tags)
  unqualified_as_takes case (ordinary_unqualified a tags) = takes_then (ordinary_takes a) (tagged_after tags)

  pub unqualified_takes : {x : Context} {parent : Option Tree} {p q : Position} {t : Tree} {c : Cost} → Unqualified x parent p t q c → Takes q.rest p.rest
  unqualified_takes (unqualified {p = p} a) = after_takes (internal_after p.rest) (unqualified_as_takes refl a)

  pub first_takes : {case : FirstSegmentCase} {x : Context} {p q : Position} {t : Tree} {c : Cost} → first_segment_case p.rest ≡ case → FirstAs case x p t q c → Takes q.rest p.rest
  first_takes form (template_param_first a) = template_param_takes a
  first_takes form (std_first {p = p}) = record { after = after_drop 2 p.rest; shorter = std_shorter p.rest form }
  first_takes form (substitution_first {p = p} a) = substitution_takes p a
  first_takes form (name_first a) = unqualified_takes a

  nested_takes : {x : Context} {p q : Position} {t : Tree} {c : Cost} → Nested x p t q c → Takes q.rest p.rest
  nested_takes (nested {p = p} {q = q} a b) =
      after_takes (quals_after p.rest) (takes_takes (first_takes refl a) (after_takes (initializer_after q.rest) (segment_takes refl b)))

  pub segment_takes : {case : SegmentCase} {x : Context} {candidate : Bool} {t u : Tree} {p q : Position} {c : Cost} → segment_case p.rest ≡ case → SegmentsAs case candidate x t p u q c → Takes q.rest p.rest
  segment_takes form (end_of_segments {p = p}) = record { after = after_drop 1 p.rest; shorter = segments_end_shorter p.rest form }
  segment_takes form (args_segment {q = q} a b) = after_takes (args_after a) (after_takes (initializer_after q.rest) (segment_takes refl b))
  segment_takes form (name_segment {q = q} a b) = takes_takes (unqualified_takes a) (after_takes (initializer_after q.rest) (segment_takes refl b))

  pub args_takes : {x : Context} {of_name : Bool} {p q : Position} {list : List Tree} {c : Cost} → Args of_name x p list q c → Takes q.rest p.rest
  args_takes (args {p = p} a) = after_takes (after_drop 1 p.rest) (arguments_takes refl a)

  args_after : {x : Context} {of_name : Bool} {p q : Position} {list : List Tree} {c : Cost} → Args of_name x p list q c → IsAfter q.rest p.rest
  args_after (args {p = p} a) = (after_takes (after_drop 1 p.rest) (arguments_takes refl a)).after

  pub arguments_takes : {case : ArgumentListCase} {x : Context} {outer : List (List Tree)} {own : Option (List Tree)} {p q : Position} {list : List Tree}
      {c : Cost} → argument_list_case p.rest ≡ case → ArgumentListAs case x outer own p list q c → Takes q.rest p.rest
  arguments_takes form (end_of_arguments {p = p}) = record { after = after_drop 1 p.rest; shorter = arguments_end_shorter p.rest form }
  arguments_takes form (one_more_argument a b) = takes_takes (argument_takes a) (arguments_takes refl b)

  pub argument_takes : {case : ArgumentCase} {x : Context} {p q : Position} {t : Tree} {c : Cost} → ArgumentAs case x p t q c → Takes q.rest p.rest
  argument_takes (expression_argument {p = p} {q = q} a end) = takes_then (after_takes (after_drop 1 p.rest) (expression_takes a)) (after_drop 1 q.rest)
  argument_takes (pack_argument a) = pack_takes a
  argument_takes (primary_argument a) = literal_takes a
  argument_takes (type_argument a) = type_takes a

  pub literal_takes : {case : PrimaryCase} {x : Context} {p q : Position} {t : Tree} {c : Cost} → PrimaryAs case x p t q c → Takes q.rest p.rest
  literal_takes (external_name {p = p} {q = q} a end) = takes_then (after_takes (after_drop 3 p.rest) (encoding_as_takes a)) (after_drop 1 q.rest)
  literal_takes (value_literal {p = p} {q = q} {value = v} {rest = r} a found has) =
      takes_takes (after_takes (after_drop 1 p.rest) (type_takes a)) (literal_value_takes q.rest (v, r) found)

  pub expression_takes : {x : Context} {p q : Position} {t : Tree} {c : Cost} → Expression x p t q c → Takes q.rest p.rest
  expression_takes (expression a) = expression_as_takes a

  operand_takes : {x : Context} {p q : Position} {o : Operand} {c : Cost} → OperandOf x p o q c → Takes q.rest p.rest
  operand_takes (operand_of a) = expression_takes a

  expression_as_takes : {case : ExpressionCase} {x : Context} {p q : Position} {t : Tree} {c : Cost} → ExpressionAs case x p t q c → Takes q.rest p.rest
  expression_as_takes (pre_expression {p = p} a) = after_takes (after_drop 3 p.rest) (expression_takes a)
  expression_as_takes (address_expression {p = p} a) = after_takes (after_drop 2 p.rest) (expression_takes a)
  expression_as_takes (unary_expression {p = p} a) = after_takes (after_drop 2 p.rest) (operand_takes a)
  expression_as_takes (post_expression {p = p} a) = after_takes (after_drop 2 p.rest) (operand_takes a)
  expression_as_takes (binary_expression {p = p} a b) = after_takes (after_drop 2 p.rest) (takes_takes (operand_takes a) (operand_takes b))
  expression_as_takes (greater_expression {p = p} a b) = after_takes (after_drop 2 p.rest) (takes_takes (expression_takes a) (expression_takes b))
  expression_as_takes (conditional_expression {p = p} a b d) =
      after_takes (after_drop 2 p.rest) (takes_takes (operand_takes a) (takes_takes (operand_takes b) (operand_takes d)))
  expression_as_takes (template_param_expression a) = template_param_takes a
  expression_as_takes (primary_expression a) = literal_takes a

  pub pack_takes : {x : Context} {p q : Position} {t : Tree} {c : Cost} → Pack x p t q c → Takes q.rest p.rest
  pack_takes (pack {p = p} a) = after_takes (after_drop 1 p.rest) (packed_takes refl a)

  pub packed_takes : {case : ArgumentListCase} {x : Context} {p q : Position} {list : List Tree} {c : Cost} → argument_list_case p.rest ≡ case → PackedAs case x p list q c → Takes q.rest p.rest
  packed_takes form (end_of_pack {p = p}) = record { after = after_drop 1 p.rest; shorter = arguments_end_shorter p.rest form }
  packed_takes form (one_more_packed a b) = takes_takes (argument_takes a) (packed_takes refl b)

  pub type_takes : {x : Context} {p q : Position} {t : Tree} {c : Cost} → TypeOf x p t q c → Takes q.rest p.rest
  type_takes (type a) = type_as_takes refl a

  type_as_takes : {case : TypeCase} {x : Context} {p q : Position} {t : Tree} {c : Cost} → type_case p.rest ≡ case → TypeAs case x p t q c → Takes q.rest p.rest
  type_as_takes form (builtin_type {p = p}) = record { after = builtin_after p.rest; shorter = builtin_shorter p.rest form }
  type_as_takes form (expansion_type {p = p} a) = after_takes (after_drop 2 p.rest) (type_takes a)
  type_as_takes form (vendor_type {p = p} {bytes = b} {rest = r} found list) = after_takes (after_drop 1 p.rest) (source_takes (drop 1 p.rest) (b, r) found)
  type_as_takes form (array_type {p = p} {dimension = n} {rest = r} found a there) =
      after_takes (after_drop 1 p.rest) (takes_takes (optional_number_takes (drop 1 p.rest) (n, r) found) (type_takes a))
  type_as_takes form (function_type a) = function_takes a
  type_as_takes form (pointer_to_member_type {p = p} a b there) = after_takes (after_drop 1 p.rest) (takes_takes (type_takes a) (type_takes b))
  type_as_takes form (pointer_type {p = p} a) = after_takes (after_drop 1 p.rest) (type_takes a)
  type_as_takes form (cv_type {p = p} a) = after_takes (cv_after p.rest) (cv_takes a)
  type_as_takes form (elaborated_type {p = p} a) = after_takes (after_drop 2 p.rest) (name_takes a)
  type_as_takes form (template_param_type a b) = takes_then (template_param_takes a) (type_attached_after b)
  type_as_takes form (substitution_type {p = p} a b) = takes_then (substitution_takes p a) (type_attached_after b)
  type_as_takes form (name_type a) = name_takes a

  cv_takes : {case : CvCase} {x : Context} {quals : Quals} {p q : Position} {t : Tree} {c : Cost} → CvAs case x quals p t q c → Takes q.rest p.rest
  cv_takes (cv_function a) = function_takes a
  cv_takes (cv_other a) = type_takes a

  function_takes : {x : Context} {quals : Quals} {p q : Position} {t : Tree} {c : Cost} → Function x quals p t q c → Takes q.rest p.rest
  function_takes (function {p = p} {r = r} plain a b there) =
      after_takes (after_drop 1 p.rest) (takes_then (type_takes a) (after_then (params_after b) (after_then (reference_after r.rest) (after_drop 1 (past_reference r.rest)))))

  params_after : {case : ParamsCase} {in_function_type : Bool} {x : Context} {p q : Position} {ts : List Tree} {c : Cost} → ParamsAs case in_function_type x p ts q c → IsAfter q.rest p.rest
  params_after (no_params {p = p}) = after_drop 1 p.rest
  params_after (some_params a) = types_after a

  pub types_after : {case : TypeListCase} {in_function_type : Bool} {x : Context} {p q : Position} {ts : List Tree} {c : Cost} → TypeListAs case in_function_type x p ts q c → IsAfter q.rest p.rest
  types_after (end_of_types {p = p}) = after_none p.rest
  types_after (one_more_type a b) = after_then (type_takes a).after (types_after b)

  type_attached_after : {case : AttachedCase} {x : Context} {t u : Tree} {p q : Position} {c : Cost} → TypeAttachedAs case x t p u q c → IsAfter q.rest p.rest
  type_attached_after (none_attached_to_type {p = p}) = after_none p.rest
  type_attached_after (args_attached_to_type a) = args_after a
