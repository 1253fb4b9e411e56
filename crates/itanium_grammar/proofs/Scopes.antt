-- A reading drops no scope that stood before it.
use Rattle.std.proofs.Common.{◌≡◌, Bool, List, [], ◌∷◌, ◌++◌, length, take, refl, sym, ap, ◌∙◌, append_assoc, Option, Some, None}
use Rattle.std.proofs.lemmas.List.{append-nil}
use Rattle.std.proofs.Math.Seq.{take-append_seam}
use Rattle.demangle_quals.specs.declared.quals.Quals.{Quals}
use Rattle.itanium_syntax.specs.declared.context.Context.{Context}
use Rattle.itanium_grammar.specs.Cases.{ArgumentListCase, ArgumentCase, AttachedCase, CvCase, EntityCase, ExpressionCase}
use Rattle.itanium_grammar.specs.Cases.{FirstSegmentCase, OrdinaryCase, PrimaryCase, NameCase, ParamsCase, ReturnCase}
use Rattle.itanium_grammar.specs.Cases.{SegmentCase, EncodingParamsCase, SpecialCase, SubstitutionCase, EncodingCase}
use Rattle.itanium_grammar.specs.Cases.{TagCase, TypeCase, TypeListCase, UnqualifiedCase, UnscopedCase}
use Rattle.itanium_grammar.specs.Tree.{Tree, Operand}
use Rattle.itanium_grammar.specs.Grammar.{Position, Cost, scopes_inside, SubstitutionAs, TemplateParam, TaggedAs, Name}
use Rattle.itanium_grammar.specs.Grammar.{NameAs, Local, EntityAs, EncodingAs, SpecialAs, Thunk, ReturnAs}
use Rattle.itanium_grammar.specs.Grammar.{EncodingParamsAs, UnscopedAs, AttachedAs, OrdinaryAs, UnqualifiedAs, Unqualified}
use Rattle.itanium_grammar.specs.Grammar.{FirstAs, Nested, SegmentsAs, Args, ArgumentListAs, Pack, PackedAs, ArgumentAs}
use Rattle.itanium_grammar.specs.Grammar.{PrimaryAs, Expression, OperandOf, ExpressionAs, TypeOf, TypeAs, CvAs}
use Rattle.itanium_grammar.specs.Grammar.{Function, ParamsAs, TypeListAs, TypeAttachedAs, abbreviation_substitution}
use Rattle.itanium_grammar.specs.Grammar.{component_substitution, template_param, no_tag, next_tag, name, nested_name}
use Rattle.itanium_grammar.specs.Grammar.{local_name, unscoped_name, local, string_literal_entity}
use Rattle.itanium_grammar.specs.Grammar.{default_argument_entity, name_entity, special_encoding, full_encoding}
use Rattle.itanium_grammar.specs.Grammar.{type_special, name_special, temporary_special, construction_special}
use Rattle.itanium_grammar.specs.Grammar.{thunk_special, thunk, name_encoding, no_return_type}
use Rattle.itanium_grammar.specs.Grammar.{some_return_type, no_encoding_params, some_encoding_params, std_name, substitution_name}
use Rattle.itanium_grammar.specs.Grammar.{plain_name, none_attached, args_attached, ordinary_source, ordinary_unnamed_type}
use Rattle.itanium_grammar.specs.Grammar.{ordinary_lambda, ordinary_conversion, ordinary_literal_operator, ordinary_operator}
use Rattle.itanium_grammar.specs.Grammar.{constructor_unqualified, destructor_unqualified, ordinary_unqualified}
use Rattle.itanium_grammar.specs.Grammar.{unqualified, template_param_first, std_first, substitution_first, name_first}
use Rattle.itanium_grammar.specs.Grammar.{nested, end_of_segments, args_segment, name_segment, args, end_of_arguments}
use Rattle.itanium_grammar.specs.Grammar.{one_more_argument, pack, end_of_pack, one_more_packed, expression_argument}
use Rattle.itanium_grammar.specs.Grammar.{pack_argument, primary_argument, type_argument, external_name}
use Rattle.itanium_grammar.specs.Grammar.{value_literal, expression, operand_of, pre_expression, address_expression}
use Rattle.itanium_grammar.specs.Grammar.{unary_expression, post_expression, binary_expression, greater_expression}
use Rattle.itanium_grammar.specs.Grammar.{conditional_expression, template_param_expression, primary_expression, type}
use Rattle.itanium_grammar.specs.Grammar.{builtin_type, expansion_type, vendor_type, array_type, function_type}
use Rattle.itanium_grammar.specs.Grammar.{pointer_to_member_type, pointer_type, cv_type, elaborated_type, template_param_type}
use Rattle.itanium_grammar.specs.Grammar.{substitution_type, name_type, cv_function, cv_other, function, no_params}
use Rattle.itanium_grammar.specs.Grammar.{some_params, end_of_types, one_more_type, none_attached_to_type}
use Rattle.itanium_grammar.specs.Grammar.{args_attached_to_type}

-- the later scopes are these, and further ones after them
pub record Keeps (scopes later : List (List Tree)) : Type 0 where
  pub more : List (List Tree)
  pub is : later ≡ scopes ++ more

keeps_all : (scopes : List (List Tree)) → Keeps scopes scopes
keeps_all scopes = record { more = []; is = sym (append-nil scopes) }

keeps_then : {a b d : List (List Tree)} → Keeps a b → Keeps b d → Keeps a d
keeps_then {a = a} e f = record {
  more = e.more ++ f.more;
  is = f.is ∙ ap (λ scopes. scopes ++ f.more) e.is ∙ append_assoc a e.more f.more;
}

own_keeps : (outer : List (List Tree)) (own : Option (List Tree)) → Keeps outer (scopes_inside outer own)
own_keeps outer None = keeps_all outer
own_keeps outer (Some own) = record { more = own ∷ []; is = refl }

-- so they are what is left of the later ones once all further ones are dropped
pub taken_scopes : {scopes later : List (List Tree)} → Keeps scopes later → take (length scopes) later ≡ scopes
taken_scopes {scopes = scopes} keeps = ap (take (length scopes)) keeps.is ∙ take-append_seam scopes keeps.more

substitution_keeps : {case : SubstitutionCase} {p : Position} {t : Tree} {q : Position} → SubstitutionAs case p t q → Keeps p.scopes q.scopes
substitution_keeps (abbreviation_substitution a) = keeps_all _
substitution_keeps (component_substitution a b) = keeps_all _

template_param_keeps : {x : Context} {p : Position} {t : Tree} {q : Position} → TemplateParam x p t q → Keeps p.scopes q.scopes
template_param_keeps (template_param a b) = keeps_all _

tagged_keeps : {case : TagCase} {t : Tree} {p : Position} {u : Tree} {q : Position} → TaggedAs case t p u q → Keeps p.scopes q.scopes
tagged_keeps no_tag = keeps_all _
tagged_keeps (next_tag a b) = tagged_keeps b

mutual
  name_keeps : {b : Bool} {x : Context} {p : Position} {t : Tree} {q : Position} {c : Cost} → Name b x p t q c → Keeps p.scopes q.scopes
  name_keeps (name a) = name_as_keeps a

  name_as_keeps : {case : NameCase} {b : Bool} {x : Context} {p : Position} {t : Tree} {q : Position} {c : Cost} → NameAs case b x p t q c → Keeps p.scopes q.scopes
  name_as_keeps (nested_name a) = nested_keeps a
  name_as_keeps (local_name a) = local_keeps a
  name_as_keeps (unscoped_name a) = unscoped_keeps a

  local_keeps : {b : Bool} {x : Context} {p : Position} {t : Tree} {q : Position} {c : Cost} → Local b x p t q c → Keeps p.scopes q.scopes
  local_keeps (local a b) = keeps_then (encoding_keeps a) (entity_keeps b)

  entity_keeps : {case : EntityCase} {b : Bool} {x : Context} {t : Tree} {p : Position} {u : Tree} {q : Position} {c : Cost} → EntityAs case b x t p u q c → Keeps p.scopes q.scopes
  entity_keeps string_literal_entity = keeps_all _
  entity_keeps (default_argument_entity a b) = name_keeps b
  entity_keeps (name_entity a) = name_keeps a

  encoding_keeps : {case : EncodingCase} {x : Context} {p : Position} {t : Tree} {q : Position} {c : Cost} → EncodingAs case x p t q c → Keeps p.scopes q.scopes
  encoding_keeps (special_encoding a) = special_keeps a
  encoding_keeps (name_encoding a) = name_keeps a
  encoding_keeps (full_encoding a b d) = keeps_then (name_keeps a) (keeps_then (return_keeps b) (encoding_params_keeps d))

  special_keeps : {case : SpecialCase} {x : Context} {p : Position} {t : Tree} {q : Position} {c : Cost} → SpecialAs case x p t q c → Keeps p.scopes q.scopes
  special_keeps (type_special a) = type_keeps a
  special_keeps (name_special a) = name_keeps a
  special_keeps (temporary_special a b) = name_keeps a
  special_keeps (construction_special a b d) = keeps_then (type_keeps a) (type_keeps d)
  special_keeps (thunk_special a) = thunk_keeps a

  thunk_keeps : {x : Context} {p : Position} {t : Tree} {q : Position} {c : Cost} → Thunk x p t q c → Keeps p.scopes q.scopes
  thunk_keeps (thunk a b) = encoding_keeps b

  return_keeps : {case : ReturnCase} {x : Context} {p : Position} {q : Position} {c : Cost} → ReturnAs case x p q c → Keeps p.scopes q.scopes
  return_keeps no_return_type = keeps_all _
  return_keeps (some_return_type a) = type_keeps a

  encoding_params_keeps : {case : EncodingParamsCase} {x : Context} {t : Tree} {p : Position} {u : Tree} {q : Position} {c : Cost} → EncodingParamsAs case x t p u q c → Keeps p.scopes q.scopes
  encoding_params_keeps no_encoding_params = keeps_all _
  encoding_params_keeps (some_encoding_params a) = params_keeps a

  unscoped_keeps : {case : UnscopedCase} {x : Context} {p : Position} {t : Tree} {q : Position} {c : Cost} → UnscopedAs case x p t q c → Keeps p.scopes q.scopes
  unscoped_keeps (std_name a b) = keeps_then (unqualified_keeps a) (attached_keeps b)
  unscoped_keeps (substitution_name a b d) = keeps_then (substitution_keeps a) (args_keeps d)
  unscoped_keeps (plain_name a b) = keeps_then (unqualified_keeps a) (attached_keeps b)

  attached_keeps : {case : AttachedCase} {x : Context} {t : Tree} {p : Position} {u : Tree} {q : Position} {c : Cost} → AttachedAs case x t p u q c → Keeps p.scopes q.scopes
  attached_keeps none_attached = keeps_all _
  attached_keeps (args_attached a) = args_keeps a

  ordinary_keeps : {case : OrdinaryCase} {x : Context} {p : Position} {t : Tree} {q : Position} {c : Cost} → OrdinaryAs case x p t q c → Keeps p.scopes q.scopes
  ordinary_keeps (ordinary_source a) = keeps_all _
  ordinary_keeps (ordinary_unnamed_type a) = keeps_all _
  ordinary_keeps (ordinary_lambda a b) = params_keeps a
  ordinary_keeps (ordinary_conversion a) = type_keeps a
  ordinary_keeps (ordinary_literal_operator a) = keeps_all _
  ordinary_keeps (ordinary_operator a) = keeps_all _

  unqualified_as_keeps : {case : UnqualifiedCase} {x : Context} {parent : Option Tree} {p : Position} {t : Tree} {q : Position} {c : Cost} → UnqualifiedAs case x parent p t q c → Keeps p.scopes q.scopes
  unqualified_as_keeps (constructor_unqualified a) = tagged_keeps a
  unqualified_as_keeps (destructor_unqualified a) = tagged_keeps a
  unqualified_as_keeps (ordinary_unqualified a b) = keeps_then (ordinary_keeps a) (tagged_keeps b)

  unqualified_keeps : {x : Context} {parent : Option Tree} {p : Position} {t : Tree} {q : Position} {c : Cost} → Unqualified x parent p t q c → Keeps p.scopes q.scopes
  unqualified_keeps (unqualified a) = unqualified_as_keeps a

  first_keeps : {case : FirstSegmentCase} {x : Context} {p : Position} {t : Tree} {q : Position} {c : Cost} → FirstAs case x p t q c → Keeps p.scopes q.scopes
  first_keeps (template_param_first a) = template_param_keeps a
  first_keeps std_first = keeps_all _
  first_keeps (substitution_first a) = substitution_keeps a
  first_keeps (name_first a) = unqualified_keeps a

  nested_keeps : {x : Context} {p : Position} {t : Tree} {q : Position} {c : Cost} → Nested x p t q c → Keeps p.scopes q.scopes
  nested_keeps (nested a b) = keeps_then (first_keeps a) (segments_keeps b)

  segments_keeps : {case : SegmentCase} {b : Bool} {x : Context} {t : Tree} {p : Position} {u : Tree} {q : Position} {c : Cost} → SegmentsAs case b x t p u q c → Keeps p.scopes q.scopes
  segments_keeps end_of_segments = keeps_all _
  segments_keeps (args_segment a b) = keeps_then (args_keeps a) (segments_keeps b)
  segments_keeps (name_segment a b) = keeps_then (unqualified_keeps a) (segments_keeps b)

  args_keeps : {b : Bool} {x : Context} {p : Position} {ts : List Tree} {q : Position} {c : Cost} → Args b x p ts q c → Keeps p.scopes q.scopes
  args_keeps (args a) = arguments_keeps a

  arguments_keeps : {case : ArgumentListCase} {x : Context} {outer : List (List Tree)} {own : Option (List Tree)} {p : Position} {ts : List Tree} {q : Position} {c : Cost} → ArgumentListAs case x outer own p ts q c → Keeps outer q.scopes
  arguments_keeps (end_of_arguments {outer = outer} {own = own}) = own_keeps outer own
  arguments_keeps (one_more_argument a b) = arguments_keeps b

  pack_keeps : {x : Context} {p : Position} {t : Tree} {q : Position} {c : Cost} → Pack x p t q c → Keeps p.scopes q.scopes
  pack_keeps (pack a) = packed_keeps a

  packed_keeps : {case : ArgumentListCase} {x : Context} {p : Position} {ts : List Tree} {q : Position} {c : Cost} → PackedAs case x p ts q c → Keeps p.scopes q.scopes
  packed_keeps end_of_pack = keeps_all _
  packed_keeps (one_more_packed a b) = keeps_then (argument_keeps a) (packed_keeps b)

  pub argument_keeps : {case : ArgumentCase} {x : Context} {p : Position} {t : Tree} {q : Position} {c : Cost} → ArgumentAs case x p t q c → Keeps p.scopes q.scopes
  argument_keeps (expression_argument a b) = expression_keeps a
  argument_keeps (pack_argument a) = pack_keeps a
  argument_keeps (primary_argument a) = literal_keeps a
  argument_keeps (type_argument a) = type_keeps a

  literal_keeps : {case : PrimaryCase} {x : Context} {p : Position} {t : Tree} {q : Position} {c : Cost} → PrimaryAs case x p t q c → Keeps p.scopes q.scopes
  literal_keeps (external_name a b) = encoding_keeps a
  literal_keeps (value_literal a b d) = type_keeps a

  expression_keeps : {x : Context} {p : Position} {t : Tree} {q : Position} {c : Cost} → Expression x p t q c → Keeps p.scopes q.scopes
  expression_keeps (expression a) = expression_as_keeps a

  operand_keeps : {x : Context} {p : Position} {o : Operand} {q : Position} {c : Cost} → OperandOf x p o q c → Keeps p.scopes q.scopes
  operand_keeps (operand_of a) = expression_keeps a

  expression_as_keeps : {case : ExpressionCase} {x : Context} {p : Position} {t : Tree} {q : Position} {c : Cost} → ExpressionAs case x p t q c → Keeps p.scopes q.scopes
  expression_as_keeps (pre_expression a) = expression_keeps a
  expression_as_keeps (address_expression a) = expression_keeps a
  expression_as_keeps (unary_expression a) = operand_keeps a
  expression_as_keeps (post_expression a) = operand_keeps a
  expression_as_keeps (binary_expression a b) = keeps_then (operand_keeps a) (operand_keeps b)
  expression_as_keeps (greater_expression a b) = keeps_then (expression_keeps a) (expression_keeps b)
  expression_as_keeps (conditional_expression a b d) = keeps_then (operand_keeps a) (keeps_then (operand_keeps b) (operand_keeps d))
  expression_as_keeps (template_param_expression a) = template_param_keeps a
  expression_as_keeps (primary_expression a) = literal_keeps a

  type_keeps : {x : Context} {p : Position} {t : Tree} {q : Position} {c : Cost} → TypeOf x p t q c → Keeps p.scopes q.scopes
  type_keeps (type a) = type_as_keeps a

  type_as_keeps : {case : TypeCase} {x : Context} {p : Position} {t : Tree} {q : Position} {c : Cost} → TypeAs case x p t q c → Keeps p.scopes q.scopes
  type_as_keeps builtin_type = keeps_all _
  type_as_keeps (expansion_type a) = type_keeps a
  type_as_keeps (vendor_type a b) = keeps_all _
  type_as_keeps (array_type a b d) = type_keeps b
  type_as_keeps (function_type a) = function_keeps a
  type_as_keeps (pointer_to_member_type a b d) = keeps_then (type_keeps a) (type_keeps b)
  type_as_keeps (pointer_type a) = type_keeps a
  type_as_keeps (cv_type a) = cv_keeps a
  type_as_keeps (elaborated_type a) = name_keeps a
  type_as_keeps (template_param_type a b) = keeps_then (template_param_keeps a) (type_attached_keeps b)
  type_as_keeps (substitution_type a b) = keeps_then (substitution_keeps a) (type_attached_keeps b)
  type_as_keeps (name_type a) = name_keeps a

  cv_keeps : {case : CvCase} {x : Context} {quals : Quals} {p : Position} {t : Tree} {q : Position} {c : Cost} → CvAs case x quals p t q c → Keeps p.scopes q.scopes
  cv_keeps (cv_function a) = function_keeps a
  cv_keeps (cv_other a) = type_keeps a

  function_keeps : {x : Context} {quals : Quals} {p : Position} {t : Tree} {q : Position} {c : Cost} → Function x quals p t q c → Keeps p.scopes q.scopes
  function_keeps (function a b d f) = keeps_then (type_keeps b) (params_keeps d)

  params_keeps : {case : ParamsCase} {b : Bool} {x : Context} {p : Position} {ts : List Tree} {q : Position} {c : Cost} → ParamsAs case b x p ts q c → Keeps p.scopes q.scopes
  params_keeps no_params = keeps_all _
  params_keeps (some_params a) = types_keeps a

  types_keeps : {case : TypeListCase} {b : Bool} {x : Context} {p : Position} {ts : List Tree} {q : Position} {c : Cost} → TypeListAs case b x p ts q c → Keeps p.scopes q.scopes
  types_keeps end_of_types = keeps_all _
  types_keeps (one_more_type a b) = keeps_then (type_keeps a) (types_keeps b)

  type_attached_keeps : {case : AttachedCase} {x : Context} {t : Tree} {p : Position} {u : Tree} {q : Position} {c : Cost} → TypeAttachedAs case x t p u q c → Keeps p.scopes q.scopes
  type_attached_keeps none_attached_to_type = keeps_all _
  type_attached_keeps (args_attached_to_type a) = args_keeps a
