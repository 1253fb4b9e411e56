-- The parser, which never runs: pure functions over shapes, to which the readers are proved to be equal. They are a
-- bridge between the readers and the grammar, for the proof alone. The grammar is what is promised. The laws of
-- `itanium_demangle/specs/Readers` say how the parser agrees with it.
use Rattle.std.specs.Prelude.{ℕ, zero, suc, ◌+◌, ◌-◌, max, Bool, true, false, not, if◌then◌else◌, nat_lt, is_some}
use Rattle.std.specs.Prelude.{slice_get, List, [], ◌∷◌, ◌++◌, Option, Some, None, option_and_then, take, drop, length}
use Rattle.std.specs.Prelude.{codes}
use Rattle.demangle_text.specs.Shape.{Shape, text_len, plain_shape, whole_shape, appended}
use Rattle.demangle_text.specs.State.{last_args, with_arg}
use Rattle.demangle_quals.specs.declared.quals.Quals.{Quals}
use Rattle.demangle_quals.specs.declared.quals.Pointer.{Pointer}
use Rattle.demangle_quals.specs.Quals.{no_quals}
use Rattle.demangle_edit.specs.Names.{qualified, default_arg_shape, qualified_ctor, attached, tagged, with_name_qualifiers}
use Rattle.demangle_edit.specs.Types.{pointer_shape, cv_shape, expansion_shape}
use Rattle.demangle_edit.specs.Calls.{array_step, member_pointer_step, opening_step, literal_step}
use Rattle.demangle_edit.specs.Expressions.{operand_shape, address_shape}
use Rattle.demangle_edit.specs.Built.{listed_more, arguments_closed, lambda_closed, params_opened, params_closed, function_closed}
use Rattle.itanium_syntax.specs.declared.context.Context.{Context}
use Rattle.abi_scalars.specs.declared.numerals.Radix.TheVariants.{Decimal, Base36}
use Rattle.itanium_syntax.specs.declared.offsets.ThunkOffsets.{ThunkOffsets}
use Rattle.itanium_syntax.specs.declared.offsets.ThunkOffsets.TheVariants.{Single, Covariant}
use Rattle.abi_scalars.specs.Scalars.{source_name, index_of, source_text}
use Rattle.itanium_syntax.specs.Numbers.{ordinal, optional_number}
use Rattle.itanium_syntax.specs.Operators.{operator_here}
use Rattle.itanium_syntax.specs.Abbreviations.{abbreviation_of}
use Rattle.itanium_syntax.specs.Context.{opens_scope, inside_type, hiding_dots, inside_lambda, showing_words, inside_encoding}
use Rattle.itanium_syntax.specs.Names.{name_case, unscoped_case, first_segment_case, segment_case}
use Rattle.itanium_syntax.specs.Names.{unqualified_case, ordinary_case, tag_case, past_internal, past_initializer_letter}
use Rattle.itanium_syntax.specs.Names.{name_quals, past_name_quals, first_segment_is_candidate, substitution_case}
use Rattle.abi_scalars.specs.Bytes.{begins}
use Rattle.itanium_syntax.specs.Expressions.{is_external, primary_case, literal_value, expression_text, expression_case}
use Rattle.itanium_syntax.specs.Offsets.{thunk_offsets, past_base_offset}
use Rattle.itanium_syntax.specs.Specials.{special_case, special_text, special_close}
use Rattle.itanium_syntax.specs.Encodings.{return_case, encoding_params_case, entity_case, encoding_case}
use Rattle.itanium_syntax.specs.Args.{attached_case, argument_list_case, argument_case}
use Rattle.itanium_syntax.specs.Types.{type_case, builtin_text, past_builtin, cv_quals, past_cv, with_reference, past_reference, cv_case, function_case, params_case, type_list_case, elaborated_text}
use Rattle.itanium_grammar.specs.Answer.{max_text}
use Rattle.itanium_grammar.specs.Tree.{offset_text, worded_shape, temporary_shape, construction_shape, thunk_shape, pre_shape}
use Rattle.itanium_grammar.specs.Tree.{post_shape, binary_shape, greater_shape, conditional_shape, abbreviation_shape}
use Rattle.itanium_grammar.specs.Tree.{conversion_shape, elaborated_shape, unnamed_text, literal_operator_text}
use Rattle.itanium_grammar.specs.Cases.{EncodingEnd, AfterName, AtE, EncodingCase, SpecialEncoding, NameEncoding}
use Rattle.itanium_grammar.specs.Cases.{FullEncoding, SpecialCase, TypeSpecial, NameSpecial}
use Rattle.itanium_grammar.specs.Cases.{TemporarySpecial, ConstructionSpecial, ThunkSpecial, UnreadableSpecial, NameCase}
use Rattle.itanium_grammar.specs.Cases.{NestedName, LocalName, UnscopedName, ReturnCase, NoReturnType, SomeReturnType}
use Rattle.itanium_grammar.specs.Cases.{EncodingParamsCase, NoEncodingParams, SomeEncodingParams, EntityCase, StringLiteralEntity}
use Rattle.itanium_grammar.specs.Cases.{DefaultArgumentEntity, NameEntity, UnreadableEntity, UnscopedCase, StdName}
use Rattle.itanium_grammar.specs.Cases.{SubstitutionName, PlainName, AttachedCase, NoneAttached, ArgsAttached, FirstSegmentCase}
use Rattle.itanium_grammar.specs.Cases.{TemplateParamFirst, StdFirst, SubstitutionFirst, NameFirst, SegmentCase}
use Rattle.itanium_grammar.specs.Cases.{EndOfSegments, ArgsSegment, NameSegment, UnqualifiedCase, ConstructorName}
use Rattle.itanium_grammar.specs.Cases.{DestructorName, OrdinaryName, OrdinaryCase, SourceName, UnnamedTypeName, LambdaName}
use Rattle.itanium_grammar.specs.Cases.{ConversionName, LiteralOperatorName, OperatorName, UnreadableName, TagCase, NoTag}
use Rattle.itanium_grammar.specs.Cases.{NextTag, SubstitutionCase, AbbreviationSubstitution, ComponentSubstitution}
use Rattle.itanium_grammar.specs.Cases.{ArgumentListCase, EndOfArguments, NextArgument, PrimaryCase, ExternalName, ValueLiteral}
use Rattle.itanium_grammar.specs.Cases.{UnreadablePrimary, ExpressionCase, PreExpression, AddressExpression, UnaryExpression}
use Rattle.itanium_grammar.specs.Cases.{PostExpression, BinaryExpression, GreaterExpression, ConditionalExpression}
use Rattle.itanium_grammar.specs.Cases.{TemplateParamExpression, PrimaryExpression, UnreadableExpression, ArgumentCase}
use Rattle.itanium_grammar.specs.Cases.{ExpressionArgument, PackArgument, PrimaryArgument, ConstraintArgument}
use Rattle.itanium_grammar.specs.Cases.{TypeArgument, TypeCase, BuiltinType, ExpansionType, VendorType, ArrayType}
use Rattle.itanium_grammar.specs.Cases.{FunctionType, PointerToMemberType, PointerType, CvType, ElaboratedType, TemplateParamType}
use Rattle.itanium_grammar.specs.Cases.{SubstitutionType, UnreadableType, NameType, CvCase, CvFunction, CvOther}
use Rattle.itanium_grammar.specs.Cases.{FunctionCase, ExternFunction, PlainFunction, ParamsCase, NoParams, SomeParams}
use Rattle.itanium_grammar.specs.Cases.{TypeListCase, EndOfTypes, NextType}

infixl 10 ◌>>=◌
abbrev pub ◌>>=◌ : {A B : Type 0} → Option A → (A → Option B) → Option B
o >>= f = option_and_then f o

-- the bytes that are left, the saved shapes, the scopes, how many counted productions were entered, and the greatest
-- length to which a shape was saved
pub record ParserState : Type 0 where
  pub rest : List ℕ
  pub saved : List Shape
  pub scopes : List (List Shape)
  pub entered : ℕ
  pub most_saved : ℕ

-- a parser answers a value and the state after it, or nothing
abbrev pub Parses : Type 0 → Type 0
Parses A = ParserState → Option (A × ParserState)

-- the state at the start of a symbol
abbrev pub begun : List ℕ → ParserState
begun bytes = record { rest = bytes; saved = []; scopes = []; entered = 0; most_saved = 0 }

-- the same state, before these bytes
abbrev pub with_rest : List ℕ → ParserState → ParserState
with_rest bytes s = record s { rest = bytes }

-- the state after n bytes
abbrev pub skip : ℕ → ParserState → ParserState
skip n s = with_rest (drop n s.rest) s

-- the shape is saved last
abbrev pub save : Shape → ParserState → ParserState
save t s = record s { saved = s.saved ++ t ∷ []; most_saved = max s.most_saved (length s.saved + 1) }

-- one more counted production is entered
abbrev pub enter : ParserState → ParserState
enter s = record s { entered = s.entered + 1 }

-- the last saved shape is taken back, where it is to be
abbrev pub taken_back : Bool → ParserState → ParserState
taken_back candidate s = record s { saved = if candidate then take (length s.saved - 1) s.saved else s.saved }

-- the state once a shape is saved, where it isn't saved yet
abbrev pub save_if : Bool → Shape → ParserState → ParserState
save_if candidate t s = record s {
  saved = if candidate then s.saved ++ t ∷ [] else s.saved;
  most_saved = if candidate then max s.most_saved (length s.saved + 1) else s.most_saved;
}

-- the text of the shape is longer than the limit
abbrev pub is_too_wide : Shape → Bool
is_too_wide t = nat_lt max_text (text_len t)

-- a shape that isn't too long; else nothing
abbrev pub fitting : Shape × ParserState → Option (Shape × ParserState)
fitting found = if is_too_wide found.0 then None else Some found

-- a name without its own qualifiers that isn't too long; else nothing
abbrev pub fitting_bare : (Shape × Quals) × ParserState → Option ((Shape × Quals) × ParserState)
fitting_bare found = if is_too_wide found.0.0 then None else Some found

-- past the M of a data member's initializer
abbrev pub past_initializer : ParserState → ParserState
past_initializer s = with_rest (past_initializer_letter s.rest) s

-- what one turn of a loop gives: the answer, or what is there so far
pub data Turn (L A : Type 0) : Type 0 where
  -- the loop ends with its answer
  ends : A → Turn L A
  -- the loop goes on
  goes_on : L → Turn L A

-- what follows a turn
abbrev pub after_turn : {L A : Type 0} → Turn L A → (L → Parses A) → Parses A
after_turn (ends answer) again s = Some (answer, s)
after_turn (goes_on so_far) again s = again so_far s

-- a loop of at most so many turns
unfoldable pub loop : {L A : Type 0} → (L → Parses (Turn L A)) → ℕ → L → Parses A
loop turn zero so_far s = None
loop turn (suc n) so_far s = turn so_far s >>= λ t. after_turn t.0 (loop turn n) t.1

-- a loop whose turns take a byte each, but for the last: so one turn more than there are bytes is enough
abbrev pub parse_loop : {L A : Type 0} → (L → Parses (Turn L A)) → L → Parses A
parse_loop turn so_far s = loop turn (length s.rest + 1) so_far s

-- the name in its parent, where there is one
abbrev pub in_parent : Option Shape → Shape → Shape
in_parent None leaf = leaf
in_parent (Some parent) leaf = qualified parent leaf

-- a source name
abbrev pub parse_source : Parses Shape
parse_source s = source_name s.rest >>= λ found. Some (plain_shape (source_text found.0), with_rest found.1 s)

-- a list begins: it may open a scope
abbrev pub open_scope_if : Bool → ParserState → ParserState
open_scope_if opens s = record s { scopes = if opens then s.scopes ++ [] ∷ [] else s.scopes }

-- the scopes past the first n are dropped, and the argument goes into the scope that its list opened
abbrev pub end_argument : Bool → ℕ → Shape → ParserState → ParserState
end_argument opens n t s = record s { scopes = if opens then with_arg t (take n s.scopes) else take n s.scopes }

-- a name of std that a letter abbreviates, after the S
abbrev pub parse_abbreviation : Parses Shape
parse_abbreviation s = abbreviation_of s.rest >>= λ found. Some (abbreviation_shape found, skip 1 s)

-- the component that an index names, in front of the bytes after it
abbrev pub component_at : ℕ → List ℕ → Parses Shape
component_at i rest s = slice_get s.saved i >>= λ t. Some (t, with_rest rest s)

-- a component that was saved, after the S
abbrev pub parse_component : Parses Shape
parse_component s = index_of Base36 s.rest >>= λ found. component_at found.0 found.1 s

-- <substitution> after its S
abbrev pub substitution_as : SubstitutionCase → Parses Shape
substitution_as AbbreviationSubstitution s = parse_abbreviation s
substitution_as ComponentSubstitution s = parse_component s

-- <substitution>
unfoldable pub parse_substitution : Parses Shape
parse_substitution s = substitution_as (substitution_case (drop 1 s.rest)) (skip 1 s)

-- the argument that a <template-param> names
abbrev pub template_param_as : Bool → ℕ → ParserState → Option Shape
template_param_as true i s = Some (plain_shape (codes "auto"))
template_param_as false i s = slice_get (last_args s.scopes) i

-- <template-param>
unfoldable pub parse_template_param : Context → Parses Shape
parse_template_param x s =
    index_of Decimal (drop 1 s.rest) >>= λ found.
    template_param_as x.lambda found.0 s >>= λ t. Some (t, with_rest found.1 s)

-- a template parameter that is saved
abbrev pub saved_template_param : Context → Parses Shape
saved_template_param x s = parse_template_param x s >>= λ found. Some (found.0, save found.0 found.1)

-- one more <abi-tag> of a name, or none
abbrev pub tag_as : TagCase → Shape → Parses (Turn Shape Shape)
tag_as NoTag name s = Some (ends name, s)
tag_as NextTag name s =
    source_name (drop 1 s.rest) >>= λ found. Some (goes_on (tagged name (source_text found.0)), with_rest found.1 s)

-- one turn of the loop over ABI tags: the next bytes select the case
unfoldable pub tag_turn : Shape → Parses (Turn Shape Shape)
tag_turn name s = tag_as (tag_case s.rest) name s

-- <abi-tags> after a name
abbrev pub parse_tags : Shape → Parses Shape
parse_tags name s = parse_loop tag_turn name s

-- the list goes on after an item
abbrev pub next_item : Shape × ParserState → Option (Turn (Bool × Shape) Shape × ParserState)
next_item list = Some (goes_on (false, list.0), list.1)

-- one more item of a list, with what stands in front of it, or the list's E. A list that is too long already isn't read
-- on
abbrev pub argument_list_as : ArgumentListCase → (Shape → ParserState → ParserState) → Parses Shape → Bool × Shape
    → Parses (Turn (Bool × Shape) Shape)
argument_list_as EndOfArguments end_argument item so_far s = Some (ends so_far.1, skip 1 s)
argument_list_as NextArgument end_argument item so_far s =
    item s >>= λ next. fitting (listed_more so_far.0 so_far.1 next.0, end_argument next.0 next.1) >>= next_item

-- one turn of the loop over arguments: the next bytes select the case
unfoldable pub list_turn : (Shape → ParserState → ParserState) → Parses Shape → Bool × Shape
    → Parses (Turn (Bool × Shape) Shape)
list_turn end_argument item so_far s = argument_list_as (argument_list_case s.rest) end_argument item so_far s

-- an item that goes nowhere but into its list
abbrev pub add_nowhere : Shape → ParserState → ParserState
add_nowhere item s = s

-- one more type of a list, with what stands in front of it, or its end, which isn't taken. A list that is too long
-- already isn't read on
abbrev pub type_list_as : TypeListCase → Parses Shape → Bool × Shape → Parses (Turn (Bool × Shape) Shape)
type_list_as EndOfTypes type so_far s = Some (ends so_far.1, s)
type_list_as NextType type so_far s =
    type s >>= λ next. fitting (listed_more so_far.0 so_far.1 next.0, next.1) >>= next_item

-- one turn of the loop over types: the next bytes select the case
unfoldable pub typed_turn : Bool → Parses Shape → Bool × Shape → Parses (Turn (Bool × Shape) Shape)
typed_turn in_function_type type so_far s = type_list_as (type_list_case in_function_type s.rest) type so_far s

-- types up to an E, or of a function type to a <ref-qualifier> in front of it, put onto a list
abbrev pub parse_typed : Bool → Parses Shape → Shape → Parses Shape
parse_typed in_function_type type list s = parse_loop (typed_turn in_function_type type) (true, list) s

-- such parameters, put onto a list: v right before the end stands for none
abbrev pub params_as : ParamsCase → Bool → Parses Shape → Shape → Parses Shape
params_as NoParams in_function_type type list s = Some (list, skip 1 s)
params_as SomeParams in_function_type type list s = parse_typed in_function_type type list s

-- what is after the parameters of a lambda
abbrev pub lambda_end : Shape → Parses Shape
lambda_end list s = ordinal (drop 1 s.rest) >>= λ found. Some (lambda_closed found.0 list, with_rest found.1 s)

-- <closure-type-name> after its Ul
abbrev pub parse_lambda : Parses Shape → Parses Shape
parse_lambda type s =
    params_as (params_case s.rest) false type (plain_shape (codes "{lambda(")) s >>= λ list.
    lambda_end list.0 list.1

-- <unnamed-type-name> after its Ut
abbrev pub parse_unnamed_type : Parses Shape
parse_unnamed_type s =
    ordinal s.rest >>= λ found. Some (plain_shape (unnamed_text found.0), with_rest found.1 s)

-- a conversion after its cv
abbrev pub parse_conversion : Parses Shape → Parses Shape
parse_conversion type s = type s >>= λ found. Some (conversion_shape found.0, found.1)

-- a literal operator after its li
abbrev pub parse_literal_operator : Parses Shape
parse_literal_operator s =
    source_name s.rest >>= λ found. Some (plain_shape (literal_operator_text found.0), with_rest found.1 s)

-- an operator
abbrev pub parse_operator : Parses Shape
parse_operator s = operator_here s.rest >>= λ text. Some (plain_shape (codes "operator" ++ text), skip 2 s)

-- <unqualified-name> that asks for no parent, without its tags: types by the first parser, in a lambda by the second
abbrev pub ordinary_as : OrdinaryCase → Parses Shape → Parses Shape → Parses Shape
ordinary_as SourceName type param s = parse_source s
ordinary_as UnnamedTypeName type param s = parse_unnamed_type (skip 2 s)
ordinary_as LambdaName type param s = parse_lambda param (skip 2 s)
ordinary_as ConversionName type param s = parse_conversion type (skip 2 s)
ordinary_as LiteralOperatorName type param s = parse_literal_operator (skip 2 s)
ordinary_as OperatorName type param s = parse_operator s
ordinary_as UnreadableName type param s = None

-- such a name with its tags
abbrev pub parse_ordinary : Parses Shape → Parses Shape → Parses Shape
parse_ordinary type param s = ordinary_as (ordinary_case s.rest) type param s >>= λ name. parse_tags name.0 name.1

-- a source name with its tags
abbrev pub parse_tagged_source : Parses Shape
parse_tagged_source s = parse_source s >>= λ name. parse_tags name.0 name.1

-- a source name with its tags, in the parent that stands in front of it
abbrev pub parse_source_in : Option Shape → Parses Shape
parse_source_in parent s = parse_tagged_source s >>= λ name. Some (in_parent parent name.0, name.1)

-- a constructor or a destructor of the parent, and its tags
abbrev pub ctor_dtor_as : Bool → Option Shape → Parses Shape
ctor_dtor_as destructor None s = None
ctor_dtor_as destructor (Some parent) s = parse_tags (qualified_ctor parent destructor) (skip 2 s)

-- <unqualified-name>
abbrev pub unqualified_as : UnqualifiedCase → Parses Shape → Parses Shape → Option Shape → Parses Shape
unqualified_as ConstructorName type param parent s = ctor_dtor_as false parent s
unqualified_as DestructorName type param parent s = ctor_dtor_as true parent s
unqualified_as OrdinaryName type param parent s =
    parse_ordinary type param s >>= λ name. Some (in_parent parent name.0, name.1)

-- a constructor or a destructor of the parent, without its tags
abbrev pub untagged_ctor : Bool → Option Shape → Parses Shape
untagged_ctor destructor None s = None
untagged_ctor destructor (Some parent) s = Some (qualified_ctor parent destructor, skip 2 s)

-- <unqualified-name> without its tags: in its parent, where it has one
abbrev pub untagged_as : UnqualifiedCase → Parses Shape → Parses Shape → Option Shape → Parses Shape
untagged_as ConstructorName type param parent s = untagged_ctor false parent s
untagged_as DestructorName type param parent s = untagged_ctor true parent s
untagged_as OrdinaryName type param parent s =
    ordinary_as (ordinary_case s.rest) type param s >>= λ name. Some (in_parent parent name.0, name.1)

-- [L] <unqualified-name>
unfoldable pub parse_unqualified : Parses Shape → Parses Shape → Option Shape → Parses Shape
parse_unqualified type param parent s =
    unqualified_as (unqualified_case (is_some parent) (past_internal s.rest)) type param parent
    (with_rest (past_internal s.rest) s)

-- a parser of unqualified names, in the parent that stands in front of them
abbrev pub ParsesName : Type 0
ParsesName = Option Shape → Parses Shape

-- a list after what stands
abbrev pub attached_by : Parses Shape → Shape → Parses Shape
attached_by args name s = args s >>= λ list. Some (attached name list.0, list.1)

-- <template-args> after a name, or none
abbrev pub attached_as : AttachedCase → Parses Shape → Shape → Parses Shape
attached_as NoneAttached args name s = Some (name, s)
attached_as ArgsAttached args name s = attached_by args name (save name s)

-- the list that a substitution for a template's name has
abbrev pub template_as : AttachedCase → Parses Shape → Shape → Parses Shape
template_as NoneAttached args name s = None
template_as ArgsAttached args name s = attached_by args name s

-- <unscoped-name> [<template-args>]
abbrev pub unscoped_as : UnscopedCase → ParsesName → Parses Shape → Parses Shape
unscoped_as StdName unqualified args s =
    unqualified (Some (plain_shape (codes "std"))) (skip 2 s) >>= λ name.
    attached_as (attached_case name.1.rest) args name.0 name.1
unscoped_as SubstitutionName unqualified args s =
    parse_substitution s >>= λ name. template_as (attached_case name.1.rest) args name.0 name.1
unscoped_as PlainName unqualified args s =
    unqualified None s >>= λ name. attached_as (attached_case name.1.rest) args name.0 name.1

-- the first segment of a <nested-name>
abbrev pub first_as : FirstSegmentCase → ParsesName → Context → Parses Shape
first_as TemplateParamFirst unqualified x s = saved_template_param x s
first_as StdFirst unqualified x s = Some (plain_shape (codes "std"), skip 2 s)
first_as SubstitutionFirst unqualified x s = parse_substitution s
first_as NameFirst unqualified x s = unqualified None s >>= λ name. Some (name.0, save name.0 name.1)

-- what stands of a <nested-name> so far is saved, and the last saved shape is to be taken back at its end
abbrev pub next_segment : Shape × ParserState → Option (Turn (Bool × Shape) Shape × ParserState)
next_segment next = Some (goes_on (true, next.0), past_initializer (save next.0 next.1))

-- a later segment of a <nested-name>, after what stands of it so far: template arguments, or a name
abbrev pub later_segment : SegmentCase → ParsesName → Parses Shape → Shape → Parses Shape
later_segment EndOfSegments unqualified args name s = None
later_segment ArgsSegment unqualified args name s = attached_by args name s
later_segment NameSegment unqualified args name s = unqualified (Some name) s

-- one more segment of a <nested-name>, or its E
abbrev pub segment_as : SegmentCase → ParsesName → Parses Shape → Bool × Shape
    → Parses (Turn (Bool × Shape) Shape)
segment_as EndOfSegments unqualified args so_far s = Some (ends so_far.1, taken_back so_far.0 (skip 1 s))
segment_as ArgsSegment unqualified args so_far s =
    later_segment ArgsSegment unqualified args so_far.1 s >>= fitting >>= next_segment
segment_as NameSegment unqualified args so_far s =
    later_segment NameSegment unqualified args so_far.1 s >>= fitting >>= next_segment

-- one turn of the loop over segments: the next bytes select the case
unfoldable pub segment_turn : ParsesName → Parses Shape → Bool × Shape → Parses (Turn (Bool × Shape) Shape)
segment_turn unqualified args so_far s = segment_as (segment_case s.rest) unqualified args so_far s

-- the later segments of a <nested-name>, up to its E
abbrev pub parse_segments : ParsesName → Parses Shape → Bool → Shape → Parses Shape
parse_segments unqualified args candidate name s = parse_loop (segment_turn unqualified args) (candidate, name) s

-- a parser of names without their own qualifiers, and with these beside them
abbrev pub ParsesBareName : Type 0
ParsesBareName = Parses (Shape × Quals)

-- what is after the qualifiers of a <nested-name>
abbrev pub parse_all_segments : ParsesName → Parses Shape → Context → Parses Shape
parse_all_segments unqualified args x s =
    first_as (first_segment_case s.rest) unqualified x s >>= λ first.
    parse_segments unqualified args (first_segment_is_candidate (first_segment_case s.rest))
    first.0 (past_initializer first.1)

-- a name with the qualifiers that were read in front of it
abbrev pub with_quals : Quals → Shape × ParserState → Option ((Shape × Quals) × ParserState)
with_quals quals name = Some ((name.0, quals), name.1)

-- what is after the N of a <nested-name>
unfoldable pub parse_nested : ParsesName → Parses Shape → Context → ParsesBareName
parse_nested unqualified args x s =
    first_as (first_segment_case (past_name_quals s.rest)) unqualified x
    (with_rest (past_name_quals s.rest) s) >>= λ first.
    parse_segments unqualified args (first_segment_is_candidate (first_segment_case (past_name_quals s.rest)))
    first.0 (past_initializer first.1) >>= λ name.
    Some ((name.0, name_quals s.rest), name.1)

-- what was parsed is dropped, but for what it saved and the scopes that it left
abbrev pub dropped : {A : Type 0} → Option (A × ParserState) → Option ParserState
dropped parsed = parsed >>= λ found. Some found.1

-- the return type of an encoding, which is dropped, or none
abbrev pub return_as : ReturnCase → Parses Shape → ParserState → Option ParserState
return_as NoReturnType type s = Some s
return_as SomeReturnType type s = dropped (type s)

-- the parameters of an encoding after its name, or none: and then the qualifiers that waited
abbrev pub encoding_params_as : EncodingParamsCase → Parses Shape → Shape × Quals → Parses Shape
encoding_params_as NoEncodingParams type name s = Some (with_name_qualifiers name.0 name.1 true, s)
encoding_params_as SomeEncodingParams type name s =
    params_as (params_case s.rest) false type (params_opened name.0) s >>= λ list.
    Some (params_closed name.1 list.0, list.1)

-- what is after the name of an encoding
abbrev pub encoding_end : Parses Shape → Shape × Quals → Parses Shape
encoding_end type name s =
    return_as (return_case name.0.templ name.0.ctor s.rest) type s >>= λ after.
    encoding_params_as (encoding_params_case after.rest) type name after

-- the words of a name's own qualifiers are shown inside a local name, so also of its entity
abbrev pub shows_words : NameCase → Bool → Bool
shows_words LocalName shown = true
shows_words case shown = shown

-- a name with its own qualifiers
abbrev pub qualified_by : ParsesBareName → Context → Parses Shape
qualified_by bare x s =
    bare s >>= λ name.
    fitting (with_name_qualifiers name.0.0 name.0.1 (shows_words (name_case s.rest) x.words_shown), name.1)

-- words around a type or in front of a name
abbrev pub parse_worded : Parses Shape → Parses Shape
parse_worded inner s =
    inner (skip 2 s) >>= λ t. Some (worded_shape (special_text s.rest) t.0 (special_close s.rest), t.1)

-- what is after the name of a reference temporary
abbrev pub temporary_end : Shape → Parses Shape
temporary_end name s = index_of Base36 s.rest >>= λ found. Some (temporary_shape found.0 name, with_rest found.1 s)

-- GR <name> [<seq-id>] _
abbrev pub parse_temporary : Parses Shape → Parses Shape
parse_temporary name s = name (skip 2 s) >>= λ t. temporary_end t.0 t.1

-- TC <type> <offset number> _ <base type>
abbrev pub parse_construction : Parses Shape → Parses Shape
parse_construction type s =
    type (skip 2 s) >>= λ t.
    past_base_offset t.1.rest >>= λ rest.
    type (with_rest rest t.1) >>= λ u.
    Some (construction_shape u.0 t.0, u.1)

-- <special-name>, by what it begins with
abbrev pub special_as : SpecialCase → Parses Shape → Parses Shape → Parses Shape → Parses Shape
special_as TypeSpecial type name thunk s = parse_worded type s
special_as NameSpecial type name thunk s = parse_worded name s
special_as TemporarySpecial type name thunk s = parse_temporary name s
special_as ConstructionSpecial type name thunk s = parse_construction type s
special_as ThunkSpecial type name thunk s = thunk s
special_as UnreadableSpecial type name thunk s = None

-- <special-name>
abbrev pub special_by : Parses Shape → Parses Shape → Parses Shape → Parses Shape
special_by type name thunk s = special_as (special_case s.rest) type name thunk s

-- the words in front of the encoding of a thunk
abbrev pub thunk_words : ThunkOffsets → List ℕ
thunk_words (Single o) = codes "{virtual override thunk(" ++ (offset_text o ++ codes ", ")
thunk_words (Covariant o p) =
    codes "{virtual override thunk(" ++ ((offset_text o ++ codes ", ") ++ (offset_text p ++ codes ", "))

-- T and the offsets of a thunk, as these words
unfoldable pub thunk_front : Parses Shape
thunk_front s =
    thunk_offsets (drop 1 s.rest) >>= λ found. Some (plain_shape (thunk_words found.0), with_rest found.1 s)

-- the offsets of a thunk, and its encoding
abbrev pub thunk_by : Parses Shape → Parses Shape
thunk_by encoding s =
    thunk_offsets (drop 1 s.rest) >>= λ found. encoding (with_rest found.1 s) >>= λ t.
    Some (thunk_shape found.0 t.0, t.1)

-- <encoding>, by what it begins with
abbrev pub encoding_as : EncodingCase → Parses Shape → Parses Shape → ParsesBareName → Parses Shape → Parses Shape
encoding_as SpecialEncoding special name bare type s = special s
encoding_as NameEncoding special name bare type s = name s
encoding_as FullEncoding special name bare type s = bare s >>= λ found. encoding_end type found.0 found.1

-- <encoding>, by what it is made of
abbrev pub encoding_by : EncodingEnd → Parses Shape → ParsesBareName → Parses Shape → Context → Parses Shape
encoding_by end type bare thunk x s =
    encoding_as (encoding_case end s.rest) (special_by type (qualified_by bare x) thunk) (qualified_by bare x) bare
    type s

-- the <encoding> of a local or an external name, by what it is made of
abbrev pub encoding_in : Parses Shape → ParsesBareName → Parses Shape → Context → Parses Shape
encoding_in type bare thunk x s = encoding_by AtE type bare thunk x s

-- what follows the encoding of a <local-name>
abbrev pub entity_as : EntityCase → ParsesBareName → Shape → ParsesBareName
entity_as StringLiteralEntity bare encoding s =
    Some ((appended (codes "::string literal") encoding, no_quals), skip 2 s)
entity_as DefaultArgumentEntity bare encoding s =
    ordinal (drop 2 s.rest) >>= λ found. bare (with_rest found.1 s) >>= λ entity.
    Some ((default_arg_shape encoding found.0 entity.0.0, entity.0.1), entity.1)
entity_as NameEntity bare encoding s =
    bare (skip 1 s) >>= λ entity. Some ((qualified encoding entity.0.0, entity.0.1), entity.1)
entity_as UnreadableEntity bare encoding s = None

-- what is after the Z of a <local-name>: an encoding, and a name in it
unfoldable pub parse_local : Parses Shape → ParsesBareName → ParsesBareName
parse_local encoding bare s = encoding s >>= λ found. entity_as (entity_case found.1.rest) bare found.0 found.1

-- <name>, by what it begins with
abbrev pub name_as : NameCase → ParsesName → Parses Shape → ParsesBareName → Context → ParsesBareName
name_as NestedName unqualified args local x s = parse_nested unqualified args x (skip 1 s)
name_as LocalName unqualified args local x s = local (skip 1 s)
name_as UnscopedName unqualified args local x s =
    unscoped_as (unscoped_case s.rest) unqualified args s >>= λ name. Some ((name.0, no_quals), name.1)

-- past an E, which stands there
abbrev pub past_end : ParserState → Option ParserState
past_end s = if begins (codes "E") s.rest then Some (skip 1 s) else None

-- what was parsed, with an E after it
abbrev pub before_e : Option (Shape × ParserState) → Option (Shape × ParserState)
before_e parsed = parsed >>= λ found. past_end found.1 >>= λ after. Some (found.0, after)

-- the value of a literal after its type
abbrev pub literal_end : Shape → Parses Shape
literal_end type s =
    literal_value s.rest >>= λ found. literal_step type found.0 >>= λ literal. Some (literal, with_rest found.1 s)

-- <expr-primary>, by what it begins with
abbrev pub literal_as : PrimaryCase → Parses Shape → Parses Shape → Parses Shape
literal_as ExternalName type encoding s = before_e (encoding (skip 3 s))
literal_as ValueLiteral type encoding s = type (skip 1 s) >>= λ t. literal_end t.0 t.1
literal_as UnreadablePrimary type encoding s = None

-- <expr-primary>, by what it is made of
abbrev pub primary_by : Parses Shape → Parses Shape → Parses Shape
primary_by type encoding s = literal_as (primary_case s.rest) type encoding s

-- an operand of an expression
abbrev pub operand_by : Parses Shape → Parses Shape
operand_by expression s = expression s >>= λ t. Some (operand_shape (not (is_external s.rest)) t.0, t.1)

-- pp_ <expression> and mm_ <expression>
abbrev pub parse_pre : Parses Shape → Parses Shape
parse_pre expression s = expression (skip 3 s) >>= λ t. Some (pre_shape (expression_text s.rest) t.0, t.1)

-- ad and an external name
abbrev pub parse_address : Parses Shape → Parses Shape
parse_address expression s = expression (skip 2 s) >>= λ t. Some (address_shape t.0, t.1)

-- an operator in front of its operand
abbrev pub parse_unary : Parses Shape → Parses Shape
parse_unary expression s =
    operand_by expression (skip 2 s) >>= λ t. Some (pre_shape (expression_text s.rest) t.0, t.1)

-- pp <expression> and mm <expression>
abbrev pub parse_post : Parses Shape → Parses Shape
parse_post expression s =
    operand_by expression (skip 2 s) >>= λ t. Some (post_shape t.0 (expression_text s.rest), t.1)

-- an operator between its operands
abbrev pub parse_binary : Parses Shape → Parses Shape
parse_binary expression s =
    operand_by expression (skip 2 s) >>= λ t. operand_by expression t.1 >>= λ u.
    Some (binary_shape t.0 (expression_text s.rest) u.0, u.1)

-- gt <expression> <expression>
abbrev pub parse_greater : Parses Shape → Parses Shape
parse_greater expression s =
    expression (skip 2 s) >>= λ t. expression t.1 >>= λ u. Some (greater_shape t.0 u.0, u.1)

-- the two operands between which a condition chooses
abbrev pub parse_alternatives : Parses Shape → Shape → Parses Shape
parse_alternatives expression condition s =
    operand_by expression s >>= λ t. operand_by expression t.1 >>= λ u.
    Some (conditional_shape condition t.0 u.0, u.1)

-- qu <expression> <expression> <expression>
abbrev pub parse_conditional : Parses Shape → Parses Shape
parse_conditional expression s =
    operand_by expression (skip 2 s) >>= λ condition. parse_alternatives expression condition.0 condition.1

-- <expression>, by what it begins with
abbrev pub expression_as : ExpressionCase → Parses Shape → Parses Shape → Context → Parses Shape
expression_as PreExpression expression primary x s = parse_pre expression s
expression_as AddressExpression expression primary x s = parse_address expression s
expression_as UnaryExpression expression primary x s = parse_unary expression s
expression_as PostExpression expression primary x s = parse_post expression s
expression_as BinaryExpression expression primary x s = parse_binary expression s
expression_as GreaterExpression expression primary x s = parse_greater expression s
expression_as ConditionalExpression expression primary x s = parse_conditional expression s
expression_as TemplateParamExpression expression primary x s = parse_template_param x s
expression_as PrimaryExpression expression primary x s = primary s
expression_as UnreadableExpression expression primary x s = None

-- <template-arg>, by what it begins with
abbrev pub argument_as : ArgumentCase → Parses Shape → Parses Shape → Parses Shape → Parses Shape → Parses Shape
argument_as ExpressionArgument pack type expression primary s = before_e (expression (skip 1 s))
argument_as PackArgument pack type expression primary s = pack s
argument_as PrimaryArgument pack type expression primary s = primary s
argument_as ConstraintArgument pack type expression primary s = None
argument_as TypeArgument pack type expression primary s = type s

-- <template-arg>
abbrev pub argument_by : Parses Shape → Parses Shape → Parses Shape → Parses Shape → Parses Shape
argument_by pack type expression primary s = argument_as (argument_case s.rest) pack type expression primary s

-- a pack from its J to its E
abbrev pub parse_packed : Parses Shape → Parses Shape
parse_packed argument s =
    parse_loop (list_turn add_nowhere argument) (true, plain_shape []) (skip 1 s) >>= λ list.
    Some (whole_shape list.0, list.1)

-- how many scopes there are once a list has begun
abbrev pub scopes_in : Bool → ParserState → ℕ
scopes_in opens s = length (open_scope_if opens s).scopes

-- a list from its I to its E
abbrev pub parse_list : Parses Shape → Bool → Parses Shape
parse_list argument opens s =
    parse_loop (list_turn (end_argument opens (scopes_in opens s)) argument) (true, plain_shape (codes "<"))
    (open_scope_if opens (skip 1 s)) >>= λ list.
    Some (whole_shape (arguments_closed list.0), list.1)

-- <template-args> after a type, which is saved with them
abbrev pub type_attached_as : AttachedCase → Parses Shape → Shape → Parses Shape
type_attached_as NoneAttached args name s = Some (name, s)
type_attached_as ArgsAttached args name s = attached_by args name s >>= λ whole. Some (whole.0, save whole.0 whole.1)

-- what is after the parameters of a function, which returns a text of this length
abbrev pub function_end : ℕ → Quals → Shape → Parses Shape
function_end front quals list s =
    Some (function_closed front (with_reference quals s.rest) list, skip 1 (with_rest (past_reference s.rest) s))

-- what is after what a function returns, where that is plain
abbrev pub function_params : Parses Shape → Quals → Shape → Parses Shape
function_params type quals ret s =
    opening_step ret >>= λ opened. params_as (params_case s.rest) true type opened s >>= λ list.
    function_end (text_len ret) quals list.0 list.1

-- <function-type>, by what it begins with
abbrev pub function_as : FunctionCase → Parses Shape → Quals → Parses Shape
function_as ExternFunction type quals s = None
function_as PlainFunction type quals s = type (skip 1 s) >>= λ ret. function_params type quals ret.0 ret.1

-- <function-type>
abbrev pub parse_function : Parses Shape → Quals → Parses Shape
parse_function type quals s = function_as (function_case s.rest) type quals s

-- what <CV-qualifiers> stand in front of
abbrev pub cv_as : CvCase → Parses Shape → Quals → Parses Shape
cv_as CvFunction type quals s = parse_function type quals s
cv_as CvOther type quals s = type s >>= λ inner. Some (cv_shape quals inner.0, inner.1)

-- a type after <CV-qualifiers>
abbrev pub parse_cv : Parses Shape → Parses Shape
parse_cv type s = cv_as (cv_case (past_cv s.rest)) type (cv_quals s.rest) (with_rest (past_cv s.rest) s)

-- what was read is saved
abbrev pub saved_as : Shape → Parses Shape
saved_as t s = Some (t, save t s)

-- a vendor's type, which no <template-args> follow
abbrev pub vendor_as : AttachedCase → Shape → Parses Shape
vendor_as NoneAttached t s = saved_as t s
vendor_as ArgsAttached t s = None

-- u <source-name>
abbrev pub parse_vendor : Parses Shape
parse_vendor s = parse_source (skip 1 s) >>= λ found. vendor_as (attached_case found.1.rest) found.0 found.1

-- the array of what was read, where there is one
abbrev pub saved_array : Option ℕ → Shape → Parses Shape
saved_array dimension elem s = array_step dimension elem >>= λ whole. saved_as whole s

-- the pointer to a member that was read, where there is one
abbrev pub saved_member : Shape → Shape → Parses Shape
saved_member class member s = member_pointer_step class member >>= λ whole. saved_as whole s

-- <pointer-to-member-type>
abbrev pub parse_member : Parses Shape → Parses Shape
parse_member type s = type (skip 1 s) >>= λ class. type class.1 >>= λ member. saved_member class.0 member.0 member.1

-- what a parser gives is saved
abbrev pub saved_by : Parses Shape → Parses Shape
saved_by parse s = parse s >>= λ found. saved_as found.0 found.1

-- <array-type>
abbrev pub parse_array : Parses Shape → Parses Shape
parse_array type s =
    optional_number (drop 1 s.rest) >>= λ found. type (with_rest found.1 s) >>= λ elem.
    saved_array found.0 elem.0 elem.1

-- P <type>, R <type> and O <type>
abbrev pub parse_pointer : Parses Shape → Pointer → Parses Shape
parse_pointer type kind s = type (skip 1 s) >>= λ inner. saved_as (pointer_shape kind inner.0) inner.1

-- Ts <name>, Tu <name> and Te <name>
abbrev pub parse_elaborated : Parses Shape → Parses Shape
parse_elaborated name s =
    name (skip 2 s) >>= λ found. saved_as (elaborated_shape (elaborated_text s.rest) found.0) found.1

-- <template-param> [<template-args>]
abbrev pub template_param_type : Parses Shape → Context → Parses Shape
template_param_type args x s =
    saved_template_param x s >>= λ found. type_attached_as (attached_case found.1.rest) args found.0 found.1

-- <substitution> [<template-args>]
abbrev pub substitution_type : Parses Shape → Parses Shape
substitution_type args s =
    parse_substitution s >>= λ found. type_attached_as (attached_case found.1.rest) args found.0 found.1

-- the dots of an expansion, which aren't printed in a pack
abbrev pub expansion_in : Bool → Shape → Shape
expansion_in in_pack t = if in_pack then t else expansion_shape t

-- Dp <type>
abbrev pub parse_expansion : Parses Shape → Bool → Parses Shape
parse_expansion type in_pack s = type (skip 2 s) >>= λ found. saved_as (expansion_in in_pack found.0) found.1

-- <type>, by what it begins with
abbrev pub type_as : TypeCase → Parses Shape → Parses Shape → Parses Shape → Context → Parses Shape
type_as BuiltinType type name args x s = Some (plain_shape (builtin_text s.rest), with_rest (past_builtin s.rest) s)
type_as ExpansionType type name args x s = parse_expansion type x.dots_hidden s
type_as VendorType type name args x s = parse_vendor s
type_as ArrayType type name args x s = parse_array type s
type_as FunctionType type name args x s = saved_by (parse_function type no_quals) s
type_as PointerToMemberType type name args x s = parse_member type s
type_as (PointerType kind) type name args x s = parse_pointer type kind s
type_as CvType type name args x s = saved_by (parse_cv type) s
type_as ElaboratedType type name args x s = parse_elaborated name s
type_as TemplateParamType type name args x s = template_param_type args x s
type_as SubstitutionType type name args x s = substitution_type args s
type_as UnreadableType type name args x s = None
type_as NameType type name args x s = saved_by name s

-- The first number is how many counted productions may still open. One that prints more than the limit isn't read.
unfoldable mutual
  -- <name>, without its own qualifiers
  pub parse_bare_name : ℕ → Context → ParsesBareName
  parse_bare_name zero x s = None
  parse_bare_name (suc d) x s =
      name_as (name_case s.rest) (parse_unqualified (parse_type d x) (parse_type d (inside_lambda x)))
      (parse_args d x true)
      (parse_local
      (encoding_in (parse_type d (inside_encoding x)) (parse_bare_name d (inside_encoding x))
      (parse_thunk d (inside_encoding x)) (inside_encoding x))
      (parse_bare_name d (showing_words x)))
      x (enter s) >>= fitting_bare

  -- <template-args>
  pub parse_args : ℕ → Context → Bool → Parses Shape
  parse_args zero x of_name s = None
  parse_args (suc d) x of_name s =
      parse_list (argument_by (parse_pack d x) (parse_type d x) (parse_expression d x)
      (primary_by (parse_type d x)
      (encoding_in (parse_type d (inside_encoding x)) (parse_bare_name d (inside_encoding x))
      (parse_thunk d (inside_encoding x)) (inside_encoding x))))
      (opens_scope of_name x) (enter s) >>= fitting

  -- J <template-arg>* E
  pub parse_pack : ℕ → Context → Parses Shape
  parse_pack zero x s = None
  parse_pack (suc d) x s =
      parse_packed (argument_by (parse_pack d (hiding_dots x)) (parse_type d (hiding_dots x))
      (parse_expression d (hiding_dots x))
      (primary_by (parse_type d (hiding_dots x))
      (encoding_in (parse_type d (inside_encoding (hiding_dots x)))
      (parse_bare_name d (inside_encoding (hiding_dots x))) (parse_thunk d (inside_encoding (hiding_dots x)))
      (inside_encoding (hiding_dots x)))))
      (enter s) >>= fitting

  -- <type>
  pub parse_type : ℕ → Context → Parses Shape
  parse_type zero x s = None
  parse_type (suc d) x s =
      type_as (type_case s.rest) (parse_type d (inside_type x))
      (qualified_by (parse_bare_name d (inside_type x)) (inside_type x))
      (parse_args d (inside_type x) false) (inside_type x) (enter s) >>= fitting

  -- <expression>
  pub parse_expression : ℕ → Context → Parses Shape
  parse_expression zero x s = None
  parse_expression (suc d) x s =
      expression_as (expression_case s.rest) (parse_expression d x) (primary_by (parse_type d x)
      (encoding_in (parse_type d (inside_encoding x)) (parse_bare_name d (inside_encoding x))
      (parse_thunk d (inside_encoding x)) (inside_encoding x)))
      x (enter s) >>= fitting

  -- T <call-offset> <encoding> and T c <call-offset> <call-offset> <encoding>
  pub parse_thunk : ℕ → Context → Parses Shape
  parse_thunk zero x s = None
  parse_thunk (suc d) x s =
      thunk_by (encoding_by AfterName (parse_type d x) (parse_bare_name d x) (parse_thunk d x) x) (enter s)
      >>= fitting

-- <unqualified-name>, whose types nest at most d productions
abbrev pub unqualified_name : ℕ → Context → ParsesName
unqualified_name d x = parse_unqualified (parse_type d x) (parse_type d (inside_lambda x))

-- <name>
unfoldable pub parse_name : ℕ → Context → Parses Shape
parse_name d x = qualified_by (parse_bare_name d x) x

-- <special-name>
unfoldable pub parse_special : ℕ → Context → Parses Shape
parse_special d x = special_by (parse_type d x) (parse_name d x) (parse_thunk d x)

-- <encoding>
unfoldable pub parse_encoding : ℕ → EncodingEnd → Context → Parses Shape
parse_encoding d end x s =
    encoding_as (encoding_case end s.rest) (parse_special d x) (parse_name d x) (parse_bare_name d x)
    (parse_type d x) s

-- <expr-primary>
unfoldable pub parse_primary : ℕ → Context → Parses Shape
parse_primary d x = primary_by (parse_type d x) (parse_encoding d AtE (inside_encoding x))

-- <template-arg>
unfoldable pub parse_argument : ℕ → Context → Parses Shape
parse_argument d x = argument_by (parse_pack d x) (parse_type d x) (parse_expression d x) (parse_primary d x)
