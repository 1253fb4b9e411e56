-- The grammar: which bytes are read as which tree (Itanium C++ ABI 5.1). A case without a constructor isn't read.
--
-- x is a context. p, q, r and s are positions, one after another. t, u, v and parent are trees, ts is a list of trees,
-- o, m and n are operands. c, d and e are costs. i, k and number are numbers. bytes, rest, value and text are bytes.
--
-- The indices of a reading stand in this order: the case that the next bytes begin, where the family is named ..As;
-- truth values; the context; what stands in front; the position before; the tree; the position after; the cost.
use Rattle.std.specs.Prelude.{◌≡◌, ℕ, ◌+◌, ◌-◌, max, Bool, true, false, if◌then◌else◌, slice_get}
use Rattle.std.specs.Prelude.{slice_index_or, List, [], ◌∷◌, ◌++◌, Option, Some, None, is_some, take, drop, length}
use Rattle.std.specs.Prelude.{codes, option_map}
use Rattle.demangle_text.specs.Shape.{is_plain}
use Rattle.demangle_quals.specs.declared.quals.Pointer.{Pointer}
use Rattle.demangle_quals.specs.declared.quals.Quals.{Quals}
use Rattle.demangle_quals.specs.Quals.{no_quals}
use Rattle.demangle_edit.specs.Types.{may_be_element, may_be_member}
use Rattle.demangle_edit.specs.Expressions.{has_literal}
use Rattle.itanium_syntax.specs.declared.abbreviations.Abbreviation.{Abbreviation}
use Rattle.itanium_syntax.specs.declared.context.Context.{Context}
use Rattle.abi_scalars.specs.declared.numerals.Radix.TheVariants.{Decimal, Base36}
use Rattle.itanium_grammar.specs.Cases.{AfterName, AtE, EncodingCase, SpecialEncoding, NameEncoding}
use Rattle.itanium_grammar.specs.Cases.{FullEncoding, SpecialCase, TypeSpecial, NameSpecial, TemporarySpecial, ConstructionSpecial, ThunkSpecial, NameCase, NestedName}
use Rattle.itanium_grammar.specs.Cases.{LocalName, UnscopedName, ReturnCase, NoReturnType, SomeReturnType}
use Rattle.itanium_grammar.specs.Cases.{EncodingParamsCase, NoEncodingParams, SomeEncodingParams, EntityCase, StringLiteralEntity}
use Rattle.itanium_grammar.specs.Cases.{DefaultArgumentEntity, NameEntity, UnscopedCase, StdName, SubstitutionName}
use Rattle.itanium_grammar.specs.Cases.{PlainName, AttachedCase, NoneAttached, ArgsAttached, FirstSegmentCase, TemplateParamFirst}
use Rattle.itanium_grammar.specs.Cases.{StdFirst, SubstitutionFirst, NameFirst, SegmentCase, EndOfSegments, ArgsSegment}
use Rattle.itanium_grammar.specs.Cases.{NameSegment, UnqualifiedCase, ConstructorName, DestructorName, OrdinaryName}
use Rattle.itanium_grammar.specs.Cases.{OrdinaryCase, SourceName, UnnamedTypeName, LambdaName, ConversionName}
use Rattle.itanium_grammar.specs.Cases.{LiteralOperatorName, OperatorName, TagCase, NoTag, NextTag, SubstitutionCase}
use Rattle.itanium_grammar.specs.Cases.{AbbreviationSubstitution, ComponentSubstitution, ArgumentListCase, EndOfArguments}
use Rattle.itanium_grammar.specs.Cases.{NextArgument, ArgumentCase, ExpressionArgument, PackArgument, PrimaryArgument}
use Rattle.itanium_grammar.specs.Cases.{TypeArgument, PrimaryCase, ExternalName, ValueLiteral, ExpressionCase}
use Rattle.itanium_grammar.specs.Cases.{PreExpression, AddressExpression, UnaryExpression, PostExpression}
use Rattle.itanium_grammar.specs.Cases.{BinaryExpression, GreaterExpression, ConditionalExpression, TemplateParamExpression}
use Rattle.itanium_grammar.specs.Cases.{PrimaryExpression, TypeCase, BuiltinType, ExpansionType, VendorType, ArrayType}
use Rattle.itanium_grammar.specs.Cases.{FunctionType, PointerToMemberType, PointerType, CvType, ElaboratedType, TemplateParamType}
use Rattle.itanium_grammar.specs.Cases.{SubstitutionType, NameType, CvCase, CvFunction, CvOther, PlainFunction}
use Rattle.itanium_grammar.specs.Cases.{ParamsCase, NoParams, SomeParams, TypeListCase, EndOfTypes, NextType}
use Rattle.abi_scalars.specs.Scalars.{source_name, index_of, source_text}
use Rattle.itanium_syntax.specs.Numbers.{ordinal, optional_number}
use Rattle.itanium_syntax.specs.Operators.{operator_here}
use Rattle.itanium_syntax.specs.Abbreviations.{abbreviation_of}
use Rattle.itanium_syntax.specs.Context.{opens_scope, inside_type, hiding_dots, inside_lambda, showing_words, inside_encoding}
use Rattle.itanium_syntax.specs.Names.{name_case, unscoped_case, first_segment_case, segment_case}
use Rattle.itanium_syntax.specs.Names.{unqualified_case, ordinary_case, tag_case, past_internal, past_initializer_letter}
use Rattle.itanium_syntax.specs.Names.{name_quals, past_name_quals, first_segment_is_candidate, substitution_case}
use Rattle.abi_scalars.specs.Bytes.{begins}
use Rattle.itanium_syntax.specs.Expressions.{is_external, primary_case, literal_value, expression_text, expression_case}
use Rattle.itanium_syntax.specs.declared.offsets.ThunkOffsets.{ThunkOffsets}
use Rattle.itanium_syntax.specs.Offsets.{thunk_offsets, past_base_offset}
use Rattle.itanium_syntax.specs.Specials.{special_case, special_text, special_close}
use Rattle.itanium_syntax.specs.Encodings.{return_case, encoding_params_case, entity_case, encoding_case}
use Rattle.itanium_syntax.specs.Args.{attached_case, argument_list_case, argument_case}
use Rattle.itanium_syntax.specs.Types.{type_case, builtin_text, past_builtin, cv_quals, past_cv, with_reference, past_reference, cv_case, function_case, params_case, type_list_case, elaborated_text}
use Rattle.itanium_grammar.specs.Tree.{Tree, worded, temporary_of, construction_of, thunk_of, Operand, operand}
use Rattle.itanium_grammar.specs.Tree.{literal_of, address_of, pre_of, unary_of, post_of, binary_of, greater_of}
use Rattle.itanium_grammar.specs.Tree.{conditional_of, local_in, string_literal_of, default_argument_of, encoding_of}
use Rattle.itanium_grammar.specs.Tree.{function_encoding, name_printing, plain_text, abbreviation, ctor_dtor_of}
use Rattle.itanium_grammar.specs.Tree.{tagged_with, with_args, lambda_of, conversion_to, nested_of, pointer_to, cv_of}
use Rattle.itanium_grammar.specs.Tree.{array_of, member_of, function_to, elaborated, pack_of, trees, in_parent}
use Rattle.itanium_grammar.specs.Tree.{unnamed_text, literal_operator_text, expanded, shape_of, printing, list_printing}

-- a position: the bytes that are left, the trees saved so far, and the scopes with their arguments
pub record Position : Type 0 where
  pub rest : List ℕ
  pub saved : List Tree
  pub scopes : List (List Tree)

-- what a reading costs: how many counted productions it holds, how many of these nest, the greatest length of the
-- substitution table right after a tree was saved, or 0, and the greatest number of bytes that the tree of a counted
-- production prints
pub record Cost : Type 0 where
  pub count : ℕ
  pub depth : ℕ
  pub peak : ℕ
  pub width : ℕ

-- the same position, before these bytes
abbrev pub with_rest : List ℕ → Position → Position
with_rest bytes p = record p { rest = bytes }

-- the position after n bytes
abbrev pub skip : ℕ → Position → Position
skip n p = with_rest (drop n p.rest) p

-- the same position, with the tree saved last
abbrev pub save : Tree → Position → Position
save t p = record p { saved = p.saved ++ t ∷ [] }

-- the last saved tree is removed if the truth value is true
abbrev pub taken_back : Bool → Position → Position
taken_back candidate p = record p { saved = if candidate then take (length p.saved - 1) p.saved else p.saved }

-- past the M of a data member's initializer
abbrev pub past_initializer : Position → Position
past_initializer p = with_rest (past_initializer_letter p.rest) p

-- no production is entered
abbrev pub nothing : Cost
nothing = record { count = 0; depth = 0; peak = 0; width = 0 }

-- a tree is saved after those that the position has
abbrev pub saving : Position → Cost
saving p = record { count = 0; depth = 0; peak = length p.saved + 1; width = 0 }

-- one reading after another
abbrev pub both : Cost → Cost → Cost
both c d = record {
  count = c.count + d.count;
  depth = max c.depth d.depth;
  peak = max c.peak d.peak;
  width = max c.width d.width;
}

-- a counted production that prints so many bytes, around what it holds
abbrev pub counted : ℕ → Cost → Cost
counted bytes c = record { count = c.count + 1; depth = c.depth + 1; peak = c.peak; width = max bytes c.width }

-- the arguments of the last scope
abbrev pub last_of : List (List Tree) → List Tree
last_of scopes = slice_index_or scopes (length scopes - 1) []

-- the scopes inside a list: those outside, and the list's own if it opened one
abbrev pub scopes_inside : List (List Tree) → Option (List Tree) → List (List Tree)
scopes_inside outer None = outer
scopes_inside outer (Some own) = outer ++ own ∷ []

-- the same position, inside a list
abbrev pub within_list : List (List Tree) → Option (List Tree) → Position → Position
within_list outer own p = record p { scopes = scopes_inside outer own }

-- <substitution> after its S
pub data SubstitutionAs : SubstitutionCase → Position → Tree → Position → Type 0 where
  -- Sa | Sb | Ss | Si | So | Sd
  abbreviation_substitution : {p : Position} {abbreviated : Abbreviation}
      → abbreviation_of p.rest ≡ Some abbreviated
      → SubstitutionAs AbbreviationSubstitution p (abbreviation abbreviated) (skip 1 p)
  -- S_ is the first saved tree, S <seq-id> _ the one after that number
  component_substitution : {p : Position} {t : Tree} {i : ℕ} {rest : List ℕ}
      → index_of Base36 p.rest ≡ Some (i, rest)
      → slice_get p.saved i ≡ Some t
      → SubstitutionAs ComponentSubstitution p t (with_rest rest p)

-- <substitution> ::= S [<seq-id>] _ | Sa | Sb | Ss | Si | So | Sd
abbrev pub Substitution : Position → Tree → Position → Type 0
Substitution p = SubstitutionAs (substitution_case (drop 1 p.rest)) (skip 1 p)

-- the argument that a <template-param> names
pub data ArgumentNamed : Bool → ℕ → Position → Tree → Type 0 where
  -- `auto` in a lambda's signature
  auto_parameter : {p : Position} {i : ℕ}
      → ArgumentNamed true i p (plain_text (codes "auto"))
  -- an argument of the last scope, among those already read
  scope_parameter : {p : Position} {t : Tree} {i : ℕ}
      → slice_get (last_of p.scopes) i ≡ Some t
      → ArgumentNamed false i p t

-- <template-param> ::= T [<number>] _
pub data TemplateParam : Context → Position → Tree → Position → Type 0 where
  template_param : {x : Context} {p : Position} {t : Tree} {i : ℕ} {rest : List ℕ}
      → index_of Decimal (drop 1 p.rest) ≡ Some (i, rest)
      → ArgumentNamed x.lambda i p t
      → TemplateParam x p t (with_rest rest p)

-- <abi-tags> ::= (B <source-name>)* after a name
pub data TaggedAs : TagCase → Tree → Position → Tree → Position → Type 0 where
  -- no tag
  no_tag : {p : Position} {t : Tree}
      → TaggedAs NoTag t p t p
  -- B <source-name>, and further tags
  next_tag : {p q : Position} {t u : Tree} {bytes rest : List ℕ}
      → source_name (drop 1 p.rest) ≡ Some (bytes, rest)
      → TaggedAs (tag_case rest) (tagged_with t (source_text bytes)) (with_rest rest p) u q
      → TaggedAs NextTag t p u q

mutual
  -- <name> ::= <nested-name> | <local-name> | <unscoped-name> | <unscoped-template-name> <template-args>: counted. If
  -- the truth value is true, the <encoding> around it prints the name's own qualifiers: the width is without them
  pub data Name : Bool → Context → Position → Tree → Position → Cost → Type 0 where
    name : {bare : Bool} {x : Context} {p q : Position} {t : Tree} {c : Cost}
        → NameAs (name_case p.rest) bare x p t q c
        → Name bare x p t q (counted (length (name_printing bare t)) c)

  -- <name>, by what it begins with
  pub data NameAs : NameCase → Bool → Context → Position → Tree → Position → Cost → Type 0 where
    -- <nested-name>
    nested_name : {bare : Bool} {x : Context} {p q : Position} {t : Tree} {c : Cost}
        → Nested x (skip 1 p) t q c
        → NameAs NestedName bare x p t q c
    -- <local-name>
    local_name : {bare : Bool} {x : Context} {p q : Position} {t : Tree} {c : Cost}
        → Local bare x (skip 1 p) t q c
        → NameAs LocalName bare x p t q c
    -- <unscoped-name>, with <template-args> or without
    unscoped_name : {bare : Bool} {x : Context} {p q : Position} {t : Tree} {c : Cost}
        → UnscopedAs (unscoped_case p.rest) x p t q c
        → NameAs UnscopedName bare x p t q c

  -- <local-name> ::= Z <encoding> E <name> | Z <encoding> E s | Z <encoding> E d [<number>] _ <name>, after its Z: in
  -- the encoding words are shown, and no type is around it
  pub data Local : Bool → Context → Position → Tree → Position → Cost → Type 0 where
    local : {bare : Bool} {x : Context} {p q r : Position} {t u : Tree} {c d : Cost}
        → EncodingAs (encoding_case AtE p.rest) (inside_encoding x) p t q c
        → EntityAs (entity_case q.rest) bare (showing_words x) t q u r d
        → Local bare x p u r (both c d)

  -- what follows the encoding of a <local-name>, with the E in front of it
  pub data EntityAs : EntityCase → Bool → Context → Tree → Position → Tree → Position → Cost → Type 0 where
    -- E s
    string_literal_entity : {bare : Bool} {x : Context} {p : Position} {t : Tree}
        → EntityAs StringLiteralEntity bare x t p (string_literal_of t) (skip 2 p) nothing
    -- E d [<number>] _ <name>
    default_argument_entity :
        {bare : Bool} {x : Context} {p q : Position} {t u : Tree} {c : Cost} {number : ℕ} {rest : List ℕ}
        → ordinal (drop 2 p.rest) ≡ Some (number, rest)
        → Name bare x (with_rest rest p) u q c
        → EntityAs DefaultArgumentEntity bare x t p (default_argument_of t number u) q c
    -- E <name>
    name_entity : {bare : Bool} {x : Context} {p q : Position} {t u : Tree} {c : Cost}
        → Name bare x (skip 1 p) u q c
        → EntityAs NameEntity bare x t p (local_in t u) q c

  -- <encoding> ::= <special-name> | <name> [<return type>] [<parameter types>], by how it ends and what it begins with
  pub data EncodingAs : EncodingCase → Context → Position → Tree → Position → Cost → Type 0 where
    -- <special-name>
    special_encoding : {x : Context} {p q : Position} {t : Tree} {c : Cost}
        → SpecialAs (special_case p.rest) x p t q c
        → EncodingAs SpecialEncoding x p t q c
    -- a <name> that is all of it
    name_encoding : {x : Context} {p q : Position} {t : Tree} {c : Cost}
        → Name false x p t q c
        → EncodingAs NameEncoding x p t q c
    -- a <name>, whose own qualifiers wait, then its return type and its parameters
    full_encoding : {x : Context} {p q r s : Position} {t u : Tree} {c d e : Cost}
        → Name true x p t q c
        → ReturnAs (return_case (shape_of t).templ (shape_of t).ctor q.rest) x q r d
        → EncodingParamsAs (encoding_params_case r.rest) x t r u s e
        → EncodingAs FullEncoding x p u s (both c (both d e))

  -- <special-name>, by what it begins with
  pub data SpecialAs : SpecialCase → Context → Position → Tree → Position → Cost → Type 0 where
    -- TV <type> | TT <type> | TI <type> | TS <type> | TF <type>
    type_special : {x : Context} {p q : Position} {t : Tree} {c : Cost}
        → TypeOf x (skip 2 p) t q c
        → SpecialAs TypeSpecial x p (worded (special_text p.rest) t (special_close p.rest)) q c
    -- TH <name> | TW <name> | GV <name>
    name_special : {x : Context} {p q : Position} {t : Tree} {c : Cost}
        → Name false x (skip 2 p) t q c
        → SpecialAs NameSpecial x p (worded (special_text p.rest) t (special_close p.rest)) q c
    -- GR <name> [<seq-id>] _
    temporary_special :
        {x : Context} {p q : Position} {t : Tree} {c : Cost} {number : ℕ} {rest : List ℕ}
        → Name false x (skip 2 p) t q c
        → index_of Base36 q.rest ≡ Some (number, rest)
        → SpecialAs TemporarySpecial x p (temporary_of number t) (with_rest rest q) c
    -- TC <type> <offset number> _ <base type>: the vtable of the base in the type; the number isn't printed
    construction_special :
        {x : Context} {p q r : Position} {t u : Tree} {c d : Cost} {rest : List ℕ}
        → TypeOf x (skip 2 p) t q c
        → past_base_offset q.rest ≡ Some rest
        → TypeOf x (with_rest rest q) u r d
        → SpecialAs ConstructionSpecial x p (construction_of u t) r (both c d)
    -- a thunk
    thunk_special : {x : Context} {p q : Position} {t : Tree} {c : Cost}
        → Thunk x p t q c
        → SpecialAs ThunkSpecial x p t q c

  -- T <call-offset> <encoding> | T c <call-offset> <call-offset> <encoding>: counted. Its encoding has no parameters
  pub data Thunk : Context → Position → Tree → Position → Cost → Type 0 where
    thunk : {x : Context} {p q : Position} {t : Tree} {c : Cost} {offsets : ThunkOffsets} {rest : List ℕ}
        → thunk_offsets (drop 1 p.rest) ≡ Some (offsets, rest)
        → EncodingAs (encoding_case AfterName rest) x (with_rest rest p) t q c
        → Thunk x p (thunk_of offsets t) q (counted (length (printing (thunk_of offsets t))) c)

  -- the return type of an encoding, or none: it isn't printed, and what it saved and the scopes that it left stay
  pub data ReturnAs : ReturnCase → Context → Position → Position → Cost → Type 0 where
    -- no return type
    no_return_type : {x : Context} {p : Position}
        → ReturnAs NoReturnType x p p nothing
    -- <type>
    some_return_type : {x : Context} {p q : Position} {t : Tree} {c : Cost}
        → TypeOf x p t q c
        → ReturnAs SomeReturnType x p q c

  -- the parameters of an encoding, or none
  pub data EncodingParamsAs : EncodingParamsCase → Context → Tree → Position → Tree → Position → Cost → Type 0 where
    -- the end of the encoding after the name or its return type
    no_encoding_params : {x : Context} {p : Position} {t : Tree}
        → EncodingParamsAs NoEncodingParams x t p (encoding_of t) p nothing
    -- <parameter types>
    some_encoding_params : {x : Context} {p q : Position} {t : Tree} {ts : List Tree} {c : Cost}
        → ParamsAs (params_case p.rest) false x p ts q c
        → EncodingParamsAs SomeEncodingParams x t p (function_encoding t (trees ts)) q c

  -- <unscoped-name> [<template-args>], or a <substitution> with <template-args>
  pub data UnscopedAs : UnscopedCase → Context → Position → Tree → Position → Cost → Type 0 where
    -- St <unqualified-name> [<template-args>]
    std_name : {x : Context} {p q r : Position} {t u : Tree} {c d : Cost}
        → Unqualified x (Some (plain_text (codes "std"))) (skip 2 p) t q c
        → AttachedAs (attached_case q.rest) x t q u r d
        → UnscopedAs StdName x p u r (both c d)
    -- <substitution> <template-args>
    substitution_name : {x : Context} {p q r : Position} {t : Tree} {ts : List Tree} {c : Cost}
        → Substitution p t q
        → attached_case q.rest ≡ ArgsAttached
        → Args true x q ts r c
        → UnscopedAs SubstitutionName x p (with_args t (trees ts)) r c
    -- <unqualified-name> [<template-args>]
    plain_name : {x : Context} {p q r : Position} {t u : Tree} {c d : Cost}
        → Unqualified x None p t q c
        → AttachedAs (attached_case q.rest) x t q u r d
        → UnscopedAs PlainName x p u r (both c d)

  -- <template-args> after a name, or none
  pub data AttachedAs : AttachedCase → Context → Tree → Position → Tree → Position → Cost → Type 0 where
    -- no <template-args>
    none_attached : {x : Context} {p : Position} {t : Tree}
        → AttachedAs NoneAttached x t p t p nothing
    -- <template-args>: the name is saved before they are read
    args_attached : {x : Context} {p q : Position} {t : Tree} {ts : List Tree} {c : Cost}
        → Args true x (save t p) ts q c
        → AttachedAs ArgsAttached x t p (with_args t (trees ts)) q (both (saving p) c)

  -- <unqualified-name> that asks for no parent, without its tags
  pub data OrdinaryAs : OrdinaryCase → Context → Position → Tree → Position → Cost → Type 0 where
    -- <source-name>
    ordinary_source : {x : Context} {p : Position} {bytes rest : List ℕ}
        → source_name p.rest ≡ Some (bytes, rest)
        → OrdinaryAs SourceName x p (plain_text (source_text bytes)) (with_rest rest p) nothing
    -- <unnamed-type-name> ::= Ut [<nonnegative number>] _
    ordinary_unnamed_type : {x : Context} {p : Position} {k : ℕ} {rest : List ℕ}
        → ordinal (drop 2 p.rest) ≡ Some (k, rest)
        → OrdinaryAs UnnamedTypeName x p (plain_text (unnamed_text k)) (with_rest rest p) nothing
    -- <closure-type-name> ::= Ul <lambda-sig> E [<nonnegative number>] _
    ordinary_lambda : {x : Context} {p q : Position} {ts : List Tree} {c : Cost} {k : ℕ} {rest : List ℕ}
        → ParamsAs (params_case (drop 2 p.rest)) false (inside_lambda x) (skip 2 p) ts q c
        → ordinal (drop 1 q.rest) ≡ Some (k, rest)
        → OrdinaryAs LambdaName x p (lambda_of (trees ts) k) (with_rest rest q) c
    -- <operator-name> ::= cv <type>
    ordinary_conversion : {x : Context} {p q : Position} {t : Tree} {c : Cost}
        → TypeOf x (skip 2 p) t q c
        → OrdinaryAs ConversionName x p (conversion_to t) q c
    -- <operator-name> ::= li <source-name>
    ordinary_literal_operator : {x : Context} {p : Position} {bytes rest : List ℕ}
        → source_name (drop 2 p.rest) ≡ Some (bytes, rest)
        → OrdinaryAs LiteralOperatorName x p (plain_text (literal_operator_text bytes)) (with_rest rest p) nothing
    -- <operator-name>, a code of two letters
    ordinary_operator : {x : Context} {p : Position} {text : List ℕ}
        → operator_here p.rest ≡ Some text
        → OrdinaryAs OperatorName x p (plain_text (codes "operator" ++ text)) (skip 2 p) nothing

  -- <unqualified-name>, in the parent that stands in front of it, if one does
  pub data UnqualifiedAs : UnqualifiedCase → Context → Option Tree → Position → Tree → Position → Cost → Type 0 where
    -- <ctor-dtor-name> ::= C1 | .. | C5, and then [<abi-tags>]
    constructor_unqualified : {x : Context} {p q : Position} {parent t : Tree}
        → TaggedAs (tag_case (drop 2 p.rest)) (ctor_dtor_of parent false) (skip 2 p) t q
        → UnqualifiedAs ConstructorName x (Some parent) p t q nothing
    -- <ctor-dtor-name> ::= D0 | D1 | D2 | D4 | D5, and then [<abi-tags>]
    destructor_unqualified : {x : Context} {p q : Position} {parent t : Tree}
        → TaggedAs (tag_case (drop 2 p.rest)) (ctor_dtor_of parent true) (skip 2 p) t q
        → UnqualifiedAs DestructorName x (Some parent) p t q nothing
    -- another name and [<abi-tags>], and then in its parent
    ordinary_unqualified : {x : Context} {p q r : Position} {t u : Tree} {parent : Option Tree} {c : Cost}
        → OrdinaryAs (ordinary_case p.rest) x p t q c
        → TaggedAs (tag_case q.rest) t q u r
        → UnqualifiedAs OrdinaryName x parent p (in_parent parent u) r c

  -- [L] and an <unqualified-name>
  pub data Unqualified : Context → Option Tree → Position → Tree → Position → Cost → Type 0 where
    unqualified : {x : Context} {p q : Position} {t : Tree} {parent : Option Tree} {c : Cost}
        → UnqualifiedAs (unqualified_case (is_some parent) (past_internal p.rest)) x parent
        (with_rest (past_internal p.rest) p) t q c
        → Unqualified x parent p t q c

  -- the first segment of a <nested-name>
  pub data FirstAs : FirstSegmentCase → Context → Position → Tree → Position → Cost → Type 0 where
    -- <template-param>, which is saved
    template_param_first : {x : Context} {p q : Position} {t : Tree}
        → TemplateParam x p t q
        → FirstAs TemplateParamFirst x p t (save t q) (saving q)
    -- St
    std_first : {x : Context} {p : Position}
        → FirstAs StdFirst x p (plain_text (codes "std")) (skip 2 p) nothing
    -- <substitution>, which isn't saved again
    substitution_first : {x : Context} {p q : Position} {t : Tree}
        → Substitution p t q
        → FirstAs SubstitutionFirst x p t q nothing
    -- <unqualified-name>, which is saved
    name_first : {x : Context} {p q : Position} {t : Tree} {c : Cost}
        → Unqualified x None p t q c
        → FirstAs NameFirst x p t (save t q) (both c (saving q))

  -- <nested-name> ::= N [<CV-qualifiers>] [<ref-qualifier>] <prefix> E | N H <prefix> E, after its N
  pub data Nested : Context → Position → Tree → Position → Cost → Type 0 where
    nested : {x : Context} {p q r : Position} {t u : Tree} {c d : Cost}
        → FirstAs (first_segment_case (past_name_quals p.rest)) x (with_rest (past_name_quals p.rest) p) t q c
        → SegmentsAs (segment_case (past_initializer q).rest)
        (first_segment_is_candidate (first_segment_case (past_name_quals p.rest))) x t (past_initializer q) u r d
        → Nested x p (nested_of u (name_quals p.rest) x.words_shown) r (both c d)

  -- after a <prefix> with the tree t: one more segment, or the E. If `candidate` is true, t was saved as a component
  -- when it was read, and the E removes it again
  pub data SegmentsAs : SegmentCase → Bool → Context → Tree → Position → Tree → Position → Cost → Type 0 where
    -- E
    end_of_segments : {candidate : Bool} {x : Context} {p : Position} {t : Tree}
        → SegmentsAs EndOfSegments candidate x t p t (taken_back candidate (skip 1 p)) nothing
    -- <template-args>: what stands with them is saved
    args_segment : {candidate : Bool} {x : Context} {p q r : Position} {t v : Tree} {ts : List Tree} {c d : Cost}
        → Args true x p ts q c
        → SegmentsAs (segment_case (past_initializer q).rest) true x (with_args t (trees ts))
        (past_initializer (save (with_args t (trees ts)) q)) v r d
        → SegmentsAs ArgsSegment candidate x t p v r (both c (both (saving q) d))
    -- <unqualified-name> in the parent of what stands: both together are saved
    name_segment : {candidate : Bool} {x : Context} {p q r : Position} {t u v : Tree} {c d : Cost}
        → Unqualified x (Some t) p u q c
        → SegmentsAs (segment_case (past_initializer q).rest) true x u (past_initializer (save u q)) v r d
        → SegmentsAs NameSegment candidate x t p v r (both c (both (saving q) d))

  -- <template-args> ::= I <template-arg>* E, of a name or of a type: counted
  pub data Args : Bool → Context → Position → List Tree → Position → Cost → Type 0 where
    args : {of_name : Bool} {x : Context} {p q : Position} {ts : List Tree} {c : Cost}
        → ArgumentListAs (argument_list_case (drop 1 p.rest)) x p.scopes
        (if opens_scope of_name x then Some [] else None) (skip 1 p) ts q c
        → Args of_name x p ts q (counted (length (list_printing ts)) c)

  -- one more <template-arg>, or the E after them. It is read inside the scopes outside the list and the list's own, if
  -- it opened one. Then the scopes that it opened are dropped, and it goes into the list's own
  pub data ArgumentListAs : ArgumentListCase → Context → List (List Tree) → Option (List Tree) → Position
      → List Tree → Position → Cost → Type 0 where
    -- E
    end_of_arguments : {x : Context} {p : Position} {outer : List (List Tree)} {own : Option (List Tree)}
        → ArgumentListAs EndOfArguments x outer own p [] (within_list outer own (skip 1 p)) nothing
    -- <template-arg>
    one_more_argument :
        {x : Context} {p q r : Position} {t : Tree} {ts : List Tree} {c d : Cost} {outer : List (List Tree)}
        {own : Option (List Tree)}
        → ArgumentAs (argument_case p.rest) x (within_list outer own p) t q c
        → ArgumentListAs (argument_list_case q.rest) x outer (option_map (λ list. list ++ t ∷ []) own) q ts r d
        → ArgumentListAs NextArgument x outer own p (t ∷ ts) r (both c d)

  -- <template-arg> ::= J <template-arg>* E: counted, with the context of a pack inside
  pub data Pack : Context → Position → Tree → Position → Cost → Type 0 where
    pack : {x : Context} {p q : Position} {ts : List Tree} {c : Cost}
        → PackedAs (argument_list_case (drop 1 p.rest)) (hiding_dots x) (skip 1 p) ts q c
        → Pack x p (pack_of (trees ts)) q (counted (length (printing (pack_of (trees ts)))) c)

  -- one more <template-arg> of a pack, or the E after them; no scope is dropped between them
  pub data PackedAs : ArgumentListCase → Context → Position → List Tree → Position → Cost → Type 0 where
    -- E
    end_of_pack : {x : Context} {p : Position}
        → PackedAs EndOfArguments x p [] (skip 1 p) nothing
    -- <template-arg>
    one_more_packed : {x : Context} {p q r : Position} {t : Tree} {ts : List Tree} {c d : Cost}
        → ArgumentAs (argument_case p.rest) x p t q c
        → PackedAs (argument_list_case q.rest) x q ts r d
        → PackedAs NextArgument x p (t ∷ ts) r (both c d)

  -- <template-arg>
  pub data ArgumentAs : ArgumentCase → Context → Position → Tree → Position → Cost → Type 0 where
    -- X <expression> E
    expression_argument : {x : Context} {p q : Position} {t : Tree} {c : Cost}
        → Expression x (skip 1 p) t q c
        → begins (codes "E") q.rest ≡ true
        → ArgumentAs ExpressionArgument x p t (skip 1 q) c
    -- J <template-arg>* E
    pack_argument : {x : Context} {p q : Position} {t : Tree} {c : Cost}
        → Pack x p t q c
        → ArgumentAs PackArgument x p t q c
    -- <expr-primary>
    primary_argument : {x : Context} {p q : Position} {t : Tree} {c : Cost}
        → PrimaryAs (primary_case p.rest) x p t q c
        → ArgumentAs PrimaryArgument x p t q c
    -- <type>
    type_argument : {x : Context} {p q : Position} {t : Tree} {c : Cost}
        → TypeOf x p t q c
        → ArgumentAs TypeArgument x p t q c

  -- <expr-primary>: a literal, or an external name
  pub data PrimaryAs : PrimaryCase → Context → Position → Tree → Position → Cost → Type 0 where
    -- L _Z <encoding> E: an external name
    external_name : {x : Context} {p q : Position} {t : Tree} {c : Cost}
        → EncodingAs (encoding_case AtE (drop 3 p.rest)) (inside_encoding x) (skip 3 p) t q c
        → begins (codes "E") q.rest ≡ true
        → PrimaryAs ExternalName x p t (skip 1 q) c
    -- L <type> <value> E, where the type as it is printed has such a value
    value_literal : {x : Context} {p q : Position} {t : Tree} {c : Cost} {value rest : List ℕ}
        → TypeOf x (skip 1 p) t q c
        → literal_value q.rest ≡ Some (value, rest)
        → has_literal (printing t) value ≡ true
        → PrimaryAs ValueLiteral x p (literal_of t value) (with_rest rest q) c

  -- <expression>: counted
  pub data Expression : Context → Position → Tree → Position → Cost → Type 0 where
    expression : {x : Context} {p q : Position} {t : Tree} {c : Cost}
        → ExpressionAs (expression_case p.rest) x p t q c
        → Expression x p t q (counted (length (printing t)) c)

  -- an operand: an <expression>, and whether it is spelled as an external name
  pub data OperandOf : Context → Position → Operand → Position → Cost → Type 0 where
    operand_of : {x : Context} {p q : Position} {t : Tree} {c : Cost}
        → Expression x p t q c
        → OperandOf x p (operand (is_external p.rest) t) q c

  -- <expression>, by what it begins with
  pub data ExpressionAs : ExpressionCase → Context → Position → Tree → Position → Cost → Type 0 where
    -- pp_ <expression> | mm_ <expression>
    pre_expression : {x : Context} {p q : Position} {t : Tree} {c : Cost}
        → Expression x (skip 3 p) t q c
        → ExpressionAs PreExpression x p (pre_of (expression_text p.rest) t) q c
    -- ad L _Z <encoding> E
    address_expression : {x : Context} {p q : Position} {t : Tree} {c : Cost}
        → Expression x (skip 2 p) t q c
        → ExpressionAs AddressExpression x p (address_of t) q c
    -- <unary operator-name> <expression>
    unary_expression : {x : Context} {p q : Position} {o : Operand} {c : Cost}
        → OperandOf x (skip 2 p) o q c
        → ExpressionAs UnaryExpression x p (unary_of (expression_text p.rest) o) q c
    -- pp <expression> | mm <expression>
    post_expression : {x : Context} {p q : Position} {o : Operand} {c : Cost}
        → OperandOf x (skip 2 p) o q c
        → ExpressionAs PostExpression x p (post_of o (expression_text p.rest)) q c
    -- <binary operator-name> <expression> <expression>
    binary_expression : {x : Context} {p q r : Position} {o m : Operand} {c d : Cost}
        → OperandOf x (skip 2 p) o q c
        → OperandOf x q m r d
        → ExpressionAs BinaryExpression x p (binary_of o (expression_text p.rest) m) r (both c d)
    -- gt <expression> <expression>
    greater_expression : {x : Context} {p q r : Position} {t u : Tree} {c d : Cost}
        → Expression x (skip 2 p) t q c
        → Expression x q u r d
        → ExpressionAs GreaterExpression x p (greater_of t u) r (both c d)
    -- qu <expression> <expression> <expression>
    conditional_expression : {x : Context} {p q r s : Position} {o m n : Operand} {c d e : Cost}
        → OperandOf x (skip 2 p) o q c
        → OperandOf x q m r d
        → OperandOf x r n s e
        → ExpressionAs ConditionalExpression x p (conditional_of o m n) s (both c (both d e))
    -- <template-param>
    template_param_expression : {x : Context} {p q : Position} {t : Tree}
        → TemplateParam x p t q
        → ExpressionAs TemplateParamExpression x p t q nothing
    -- <expr-primary>
    primary_expression : {x : Context} {p q : Position} {t : Tree} {c : Cost}
        → PrimaryAs (primary_case p.rest) x p t q c
        → ExpressionAs PrimaryExpression x p t q c

  -- <type>: counted
  pub data TypeOf : Context → Position → Tree → Position → Cost → Type 0 where
    type : {x : Context} {p q : Position} {t : Tree} {c : Cost}
        → TypeAs (type_case p.rest) (inside_type x) p t q c
        → TypeOf x p t q (counted (length (printing t)) c)

  -- <type>, by what it begins with
  pub data TypeAs : TypeCase → Context → Position → Tree → Position → Cost → Type 0 where
    -- <builtin-type>: not saved
    builtin_type : {x : Context} {p : Position}
        → TypeAs BuiltinType x p (plain_text (builtin_text p.rest)) (with_rest (past_builtin p.rest) p) nothing
    -- Dp <type>: saved also in a pack, where no dots are printed
    expansion_type : {x : Context} {p q : Position} {t : Tree} {c : Cost}
        → TypeOf x (skip 2 p) t q c
        → TypeAs ExpansionType x p (expanded x.dots_hidden t) (save (expanded x.dots_hidden t) q) (both c (saving q))
    -- u <source-name>, without <template-args>
    vendor_type : {x : Context} {p : Position} {bytes rest : List ℕ}
        → source_name (drop 1 p.rest) ≡ Some (bytes, rest)
        → attached_case rest ≡ NoneAttached
        → TypeAs VendorType x p (plain_text (source_text bytes))
        (save (plain_text (source_text bytes)) (with_rest rest p)) (saving p)
    -- <array-type> ::= A [<number>] _ <type>
    array_type : {x : Context} {p q : Position} {t : Tree} {c : Cost} {dimension : Option ℕ} {rest : List ℕ}
        → optional_number (drop 1 p.rest) ≡ Some (dimension, rest)
        → TypeOf x (with_rest rest p) t q c
        → may_be_element (shape_of t).form ≡ true
        → TypeAs ArrayType x p (array_of dimension t) (save (array_of dimension t) q) (both c (saving q))
    -- <function-type>
    function_type : {x : Context} {p q : Position} {t : Tree} {c : Cost}
        → Function x no_quals p t q c
        → TypeAs FunctionType x p t (save t q) (both c (saving q))
    -- <pointer-to-member-type> ::= M <type> <type>
    pointer_to_member_type : {x : Context} {p q r : Position} {t u : Tree} {c d : Cost}
        → TypeOf x (skip 1 p) t q c
        → TypeOf x q u r d
        → may_be_member (shape_of u).form ≡ true
        → TypeAs PointerToMemberType x p (member_of t u) (save (member_of t u) r) (both c (both d (saving r)))
    -- P <type>, R <type> and O <type>
    pointer_type : {x : Context} {p q : Position} {t : Tree} {c : Cost} {kind : Pointer}
        → TypeOf x (skip 1 p) t q c
        → TypeAs (PointerType kind) x p (pointer_to kind t) (save (pointer_to kind t) q) (both c (saving q))
    -- <qualified-type> ::= <CV-qualifiers> <type>: saved once
    cv_type : {x : Context} {p q : Position} {t : Tree} {c : Cost}
        → CvAs (cv_case (past_cv p.rest)) x (cv_quals p.rest) (with_rest (past_cv p.rest) p) t q c
        → TypeAs CvType x p t (save t q) (both c (saving q))
    -- <class-enum-type> ::= Ts <name> | Tu <name> | Te <name>
    elaborated_type : {x : Context} {p q : Position} {t : Tree} {c : Cost}
        → Name false x (skip 2 p) t q c
        → TypeAs ElaboratedType x p (elaborated (elaborated_text p.rest) t)
        (save (elaborated (elaborated_text p.rest) t) q) (both c (saving q))
    -- <template-param> [<template-args>]: saved without and with its arguments
    template_param_type : {x : Context} {p q r : Position} {t u : Tree} {c : Cost}
        → TemplateParam x p t q
        → TypeAttachedAs (attached_case q.rest) x t (save t q) u r c
        → TypeAs TemplateParamType x p u r (both (saving q) c)
    -- <substitution> [<template-args>]: saved with its arguments alone
    substitution_type : {x : Context} {p q r : Position} {t u : Tree} {c : Cost}
        → Substitution p t q
        → TypeAttachedAs (attached_case q.rest) x t q u r c
        → TypeAs SubstitutionType x p u r c
    -- <class-enum-type> ::= <name>
    name_type : {x : Context} {p q : Position} {t : Tree} {c : Cost}
        → Name false x p t q c
        → TypeAs NameType x p t (save t q) (both c (saving q))

  -- what <CV-qualifiers> stand in front of
  pub data CvAs : CvCase → Context → Quals → Position → Tree → Position → Cost → Type 0 where
    -- <function-type>, which takes them in, and whose F is no type of its own
    cv_function : {x : Context} {p q : Position} {t : Tree} {c : Cost} {quals : Quals}
        → Function x quals p t q c
        → CvAs CvFunction x quals p t q c
    -- <type>
    cv_other : {x : Context} {p q : Position} {t : Tree} {c : Cost} {quals : Quals}
        → TypeOf x p t q c
        → CvAs CvOther x quals p (cv_of quals t) q c

  -- <function-type> ::= F <return type> <parameter types> [<ref-qualifier>] E
  pub data Function : Context → Quals → Position → Tree → Position → Cost → Type 0 where
    function : {x : Context} {p q r : Position} {t : Tree} {ts : List Tree} {c d : Cost} {quals : Quals}
        → function_case p.rest ≡ PlainFunction
        → TypeOf x (skip 1 p) t q c
        → ParamsAs (params_case q.rest) true x q ts r d
        → is_plain (shape_of t).form ≡ true
        → Function x quals p (function_to t (trees ts) (with_reference quals r.rest))
        (skip 1 (with_rest (past_reference r.rest) r)) (both c d)

  -- the parameters of a <function-type>, or else of a lambda or an encoding: none, or types
  pub data ParamsAs : ParamsCase → Bool → Context → Position → List Tree → Position → Cost → Type 0 where
    -- v, right before the end
    no_params : {in_function_type : Bool} {x : Context} {p : Position}
        → ParamsAs NoParams in_function_type x p [] (skip 1 p) nothing
    -- <type>*
    some_params : {in_function_type : Bool} {x : Context} {p q : Position} {ts : List Tree} {c : Cost}
        → TypeListAs (type_list_case in_function_type p.rest) in_function_type x p ts q c
        → ParamsAs SomeParams in_function_type x p ts q c

  -- one more type of a list of parameters, or their end
  pub data TypeListAs : TypeListCase → Bool → Context → Position → List Tree → Position → Cost → Type 0 where
    -- the end, which isn't taken
    end_of_types : {in_function_type : Bool} {x : Context} {p : Position}
        → TypeListAs EndOfTypes in_function_type x p [] p nothing
    -- <type>
    one_more_type :
        {in_function_type : Bool} {x : Context} {p q r : Position} {t : Tree} {ts : List Tree} {c d : Cost}
        → TypeOf x p t q c
        → TypeListAs (type_list_case in_function_type q.rest) in_function_type x q ts r d
        → TypeListAs NextType in_function_type x p (t ∷ ts) r (both c d)

  -- <template-args> after a type, or none
  pub data TypeAttachedAs : AttachedCase → Context → Tree → Position → Tree → Position → Cost → Type 0 where
    -- no <template-args>
    none_attached_to_type : {x : Context} {p : Position} {t : Tree}
        → TypeAttachedAs NoneAttached x t p t p nothing
    -- <template-args>: the type with them is saved
    args_attached_to_type : {x : Context} {p q : Position} {t : Tree} {ts : List Tree} {c : Cost}
        → Args false x p ts q c
        → TypeAttachedAs ArgsAttached x t p (with_args t (trees ts))
        (save (with_args t (trees ts)) q) (both c (saving q))

-- what follows the prefix of a symbol: an encoding that ends right after its name
abbrev pub SymbolName : Context → Position → Tree → Position → Cost → Type 0
SymbolName x p = EncodingAs (encoding_case AfterName p.rest) x p
