-- Types (Itanium C++ ABI 5.1.5).
use Rattle.std.specs.Prelude.{ℕ, nat_lt, List, [], length, drop, codes, Bool, false, not, ◌&&◌, Option, Some, None, if◌then◌else◌}
use Rattle.cxx_tree.specs.declared.kinds.Cv.{Cv}
use Rattle.cxx_tree.specs.declared.kinds.Prec.TheVariants.{Primary}
use Rattle.cxx_tree.specs.Tree.{Tree, Trees, expansion, qualified, pointer, reference, member_pointer, objc_protocol, listed}
use Rattle.cxx_tree.specs.Stored.{trees_from_list}
use Rattle.cxx_tree.specs.Phrases.{array_of, enclosing, function_of, suffixed, vector, vendor_qualified}
use Rattle.abi_scalars.specs.Bytes.{begins}
use Rattle.abi_scalars.specs.Texts.{begins_source, identifier}
use Rattle.cxx_grammar.specs.declared.cases.ExceptionCase.{ExceptionCase}
use Rattle.cxx_grammar.specs.declared.cases.ExceptionCase.TheVariants as exception
use Rattle.cxx_grammar.specs.declared.cases.TypeCase.{TypeCase}
use Rattle.cxx_grammar.specs.declared.cases.TypeCase.TheVariants as type_case
use Rattle.cxx_grammar.specs.declared.rows.End.TheVariants as end
use Rattle.cxx_grammar.specs.declared.rows.Item.TheVariants as item
use Rattle.cxx_grammar.specs.Parses.{Parses, ◌>>=◌, ◌>>◌, ◌<$>◌, pure, some, check, given, look, past, expect, optional, by, if_next, make, saved}
use Rattle.cxx_grammar.specs.Bases.{is_module}
use Rattle.cxx_grammar.specs.Cases.{case_of_type, case_of_exception}
use Rattle.cxx_grammar.specs.Leaves.{make_name, make_word, parse_identifier, parse_substitution, parse_template_param, parse_cv, parse_ref, parse_builtin, parse_float_type}
use Rattle.cxx_grammar.specs.Productions.{Productions, name_tree}
use Rattle.cxx_grammar.specs.Args.{parse_args, parse_with_args}
use Rattle.cxx_grammar.specs.Names.{parse_in_module}
use Rattle.cxx_grammar.specs.Rows.{type_row_of, parse_row_of, list_after, parse_list, parse_size, parse_row, computed_noexcept_row}

-- Functions.

-- Do
abbrev pub parse_noexcept : Parses Tree
parse_noexcept = do
  past 2
  make_word "noexcept"

-- `throw` and its types
abbrev pub make_throw : Trees → Parses Tree
make_throw types = do
  t ← make (listed types)
  make (enclosing (codes "throw") (codes "throw") t Primary)

-- Dw <type>* E
abbrev pub parse_throw : Productions → Parses Tree
parse_throw p = do
  types ← parse_list p 2 item.Type
  make_throw types

unfoldable pub exception_as : Productions → ExceptionCase → Parses (Option Tree)
exception_as p exception.Noexcept = some <$> parse_noexcept
exception_as p exception.Computed = some <$> parse_row p computed_noexcept_row
exception_as p exception.Throw = some <$> parse_throw p
exception_as p exception.None = pure None

-- v | <type>*
abbrev pub parse_function_params : Productions → Parses (List Tree)
parse_function_params p = do
  is_void ← optional "v"
  if is_void then pure [] else list_after p item.Param end.Function []

-- [Dx] F [Y]: a function that is transaction-safe, and one in C, print as others do
unfoldable pub parse_function_mark : Parses (Unit {0})
parse_function_mark = do
  optional "Dx"
  expect "F"
  optional "Y"
  pure tt

abbrev pub parse_function_end : Cv → Option Tree → Tree → List Tree → Parses Tree
parse_function_end cv exception ret params = do
  ref ← parse_ref
  expect "E"
  make (function_of ret (trees_from_list params) cv ref exception)

-- <bare-function-type> [<ref-qualifier>] E
abbrev pub parse_function_inside : Productions → Cv → Option Tree → Parses Tree
parse_function_inside p cv exception = do
  ret ← p.type false
  params ← parse_function_params p
  parse_function_end cv exception ret params

-- <function-type> ::= [<CV-qualifiers>] [<exception-spec>] [Dx] F [Y] <bare-function-type> [<ref-qualifier>] E
-- <exception-spec> ::= Do
--                  ::= DO <expression> E
--                  ::= Dw <type>* E
abbrev pub parse_function_type : Productions → Parses Tree
parse_function_type p = do
  cv ← parse_cv
  exception ← by case_of_exception (exception_as p)
  parse_function_mark
  parse_function_inside p cv exception

-- Arrays, vectors, pointers to members.

-- [<size>] _
unfoldable pub parse_dimension : Productions → Parses (Option Tree)
parse_dimension p = do
  is_empty ← optional "_"
  if is_empty then pure None else some <$> parse_size p

-- <array-type> ::= A <positive dimension number> _ <element type>
--              ::= A [<dimension expression>] _ <element type>
abbrev pub parse_array_type : Productions → Bool → Parses Tree
parse_array_type p is_bare = do
  past 1
  dimension ← parse_dimension p
  element ← p.type is_bare
  make (array_of element dimension)

abbrev pub parse_pixel : Parses Bool
parse_pixel = optional "p"

abbrev pub element_as : Productions → Bool → Bool → Parses Tree
element_as p is_bare is_pixel = if is_pixel then make_word "pixel" else p.type is_bare

-- <extended element type> ::= <element type>
--                         ::= p, behind a number
abbrev pub parse_element : Productions → Bool → Bool → Parses Tree
parse_element p is_bare is_number = do
  is_pixel ← if is_number then parse_pixel else pure false
  element_as p is_bare is_pixel

-- <vector-type> ::= Dv <positive dimension number> _ <extended element type>
--               ::= Dv [<dimension expression>] _ <element type>
abbrev pub parse_vector_type : Productions → Bool → Parses Tree
parse_vector_type p is_bare = do
  past 2
  bytes ← look
  check (not (begins (codes "0") bytes))
  dimension ← parse_dimension p
  element ← parse_element p is_bare (begins_source bytes)
  make (vector element dimension)

-- <pointer-to-member-type> ::= M <class type> <member type>
abbrev pub parse_member_pointer : Productions → Bool → Parses Tree
parse_member_pointer p is_bare = do
  past 1
  class ← p.type false
  member ← p.type is_bare
  make (member_pointer class member)

-- Types and qualifiers of vendors.

-- I <type> E
abbrev pub parse_vendor_operand : Productions → List ℕ → Parses Tree
parse_vendor_operand p name = do
  past 1
  t ← p.type false
  expect "E"
  make (enclosing name name t Primary)

abbrev pub parse_vendor_inside : Productions → List ℕ → Parses Tree
parse_vendor_inside p name = if_next "I" (parse_vendor_operand p name) (make_name name)

-- u <source-name> [I <type> E]
abbrev pub parse_vendor_type : Productions → Parses Tree
parse_vendor_type p = do
  past 1
  name ← parse_identifier
  parse_vendor_inside p name

abbrev pub is_no_cv : Cv → Bool
is_no_cv cv = not cv.is_const && not cv.is_volatile && not cv.is_restrict

abbrev pub make_qualified : Cv → Tree → Parses Tree
make_qualified cv t = if is_no_cv cv then pure t else make (qualified t cv)

-- <CV-qualifiers> <type>
abbrev pub parse_cv_qualified : Productions → Bool → Parses Tree
parse_cv_qualified p is_bare = do
  cv ← parse_cv
  t ← p.type is_bare
  make_qualified cv t

-- what follows `objcproto` in a qualifier, if it begins with it and has more
abbrev pub protocol_of : List ℕ → Option (List ℕ)
protocol_of qualifier =
    if begins (codes "objcproto") qualifier && nat_lt 9 (length qualifier) then Some (drop 9 qualifier) else None

-- the qualifier of an Objective-C protocol, which stands as an identifier inside of it
abbrev pub parse_objc_qualified : Productions → Bool → List ℕ → Parses Tree
parse_objc_qualified p is_bare inside = do
  protocol ← given (identifier inside)
  t ← p.qualified_type is_bare
  make (objc_protocol t protocol.0)

abbrev pub parse_vendor_args : Productions → Parses (Option Trees)
parse_vendor_args p = if_next "I" (some <$> parse_args p) (pure None)

abbrev pub parse_other_qualified : Productions → Bool → List ℕ → Parses Tree
parse_other_qualified p is_bare qualifier = do
  args ← parse_vendor_args p
  t ← p.qualified_type is_bare
  make (vendor_qualified t qualifier args)

abbrev pub qualified_by : Productions → Bool → List ℕ → Option (List ℕ) → Parses Tree
qualified_by p is_bare qualifier None = parse_other_qualified p is_bare qualifier
qualified_by p is_bare qualifier (Some inside) = parse_objc_qualified p is_bare inside

-- U <source-name> [<template-args>] <qualified-type>
abbrev pub parse_vendor_qualified : Productions → Bool → Parses Tree
parse_vendor_qualified p is_bare = do
  past 1
  qualifier ← parse_identifier
  qualified_by p is_bare qualifier (protocol_of qualifier)

-- <qualified-type> ::= <extended-qualifier> <qualified-type>
--                  ::= <CV-qualifiers> <type>
-- <extended-qualifier> ::= U <source-name> [<template-args>]
abbrev pub parse_qualified_type : Productions → Bool → Parses Tree
parse_qualified_type p is_bare = if_next "U" (parse_vendor_qualified p is_bare) (parse_cv_qualified p is_bare)

-- Types that are template parameters, substitutions, or words around another one.

-- the arguments of a type, if there are any: with them it is saved
abbrev pub parse_type_args : Productions → Bool → Tree → Parses Tree
parse_type_args p is_bare t =
    if is_bare then pure t else if_next "I" (saved (parse_with_args p t)) (pure t)

-- <template-param>, or <template-template-param> <template-args>
abbrev pub parse_param_type : Productions → Bool → Parses Tree
parse_param_type p is_bare = do
  t ← saved parse_template_param
  parse_type_args p is_bare t

-- a type in a module that is a substitution
abbrev pub parse_module_type : Productions → Tree → Parses Tree
parse_module_type p owner = (λ n. n.tree) <$> parse_in_module p None owner

-- <substitution> [<template-args>], or a name in a module that is the substitution. A substitution isn't saved again
abbrev pub parse_substituted_type : Productions → Bool → Parses Tree
parse_substituted_type p is_bare = do
  t ← parse_substitution
  if is_module t then saved (parse_module_type p t) else parse_type_args p is_bare t

-- a tree around a type, after n bytes
abbrev pub parse_around : ℕ → (Tree → Tree) → Parses Tree → Parses Tree
parse_around n around type = do
  past n
  t ← type
  make (around t)

abbrev pub reference_to : Bool → Tree → Tree
reference_to is_lvalue t = reference t is_lvalue

abbrev pub suffixed_by : Bool → Tree → Tree
suffixed_by is_complex t =
    if is_complex then suffixed t (codes " complex") (codes " _Complex")
    else suffixed t (codes " imaginary") (codes " _Imaginary")

-- A closure without a scope is no type: `U` is that of a qualifier here.
-- A type is saved when it was read, after all that stands inside of it; but no builtin type and no substitution is.
unfoldable pub type_as : Productions → Bool → TypeCase → Parses Tree
type_as p is_bare type_case.Function = saved (parse_function_type p)
type_as p is_bare type_case.Qualified = saved (p.qualified_type is_bare)
type_as p is_bare type_case.Vendor = saved (parse_vendor_type p)
type_as p is_bare type_case.Vector = saved (parse_vector_type p is_bare)
type_as p is_bare type_case.Expansion = saved (parse_around 2 expansion (p.type is_bare))
type_as p is_bare type_case.Float = parse_float_type
type_as p is_bare type_case.Row = parse_row_of type_row_of p
type_as p is_bare type_case.Builtin = parse_builtin
type_as p is_bare type_case.Array = saved (parse_array_type p is_bare)
type_as p is_bare type_case.SavedRow = saved (parse_row_of type_row_of p)
type_as p is_bare type_case.Param = parse_param_type p is_bare
type_as p is_bare type_case.Pointer = saved (parse_around 1 pointer (p.type is_bare))
type_as p is_bare (type_case.Reference is_lvalue) = saved (parse_around 1 (reference_to is_lvalue) (p.type is_bare))
type_as p is_bare (type_case.Suffixed is_complex) = saved (parse_around 1 (suffixed_by is_complex) (p.type is_bare))
type_as p is_bare type_case.MemberPointer = saved (parse_member_pointer p is_bare)
type_as p is_bare type_case.Substitution = parse_substituted_type p is_bare
type_as p is_bare type_case.Class = saved (name_tree p)

-- <type> ::= <builtin-type>
--        ::= <qualified-type>
--        ::= <function-type>
--        ::= <class-enum-type>
--        ::= <array-type>
--        ::= <vector-type>
--        ::= <pointer-to-member-type>
--        ::= <template-param>
--        ::= <template-template-param> <template-args>
--        ::= <decltype>
--        ::= P <type> | R <type> | O <type> | C <type> | G <type>
--        ::= <substitution>
--        ::= Dp <type>
-- <class-enum-type> ::= <name> | Ts <name> | Tu <name> | Te <name>
abbrev pub parse_type : Productions → Bool → Parses Tree
parse_type p is_bare = by case_of_type (type_as p is_bare)
