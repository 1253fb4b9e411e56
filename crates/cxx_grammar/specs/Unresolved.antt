-- Names that aren't resolved (Itanium C++ ABI 5.1.6.2).
use Rattle.std.specs.Prelude.{codes, Bool, true, false, if◌then◌else◌}
use Rattle.cxx_tree.specs.declared.kinds.Prec.TheVariants.{Primary}
use Rattle.cxx_tree.specs.Tree.{Tree, scoped}
use Rattle.cxx_tree.specs.Phrases.{dtor_name, prefixed}
use Rattle.abi_scalars.specs.Bytes.{begins_digit}
use Rattle.cxx_grammar.specs.declared.cases.BaseCase.{BaseCase}
use Rattle.cxx_grammar.specs.declared.cases.BaseCase.TheVariants as base
use Rattle.cxx_grammar.specs.declared.cases.BaseNameCase.{BaseNameCase}
use Rattle.cxx_grammar.specs.declared.cases.BaseNameCase.TheVariants as base_name
use Rattle.cxx_grammar.specs.declared.cases.UnresolvedCase.{UnresolvedCase}
use Rattle.cxx_grammar.specs.declared.cases.UnresolvedCase.TheVariants as unresolved
use Rattle.cxx_grammar.specs.declared.cases.UnresolvedTypeCase.{UnresolvedTypeCase}
use Rattle.cxx_grammar.specs.declared.cases.UnresolvedTypeCase.TheVariants as unresolved_type
use Rattle.cxx_grammar.specs.Parses.{Parses, ◌>>=◌, ◌>>◌, pure, refused, past, expect, past_word_if, by, if_bytes, if_next, repeat, is_e, make, saved}
use Rattle.cxx_grammar.specs.Cases.{case_of_base, case_of_base_name, case_of_unresolved, case_of_unresolved_type}
use Rattle.cxx_grammar.specs.Leaves.{parse_source_name, parse_substitution, parse_template_param}
use Rattle.cxx_grammar.specs.Productions.{Productions}
use Rattle.cxx_grammar.specs.Rows.{decltype_row, parse_row}
use Rattle.cxx_grammar.specs.Args.{parse_with_args}
use Rattle.cxx_grammar.specs.Names.{base_as}

unfoldable pub unresolved_type_as : Productions → UnresolvedTypeCase → Parses Tree
unresolved_type_as p unresolved_type.Param = saved parse_template_param
unresolved_type_as p unresolved_type.Decltype = saved (parse_row p decltype_row)
unresolved_type_as p unresolved_type.Substitution = parse_substitution
unresolved_type_as p unresolved_type.Unread = refused

-- <unresolved-type> ::= <template-param>
--                   ::= <decltype>
--                   ::= <substitution>
abbrev pub parse_unresolved_type : Productions → Parses Tree
parse_unresolved_type p = by case_of_unresolved_type (unresolved_type_as p)

-- the arguments of a name, if there are any
unfoldable pub parse_args_if_any : Productions → Tree → Parses Tree
parse_args_if_any p name = if_next "I" (parse_with_args p name) (pure name)

-- <simple-id> ::= <source-name> [<template-args>]
abbrev pub parse_simple_id : Productions → Parses Tree
parse_simple_id p = do
  name ← parse_source_name
  parse_args_if_any p name

-- <destructor-name> ::= <unresolved-type>
--                   ::= <simple-id>
abbrev pub parse_destroyed : Productions → Parses Tree
parse_destroyed p = if_bytes begins_digit (parse_simple_id p) (parse_unresolved_type p)

abbrev pub parse_destructor_name : Productions → Parses Tree
parse_destructor_name p = do
  past 2
  t ← parse_destroyed p
  make (dtor_name t)

-- the cases of an <unqualified-name> that are an <operator-name>
abbrev pub is_operator_name : BaseCase → Bool
is_operator_name base.Conversion = true
is_operator_name base.Literal = true
is_operator_name base.Vendor = true
is_operator_name base.Operator = true
is_operator_name other = false

unfoldable pub operator_as : Productions → BaseCase → Parses Tree
operator_as p case = if is_operator_name case then base_as p case else refused

abbrev pub parse_operator_name : Productions → Parses Tree
parse_operator_name p = by case_of_base (operator_as p)

unfoldable pub skip_on : Parses (Unit {0})
skip_on = do
  past_word_if (codes "on")
  pure tt

-- [on] <operator-name> [<template-args>]
abbrev pub parse_operator_id : Productions → Parses Tree
parse_operator_id p = do
  skip_on
  name ← parse_operator_name p
  parse_args_if_any p name

unfoldable pub base_name_as : Productions → BaseNameCase → Parses Tree
base_name_as p base_name.Simple = parse_simple_id p
base_name_as p base_name.Destructor = parse_destructor_name p
base_name_as p base_name.Operator = parse_operator_id p

-- <base-unresolved-name> ::= <simple-id>
--                        ::= on <operator-name> [<template-args>]
--                        ::= dn <destructor-name>
-- GCC leaves out the `on`
abbrev pub parse_base_name : Productions → Parses Tree
parse_base_name p = by case_of_base_name (base_name_as p)

-- <base-unresolved-name>, in a scope
abbrev pub parse_base_in : Productions → Tree → Parses Tree
parse_base_in p scope = do
  name ← parse_base_name p
  make (scoped false scope name)

-- <simple-id>, in a scope
abbrev pub parse_next_scope : Productions → Tree → Parses Tree
parse_next_scope p scope = do
  id ← parse_simple_id p
  make (scoped false scope id)

-- <simple-id>* E, in a scope
unfoldable pub parse_scope_list : Productions → Tree → Parses Tree
parse_scope_list p outer = do
  scope ← repeat is_e (parse_next_scope p) outer
  expect "E"
  pure scope

-- <simple-id>* E <base-unresolved-name>, in a scope
abbrev pub parse_scopes : Productions → Tree → Parses Tree
parse_scopes p outer = do
  scope ← parse_scope_list p outer
  parse_base_in p scope

abbrev pub make_global : Tree → Parses Tree
make_global t = make (prefixed (codes "::") (codes "::") t Primary)

abbrev pub make_global_if : Bool → Tree → Parses Tree
make_global_if is_global t = if is_global then make_global t else pure t

-- [gs] sr <simple-id>+ E <base-unresolved-name>
abbrev pub parse_simple_scopes : Productions → Bool → Parses Tree
parse_simple_scopes p is_global = do
  past 2
  id ← parse_simple_id p
  scope ← make_global_if is_global id
  parse_scopes p scope

-- sr <type> <base-unresolved-name>, as GCC writes a name in std or in a <nested-name>
abbrev pub parse_in_type : Productions → Parses Tree
parse_in_type p = do
  past 2
  scope ← p.type false
  parse_base_in p scope

-- <unresolved-type> [<template-args>]
abbrev pub parse_scope_type : Productions → Parses Tree
parse_scope_type p = do
  t ← parse_unresolved_type p
  parse_args_if_any p t

-- srN <unresolved-type> [<template-args>] <simple-id>* E <base-unresolved-name>
abbrev pub parse_in_nested : Productions → Parses Tree
parse_in_nested p = do
  past 3
  scope ← parse_scope_type p
  parse_scopes p scope

-- sr <unresolved-type> [<template-args>] <base-unresolved-name>
abbrev pub parse_in_unresolved : Productions → Parses Tree
parse_in_unresolved p = do
  past 2
  scope ← parse_scope_type p
  parse_base_in p scope

unfoldable pub unresolved_as : Productions → UnresolvedCase → Parses Tree
unresolved_as p unresolved.Base = parse_base_name p
unresolved_as p unresolved.Simple = parse_simple_scopes p false
unresolved_as p unresolved.Type = parse_in_type p
unresolved_as p unresolved.Nested = parse_in_nested p
unresolved_as p unresolved.Unresolved = parse_in_unresolved p

-- <unresolved-name> ::= [gs] <base-unresolved-name>
--                   ::= sr <unresolved-type> <base-unresolved-name>
--                   ::= srN <unresolved-type> <unresolved-qualifier-level>+ E <base-unresolved-name>
--                   ::= [gs] sr <unresolved-qualifier-level>+ E <base-unresolved-name>
-- <unresolved-qualifier-level> ::= <simple-id>
abbrev pub parse_unresolved_name : Productions → Parses Tree
parse_unresolved_name p = by case_of_unresolved (unresolved_as p)

abbrev pub parse_global_base : Productions → Parses Tree
parse_global_base p = do
  name ← parse_base_name p
  make_global name

unfoldable pub global_as : Productions → UnresolvedCase → Parses Tree
global_as p unresolved.Base = parse_global_base p
global_as p unresolved.Simple = parse_simple_scopes p true
global_as p other = refused

-- the same behind its gs
abbrev pub parse_global_name : Productions → Parses Tree
parse_global_name p = do
  past 2
  by case_of_unresolved (global_as p)
