-- Names (Itanium C++ ABI 5.1.2 and 5.1.3).
use Rattle.std.specs.Prelude.{◌||◌, Bool, true, false, not, codes, is_none, Option, Some, None, if◌then◌else◌}
use Rattle.cxx_tree.specs.Tree.{Tree, scoped, in_module}
use Rattle.cxx_tree.specs.declared.kinds.Prec.TheVariants.{Primary}
use Rattle.cxx_tree.specs.Phrases.{ctor_dtor, prefixed}
use Rattle.cxx_grammar.specs.declared.cases.NameCase.{NameCase}
use Rattle.cxx_grammar.specs.declared.cases.NameCase.TheVariants as name_case
use Rattle.cxx_grammar.specs.declared.cases.FirstCase.{FirstCase}
use Rattle.cxx_grammar.specs.declared.cases.FirstCase.TheVariants as first
use Rattle.cxx_grammar.specs.declared.cases.ComponentCase.{ComponentCase}
use Rattle.cxx_grammar.specs.declared.cases.ComponentCase.TheVariants as component
use Rattle.cxx_grammar.specs.declared.cases.BaseCase.{BaseCase}
use Rattle.cxx_grammar.specs.declared.cases.BaseCase.TheVariants as base
use Rattle.cxx_grammar.specs.State.{Info, LearnedName, no_info, info_of, plain}
use Rattle.cxx_grammar.specs.Parses.{Parses, ◌>>=◌, ◌>>◌, ◌<$>◌, pure, check, given, past, expect, optional, by, if_next, repeat, is_e, make, save}
use Rattle.cxx_grammar.specs.Cases.{case_of_name, case_of_first, case_of_component, case_of_base}
use Rattle.cxx_grammar.specs.Bases.{base_name, args_of, is_with_args, is_module, is_param_class, expand}
use Rattle.cxx_grammar.specs.Leaves.{make_word, parse_source_name, parse_prefixed, parse_operator, parse_abi_tags}
use Rattle.cxx_grammar.specs.Leaves.{parse_substitution, parse_template_param, parse_cv, parse_ref}
use Rattle.cxx_grammar.specs.Modules.{parse_subnames, parse_module_substitution}
use Rattle.cxx_grammar.specs.Productions.{Productions}
use Rattle.cxx_grammar.specs.Rows.{bindings_row, decltype_row, parse_row}
use Rattle.cxx_grammar.specs.Args.{parse_with_args}
use Rattle.cxx_grammar.specs.Unnamed.{parse_unnamed, parse_block, parse_closure}
use Rattle.cxx_grammar.specs.Locals.{parse_local_name}

-- where an <unqualified-name> stands
pub record Place : Type 0 where
  pub scope : Option Tree
  -- its module
  pub owner : Option Tree
  -- it is a friend that its scope declares
  pub is_friend : Bool
  -- it is a component of a <nested-name>
  pub is_nested : Bool
  -- what is learned of the name by what stands in front of it
  pub info : Info

-- a name without its module, its tags and its scope, and the place that it has
pub record Part : Type 0 where
  pub tree : Tree
  pub place : Place

-- Unqualified names.

-- cv <type>. In `_ZN1AcvPT_IiEEv` the arguments behind the type are the operator's, for which its `T_` stands
abbrev pub parse_conversion : Productions → Parses Tree
parse_conversion p = do
  past 2
  t ← p.type true
  make (prefixed (codes "operator ") (codes "operator ") t Primary)

-- <operator-name> ::= nw | na | dl | ..
--                 ::= cv <type>
--                 ::= li <source-name>
--                 ::= v <digit> <source-name>
-- <unnamed-type-name> ::= Ut [<number>] _ | Ub [<number>] _ | <closure-type-name>
-- DC <source-name>+ E
unfoldable pub base_as : Productions → BaseCase → Parses Tree
base_as p base.Source = parse_source_name
base_as p base.Bindings = parse_row p bindings_row
base_as p base.Unnamed = parse_unnamed
base_as p base.Block = parse_block
base_as p base.Closure = parse_closure p
base_as p base.Conversion = parse_conversion p
base_as p base.Literal = parse_prefixed 2 (codes "operator\"\" ")
base_as p base.Vendor = parse_prefixed 2 (codes "operator ")
base_as p base.Operator = parse_operator

abbrev pub is_conversion : BaseCase → Bool
is_conversion base.Conversion = true
is_conversion other = false

-- a name that is no constructor
abbrev pub base_part : Productions → Place → BaseCase → Parses Part
base_part p place case = do
  t ← base_as p case
  pure (record {
    tree = t;
    place = record place { info = record place.info { no_return = place.info.no_return || is_conversion case } };
  })

-- A constructor has a class: a scope that is no template parameter, neither with arguments nor without. It has no
-- module of its own.
unfoldable pub parse_class_of : Place → Parses Tree
parse_class_of place = do
  check place.is_nested
  check (is_none place.owner)
  class ← given place.scope
  check (not (is_param_class class))
  pure (expand class)

-- the constructor or the destructor of a class
abbrev pub make_ctor : Tree → Bool → Place → Parses Part
make_ctor class is_destructor place = do
  t ← make (ctor_dtor (base_name class) is_destructor)
  pure (record {
    tree = t;
    place = record place { scope = Some class; info = record place.info { no_return = true } };
  })

-- C1 | C2 | C3 | D0 | D1 | D2 | ..
abbrev pub parse_ctor : Place → Bool → Parses Part
parse_ctor place is_destructor = do
  past 2
  class ← parse_class_of place
  make_ctor class is_destructor place

-- CI1 <name> | CI2 <name>
abbrev pub parse_inherited_ctor : Productions → Place → Parses Part
parse_inherited_ctor p place = do
  past 3
  class ← parse_class_of place
  from ← p.name
  make_ctor class false (record place { info = record place.info { inherited = args_of from.tree } })

unfoldable pub part_as : Productions → Place → ComponentCase → Parses Part
part_as p place component.Ctor = parse_ctor place false
part_as p place component.InheritedCtor = parse_inherited_ctor p place
part_as p place component.Dtor = parse_ctor place true
part_as p place component.Unqualified = by case_of_base (base_part p place)

abbrev pub make_in_module : Option Tree → Tree → Parses Tree
make_in_module None t = pure t
make_in_module (Some owner) t = make (in_module t owner)

abbrev pub make_in_scope : Bool → Option Tree → Tree → Parses Tree
make_in_scope is_friend None t = pure t
make_in_scope is_friend (Some scope) t = make (scoped is_friend scope t)

-- its module, its tags, and its scope
abbrev pub parse_part_end : Part → Parses LearnedName
parse_part_end part = do
  owned ← make_in_module part.place.owner part.tree
  tagged ← parse_abi_tags owned
  t ← make_in_scope part.place.is_friend part.place.scope tagged
  pure (record { tree = t; info = part.place.info })

-- [F]. Only a name in a scope is a friend
abbrev pub parse_friend : Option Tree → Parses Bool
parse_friend None = pure false
parse_friend (Some scope) = optional "F"

-- [<module-name>] [F] [L]. L is the mark of internal linkage, which prints nothing
unfoldable pub parse_front : Place → Parses Place
parse_front place = do
  owner ← parse_subnames place.owner
  is_friend ← parse_friend place.scope
  optional "L"
  pure (record place { owner = owner; is_friend = is_friend })

-- <unqualified-name> ::= [<module-name>] [F] [L] <operator-name> [<abi-tags>]
--                    ::= [<module-name>] [F] [L] <ctor-dtor-name> [<abi-tags>]
--                    ::= [<module-name>] [F] [L] <source-name> [<abi-tags>]
--                    ::= [<module-name>] [F] [L] <unnamed-type-name> [<abi-tags>]
--                    ::= [<module-name>] [F] [L] DC <source-name>+ E [<abi-tags>]
-- <ctor-dtor-name> ::= C1 | .. | C5 | CI1 <base class name> | .. | CI5 <base class name> | D0 | D1 | D2 | D4 | D5
unfoldable pub parse_unqualified_name : Productions → Place → Parses LearnedName
parse_unqualified_name p outer = do
  place ← parse_front outer
  part ← by case_of_component (part_as p place)
  parse_part_end part

-- Names outside of a <nested-name>.

abbrev pub unscoped : Option Tree → Option Tree → Place
unscoped scope owner =
    record { scope = scope; owner = owner; is_friend = false; is_nested = false; info = no_info }

-- a name with arguments
unfoldable pub parse_named_args : Productions → LearnedName → Parses LearnedName
parse_named_args p n = do
  t ← parse_with_args p n.tree
  pure (record { tree = t; info = record n.info { ends_with_args = true } })

abbrev pub parse_saved_args : Productions → LearnedName → Parses LearnedName
parse_saved_args p n = do
  save n.tree
  parse_named_args p n

-- <unscoped-name> [<template-args>], where the name is saved in front of arguments
unfoldable pub parse_in_place : Productions → Place → Parses LearnedName
parse_in_place p place = do
  n ← parse_unqualified_name p place
  if_next "I" (parse_saved_args p n) (pure n)

-- the same in a module that is a substitution
abbrev pub parse_in_module : Productions → Option Tree → Tree → Parses LearnedName
parse_in_module p scope owner = parse_in_place p (unscoped scope (Some owner))

-- <substitution> <template-args>, or a name in a module that is the substitution
abbrev pub parse_substituted : Productions → Parses LearnedName
parse_substituted p = do
  t ← parse_substitution
  if is_module t then parse_in_module p None t else parse_named_args p (plain t)

abbrev pub parse_std_module : Productions → Tree → Parses LearnedName
parse_std_module p std = do
  owner ← parse_module_substitution
  parse_in_module p (Some std) owner

-- St [<module substitution>] <unqualified-name>
abbrev pub parse_std_name : Productions → Parses LearnedName
parse_std_name p = do
  past 2
  std ← make_word "std"
  if_next "S" (parse_std_module p std) (parse_in_place p (unscoped (Some std) None))

-- Nested names.

-- [<CV-qualifiers>] [<ref-qualifier>]
abbrev pub parse_qualifiers : Parses Info
parse_qualifiers = do
  cv ← parse_cv
  ref ← parse_ref
  pure (info_of cv ref)

-- the same, or H
unfoldable pub parse_info : Parses Info
parse_info = do
  explicit_object ← optional "H"
  if explicit_object then pure (record no_info { explicit_object = true }) else parse_qualifiers

-- a component in a scope
abbrev pub nested_in : LearnedName → Option Tree → Place
nested_in q owner = record {
  scope = Some q.tree;
  owner = owner;
  is_friend = false;
  is_nested = true;
  info = record q.info { ends_with_args = false };
}

-- the first component
abbrev pub nested_first : Info → Option Tree → Place
nested_first info owner =
    record { scope = None; owner = owner; is_friend = false; is_nested = true; info = info }

-- <template-args> of a name that has none yet
abbrev pub parse_more_args : Productions → LearnedName → Parses LearnedName
parse_more_args p q = do
  check (not (is_with_args q.tree))
  parse_named_args p q

-- a component in a module that is a substitution
abbrev pub parse_module_component : Productions → LearnedName → Parses LearnedName
parse_module_component p q = do
  owner ← parse_module_substitution
  parse_unqualified_name p (nested_in q (Some owner))

-- a component that isn't the first
unfoldable pub parse_component : Productions → LearnedName → Parses LearnedName
parse_component p q =
    if_next "I" (parse_more_args p q)
    (if_next "S" (parse_module_component p q) (parse_unqualified_name p (nested_in q None)))

abbrev pub with_info : Info → Tree → LearnedName
with_info info t = record { tree = t; info = info }

-- St and a substitution that is no module are no components: another one follows, and they aren't saved
abbrev pub first_std : Productions → Info → Parses LearnedName
first_std p info = do
  past 2
  std ← make_word "std"
  parse_component p (with_info info std)

abbrev pub first_substitution : Productions → Info → Parses LearnedName
first_substitution p info = do
  t ← parse_substitution
  if is_module t then parse_unqualified_name p (nested_first info (Some t)) else parse_component p (with_info info t)

abbrev pub first_param : Info → Parses LearnedName
first_param info = with_info info <$> parse_template_param

abbrev pub first_decltype : Productions → Info → Parses LearnedName
first_decltype p info = with_info info <$> parse_row p decltype_row

unfoldable pub first_as : Productions → Info → FirstCase → Parses LearnedName
first_as p info first.Std = first_std p info
first_as p info first.Substitution = first_substitution p info
first_as p info first.Param = first_param info
first_as p info first.Decltype = first_decltype p info
first_as p info first.Unqualified = parse_unqualified_name p (nested_first info None)

abbrev pub parse_first : Productions → Info → Parses LearnedName
parse_first p info = by case_of_first (first_as p info)

-- The component so far is saved, and the next one is read, with its M: an old mark of data members.
unfoldable pub parse_next : Productions → LearnedName → Parses LearnedName
parse_next p q = do
  save q.tree
  n ← parse_component p q
  optional "M"
  pure n

-- what follows the first component
unfoldable pub parse_components : Productions → LearnedName → Parses LearnedName
parse_components p n = do
  optional "M"
  last ← repeat is_e (parse_next p) n
  expect "E"
  pure last

-- <nested-name> ::= N [<CV-qualifiers>] [<ref-qualifier>] <prefix> <unqualified-name> E
--               ::= N [<CV-qualifiers>] [<ref-qualifier>] <template-prefix> <template-args> E
--               ::= N H <prefix> <unqualified-name> E
--               ::= N H <template-prefix> <template-args> E
-- <prefix> ::= <unqualified-name>
--          ::= <prefix> <unqualified-name>
--          ::= <template-prefix> <template-args>
--          ::= <template-param>
--          ::= <decltype>
--          ::= <substitution>
--          ::= <prefix> M
abbrev pub parse_nested_name : Productions → Parses LearnedName
parse_nested_name p = do
  past 1
  info ← parse_info
  n ← parse_first p info
  parse_components p n

unfoldable pub name_as : Productions → NameCase → Parses LearnedName
name_as p name_case.Nested = parse_nested_name p
name_as p name_case.Local = parse_local_name p
name_as p name_case.Std = parse_std_name p
name_as p name_case.Substitution = parse_substituted p
name_as p name_case.Unqualified = parse_in_place p (unscoped None None)

-- <name> ::= <nested-name>
--        ::= <unscoped-name>
--        ::= <unscoped-template-name> <template-args>
--        ::= <local-name>
-- <unscoped-name> ::= [St] [<module substitution>] <unqualified-name>
-- <unscoped-template-name> ::= <unscoped-name>
--                          ::= <substitution>
abbrev pub parse_name : Productions → Parses LearnedName
parse_name p = by case_of_name (name_as p)
