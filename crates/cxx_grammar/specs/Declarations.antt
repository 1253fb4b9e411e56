-- Declarations of template parameters (Itanium C++ ABI 5.1.7).
use Prim.Native.String.{String}
use Rattle.std.specs.Prelude.{ℕ, zero, suc, ◌+◌, List, [], ◌++◌, length, codes, decimal, false, Option, Some, nat_lt}
use Rattle.cxx_tree.specs.declared.bind.Others.TheVariants.{Keep}
use Rattle.cxx_tree.specs.Tree.{Tree, Trees, named, type_param, non_type_param, pack_param}
use Rattle.cxx_tree.specs.Stored.{trees_from_list}
use Rattle.cxx_tree.specs.Phrases.{lambda_param, template_param_of}
use Rattle.cxx_grammar.specs.declared.cases.DeclarationCase.{DeclarationCase}
use Rattle.cxx_grammar.specs.declared.cases.DeclarationCase.TheVariants as declaration
use Rattle.cxx_grammar.specs.State.{Invented}
use Rattle.cxx_grammar.specs.Parses.{Parses, ◌>>=◌, ◌>>◌, pure, refused, check, past, expect, by, if_next, item_more, repeat, make, level, at_level}
use Rattle.cxx_grammar.specs.Cases.{case_of_declaration, is_declarations_end}
use Rattle.cxx_grammar.specs.Binds.{bind_declared}
use Rattle.cxx_grammar.specs.Productions.{Productions, name_tree}
use Rattle.cxx_grammar.specs.Constraints.{parse_constraint}

-- Invented names: `$T`, `$T0`, `$T1`, .. in LLVM's style, and with the number of the declaration in GNU's.

-- a word, and behind it the number of the name among those of its kind: none for the first one, then 0, 1, ..
abbrev pub invented_text : List ℕ → ℕ → List ℕ
invented_text word zero = word
invented_text word (suc n) = word ++ decimal n

abbrev pub invented_name : List ℕ → ℕ → ℕ → Tree
invented_name word count number = lambda_param (invented_text word count) (word ++ decimal number)

abbrev pub make_invented : String → ℕ → ℕ → Parses Tree
make_invented word count number = make (invented_name (codes word) count number)

abbrev pub counts : Parses Invented
counts s = Some (s.invented, s)

abbrev pub set_counts : Invented → Parses (Unit {0})
set_counts after s = Some (tt, record s { invented = after })

-- the name of a type
unfoldable pub invent_type : ℕ → Parses Tree
invent_type number = do
  before ← counts
  set_counts (record before { types = before.types + 1 })
  make_invented "$T" before.types number

-- the name of a value
unfoldable pub invent_value : ℕ → Parses Tree
invent_value number = do
  before ← counts
  set_counts (record before { values = before.values + 1 })
  make_invented "$N" before.values number

-- the name of a template
unfoldable pub invent_template : ℕ → Parses Tree
invent_template number = do
  before ← counts
  set_counts (record before { templates = before.templates + 1 })
  make_invented "$TT" before.templates number

-- Declarations, each with its number.

-- the declaration of a type, behind a word or a concept
abbrev pub make_type_param : Tree → ℕ → Parses Tree
make_type_param front number = do
  name ← invent_type number
  make (type_param front name)

-- Ty
abbrev pub parse_type_param : ℕ → Parses Tree
parse_type_param number = do
  past 2
  make_type_param (named (codes "typename")) number

-- Tk <name>
abbrev pub parse_constrained_param : Productions → ℕ → Parses Tree
parse_constrained_param p number = do
  past 2
  concept ← name_tree p
  make_type_param concept number

-- Tn <type>
abbrev pub parse_value_param : Productions → ℕ → Parses Tree
parse_value_param p number = do
  past 2
  name ← invent_value number
  t ← p.type false
  make (non_type_param name t)

-- one more declaration. The first one has the number 0
abbrev pub parse_numbered : Productions → List Tree → Parses (List Tree)
parse_numbered p so_far = item_more (p.declaration (length so_far)) so_far

-- <template-param-decl>*, after others
abbrev pub declarations_after : Productions → List Tree → Parses (List Tree)
declarations_after p so_far = repeat is_declarations_end (parse_numbered p) so_far

-- <template-param-decl>*
unfoldable pub parse_declarations : Productions → Parses Trees
parse_declarations p = do
  declarations ← declarations_after p []
  pure (trees_from_list declarations)

-- the declarations of a template, and their constraint
pub record Declared : Type 0 where
  pub declarations : Trees
  pub constraint : Option Tree

-- <template-param-decl>* [Q <constraint-expression>] E
abbrev pub parse_some_declared : Productions → Parses Declared
parse_some_declared p = do
  declarations ← parse_declarations p
  constraint ← parse_constraint p
  expect "E"
  pure (record { declarations = declarations; constraint = constraint })

-- a constraint has a declaration in front of it
abbrev pub parse_declared : Productions → Parses Declared
parse_declared p = if_next "Q" refused (parse_some_declared p)

-- the same at a level. At most 512 productions nest, so no level is refused
abbrev pub parse_declared_at : Productions → ℕ → Parses Declared
parse_declared_at p binder = do
  check (nat_lt binder 512)
  at_level (binder + 1) (parse_declared p)

-- the declaration of a template, which binds the template parameters of its level
abbrev pub make_template : ℕ → Tree → Declared → Parses Tree
make_template binder name inside = do
  t ← make (template_param_of name inside.declarations inside.constraint)
  bind_declared binder Keep inside.declarations t

-- Tt E | Tt <template-param-decl>+ [Q <constraint-expression>] E
abbrev pub parse_template_declaration : Productions → ℕ → Parses Tree
parse_template_declaration p number = do
  past 2
  name ← invent_template number
  binder ← level
  inside ← parse_declared_at p binder
  make_template binder name inside

-- Tp <template-param-decl>
abbrev pub parse_pack_declaration : Productions → ℕ → Parses Tree
parse_pack_declaration p number = do
  past 2
  inner ← p.declaration number
  make (pack_param inner)

unfoldable pub declaration_as : Productions → ℕ → DeclarationCase → Parses Tree
declaration_as p number declaration.Type = parse_type_param number
declaration_as p number declaration.Constrained = parse_constrained_param p number
declaration_as p number declaration.Value = parse_value_param p number
declaration_as p number declaration.Template = parse_template_declaration p number
declaration_as p number declaration.Pack = parse_pack_declaration p number
declaration_as p number declaration.Unread = refused

-- <template-param-decl> ::= Ty
--                       ::= Tk <type-constraint>
--                       ::= Tn <type>
--                       ::= Tt E | Tt <template-param-decl>+ [Q <constraint-expression>] E
--                       ::= Tp <template-param-decl>
abbrev pub parse_declaration : Productions → ℕ → Parses Tree
parse_declaration p number = by case_of_declaration (declaration_as p number)
