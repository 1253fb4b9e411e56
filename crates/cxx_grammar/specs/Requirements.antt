-- Requirements, and arguments behind which a constraint may stand (Itanium C++ ABI 5.1.5.10, 5.1.6).
use Rattle.std.specs.Prelude.{codes, false, Option, None, if◌then◌else◌}
use Rattle.cxx_tree.specs.Tree.{Tree}
use Rattle.cxx_tree.specs.Phrases.{expr_requirement, requirement}
use Rattle.cxx_grammar.specs.declared.cases.RequirementCase.{RequirementCase}
use Rattle.cxx_grammar.specs.declared.cases.RequirementCase.TheVariants as requirement_case
use Rattle.cxx_grammar.specs.Parses.{Parses, ◌>>=◌, ◌>>◌, ◌<$>◌, pure, some, refused, check, look, past, optional, by, if_next, is_e, make}
use Rattle.cxx_grammar.specs.Cases.{case_of_requirement}
use Rattle.cxx_grammar.specs.Productions.{Productions, name_tree}

-- Arguments.

-- Q <expression>, which ends a list of arguments, behind the last one. It isn't printed
abbrev pub parse_args_constraint : Productions → Tree → Parses Tree
parse_args_constraint p arg = do
  past 1
  p.expression
  bytes ← look
  check (is_e bytes)
  pure arg

-- <template-arg> [Q <expression>]
unfoldable pub parse_constrained_arg : Productions → Parses Tree
parse_constrained_arg p = do
  arg ← p.arg
  if_next "Q" (parse_args_constraint p arg) (pure arg)

-- Requirements.

-- [R <type-constraint>]
abbrev pub parse_type_constraint : Productions → Parses (Option Tree)
parse_type_constraint p = do
  is_there ← optional "R"
  if is_there then some <$> name_tree p else pure None

-- X <expression> [N] [R <type-constraint>]
abbrev pub parse_simple_requirement : Productions → Parses Tree
parse_simple_requirement p = do
  past 1
  e ← p.expression
  is_noexcept ← optional "N"
  constraint ← parse_type_constraint p
  make (expr_requirement e is_noexcept constraint)

-- T <type>
abbrev pub parse_type_requirement : Productions → Parses Tree
parse_type_requirement p = do
  past 1
  t ← p.type false
  make (requirement (codes "typename") t)

-- Q <constraint-expression>. Its template parameters are left to the binders around the requires-expression
abbrev pub parse_nested_requirement : Productions → Parses Tree
parse_nested_requirement p = do
  past 1
  e ← p.expression
  make (requirement (codes "requires") e)

unfoldable pub requirement_as : Productions → RequirementCase → Parses Tree
requirement_as p requirement_case.Expression = parse_simple_requirement p
requirement_as p requirement_case.Type = parse_type_requirement p
requirement_as p requirement_case.Nested = parse_nested_requirement p
requirement_as p requirement_case.Unread = refused

-- <requirement> ::= X <expression> [N] [R <type-constraint>]
--               ::= T <type>
--               ::= Q <constraint-expression>
abbrev pub parse_requirement : Productions → Parses Tree
parse_requirement p = by case_of_requirement (requirement_as p)
