-- Template arguments and literals (Itanium C++ ABI 5.1.5.10, 5.1.6.1).
use Rattle.std.specs.Prelude.{false}
use Rattle.cxx_tree.specs.Tree.{Tree, Trees, listed, with_args}
use Rattle.cxx_tree.specs.Phrases.{string_literal, typed_literal}
use Rattle.cxx_grammar.specs.declared.cases.ArgCase.{ArgCase}
use Rattle.cxx_grammar.specs.declared.cases.ArgCase.TheVariants as arg
use Rattle.cxx_grammar.specs.declared.cases.LiteralCase.{LiteralCase}
use Rattle.cxx_grammar.specs.declared.cases.LiteralCase.TheVariants as literal
use Rattle.cxx_grammar.specs.declared.rows.Item.TheVariants as item
use Rattle.cxx_grammar.specs.Parses.{Parses, ◌>>=◌, ◌>>◌, pure, refused, past, expect, by, if_next, make}
use Rattle.cxx_grammar.specs.Cases.{case_of_arg, case_of_literal}
use Rattle.cxx_grammar.specs.Leaves.{parse_number_end, parse_bool, parse_null, parse_integer, parse_float}
use Rattle.cxx_grammar.specs.Productions.{Productions}
use Rattle.cxx_grammar.specs.Rows.{parse_list, parse_row, expression_arg_row, encoding_row}
use Rattle.cxx_grammar.specs.Unnamed.{parse_lambda}

-- <template-args> ::= I E | I <template-arg>+ [Q <expression>] E
abbrev pub parse_args : Productions → Parses Trees
parse_args p = if_next "I" (parse_list p 1 item.ConstrainedArg) refused

-- a name with its arguments
abbrev pub parse_with_args : Productions → Tree → Parses Tree
parse_with_args p name = do
  args ← parse_args p
  make (with_args name args)

-- J <template-arg>* E
abbrev pub parse_pack : Productions → Parses Tree
parse_pack p = do
  args ← parse_list p 1 item.Arg
  make (listed args)

-- <type> <number> E
abbrev pub parse_typed : Productions → Parses Tree
parse_typed p = do
  t ← p.type false
  value ← parse_number_end
  make (typed_literal t value)

-- <string type> E
abbrev pub parse_string : Productions → Parses Tree
parse_string p = do
  t ← p.type false
  expect "E"
  make (string_literal t)

-- <closure type> E
abbrev pub parse_lambda_literal : Productions → Parses Tree
parse_lambda_literal p = do
  lambda ← parse_lambda p
  expect "E"
  pure lambda

unfoldable pub literal_as : Productions → LiteralCase → Parses Tree
literal_as p literal.Bool = parse_bool
literal_as p literal.Null = parse_null
literal_as p literal.Integer = parse_integer
literal_as p (literal.Float format) = parse_float format
literal_as p literal.Encoding = parse_row p encoding_row
literal_as p literal.String = parse_string p
literal_as p literal.Lambda = parse_lambda_literal p
literal_as p literal.Unread = refused
literal_as p literal.Typed = parse_typed p

-- <expr-primary> ::= L <type> <value number> E
--                ::= L <type> <value float> E
--                ::= L <string type> E
--                ::= L <nullptr type> E | L <nullptr type> 0 E
--                ::= L <closure type> E
--                ::= L _Z <encoding> E
abbrev pub parse_literal : Productions → Parses Tree
parse_literal p = do
  past 1
  by case_of_literal (literal_as p)

-- <template-param-decl> <template-arg>. The declaration isn't printed
abbrev pub parse_declared_arg : Productions → Parses Tree
parse_declared_arg p = do
  p.declaration 0
  p.arg

unfoldable pub arg_as : Productions → ArgCase → Parses Tree
arg_as p arg.Expression = parse_row p expression_arg_row
arg_as p arg.Declared = parse_declared_arg p
arg_as p arg.Pack = parse_pack p
arg_as p arg.Encoding = parse_row p encoding_row
arg_as p arg.Literal = parse_literal p
arg_as p arg.Type = p.type false

-- <template-arg> ::= <type>
--                ::= X <expression> E
--                ::= <expr-primary>
--                ::= J <template-arg>* E
--                ::= <template-param-decl> <template-arg>
--                ::= LZ <encoding> E, as old compilers write the address of a function or of an object
abbrev pub parse_arg : Productions → Parses Tree
parse_arg p = by case_of_arg (arg_as p)
