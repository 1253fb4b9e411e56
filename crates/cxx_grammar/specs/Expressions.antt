-- Expressions (Itanium C++ ABI 5.1.6).
use Rattle.std.specs.Prelude.{ℕ, List, [], ◌∷◌, codes, bytes_eq, Bool, false, not, ◌&&◌, if◌then◌else◌}
use Rattle.cxx_tree.specs.Tree.{Tree, Trees, no_trees}
use Rattle.cxx_tree.specs.Stored.{trees_from_list}
use Rattle.cxx_tree.specs.Phrases.{call, new_expression, requires_expression, subobject}
use Rattle.cxx_tree.specs.Texts.{number_printed}
use Rattle.abi_scalars.specs.Bytes.{begins, begins_one_of}
use Rattle.cxx_grammar.specs.declared.cases.ExpressionCase.{ExpressionCase}
use Rattle.cxx_grammar.specs.declared.cases.ExpressionCase.TheVariants as expression
use Rattle.cxx_grammar.specs.declared.rows.End.TheVariants as end
use Rattle.cxx_grammar.specs.declared.rows.Item.{Item}
use Rattle.cxx_grammar.specs.declared.rows.Item.TheVariants as item
use Rattle.cxx_grammar.specs.Parses.{Parses, ◌>>=◌, ◌>>◌, pure, refused, past, expect, past_word_if, by, if_bytes, if_next, repeat, make}
use Rattle.cxx_grammar.specs.Cases.{case_of_expression}
use Rattle.cxx_grammar.specs.Leaves.{make_name, parse_digits, parse_identifier, parse_template_param, parse_function_param}
use Rattle.cxx_grammar.specs.Productions.{Productions}
use Rattle.cxx_grammar.specs.Rows.{parse_list, list_after, parse_row_or, parse_optional_number}
use Rattle.cxx_grammar.specs.Operators.{expression_row_of, braced_row_of}
use Rattle.cxx_grammar.specs.Args.{parse_literal}
use Rattle.cxx_grammar.specs.Unresolved.{parse_unresolved_name, parse_global_name}

-- items up to a `_`, which is read, behind n letters
unfoldable pub parse_to_underscore : Productions → ℕ → Item → Parses Trees
parse_to_underscore p n item = do
  past n
  trees ← list_after p item end.Underscore []
  expect "_"
  pure (trees_from_list trees)

-- New.

abbrev pub parse_no_values : Parses Trees
parse_no_values = do
  expect "E"
  pure no_trees

-- <initializer> ::= pi <expression>* E, or E
abbrev pub parse_initializer : Productions → Parses Trees
parse_initializer p = if_next "pi" (parse_list p 2 item.Expression) parse_no_values

-- how many bytes stand in front of the placement
abbrev pub new_len : Bool → ℕ
new_len is_global = if is_global then 4 else 2

-- [gs] nw <expression>* _ <type> E | [gs] nw <expression>* _ <type> <initializer>, and the same with na
abbrev pub parse_new : Productions → Bool → Bool → Parses Tree
parse_new p is_global is_array = do
  places ← parse_to_underscore p (new_len is_global) item.Expression
  t ← p.type false
  values ← parse_initializer p
  make (new_expression places t values is_global is_array)

-- Subobjects.

-- <union-selector> ::= _ [<number>]
abbrev pub parse_selector : Unit {0} → Parses (Unit {0})
parse_selector u = do
  past 1
  parse_digits
  pure tt

abbrev pub is_selectors_end : List ℕ → Bool
is_selectors_end bytes = not (begins (codes "_") bytes)

abbrev pub skip_selectors : Parses (Unit {0})
skip_selectors = repeat is_selectors_end parse_selector tt

-- [<offset number>] <union-selector>* [p] E
unfoldable pub parse_offset_end : Parses (List ℕ)
parse_offset_end = do
  offset ← parse_optional_number
  skip_selectors
  past_word_if (codes "p")
  expect "E"
  pure (number_printed offset)

-- so <referent type> <expression> [<offset number>] <union-selector>* [p] E
abbrev pub parse_subobject : Productions → Parses Tree
parse_subobject p = do
  past 2
  t ← p.type false
  e ← p.expression
  offset ← parse_offset_end
  make (subobject t e offset)

-- Requires expressions.

abbrev pub parse_no_params : Parses Trees
parse_no_params = do
  past 2
  pure no_trees

-- rQ <type>* _, or rq
abbrev pub parse_requires_params : Productions → Bool → Parses Trees
parse_requires_params p has_params =
    if has_params then parse_to_underscore p 2 item.Type else parse_no_params

-- <requirement>+ E
abbrev pub parse_requirements : Productions → Parses Trees
parse_requirements p = if_next "E" refused (parse_list p 0 item.Requirement)

-- rq <requirement>+ E | rQ <type>* _ <requirement>+ E
abbrev pub parse_requires : Productions → Bool → Parses Tree
parse_requires p has_params = do
  params ← parse_requires_params p has_params
  requirements ← parse_requirements p
  make (requires_expression params requirements)

-- Expressions of vendors.

abbrev pub one : Tree → Trees
one t = trees_from_list (t ∷ [])

abbrev pub parse_uuid_expression : Productions → Parses Tree
parse_uuid_expression p = do
  past 1
  p.expression

-- t <type> | z <expression>
abbrev pub parse_uuid_tree : Productions → Parses Tree
parse_uuid_tree p = do
  is_type ← past_word_if (codes "t")
  if is_type then p.type false else parse_uuid_expression p

abbrev pub parse_uuid_operand : Productions → Parses Trees
parse_uuid_operand p = do
  t ← parse_uuid_tree p
  pure (one t)

-- the name is one of Microsoft's operator, and a type or an expression follows
abbrev pub is_uuid : List ℕ → List ℕ → Bool
is_uuid name bytes = bytes_eq name (codes "__uuidof") && begins_one_of (codes "tz") bytes

unfoldable pub parse_vendor_operands : Productions → List ℕ → Parses Trees
parse_vendor_operands p name = if_bytes (is_uuid name) (parse_uuid_operand p) (parse_list p 0 item.Arg)

-- u <source-name> <template-arg>* E
-- u 8__uuidof t <type> | u 8__uuidof z <expression>
abbrev pub parse_vendor_expression : Productions → Parses Tree
parse_vendor_expression p = do
  past 1
  name ← parse_identifier
  function ← make_name name
  args ← parse_vendor_operands p name
  make (call function args)

unfoldable pub expression_as : Productions → ExpressionCase → Parses Tree
expression_as p (expression.New is_global is_array) = parse_new p is_global is_array
expression_as p expression.GlobalName = parse_global_name p
expression_as p expression.Literal = parse_literal p
expression_as p expression.Param = parse_template_param
expression_as p expression.FunctionParam = parse_function_param
expression_as p expression.Subobject = parse_subobject p
expression_as p (expression.Requires has_params) = parse_requires p has_params
expression_as p expression.Vendor = parse_vendor_expression p
expression_as p expression.Unread = refused
expression_as p expression.Name = parse_unresolved_name p

-- an expression that is no row
abbrev pub parse_other_expression : Productions → Parses Tree
parse_other_expression p = by case_of_expression (expression_as p)

-- <expression> ::= <unary operator-name> <expression>
--              ::= <binary operator-name> <expression> <expression>
--              ::= <ternary operator-name> <expression> <expression> <expression>
--              ::= pp_ <expression> | mm_ <expression>
--              ::= cl <expression>+ E
--              ::= cv <type> <expression> | cv <type> _ <expression>* E
--              ::= tl <type> <braced-expression>* E | il <braced-expression>* E
--              ::= [gs] nw .. | [gs] na .. | [gs] dl <expression> | [gs] da <expression>
--              ::= dc | sc | cc | rc <type> <expression>
--              ::= ti <type> | te <expression> | st <type> | sz <expression> | at <type> | az <expression>
--              ::= nx <expression>
--              ::= so .. | mc ..
--              ::= rq <requirement>+ E | rQ <type>* _ <requirement>+ E
--              ::= <template-param>
--              ::= <function-param>
--              ::= dt <expression> <unresolved-name> | pt <expression> <unresolved-name>
--              ::= ds <expression> <expression>
--              ::= sZ <template-param> | sZ <function-param> | sP <template-arg>* E
--              ::= sp <expression>
--              ::= fl | fr | fL | fR ..
--              ::= tw <expression> | tr
--              ::= u <source-name> <template-arg>* E
--              ::= <unresolved-name>
--              ::= <expr-primary>
abbrev pub parse_expression : Productions → Parses Tree
parse_expression p = parse_row_or expression_row_of p (parse_other_expression p)

-- <braced-expression> ::= <expression>
--                     ::= di <field source-name> <braced-expression>
--                     ::= dx <index expression> <braced-expression>
--                     ::= dX <range begin expression> <range end expression> <braced-expression>
abbrev pub parse_braced : Productions → Parses Tree
parse_braced p = parse_row_or braced_row_of p p.expression
