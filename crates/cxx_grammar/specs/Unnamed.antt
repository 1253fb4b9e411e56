-- Unnamed types and closures (Itanium C++ ABI 5.1.7).
use Rattle.std.specs.Prelude.{ℕ, ◌+◌, List, Option, nat_lt}
use Rattle.cxx_tree.specs.declared.bind.Others.TheVariants.{Auto}
use Rattle.cxx_tree.specs.Tree.{Tree, Trees}
use Rattle.cxx_tree.specs.Stored.{trees_from_list}
use Rattle.cxx_tree.specs.Phrases.{closure, lambda, unnamed}
use Rattle.cxx_grammar.specs.declared.rows.End.TheVariants as end
use Rattle.cxx_grammar.specs.declared.rows.Item.TheVariants as item
use Rattle.cxx_grammar.specs.Parses.{Parses, ◌>>=◌, ◌>>◌, pure, check, past, expect, make, level, at_level}
use Rattle.cxx_grammar.specs.Leaves.{parse_digits, make_word}
use Rattle.cxx_grammar.specs.Ordinals.{ordinal_of}
use Rattle.cxx_grammar.specs.Binds.{bind_declared}
use Rattle.cxx_grammar.specs.Productions.{Productions}
use Rattle.cxx_grammar.specs.Rows.{parse_params}
use Rattle.cxx_grammar.specs.Constraints.{parse_constraint}
use Rattle.cxx_grammar.specs.Declarations.{parse_declarations}

-- [<number>] _: which one it is
abbrev pub parse_count : Parses (List ℕ)
parse_count = do
  count ← parse_digits
  expect "_"
  pure count

-- Ut [<number>] _
abbrev pub parse_unnamed : Parses Tree
parse_unnamed = do
  past 2
  count ← parse_count
  make (unnamed count (ordinal_of count))

-- Ub [<number>] _
abbrev pub parse_block : Parses Tree
parse_block = do
  past 2
  parse_count
  make_word "'block-literal'"

-- what a lambda has in front of its body, with the constraints before and behind its parameters
pub record Lambda : Type 0 where
  pub declarations : Trees
  pub before : Option Tree
  pub params : Trees
  pub behind : Option Tree

abbrev pub closure_tree : Lambda → List ℕ → Tree
closure_tree l count = closure l.declarations l.before l.params l.behind count (ordinal_of count)

abbrev pub lambda_tree : Lambda → Tree
lambda_tree l = lambda l.declarations l.before l.params l.behind

-- [<number>] _, behind the signature of a closure. The closure binds the template parameters from its level on: each
-- that has a declaration becomes its name, and each other one is `auto`. What was saved inside stays as it is: in
-- `_ZZ1fvENKUlT_E_clIiEEDaS_` the parameter of the lambda is `auto`, and `S_`, the same `T_` outside of it, is the
-- argument of its operator, `int`
abbrev pub parse_closure_end : ℕ → Lambda → Parses Tree
parse_closure_end binder l = do
  count ← parse_count
  t ← make (closure_tree l count)
  bind_declared binder Auto l.declarations t

-- v | <parameter type>+
abbrev pub parse_lambda_params : Productions → Parses Trees
parse_lambda_params p = do
  params ← parse_params p item.Type end.Lambda
  pure (trees_from_list params)

-- <lambda-sig> E
abbrev pub parse_lambda_sig : Productions → Parses Lambda
parse_lambda_sig p = do
  declarations ← parse_declarations p
  before ← parse_constraint p
  params ← parse_lambda_params p
  behind ← parse_constraint p
  expect "E"
  pure (record { declarations = declarations; before = before; params = params; behind = behind })

-- the signature of a closure at a level. At most 512 productions nest, so no level is refused
abbrev pub parse_closure_sig : Productions → ℕ → Parses Lambda
parse_closure_sig p binder = do
  past 2
  check (nat_lt binder 512)
  at_level (binder + 1) (parse_lambda_sig p)

-- <closure-type-name> ::= Ul <lambda-sig> E [<number>] _
-- <lambda-sig> ::= <template-param-decl>* [Q <constraint-expression>] <parameters> [Q <constraint-expression>]
-- <parameters> ::= v | <parameter type>+
unfoldable pub parse_closure : Productions → Parses Tree
parse_closure p = do
  binder ← level
  l ← parse_closure_sig p binder
  parse_closure_end binder l

-- the same as the value of a lambda
abbrev pub parse_lambda_end : ℕ → Lambda → Parses Tree
parse_lambda_end binder l = do
  parse_count
  t ← make (lambda_tree l)
  bind_declared binder Auto l.declarations t

unfoldable pub parse_lambda : Productions → Parses Tree
parse_lambda p = do
  binder ← level
  l ← parse_closure_sig p binder
  parse_lambda_end binder l
