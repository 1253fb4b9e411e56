-- Local names (Itanium C++ ABI 5.1.8).
use Rattle.std.specs.Prelude.{ℕ, zero, suc, List, [], ◌∷◌, codes, false, drop, ◌&&◌, if◌then◌else◌}
use Rattle.cxx_tree.specs.Tree.{Tree, scoped}
use Rattle.cxx_tree.specs.Phrases.{default_arg}
use Rattle.abi_scalars.specs.Bytes.{begins, begins_digit}
use Rattle.abi_scalars.specs.Texts.{optional_number_text}
use Rattle.cxx_grammar.specs.declared.cases.LocalCase.{LocalCase}
use Rattle.cxx_grammar.specs.declared.cases.LocalCase.TheVariants as local
use Rattle.cxx_grammar.specs.State.{LearnedName, plain}
use Rattle.cxx_grammar.specs.Parses.{Parses, ◌>>=◌, ◌>>◌, pure, look, past, set_rest, expect, of_bytes, by, make, at_level}
use Rattle.cxx_grammar.specs.Cases.{case_of_local}
use Rattle.cxx_grammar.specs.Leaves.{make_word}
use Rattle.cxx_grammar.specs.Ordinals.{ordinal}
use Rattle.cxx_grammar.specs.Productions.{Productions}

-- past at most n digits
unfoldable pub past_digits : ℕ → List ℕ → List ℕ
past_digits zero bytes = bytes
past_digits (suc n) bytes = if begins_digit bytes then past_digits n (drop 1 bytes) else bytes

-- what follows a discriminator of `__`, at most ten digits and `_`; without one all bytes
abbrev pub past_long : List ℕ → List ℕ → List ℕ
past_long after bytes = if begins (codes "_") after then drop 1 after else bytes

-- what follows one of digits at the end of the symbol
abbrev pub past_last : List ℕ → List ℕ → List ℕ
past_last [] bytes = []
past_last (b ∷ after) bytes = bytes

unfoldable pub past_discriminator : List ℕ → List ℕ
past_discriminator bytes =
    if begins (codes "__") bytes then past_long (past_digits 10 (drop 2 bytes)) bytes else
    if begins (codes "_") bytes && begins_digit (drop 1 bytes) then drop 2 bytes else
    if begins_digit bytes then past_last (past_digits 10 bytes) bytes else bytes

-- [<discriminator>] ::= _ <digit>
--                   ::= __ <digit>* _, of at most ten digits
--                   ::= <digit>+ at the end of the symbol, of at most ten digits
abbrev pub parse_discriminator : Parses (Unit {0})
parse_discriminator = do
  bytes ← look
  set_rest (past_discriminator bytes)

-- the name of an entity in a scope
abbrev pub make_entity : Tree → LearnedName → Parses LearnedName
make_entity scope n = do
  t ← make (scoped false scope n.tree)
  pure (record n { tree = t })

-- What is around the scope binds none of the template parameters of the entity: in `_Z1fIiEvZ4mainEUlT_E_`
-- the lambda's parameter is its own, `auto`, though it stands in a parameter of `f<int>`
abbrev pub parse_entity_in : Productions → Tree → Parses LearnedName
parse_entity_in p scope = do
  n ← at_level 0 p.name
  make_entity scope n

-- s [<discriminator>]
abbrev pub parse_local_string : Tree → Parses LearnedName
parse_local_string scope = do
  past 1
  parse_discriminator
  word ← make_word "string literal"
  t ← make (scoped false scope word)
  pure (plain t)

-- [<number>] _, which says the argument. Its default is the scope
abbrev pub parse_default_scope : Tree → Parses Tree
parse_default_scope scope = do
  number ← of_bytes optional_number_text
  expect "_"
  make (default_arg scope number (ordinal number))

-- d [<number>] _ <name>
abbrev pub parse_default_arg : Productions → Tree → Parses LearnedName
parse_default_arg p scope = do
  past 1
  arg ← parse_default_scope scope
  parse_entity_in p arg

-- <name> [<discriminator>]
abbrev pub parse_entity : Productions → Tree → Parses LearnedName
parse_entity p scope = do
  n ← parse_entity_in p scope
  parse_discriminator
  pure n

unfoldable pub local_as : Productions → Tree → LocalCase → Parses LearnedName
local_as p scope local.String = parse_local_string scope
local_as p scope local.DefaultArg = parse_default_arg p scope
local_as p scope local.Entity = parse_entity p scope

-- <local-name> ::= Z <encoding> E <entity name> [<discriminator>]
--              ::= Z <encoding> E s [<discriminator>]
--              ::= Z <encoding> E d [<number>] _ <entity name>
abbrev pub parse_local_name : Productions → Parses LearnedName
parse_local_name p = do
  past 1
  scope ← p.encoding
  expect "E"
  by case_of_local (local_as p scope)
