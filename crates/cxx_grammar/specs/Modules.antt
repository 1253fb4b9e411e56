-- Modules (Itanium C++ ABI 5.1.2).
use Rattle.std.specs.Prelude.{ℕ, List, Bool, not, codes, Option, Some, None}
use Rattle.cxx_tree.specs.Tree.{Tree}
use Rattle.cxx_tree.specs.Phrases.{module_name}
use Rattle.abi_scalars.specs.Bytes.{begins}
use Rattle.cxx_grammar.specs.Parses.{Parses, ◌>>=◌, ◌>>◌, ◌<$>◌, pure, some, check, given, expect, optional, repeat, make_saved}
use Rattle.cxx_grammar.specs.Bases.{is_module}
use Rattle.cxx_grammar.specs.Leaves.{parse_source_name, parse_substitution}

-- W [P] <source-name>, behind a module or none. It is saved
abbrev pub parse_subname : Option Tree → Parses Tree
parse_subname outer = do
  expect "W"
  is_partition ← optional "P"
  name ← parse_source_name
  make_saved (module_name outer name is_partition)

abbrev pub next_subname : Option Tree → Parses (Option Tree)
next_subname outer = some <$> parse_subname outer

abbrev pub is_subnames_end : List ℕ → Bool
is_subnames_end bytes = not (begins (codes "W") bytes)

-- <module-name> ::= <module-subname>
--               ::= <module-name> <module-subname>
--               ::= <substitution>
-- <module-subname> ::= W <source-name>
--                  ::= W P <source-name>
-- The subnames that are next, behind a module that is a substitution, or none: there may be none
unfoldable pub parse_subnames : Option Tree → Parses (Option Tree)
parse_subnames outer = repeat is_subnames_end next_subname outer

-- one subname or more
unfoldable pub parse_module : Parses Tree
parse_module = do
  first ← parse_subname None
  owner ← parse_subnames (Some first)
  given owner

-- <substitution> that is a module
unfoldable pub parse_module_substitution : Parses Tree
parse_module_substitution = do
  t ← parse_substitution
  check (is_module t)
  pure t
