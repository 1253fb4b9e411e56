-- Source names that are read together with their scope.
use Rattle.std.specs.Prelude.{ℕ, List, false, Option, Some, None}
use Rattle.abi_scalars.specs.Scalars.{source_text}
use Rattle.cxx_tree.specs.Tree.{Tree, named, scoped}
use Rattle.cxx_grammar.specs.State.{LearnedName}
use Rattle.cxx_grammar.specs.Parses.{Parses, ◌>>=◌, pure, if_next, make}
use Rattle.cxx_grammar.specs.Leaves.{parse_identifier, parse_abi_tags}
use Rattle.cxx_grammar.specs.Names.{Place, make_in_scope}

-- a name in a scope if there is one, which is made at once
abbrev pub named_in : Option Tree → List ℕ → Parses Tree
named_in None name = make (named (source_text name))
named_in (Some scope) name = make (scoped false scope (named (source_text name)))

-- a name with its tags, in a scope if there is one
abbrev pub tagged_in : Option Tree → List ℕ → Parses Tree
tagged_in scope name = do
  t ← make (named (source_text name))
  tagged ← parse_abi_tags t
  make_in_scope false scope tagged

-- a <source-name> with its tags, in a scope if there is one
abbrev pub source_in : Option Tree → Parses Tree
source_in scope = do
  name ← parse_identifier
  if_next "B" (tagged_in scope name) (named_in scope name)

-- an <unqualified-name> that is a source name with its tags
abbrev pub parse_source_at : Place → Parses LearnedName
parse_source_at place = do
  t ← source_in place.scope
  pure (record { tree = t; info = place.info })
