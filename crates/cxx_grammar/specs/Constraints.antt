-- Constraints (Itanium C++ ABI 5.1.7).
use Rattle.std.specs.Prelude.{Option, None, if◌then◌else◌}
use Rattle.cxx_tree.specs.Tree.{Tree}
use Rattle.cxx_grammar.specs.Parses.{Parses, ◌>>=◌, ◌<$>◌, pure, some, optional}
use Rattle.cxx_grammar.specs.Binds.{bind_constraint}
use Rattle.cxx_grammar.specs.Productions.{Productions}

-- <constraint-expression>
abbrev pub parse_written : Productions → Parses Tree
parse_written p = do
  e ← p.expression
  bind_constraint e

-- [Q <constraint-expression>], behind a function, a lambda or the declarations of a template
abbrev pub parse_constraint : Productions → Parses (Option Tree)
parse_constraint p = do
  is_there ← optional "Q"
  if is_there then some <$> parse_written p else pure None
