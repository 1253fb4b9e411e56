-- Encodings that the arguments of their names don't change.
use Rattle.std.specs.Prelude.{◌≡◌, Some}
use Rattle.cxx_tree.specs.Tree.{Tree}
use Rattle.cxx_grammar.specs.State.{State, LearnedName}
use Rattle.cxx_grammar.specs.Binds.{bind_counted}

-- the tree of an encoding stays as it is
unfoldable pub IsUnbound : LearnedName → Tree → Type 0
IsUnbound n t = (s : State) → bind_counted n t s ≡ Some (t, s)
