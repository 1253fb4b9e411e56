-- The parts of the last symbol.
use Rattle.std.specs.Prelude.{ℕ, List, [], Bool, false, Option, option_map}
use Rattle.std.specs.Option.{option_map_or}
use Rattle.cxx_tree.specs.Tree.{Tree}
use Rattle.cxx_printer.specs.declared.env.Env.{Env}
use Rattle.cxx_printer.specs.declared.env.Style.{Style}
use Rattle.cxx_printer.specs.declared.parts.Kind.{Kind}
use Rattle.cxx_printer.specs.Parts as trees
use Rattle.cxx_printer.specs.Words.{top}

-- a part of the tree that a symbol was read as: nothing, if it wasn't read
abbrev pub part_of : (Env → Tree → List ℕ) → Style → Option Tree → List ℕ
part_of part style tree = option_map_or (part (top style)) tree []

-- what the symbol stands for
abbrev pub kind_of : Option Tree → Option Kind
kind_of tree = option_map trees.kind_of tree

-- the symbol is that of a member function with qualifiers
abbrev pub has_qualifiers : Option Tree → Bool
has_qualifiers tree = option_map_or trees.has_qualifiers tree false
