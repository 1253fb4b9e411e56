-- The rows of the code.
use Rattle.std.specs.Prelude.{◌≡◌, List, [], ◌∷◌, Result, Ok, Err, map}
use Rattle.cxx_tree.specs.Kept.{IsNode}
use Rattle.cxx_tree.specs.Stored.{Store, size, list_at, stands, IsListBelow}
use Rattle.cxx_tree.specs.Tree.{Tree}
use Rattle.cxx_tree.specs.declared.arena.Stop.{Stop}
use Rattle.cxx_tree.specs.declared.arena.Stop.TheVariants.{Unreadable, Memory}
use Rattle.cxx_grammar.specs.Rows.{Row}
use Rattle.cxx_grammar.specs.declared.rows.Row as code
use Rattle.cxx_reader.specs.declared.row_nodes.Split.{Split}

-- the row of the definition that a row stands for
abbrev pub row_at : code.Row → Row
row_at r = record {
  skip = r.skip;
  items = r.items.now;
  maker = r.maker;
  words = record { llvm = r.llvm.now; gnu = r.gnu.now };
}

-- trees are split into the first one and a list of the others, unless there is none
abbrev pub GivesSplit : Result Split Stop → Store → List Tree → Type 0
GivesSplit (Ok s) a trees =
    (IsNode a s.first × IsListBelow a.held (size a) s.others)
    × (trees ≡ stands a s.first ∷ map (stands a) (list_at a.held s.others))
GivesSplit (Err Unreadable) a trees = trees ≡ []
GivesSplit (Err Memory) a trees = Unit {0}
