-- What an arena keeps of the nodes that it holds.
use Rattle.std.specs.Prelude.{ℕ, ◌+◌, ◌<◌, ◌≤◌, List, [], ◌∷◌, map}
use Rattle.std.specs.List.{AllByRecursion}
use Rattle.cxx_tree.specs.declared.arena.Arena.TheInside.{Inside}
use Rattle.cxx_tree.specs.declared.arena.Entry as stored
use Rattle.cxx_tree.specs.declared.node.Node.{Node}
use Rattle.cxx_tree.specs.Stored.{Held, Store, IsBelow, IsWithin, forest, size}
use Rattle.cxx_tree.specs.Counts.{AreCounted}

-- the nodes that entries hold
abbrev pub nodes_of : List stored.Entry → List Node
nodes_of es = map (λ e. e.node) es

abbrev pub store_of : Inside → Store
store_of a = record {
  nodes = nodes_of a.entries.items;
  held = record { lists = a.lists.items; parts = a.parts.items; texts = a.texts };
  saved = a.saved.items;
  pending = a.pending.items;
  limit = a.limit;
}

-- the children of each node stand before it
abbrev pub AreStored : Held → ℕ → List Node → Type 0
AreStored h k [] = Unit {0}
AreStored h k (n ∷ ns) = IsBelow h k n × AreStored h (k + 1) ns

abbrev pub IsStore : Store → Type 0
IsStore s = AreStored s.held 0 s.nodes

-- the limit is kept, and all that is below it is a `u32`
pub record KeepsLimit (s : Store) : Type 0 where
  pub within : IsWithin s.limit s
  pub small : s.limit ≤ 4294967295

-- the substitution candidates and the nodes that are collected are nodes
pub record HasNodes (s : Store) : Type 0 where
  pub saved : AllByRecursion (λ i. i < size s) s.saved
  pub pending : AllByRecursion (λ i. i < size s) s.pending

-- the nodes with their counts, the limit, and the lists of nodes
abbrev pub IsKept : List stored.Entry → Store → Type 0
IsKept es s = IsStore s × AreCounted es (forest s) × KeepsLimit s × HasNodes s

abbrev pub IsConsistent : Inside → Type 0
IsConsistent a = IsKept a.entries.items (store_of a)
