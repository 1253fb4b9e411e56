-- What calls keep of an arena.
use Rattle.std.specs.Prelude.{ℕ, ◌<◌, ◌≤◌, ◌≡◌, take}
use Rattle.cxx_tree.specs.Stored.{Store, Extends, forest, size, tree_at}

-- an index of a node
abbrev pub IsNode : Store → ℕ → Type 0
IsNode s i = i < size s

-- without the nodes that are collected from an index on
abbrev pub taken : ℕ → Store → Store
taken from s =
    record { nodes = s.nodes; held = s.held; saved = s.saved; pending = take from s.pending; limit = s.limit }

-- each node stays, and stands for the same tree; what is held stays, and how much there may be
pub record KeepsNodes (old new : Store) : Type 0 where
  pub longer : size old ≤ size new
  pub same : (i : ℕ) → i < size old → tree_at (forest new) i ≡ tree_at (forest old) i
  pub extends : Extends old.held new.held
  pub limit : new.limit ≡ old.limit

-- the nodes and what they refer to are the same
pub record SameNodes (old new : Store) : Type 0 where
  pub nodes : new.nodes ≡ old.nodes
  pub held : new.held ≡ old.held
  pub limit : new.limit ≡ old.limit
