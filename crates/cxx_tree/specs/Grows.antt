-- How an arena grows.
use Rattle.std.specs.Prelude.{ℕ, ◌<◌, ◌≤◌, ◌≡◌, true, false, Result, Ok, Err}
use Rattle.cxx_tree.specs.declared.arena.Stop.{Stop}
use Rattle.cxx_tree.specs.declared.arena.Stop.TheVariants.{Memory, Unreadable}
use Rattle.cxx_tree.specs.Tree.{Tree}
use Rattle.cxx_tree.specs.Measure.{measure}
use Rattle.cxx_tree.specs.Stored.{Store, Extends, forest, size, tree_at, saved_trees}

-- each node stays, and stands for the same tree; what is held stays, the substitution candidates, the nodes that are
-- collected, and how much there may be
pub record Grows (old new : Store) : Type 0 where
  pub longer : size old ≤ size new
  pub same : (i : ℕ) → i < size old → tree_at (forest new) i ≡ tree_at (forest old) i
  pub extends : Extends old.held new.held
  pub limit : new.limit ≡ old.limit
  pub saved : saved_trees new ≡ saved_trees old
  pub pending : new.pending ≡ old.pending

-- a call makes a node that stands for a tree within the limits; or the tree exceeds a limit; or memory is refused
unfoldable pub Makes : Result ℕ Stop → Store → Store → Tree → Type 0
Makes (Ok i) old new t =
    (i < size new) × (tree_at (forest new) i ≡ t) × Grows old new × ((measure t).fits ≡ true)
Makes (Err Unreadable) old new t = ((measure t).fits ≡ false) × Grows old new
Makes (Err Memory) old new t = Grows old new
