use Rattle.std.proofs.Common.{refl}
use Rattle.cxx_tree.specs.View.{store_of}
use Rattle.cxx_tree.proofs.Forest.{same-forest}
use Rattle.cxx_tree.proofs.Grown.{saved-same}
use Rattle.cxx_tree.proofs.arena.Arena.cut.Goals as goal

pub returns-clause-saved : goal.returns-clause-saved
returns-clause-saved c =
    let s = store_of c.self.inside in
    rw (← c.self.view_is) (saved-same s _ (same-forest s _ refl refl) refl)
