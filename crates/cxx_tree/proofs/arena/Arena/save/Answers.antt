use Rattle.std.proofs.Common.{refl}
use Rattle.cxx_tree.specs.View.{store_of}
use Rattle.cxx_tree.proofs.Grown.{saved-push}
use Rattle.cxx_tree.proofs.arena.Arena.save.Goals as goal

pub returns-clause-saved : goal.returns-clause-saved
returns-clause-saved c =
    rw (← c.self.view_is) (saved-push (store_of c.self.inside) _ c.args.i refl refl (c.in-Ok.ensures {u = tt}).items)
