use Rattle.cxx_tree.specs.View.{store_of}
use Rattle.cxx_tree.proofs.Measured.{counted-in}
use Rattle.cxx_tree.proofs.arena.Arena.measure.Goals as goal

pub returns-clause-counts : goal.returns-clause-counts
returns-clause-counts c =
    let counted = counted-in c.self.inside.entries.items (store_of c.self.inside) _ c.self.invariant.1 c.self.view_is c.args.i c.index.result.now c.requires.within in
    rw c.index.ensures counted.0

pub returns-clause-exact : goal.returns-clause-exact
returns-clause-exact c =
    (counted-in c.self.inside.entries.items (store_of c.self.inside) _ c.self.invariant.1 c.self.view_is c.args.i c.index.result.now c.requires.within).1
