use Rattle.std.proofs.Common.{◌∙◌, sym, ap, refl}
use Rattle.cxx_tree.specs.Tree.{Tree}
use Rattle.cxx_tree.specs.Measure.{measure}
use Rattle.cxx_tree.specs.Bind.{as_pack}
use Rattle.cxx_tree.specs.Stored.{forest, tree_at}
use Rattle.cxx_tree.proofs.Grown.{Makes-node, Grows-same}
use Rattle.cxx_tree.proofs.bind.as_pack.Goals as goal

pub returns-in-None-clause-makes : goal.returns-in-None-clause-makes
returns-in-None-clause-makes c =
    let a = c.args.arena.now in
    let same = (c.in-None.ensures {u = tt}).items in
    Makes-node a a (as_pack (tree_at (forest a) c.args.i)) c.args.i c.requires.within (sym same) (Grows-same a a refl)
    (ap (λ (t : Tree). (measure t).fits) same ∙ c.items_of.ensures.fits)
