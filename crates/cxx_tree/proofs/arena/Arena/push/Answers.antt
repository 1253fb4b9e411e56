use Rattle.std.proofs.Common.{refl, arith}
use Rattle.std.proofs.lemmas.Grind.{common_steps}
use Rattle.cxx_tree.specs.Stored.{forest, tree_of}
use Rattle.cxx_tree.proofs.Measured.{tallied-some, tallied-none, row-fit}
use Rattle.cxx_tree.proofs.Grown.{Makes-limit, Grows-same}
use Rattle.cxx_tree.proofs.arena.Arena.push.Goals as goal

pub returns-in-None-clause-limit : goal.returns-in-None-clause-limit
returns-in-None-clause-limit c = λ _. tallied-none _ _ c.of_node.ensures.counts c.in-None.is

pub returns-in-None-clause-makes : goal.returns-in-None-clause-makes
returns-in-None-clause-makes c =
    let a = c.args.self.now in
    Makes-limit a a (tree_of a.held (forest a) c.args.node) (tallied-none _ _ c.of_node.ensures.counts c.in-None.is) (Grows-same a a refl)

pub push_counted-requires-clause-counts : goal.push_counted-requires-clause-counts
push_counted-requires-clause-counts c = (tallied-some _ _ _ c.of_node.ensures.counts c.in-Some.is).0

pub push_counted-requires-clause-exact : goal.push_counted-requires-clause-exact
push_counted-requires-clause-exact c = (tallied-some _ _ _ c.of_node.ensures.counts c.in-Some.is).1

pub returns-clause-fits : goal.returns-clause-fits
returns-clause-fits c = let fit = row-fit _ _ (tallied-some _ _ _ c.of_node.ensures.counts c.in-Some.is).0 in grind (arith, common_steps)
