use Rattle.std.proofs.Common.{arith}
use Rattle.cxx_tree.specs.Counts.{Tallied}
use Rattle.cxx_tree.specs.Stored.{forest, tree_at, text_at}
use Rattle.cxx_tree.proofs.InScope.{long-limit}
use Rattle.cxx_tree.proofs.measuring.in_scope.Goals as goal

pub returns-then-len : goal.returns-then-len
unfolding Tallied
returns-then-len c =
    let a = c.args.arena.now in
    record { counts = long-limit (tree_at (forest a) c.args.scope) (text_at a.held c.args.name) (omega (arith, c.if-len.true, c.text_len-len.ensures.value)) }
