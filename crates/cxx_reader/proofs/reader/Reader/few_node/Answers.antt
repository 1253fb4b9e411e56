use Rattle.std.proofs.Common.{arith, ap, length, drop}
use Rattle.cxx_tree.specs.Stored.{stands}
use Rattle.cxx_reader.specs.Outcome.{state, trees_behind}
use Rattle.cxx_reader.proofs.Bound.{length-map}
use Rattle.cxx_reader.proofs.Lists.{few_none}
use Rattle.cxx_reader.proofs.reader.Reader.few_node.Goals as goal

pub returns-in_default-clause-reads : goal.returns-in_default-clause-reads
returns-in_default-clause-reads c =
    let a = c.args.self.now.arena in
    few_none c.args.row.maker _ (trees_behind c.args.from a) (state c.args.self.now)
    (omega (arith, c.in_default.len_at_least, ap length c.pending.ensures.value, length-map (stands a) (drop c.args.from a.pending)))
