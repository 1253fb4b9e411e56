use Rattle.std.proofs.Common.{sym, subst, Some}
use Rattle.cxx_tree.specs.Tree.{Tree}
use Rattle.cxx_tree.specs.Measure.{measure}
use Rattle.cxx_tree.specs.Stored.{tree_of, plain_tree}
use Rattle.cxx_tree.specs.Stored.{stands}
use Rattle.cxx_reader.specs.Outcome.{state, Gives}
use Rattle.cxx_reader.proofs.reader.Reader.expanded.Goals as goal

pub returns-in-Some-clause-reads : goal.returns-in-Some-clause-reads
unfolding measure stands tree_of plain_tree
returns-in-Some-clause-reads c =
    let is = (c.in-Some.ensures {u = tt}).value in
    subst (λ (t : Tree). Gives c.make.result c.make.new.self (Some (t, state c.args.self.now)))
    (sym is) c.make.ensures.reads
