use Rattle.std.proofs.Common.{◌∙◌, ap, sym}
use Rattle.std.specs.Prelude.{not}
use Rattle.cxx_grammar.specs.Leaves.{parse_abi_tags}
use Rattle.cxx_reader.proofs.Kept.{Keeps-trans}
use Rattle.cxx_reader.proofs.Turns.{steps_more, steps_end, tree_stop}
use Rattle.cxx_reader.proofs.reader.Reader.read_abi_tags.Goals as goal

pub returns-in-Err-clause-reads : goal.returns-in-Err-clause-reads
unfolding parse_abi_tags
returns-in-Err-clause-reads c =
    tree_stop c.in-Err.error c.read_abi_tag.new.self c.loop-self.invariant.reads
    (ap not (sym c.begins.ensures.value ∙ c.loop-self-test.true)) (c.in-Err.ensures {u = tt}).reads

pub loop-self-preserved : goal.loop-self-preserved
loop-self-preserved c =
    let so_far = c.loop-self.invariant in
    let read = c.in-Ok.ensures {u = tt} in
    record {
      reads = steps_more so_far.reads (ap not (sym c.begins.ensures.value ∙ c.loop-self-test.true)) read.reads.1 read.moves.takes;
      node = read.reads.0;
      keeps = Keeps-trans c.args.self.now c.loop-self.self c.read_abi_tag.new.self so_far.keeps read.moves.keeps;
    }

pub returns-clause-reads : goal.returns-clause-reads
unfolding parse_abi_tags
returns-clause-reads c =
    let so_far = c.loop-self.invariant in
    (so_far.node, steps_end so_far.reads (ap not (sym c.begins.ensures.value ∙ c.loop-self-test.false)))
