use Rattle.std.proofs.Common.{◌∙◌, ap, sym, refl}
use Rattle.std.specs.Prelude.{not}
use Rattle.cxx_grammar.specs.Modules.{parse_subnames}
use Rattle.cxx_reader.proofs.Kept.{Keeps-trans}
use Rattle.cxx_reader.proofs.Turns.{steps_more, steps_end, subname_stop}
use Rattle.cxx_reader.proofs.reader.Reader.read_subnames.Goals as goal

pub returns-in-Err-clause-reads : goal.returns-in-Err-clause-reads
unfolding parse_subnames
returns-in-Err-clause-reads c =
    subname_stop c.in-Err.error c.read_subname.new.self c.loop-self.invariant.reads
    (ap not (sym c.begins.ensures.value ∙ c.loop-self-test.true)) (c.in-Err.ensures {u = tt}).reads

pub loop-self-preserved : goal.loop-self-preserved
loop-self-preserved c =
    let so_far = c.loop-self.invariant in
    let read = c.in-Ok.ensures {u = tt} in
    record {
      reads = steps_more so_far.reads (ap not (sym c.begins.ensures.value ∙ c.loop-self-test.true)) (rw read.reads.1 refl) read.moves.takes;
      owner = read.reads.0;
      keeps = Keeps-trans c.args.self.now c.loop-self.self c.read_subname.new.self so_far.keeps read.moves.keeps;
    }

pub returns-clause-reads : goal.returns-clause-reads
unfolding parse_subnames
returns-clause-reads c =
    let so_far = c.loop-self.invariant in
    (so_far.owner, steps_end so_far.reads (ap not (sym c.begins.ensures.value ∙ c.loop-self-test.false)))
