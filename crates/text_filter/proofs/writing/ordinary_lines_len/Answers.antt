use Rattle.std.proofs.Common.{sym, ◌∙◌, arith}
use Rattle.text_filter.specs.Filtered.{no_line}
use Rattle.text_filter.proofs.LineEnds.{more_inside, more_ordinary}
use Rattle.text_filter.proofs.writing.ordinary_lines_len.Goals as goal

pub loop-len-init : goal.loop-len-init
loop-len-init g c = record { inside = omega arith; ordinary = no_line }

pub loop-len-preserved : goal.loop-len-preserved
loop-len-preserved g c =
    record {
      inside = more_inside c.args.lines.now c.loop-len.len c.in-Some.end c.in-Some.ensures.found;
      ordinary = more_ordinary (g.S.SymbolReader.prints c.args.printing) (g.met.S.SymbolReader.unprefixed c.args.printing (sym c.reads_all.ensures.value ∙ c.if-reads_all.false)) c.args.lines.now c.loop-len.len c.in-Some.end c.loop-len.invariant.ordinary c.in-Some.ensures.found c.if-lines-len-ne-UNDERSCORE.true;
    }

pub returns-then-reads_all-clause-ordinary : goal.returns-then-reads_all-clause-ordinary
returns-then-reads_all-clause-ordinary g c = no_line
