use Rattle.text_filter.proofs.LineEnds.{line_utf8, line_appended}
use Rattle.text_filter.proofs.writing.append_line.Goals as goal

pub line_answer-requires : goal.line_answer-requires
line_answer-requires g c = λ known. line_utf8 c.args.lines.now c.in-Some.end c.in-Some.ensures.found (c.requires.known known)

pub returns-clause-ok : goal.returns-clause-ok
returns-clause-ok g c =
    line_appended (g.S.SymbolReader.prints c.args.printing) c.args.lines.now c.in_ok-answer.answer.now _ _ c.in-Some.end c.in-Some.ensures.found c.in_ok-answer.ensures c.in_ok-add_pair.ensures.ok
