use Rattle.std.proofs.Common.{rules}
use Rattle.cxx_reader.specs.Outcome.{reading_at}
use Rattle.cxx_demangle.specs.Answer.{parse_entry}
use Rattle.cxx_demangle.proofs.Whole.{no_reading, answered}
use Rattle.cxx_demangle.proofs.demangler.Demangler.prepare_as.Goals as goal

pub returns-in_default-clause-answer : goal.returns-in_default-clause-answer
returns-in_default-clause-answer c = no_reading c.args.printing (parse_entry c.args.entry c.args.text.now) (search rules)

pub returns-clause-answer : goal.returns-clause-answer
returns-clause-answer c =
    answered c.args.printing (parse_entry c.args.entry c.args.text.now) (reading_at c.read.new.arena c.in-Some.reading) c.print.new.text (search rules) (search rules)
    c.is_answer-is_answered.result (search rules) (search rules)
