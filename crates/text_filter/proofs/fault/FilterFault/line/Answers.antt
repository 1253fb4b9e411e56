use Rattle.std.proofs.Common.{sym, ap}
use Rattle.text_filter.specs.Fault.{line_of}
use Rattle.text_filter.proofs.fault.FilterFault.line.Goals as goal

pub returns-in-Read : goal.returns-in-Read
returns-in-Read c = record { words = ap line_of (sym c.in-Read.is) }

pub returns-in-Write : goal.returns-in-Write
returns-in-Write c = record { words = ap line_of (sym c.in-Write.is) }

pub returns-in-Memory : goal.returns-in-Memory
returns-in-Memory c = record { words = ap line_of (sym c.in-Memory.is) }
