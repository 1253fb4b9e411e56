-- What the check may use for an answer: the theorems over the grammar.
use Rattle.demangle_text.proofs.Laws.{laws, runs}
use Rattle.itanium_grammar.proofs.Agreement.{one_reading}
use Rattle.itanium_demangle.proofs.Symbols.{reads_as, stands_at_start, no_prefix, not_read}

pub ruleset buffers = (laws, runs)

pub ruleset readings = (buffers, reads_as)

pub ruleset answers = (one_reading, no_prefix, not_read, stands_at_start, laws)
