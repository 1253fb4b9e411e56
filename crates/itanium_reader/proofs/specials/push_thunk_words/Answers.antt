use Rattle.std.proofs.Common.{arith}
use Rattle.itanium_reader.proofs.specials.push_thunk_words.Goals as goal
use Rattle.itanium_reader.proofs.specials.push_thunk_words.Goals.{in-Single, in-Covariant+in-Ok-append_offset}

pub returns-clause-last : goal.returns-clause-last
returns-clause-last c = elim c.match-offsets.branch [
  | in-Single w ↦ grind arith
  | in-Covariant+in-Ok-append_offset w ↦ grind arith
]
