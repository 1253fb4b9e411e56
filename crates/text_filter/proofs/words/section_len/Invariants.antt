use Rattle.std.proofs.Common.{◌≡◌, ◌+◌, drop}
use Rattle.std.specs.Prelude.{option_map}
use Rattle.text_filter.specs.Replaced.{section_len}
use Rattle.text_filter.proofs.words.section_len.Given as goal

abbrev pub invariant-loop-at : goal.invariant-loop-at
invariant-loop-at l = section_len l.strip l.word ≡ option_map (λ n. l.at + n) (section_len l.strip (drop l.at l.word))
