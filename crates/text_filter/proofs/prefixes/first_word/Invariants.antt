use Rattle.std.proofs.Common.{◌≡◌, ℕ, ◌<◌, true, get_or}
use Rattle.text_filter.specs.Replaced.{is_word_byte}
use Rattle.text_filter.proofs.prefixes.first_word.Given as goal

abbrev pub invariant-loop-at : goal.invariant-loop-at
invariant-loop-at l = (k : ℕ) → k < l.at → is_word_byte (get_or l.bytes k 0) ≡ true → ⊥
