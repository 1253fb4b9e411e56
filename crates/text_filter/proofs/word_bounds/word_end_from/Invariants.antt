use Rattle.text_filter.specs.Progress.{AreWordBytes}
use Rattle.text_filter.proofs.word_bounds.word_end_from.Given as goal

abbrev pub invariant-loop-end : goal.invariant-loop-end
invariant-loop-end l = AreWordBytes l.text l.place l.end
