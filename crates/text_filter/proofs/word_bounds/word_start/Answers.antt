use Rattle.std.proofs.Common.{subst, arith}
use Rattle.text_filter.specs.Progress.{IsBoundary}
use Rattle.text_filter.proofs.word_bounds.word_start.Goals as goal

pub returns-after-loop-start-clause-boundary : goal.returns-after-loop-start-clause-boundary
returns-after-loop-start-clause-boundary c = subst (IsBoundary c.args.text.now) (omega arith) c.requires.boundary
