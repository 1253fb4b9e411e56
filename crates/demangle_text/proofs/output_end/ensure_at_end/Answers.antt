use Rattle.std.proofs.Common.{arith}
use Rattle.std.proofs.lemmas.Grind.{common_steps}
use Rattle.demangle_text.proofs.output_end.ensure_at_end.Goals as goal

pub returns-then-is_tail-clause-at_end : goal.returns-then-is_tail-clause-at_end
returns-then-is_tail-clause-at_end c = grind (arith, common_steps)

pub returns-clause-at_end : goal.returns-clause-at_end
returns-clause-at_end c = grind (arith, common_steps)
