use Rattle.std.proofs.Common.{arith}
use Rattle.std.proofs.lemmas.Grind.{common_steps}
use Rattle.itanium_syntax.proofs.Fronts.{offset_at}
use Rattle.itanium_syntax.proofs.scalar.call_offset.Goals as goal

pub returns-clause-value : goal.returns-clause-value
returns-clause-value c = offset_at c.args.input.now c.in_ok-offset.rest.now c.args.place c.in_ok-offset.offset c.in_ok-offset.ensures.value

pub returns-in_err-offset-clause-value : goal.returns-in_err-offset-clause-value
returns-in_err-offset-clause-value c = grind (arith, common_steps)
