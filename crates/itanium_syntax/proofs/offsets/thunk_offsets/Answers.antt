use Rattle.itanium_syntax.specs.Offsets.{thunk_offsets}
use Rattle.std.proofs.Common.{arith}
use Rattle.std.proofs.lemmas.Grind.{common_steps}
use Rattle.itanium_syntax.proofs.offsets.thunk_offsets.Goals as goal

pub returns-in_err-first-in-99-clause-value : goal.returns-in_err-first-in-99-clause-value
unfolding thunk_offsets
returns-in_err-first-in-99-clause-value c = grind (arith, common_steps)

pub returns-in_err-second-in-99-clause-value : goal.returns-in_err-second-in-99-clause-value
unfolding thunk_offsets
returns-in_err-second-in-99-clause-value c = grind (arith, common_steps)

pub returns-in_ok-second-in-99-clause-value : goal.returns-in_ok-second-in-99-clause-value
unfolding thunk_offsets
returns-in_ok-second-in-99-clause-value c = grind (arith, common_steps)
