use Rattle.abi_scalars.specs.Scalars.{number}
use Rattle.itanium_syntax.specs.Numbers.{optional_number}
use Rattle.std.proofs.Common.{arith}
use Rattle.std.proofs.lemmas.Grind.{common_steps, elements}
use Rattle.itanium_syntax.proofs.numerals.optional_number.Goals as goal

pub returns-in-95-2-clause-value : goal.returns-in-95-2-clause-value
unfolding optional_number number
returns-in-95-2-clause-value c = grind (arith, common_steps)

pub returns-in-95 : goal.returns-in-95
unfolding optional_number number
returns-in-95 c = grind (arith, elements)

pub returns-in_err-value : goal.returns-in_err-value
unfolding optional_number number
returns-in_err-value c = grind arith

pub returns-in_default-2 : goal.returns-in_default-2
unfolding optional_number number
returns-in_default-2 c = grind (arith, common_steps)
