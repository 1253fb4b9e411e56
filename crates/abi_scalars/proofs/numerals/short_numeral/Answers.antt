use Rattle.abi_scalars.specs.Scalars.{front_digits, weighted}
use Rattle.std.proofs.Common.{arith}
use Rattle.std.proofs.lemmas.Grind.{common_steps}
use Rattle.abi_scalars.proofs.numerals.short_numeral.Goals as goal

pub returns-in_default-digit-clause-value : goal.returns-in_default-digit-clause-value
unfolding front_digits weighted
returns-in_default-digit-clause-value c = grind (arith, common_steps)

pub returns-then-not-matches-clause-value : goal.returns-then-not-matches-clause-value
unfolding front_digits weighted
returns-then-not-matches-clause-value c = grind (arith, common_steps)
