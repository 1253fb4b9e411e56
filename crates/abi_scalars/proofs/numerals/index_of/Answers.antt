use Rattle.abi_scalars.specs.Scalars.{front_digits, index_of, weighted}
use Rattle.std.proofs.Common.{arith}
use Rattle.std.proofs.lemmas.Grind.{common_steps, elements}
use Rattle.abi_scalars.proofs.numerals.index_of.Goals as goal

pub returns-in_ok-digit-in-95-2-clause-value : goal.returns-in_ok-digit-in-95-2-clause-value
unfolding index_of front_digits weighted
returns-in_ok-digit-in-95-2-clause-value c = grind (arith, common_steps)

pub returns-in-95-3-clause-value : goal.returns-in-95-3-clause-value
unfolding index_of front_digits weighted
returns-in-95-3-clause-value c = grind (arith, common_steps)

pub returns-in_default-2-clause-value : goal.returns-in_default-2-clause-value
unfolding index_of front_digits weighted
returns-in_default-2-clause-value c = grind (arith, common_steps)

pub returns-in_err-digit-in-95-2 : goal.returns-in_err-digit-in-95-2
unfolding index_of front_digits weighted
returns-in_err-digit-in-95-2 c = grind arith

pub overflow_add-result : goal.overflow_add-result
unfolding index_of front_digits weighted
overflow_add-result c = grind arith

pub returns-in_err-value-in_default : goal.returns-in_err-value-in_default
unfolding index_of front_digits weighted
returns-in_err-value-in_default c = grind arith

pub slice_bounds-t-51-count : goal.slice_bounds-t-51-count
unfolding index_of front_digits weighted
slice_bounds-t-51-count c = grind arith

pub returns-in-95 : goal.returns-in-95
unfolding index_of front_digits weighted
returns-in-95 c = grind (arith, elements)

pub returns-in-95-3-clause-shorter : goal.returns-in-95-3-clause-shorter
unfolding index_of front_digits weighted
returns-in-95-3-clause-shorter c = grind arith
