use Rattle.std.proofs.Common.{arith, sym}
use Rattle.abi_scalars.proofs.Digits.{number_first, number_more, number_large, number_end, number_none, no_bytes, no_digit}
use Rattle.abi_scalars.proofs.numerals.digits_value.Goals as goal

pub returns-in_default : goal.returns-in_default
returns-in_default c = record { value = number_none _ _ (no_bytes _ _ 0 (omega arith)) }

pub returns-in_err-value : goal.returns-in_err-value
returns-in_err-value c = record { value = rw c.from_residual.ensures (number_none _ _ (no_digit _ _ 0 (omega arith) (sym c.in_err-value.ensures.value))) }

pub loop-byte-init : goal.loop-byte-init
loop-byte-init c = number_first (omega arith) (sym c.in_ok-value.ensures.value) (omega arith)

pub returns-in_err-checked_mul : goal.returns-in_err-checked_mul
returns-in_err-checked_mul c =
    let large = rw c.base-base.ensures.value at c.in_err-checked_mul.ensures in
    record { value = rw c.from_residual-in_err-checked_mul.ensures (number_large c.loop-byte.invariant c.loop-byte-test.true (sym c.in-Some.ensures.value) (λ fits. large (omega (arith, fits)))) }

pub returns-in_err-value-2 : goal.returns-in_err-value-2
returns-in_err-value-2 c =
    let product = rw c.base-base.ensures.value at c.in_ok-checked_mul.ensures in
    let large = rw product.1 at c.in_err-value-2.ensures in
    record { value = rw c.from_residual-in_err-value-2.ensures (number_large c.loop-byte.invariant c.loop-byte-test.true (sym c.in-Some.ensures.value) large) }

pub loop-byte-preserved : goal.loop-byte-preserved
loop-byte-preserved c =
    let product = rw c.base-base.ensures.value at c.in_ok-checked_mul.ensures in
    let sum = rw product.1 at c.in_ok-value-2.ensures in
    number_more c.loop-byte.invariant c.loop-byte-test.true (sym c.in-Some.ensures.value) sum.1 (omega arith)

pub returns-after-loop-byte : goal.returns-after-loop-byte
returns-after-loop-byte c = record { value = number_end c.loop-byte.invariant (no_bytes _ _ _ c.loop-byte-test.false) }

pub returns-in_default-digit : goal.returns-in_default-digit
returns-in_default-digit c = record { value = number_end c.loop-byte.invariant (no_digit _ _ _ c.loop-byte-test.true (sym c.in_default-digit.ensures.value)) }
