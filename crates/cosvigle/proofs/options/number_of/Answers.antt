use Rattle.std.proofs.Common.{◌≡◌, ℕ, ◌+◌, ◌*◌, ◌-◌, min, drop, get_or, sym, ap, ◌∙◌, arith}
use Rattle.cosvigle.specs.Options.{number_from}
use Rattle.std.proofs.lemmas.Grind.{common_steps}
use Rattle.cosvigle.proofs.Steps.{number_digit, number_none, number_end}
use Rattle.cosvigle.proofs.options.number_of.Goals as goal

pub returns-then-not-is_ascii_digit : goal.returns-then-not-is_ascii_digit
returns-then-not-is_ascii_digit c =
    record { value = sym (c.loop-at.invariant ∙ number_none c.loop-at.number c.args.digits.now c.loop-at.at (omega arith) (grind (arith, common_steps))) }

pub loop-at-preserved : goal.loop-at-preserved
loop-at-preserved c =
    let digits = c.args.digits.now in
    let byte : ℕ = get_or digits c.loop-at.at 0 in
    let next : min (10 * c.loop-at.number + (byte - 48)) 18446744073709551615 ≡ c.min-number.result = omega (arith, c.min-number.ensures) in
    c.loop-at.invariant ∙ number_digit c.loop-at.number digits c.loop-at.at (omega arith) (grind (arith, common_steps))
    ∙ ap (λ n. number_from n (drop (c.loop-at.at + 1) digits)) next

pub returns : goal.returns
returns c = record { value = sym (c.loop-at.invariant ∙ number_end c.loop-at.number c.args.digits.now c.loop-at.at (omega arith)) }
