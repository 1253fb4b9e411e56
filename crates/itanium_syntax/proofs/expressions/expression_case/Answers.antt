use Rattle.std.proofs.Common.{◌≡◌, ◌≤◌, ℕ, List, [], ◌∷◌, length, Bool, true, false, Option, Some, None, rules, arith, refl, slice_index_or, tests}
use Rattle.std.specs.Prelude.{◌==◌, if◌then◌else◌}
use Rattle.std.proofs.lemmas.Grind.{common_steps}
use Rattle.std.proofs.lemmas.Bool.Decides.{nat_tests}
use Rattle.itanium_syntax.specs.Cases.{ExpressionCase, UnreadableExpression, PreExpression}
use Rattle.itanium_syntax.specs.Operators.{operator_arity}
use Rattle.itanium_syntax.specs.Expressions.{is_pre, expression_refused, expression_case, operator_case, operand_case}
use Rattle.itanium_syntax.proofs.expressions.expression_case.Goals.{in_default-2-via-in-112+in_default, in_default-2-via-in-109+in_default}
use Rattle.itanium_syntax.proofs.expressions.expression_case.Goals.{in_default-2-via-in-97-eq100+else-is_external, in_default-2-via-in-97+in_default}
use Rattle.itanium_syntax.proofs.expressions.expression_case.Goals.{in_default-2-via-in-103+in_default, in_default-2-via-in_default}
use Rattle.itanium_syntax.proofs.expressions.expression_case.Goals as goal

-- no operator has the code, and no operand begins there
by_arity : (bytes : List ℕ) (arity : Option ℕ) → arity ≡ None → UnreadableExpression ≡ operand_case bytes → UnreadableExpression ≡ operator_case bytes arity
by_arity bytes None none is = is
by_arity bytes (Some n) none is = cc

-- nor is one that is refused read
either : (refused : Bool) (case : ExpressionCase) → UnreadableExpression ≡ case → UnreadableExpression ≡ (if refused then UnreadableExpression else case)
either true case is = refl
either false case is = is

-- where neither ++ nor -- is next
unless : (pre : Bool) (case : ExpressionCase) → pre ≡ false → UnreadableExpression ≡ case → UnreadableExpression ≡ (if pre then PreExpression else case)
unless true case h is = cc
unless false case h is = is

-- where no code of an operator is next, and neither T nor L, no expression begins
no_code : (bytes : List ℕ) → 2 ≤ length bytes → (slice_index_or bytes 0 0 == 112) ≡ false → (slice_index_or bytes 0 0 == 109) ≡ false
    → (slice_index_or bytes 0 0 == 84) ≡ false → (slice_index_or bytes 0 0 == 76) ≡ false
    → operator_arity (slice_index_or bytes 0 0) (slice_index_or bytes 1 0) ≡ None → UnreadableExpression ≡ expression_case bytes
no_code [] long p m t l none = absurd (omega arith)
no_code (first ∷ []) long p m t l none = absurd (omega arith)
no_code (first ∷ second ∷ rest) long p m t l none =
    let operand : UnreadableExpression ≡ operand_case (first ∷ second ∷ rest) = rw (t, l) refl in
    let code = either (expression_refused first second) (operator_case (first ∷ second ∷ rest) (operator_arity first second)) (by_arity (first ∷ second ∷ rest) (operator_arity first second) none operand) in
    let pre : is_pre (first ∷ second ∷ rest) ≡ false = rw (p, m) refl in
    unless (is_pre (first ∷ second ∷ rest)) _ pre code

pub returns-in-None : goal.returns-in-None
returns-in-None c = elim c.in_default-2.branch [
  | in_default-2-via-in-112+in_default w ↦ grind (arith, common_steps)
  | in_default-2-via-in-109+in_default w ↦ grind (arith, common_steps)
  | in_default-2-via-in-97-eq100+else-is_external w ↦ grind (arith, common_steps)
  | in_default-2-via-in-97+in_default w ↦ grind (arith, common_steps)
  | in_default-2-via-in-103+in_default w ↦ grind (arith, common_steps)
  | in_default-2-via-in_default w ↦ record { case = no_code c.args.bytes.now c.in-len2-up.len_at_least (grind (arith, nat_tests)) (grind (arith, nat_tests)) (grind (arith, nat_tests)) (grind (arith, nat_tests)) (search rules) }
]

pub returns-in-97-eq100 : goal.returns-in-97-eq100
returns-in-97-eq100 c = grind (arith, common_steps)

pub returns-in-84-default : goal.returns-in-84-default
returns-in-84-default c = grind arith

pub returns-in-95 : goal.returns-in-95
returns-in-95 c = grind arith

pub returns-in_default-rest-2 : goal.returns-in_default-rest-2
returns-in_default-rest-2 c = grind arith

-- the search takes long without the tests of the number of operands
pub returns-in-Some : goal.returns-in-Some
returns-in-Some c =
    let one : (c.in-Some.field-0 == 1) ≡ false = search (tests, rules) in
    let three : (c.in-Some.field-0 == 3) ≡ false = search (tests, rules) in
    search (tests, rules)
