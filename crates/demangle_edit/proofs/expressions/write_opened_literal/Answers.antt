use Rattle.std.proofs.Common.{rules, ◌≡◌, subst, arith}
use Rattle.demangle_text.specs.Shape.{text}
use Rattle.demangle_text.specs.State.{shape}
use Rattle.demangle_text.proofs.Laws.{IsEdit-trans, StaysInPlace-edit, JoinsInPlace-join, JoinsInPlace-named, JoinsInPlace-trans}
use Rattle.demangle_edit.specs.declared.expressions.LiteralForm.{LiteralForm}
use Rattle.demangle_edit.specs.declared.expressions.LiteralForm.TheVariants.{Cast}
use Rattle.demangle_edit.specs.Calls.{IsPutAfter}
use Rattle.demangle_edit.specs.Expressions as spec
use Rattle.demangle_edit.proofs.expressions.write_opened_literal.Goals as goal

-- the parenthesis and the type after it stay where they stand
pub returns-in-Ok-append_value-clause-put : goal.returns-in-Ok-append_value-clause-put
returns-in-Ok-append_value-clause-put c =
    let old = c.args.buf.now in
    let joined = JoinsInPlace-join _ _ _ _ _ _ c.in-Ok.ensures.join_of in
    let closed = JoinsInPlace-trans _ _ _ _ _ _ _ c.in-Ok.ensures.edit joined (StaysInPlace-edit _ _ _ _ _ c.in-Ok-append.ensures.edit_of) in
    let cast = JoinsInPlace-named _ _ _ _ _ c.whole-cast.result closed c.whole-cast.ensures.stands in
    let edit = IsEdit-trans _ _ _ c.in-Ok.ensures.edit c.in-Ok-append.ensures.edit in
    let form : Cast ≡ spec.literal_form (text (shape old c.args.ty)) (spec.is_minus c.args.value.now) = search rules in
    subst (λ (f : LiteralForm). IsPutAfter f old c.append_value.new.buf c.args.paren c.args.ty c.in-Ok-append_value.value) form
    (JoinsInPlace-trans _ _ _ _ _ _ _ edit cast c.in-Ok-append_value.ensures.in_place)

pub append-requires : goal.append-requires
append-requires c = grind arith

pub whole-cast-requires : goal.whole-cast-requires
whole-cast-requires c = grind arith

pub returns-in-Ok-append_value-clause-shape : goal.returns-in-Ok-append_value-clause-shape
returns-in-Ok-append_value-clause-shape c = grind arith

pub returns-in-Ok-append_value-clause-edit : goal.returns-in-Ok-append_value-clause-edit
returns-in-Ok-append_value-clause-edit c = grind arith

pub returns-in_default : goal.returns-in_default
returns-in_default c = grind arith
