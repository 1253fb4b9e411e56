use Rattle.std.proofs.Common.{rules, ◌≡◌, Some, None, ◌∙◌}
use Rattle.demangle_text.specs.declared.pieces.Kind.TheVariants.{Function}
use Rattle.demangle_text.specs.Calls.{kind_of}
use Rattle.demangle_text.specs.State.{shape}
use Rattle.demangle_edit.proofs.Declarators.{plain_form}
use Rattle.demangle_edit.proofs.Members.{member_found, plain_member, function_member, member_pointer_after}
use Rattle.demangle_text.proofs.Laws.{StaysInPlace-edit, JoinsInPlace-trans}
use Rattle.demangle_edit.proofs.types.wrap_member_pointer.Goals as goal

-- a class after a plain text
pub returns-in-Ok-append-clause-shape : goal.returns-in-Ok-append-clause-shape
returns-in-Ok-append-clause-shape c =
    let old = c.args.buf.now in
    let plain : kind_of (shape old c.args.member).form ≡ None = search rules in
    let is = member_pointer_after (shape old c.args.class) (shape old c.args.member) _ _ (plain_form _ plain)
    (search rules) c.in-Ok.ensures.shape.shape_is in
    let made = c.in-Ok-append.ensures.shape in
    (made.living, member_found (shape old c.args.class) (shape old c.args.member) _ (plain_member _ plain) (made.shape_is ∙ is))

-- the class stays after the member
pub returns-in-Ok-append-clause-in_place : goal.returns-in-Ok-append-clause-in_place
returns-in-Ok-append-clause-in_place c = λ e.
    JoinsInPlace-trans _ _ _ _ _ _ _ c.in-Ok.ensures.edit c.in-Ok.ensures.in_place (StaysInPlace-edit _ _ _ _ _ c.in-Ok-append.ensures.edit_of)

-- a member that is a function
pub returns-in-Ok-wrap_member_function-clause-shape : goal.returns-in-Ok-wrap_member_function-clause-shape
returns-in-Ok-wrap_member_function-clause-shape c =
    let old = c.args.buf.now in
    let function : kind_of (shape old c.args.member).form ≡ Some Function = search rules in
    let made = c.in-Ok-wrap_member_function.ensures.shape in
    (made.living, member_found (shape old c.args.class) (shape old c.args.member) _ (function_member _ function) made.shape_is)
