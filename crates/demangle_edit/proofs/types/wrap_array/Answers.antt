-- A dimension goes in front of the other dimensions of an array without a group.
use Rattle.std.proofs.Common.{rules, ◌≡◌, ◌+◌, ◌-◌, false, min, Some, sym, ◌∙◌, arith, is_some}
use Rattle.std.proofs.lemmas.Grind.{common_steps, elements}
use Rattle.demangle_text.specs.declared.pieces.Kind.TheVariants.{Array}
use Rattle.demangle_text.specs.Calls.{after_of, kind_of, group_of}
use Rattle.demangle_text.specs.State.{shape}
use Rattle.demangle_edit.proofs.Arrays.{outer_shape, outer_found}
use Rattle.demangle_text.proofs.Laws.{StaysInPlace-of, StaysInPlace-named}
use Rattle.demangle_edit.proofs.types.wrap_array.Goals as goal

pub returns-in-Ok-insert_dimension-2-clause-shape : goal.returns-in-Ok-insert_dimension-2-clause-shape
returns-in-Ok-insert_dimension-2-clause-shape c =
    let elem = shape c.args.buf.now c.args.elem in
    let at = c.unwrap-at.result in
    let kind : kind_of elem.form ≡ Some Array = search rules in
    let group : is_some (group_of elem.form) ≡ false = search rules in
    let at_is : Some at ≡ after_of elem.form = sym c.unwrap-at.ensures ∙ c.after_at.ensures.value in
    let past_is : at + c.min.result ≡ at + min (c.len-len-in-Some-Array.result - at) 1 = omega (arith, c.min.ensures) in
    let is = outer_shape _ _ _ _ _ c.args.dimension _ _ _ _ kind group at_is c.len-len-in-Some-Array.ensures.value past_is
    c.plain-flat.ensures.shape.shape_is c.declare-cut.ensures.shape.shape_is c.in-Ok-insert_dimension-2.ensures.shape.shape_is c.plain-whole.ensures.shape.shape_is
    c.declare-in-Some-Array.ensures.shape.shape_is in
    (c.declare-in-Some-Array.ensures.shape.living, outer_found elem _ c.args.dimension kind is)

-- the piece stays where it stands
pub returns-in-Ok-insert_dimension-2-clause-in_place : goal.returns-in-Ok-insert_dimension-2-clause-in_place
returns-in-Ok-insert_dimension-2-clause-in_place c =
    let at_longer = StaysInPlace-of _ _ c.args.elem c.plain-flat.result _ c.plain-flat.ensures.stands
    (StaysInPlace-of _ _ c.plain-flat.result c.declare-cut.result _ c.declare-cut.ensures.stands
    c.in-Ok-insert_dimension-2.ensures.in_place) in
    let at_whole = StaysInPlace-named _ _ _ _ c.plain-whole.result at_longer c.plain-whole.ensures.stands in
    StaysInPlace-named _ _ _ _ c.declare-in-Some-Array.result at_whole c.declare-in-Some-Array.ensures.stands

pub declare-requires : goal.declare-requires
declare-requires c = grind (arith, elements)

pub insert_dimension-requires-in-Some : goal.insert_dimension-requires-in-Some
insert_dimension-requires-in-Some c = grind arith

pub overflow_sub-len : goal.overflow_sub-len
overflow_sub-len c = grind (arith, elements)

pub declare-cut-requires : goal.declare-cut-requires
declare-cut-requires c = grind (arith, elements)

pub insert_dimension-requires-in-Some-Array : goal.insert_dimension-requires-in-Some-Array
insert_dimension-requires-in-Some-Array c = grind arith

pub plain-whole-requires : goal.plain-whole-requires
plain-whole-requires c = grind arith

pub declare-requires-in-Some-Array : goal.declare-requires-in-Some-Array
declare-requires-in-Some-Array c = grind (arith, common_steps)

pub returns-in-Ok : goal.returns-in-Ok
returns-in-Ok c = grind arith

pub returns-in-Ok-insert_dimension : goal.returns-in-Ok-insert_dimension
returns-in-Ok-insert_dimension c = grind arith

pub returns-in-Ok-insert_dimension-2-clause-edit : goal.returns-in-Ok-insert_dimension-2-clause-edit
returns-in-Ok-insert_dimension-2-clause-edit c = grind arith
