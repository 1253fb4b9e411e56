use Rattle.std.proofs.Common.{arith}
use Rattle.std.proofs.lemmas.Grind.{common_steps}
use Rattle.std.proofs.Common.{◌≡◌, false, map, codes, sym, ap, ◌∙◌, is_some}
use Rattle.demangle_text.specs.Shape.{Shape}
use Rattle.demangle_text.specs.Calls.{joined, kind_of}
use Rattle.demangle_text.specs.State.{shape}
use Rattle.demangle_text.proofs.Laws.{IsEdit-keeps, IsEdit-trans, StaysInPlace-joined, StaysInPlace-edit, StaysInPlace-trans, StaysInPlace-named}
use Rattle.demangle_edit.proofs.Cuts.{function_shape_is, function_found}
use Rattle.demangle_edit.proofs.types.function_type.Goals as goal

pub returns-clause-shape : goal.returns-clause-shape
returns-clause-shape c =
    let old = c.args.buf.now in
    let mid = c.list_pieces.new.buf in
    let ret = shape old c.args.ret in
    let kept = c.in-Ok.ensures.kept.pieces c.args.ret c.requires.ret in
    let begun = c.in-Ok-join.ensures.shape.shape_is ∙ ap (λ (s : Shape). joined s (codes " (") (shape mid c.in-Ok.value)) kept.shape_is in
    let is = function_shape_is ret _ _ _ _ _ _ (map (shape old) c.args.params.now) c.args.quals _ _ _
    c.in-Ok.ensures.shape.shape_is begun c.in-Ok-append.ensures.shape.shape_is c.in-Ok-append-2.ensures.shape.shape_is
    c.in-Ok-append-3.ensures.shape.shape_is c.declare.ensures.shape.shape_is c.words.ensures.value c.reference_bytes.ensures.value c.len-before.ensures.value in
    let flat : is_some (kind_of ret.form) ≡ false = sym (ap is_some c.kind.ensures.value) ∙ sym c.is_some.ensures ∙ c.if-is_some.false in
    (c.declare.ensures.shape.living, function_found ret _ (map (shape old) c.args.params.now) c.args.quals flat is)

-- the parameters go right after what is returned, where that stands at the end
pub returns-clause-in_place : goal.returns-clause-in_place
returns-clause-in_place c =
    let old = c.args.buf.now in
    let kept = c.in-Ok.ensures.kept in
    let joined = IsEdit-trans _ _ _ (IsEdit-keeps _ _ kept) c.in-Ok-join.ensures.edit in
    let closed = IsEdit-trans _ _ _ joined c.in-Ok-append.ensures.edit in
    let worded = IsEdit-trans _ _ _ closed c.in-Ok-append-2.ensures.edit in
    let at_join = StaysInPlace-joined old _ _ _ _ _ _ c.requires.ret kept.frame_same c.in-Ok.ensures.appends c.in-Ok-join.ensures.join_of in
    let at_closed = StaysInPlace-trans _ _ _ _ _ _ joined at_join (StaysInPlace-edit _ _ _ _ _ c.in-Ok-append.ensures.edit_of) in
    let at_worded = StaysInPlace-trans _ _ _ _ _ _ closed at_closed (StaysInPlace-edit _ _ _ _ _ c.in-Ok-append-2.ensures.edit_of) in
    let at_whole = StaysInPlace-trans _ _ _ _ _ _ worded at_worded (StaysInPlace-edit _ _ _ _ _ c.in-Ok-append-3.ensures.edit_of) in
    StaysInPlace-named _ _ _ _ _ at_whole c.declare.ensures.stands

pub declare-requires-clause-within : goal.declare-requires-clause-within
declare-requires-clause-within c = grind (arith, common_steps)

pub returns-clause-edit : goal.returns-clause-edit
returns-clause-edit c = grind arith

pub returns-then-is_some : goal.returns-then-is_some
returns-then-is_some c = grind arith

pub append-requires-2 : goal.append-requires-2
append-requires-2 c = grind arith

pub append-requires-3 : goal.append-requires-3
append-requires-3 c = grind arith

pub len-len-requires : goal.len-len-requires
len-len-requires c = grind arith

pub declare-requires-clause-living : goal.declare-requires-clause-living
declare-requires-clause-living c = grind arith

pub declare-requires-clause-plain : goal.declare-requires-clause-plain
declare-requires-clause-plain c = grind arith
