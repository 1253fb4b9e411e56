use Rattle.std.proofs.Common.{◌++◌, ◌-◌, ℕ, List, codes, ap, ◌∙◌, refl}
use Rattle.demangle_text.specs.Shape.{text, text_len, plain_shape, gap_after}
use Rattle.demangle_text.specs.Calls.{front_text}
use Rattle.demangle_text.specs.State.{shape}
use Rattle.demangle_edit.proofs.Members.{member_joined, member_pointer_shape_is, opens_at, opens_before, closes_at, group_fits, after_fits, opening_fits, class_fits}
use Rattle.demangle_text.proofs.Laws.{IsEdit-keeps, KeepsAll-closed, Opens-edit, AppendsPiece-closed, AppendsPiece-named}
use Rattle.demangle_edit.proofs.types.wrap_member_function.Goals as goal

-- the group and what follows it fit
pub overflow_sub-at : goal.overflow_sub-at
overflow_sub-at c =
    let is = c.in-Ok-close.ensures.shape.shape_is
    ∙ member_joined _ _ _ _ _ _ _ _ _ _ _ c.open-mark.ensures.opens c.in-Ok.ensures.edit c.cut_declarator.ensures.front.living c.requires.class c.cut_declarator.ensures.after.living
    (c.group_opening-opening.ensures.value ∙ ap (λ (v : List ℕ). gap_after v ++ codes "(") c.bytes.ensures.value) c.in-Ok.ensures.shape.shape_is c.in-Ok-join.ensures.shape.shape_is in
    let fits = group_fits _ _ _ _ _ c.len.result c.len-after_len.result c.len-class_len.result (ap text is) c.len.ensures.value c.len-after_len.ensures.value c.len-class_len.ensures.value in
    after_fits _ _ _ fits

pub overflow_sub-from : goal.overflow_sub-from
overflow_sub-from c =
    let is = c.in-Ok-close.ensures.shape.shape_is
    ∙ member_joined _ _ _ _ _ _ _ _ _ _ _ c.open-mark.ensures.opens c.in-Ok.ensures.edit c.cut_declarator.ensures.front.living c.requires.class c.cut_declarator.ensures.after.living
    (c.group_opening-opening.ensures.value ∙ ap (λ (v : List ℕ). gap_after v ++ codes "(") c.bytes.ensures.value) c.in-Ok.ensures.shape.shape_is c.in-Ok-join.ensures.shape.shape_is in
    let fits = group_fits _ _ _ _ _ c.len.result c.len-after_len.result c.len-class_len.result (ap text is) c.len.ensures.value c.len-after_len.ensures.value c.len-class_len.ensures.value in
    opening_fits _ _ _ fits

pub overflow_sub-from-2 : goal.overflow_sub-from-2
overflow_sub-from-2 c =
    let is = c.in-Ok-close.ensures.shape.shape_is
    ∙ member_joined _ _ _ _ _ _ _ _ _ _ _ c.open-mark.ensures.opens c.in-Ok.ensures.edit c.cut_declarator.ensures.front.living c.requires.class c.cut_declarator.ensures.after.living
    (c.group_opening-opening.ensures.value ∙ ap (λ (v : List ℕ). gap_after v ++ codes "(") c.bytes.ensures.value) c.in-Ok.ensures.shape.shape_is c.in-Ok-join.ensures.shape.shape_is in
    let fits = group_fits _ _ _ _ _ c.len.result c.len-after_len.result c.len-class_len.result (ap text is) c.len.ensures.value c.len-after_len.ensures.value c.len-class_len.ensures.value in
    class_fits _ _ _ fits

-- the class stands in a group
pub declare_group-declared-requires-clause-opens : goal.declare_group-declared-requires-clause-opens
declare_group-declared-requires-clause-opens c =
    let is = c.in-Ok-close.ensures.shape.shape_is
    ∙ member_joined _ _ _ _ _ _ _ _ _ _ _ c.open-mark.ensures.opens c.in-Ok.ensures.edit c.cut_declarator.ensures.front.living c.requires.class c.cut_declarator.ensures.after.living
    (c.group_opening-opening.ensures.value ∙ ap (λ (v : List ℕ). gap_after v ++ codes "(") c.bytes.ensures.value) c.in-Ok.ensures.shape.shape_is c.in-Ok-join.ensures.shape.shape_is in
    opens_at _ _ _ _ _ c.len.result c.len-after_len.result c.len-class_len.result (ap text is) c.len.ensures.value c.len-after_len.ensures.value c.len-class_len.ensures.value

pub declare_group-declared-requires-clause-closes : goal.declare_group-declared-requires-clause-closes
declare_group-declared-requires-clause-closes c =
    let is = c.in-Ok-close.ensures.shape.shape_is
    ∙ member_joined _ _ _ _ _ _ _ _ _ _ _ c.open-mark.ensures.opens c.in-Ok.ensures.edit c.cut_declarator.ensures.front.living c.requires.class c.cut_declarator.ensures.after.living
    (c.group_opening-opening.ensures.value ∙ ap (λ (v : List ℕ). gap_after v ++ codes "(") c.bytes.ensures.value) c.in-Ok.ensures.shape.shape_is c.in-Ok-join.ensures.shape.shape_is in
    let buf = c.args.buf.now in
    let front = text (shape buf c.cut_declarator.result.0) in
    closes_at (front ++ (gap_after front ++ codes "(")) (text (shape buf c.args.class)) (text (shape buf c.cut_declarator.result.1)) _ c.len.result c.len-after_len.result (ap text is) c.len.ensures.value c.len-after_len.ensures.value

pub declare_group-declared-requires-clause-ordered : goal.declare_group-declared-requires-clause-ordered
declare_group-declared-requires-clause-ordered c =
    let is = c.in-Ok-close.ensures.shape.shape_is
    ∙ member_joined _ _ _ _ _ _ _ _ _ _ _ c.open-mark.ensures.opens c.in-Ok.ensures.edit c.cut_declarator.ensures.front.living c.requires.class c.cut_declarator.ensures.after.living
    (c.group_opening-opening.ensures.value ∙ ap (λ (v : List ℕ). gap_after v ++ codes "(") c.bytes.ensures.value) c.in-Ok.ensures.shape.shape_is c.in-Ok-join.ensures.shape.shape_is in
    opens_before _ _ _ _ _ c.len.result c.len-after_len.result c.len-class_len.result (ap text is) c.len.ensures.value c.len-after_len.ensures.value c.len-class_len.ensures.value

pub returns-clause-shape : goal.returns-clause-shape
returns-clause-shape c =
    let old = c.args.buf.now in
    let class = shape old c.args.class in
    let front_is = ap text c.cut_declarator.ensures.front.shape_is in
    let after_is = ap text c.cut_declarator.ensures.after.shape_is in
    let first = front_text (shape old c.args.member).form in
    let last = text (shape old c.cut_declarator.result.1) in
    let is = c.in-Ok-close.ensures.shape.shape_is
    ∙ member_joined _ _ _ _ _ _ _ _ _ _ _ c.open-mark.ensures.opens c.in-Ok.ensures.edit c.cut_declarator.ensures.front.living c.requires.class c.cut_declarator.ensures.after.living
    (c.group_opening-opening.ensures.value ∙ ap (λ (v : List ℕ). gap_after v ++ codes "(") c.bytes.ensures.value) c.in-Ok.ensures.shape.shape_is c.in-Ok-join.ensures.shape.shape_is in
    let whole_is = is
    ∙ ap (λ (f : List ℕ). plain_shape (f ++ (gap_after f ++ codes "(") ++ text class ++ codes "::*)" ++ last)) front_is
    ∙ ap (λ (a : List ℕ). plain_shape (first ++ (gap_after first ++ codes "(") ++ text class ++ codes "::*)" ++ a)) after_is in
    let function = c.requires.function in
    let by = member_pointer_shape_is class (shape old c.args.member) _ _ _ _ _ _ _ _ function whole_is c.len-class_len.ensures.value
    (c.len-after_len.ensures.value ∙ ap text_len c.cut_declarator.ensures.after.shape_is) (ap (λ (n : ℕ). n - c.len-after_len.result) c.len.ensures.value) refl
    c.declare_group-declared.ensures.shape.shape_is c.templ-templ.ensures.value c.ctor-ctor.ensures.value in
    record { living = c.with_flags.ensures.shape.living; shape_is = c.with_flags.ensures.shape.shape_is ∙ by }

-- the text is put together after a mark
pub returns-clause-edit : goal.returns-clause-edit
returns-clause-edit c =
    let run = Opens-edit _ _ _ _ (Opens-edit _ _ _ _ c.open-mark.ensures.opens c.in-Ok.ensures.edit) c.in-Ok-join.ensures.edit in
    IsEdit-keeps _ _ (KeepsAll-closed _ _ _ _ run c.in-Ok-close.ensures.closed)

-- and stands at the end then
pub returns-clause-appends : goal.returns-clause-appends
returns-clause-appends c =
    let run = Opens-edit _ _ _ _ (Opens-edit _ _ _ _ c.open-mark.ensures.opens c.in-Ok.ensures.edit) c.in-Ok-join.ensures.edit in
    let appends = AppendsPiece-closed _ _ _ _ _ c.open-mark.ensures.mark run c.in-Ok-close.ensures.closed c.in-Ok-close.ensures.stands in
    let declared = AppendsPiece-named _ _ _ c.declare_group-declared.result appends c.declare_group-declared.ensures.stands in
    AppendsPiece-named _ _ _ c.with_flags.result declared c.with_flags.ensures.stands
