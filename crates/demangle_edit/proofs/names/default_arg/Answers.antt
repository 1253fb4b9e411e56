use Rattle.std.proofs.Common.{arith}
use Rattle.std.proofs.lemmas.Grind.{common_steps}
use Rattle.std.proofs.Common.{ap, ap₂, ◌∙◌, subst, IfOk}
use Rattle.demangle_text.specs.Shape.{Shape}
use Rattle.demangle_text.specs.State.{Lives}
use Rattle.demangle_text.proofs.Laws.{Opens-edit, AppendsPiece-close}
use Rattle.demangle_edit.specs.Built.{default_arg_opened, enclosed}
use Rattle.demangle_edit.proofs.names.default_arg.Goals as goal

-- the parent and the entity are older than the mark, so both keep their shapes
pub returns-clause-shape : goal.returns-clause-shape
returns-clause-shape c =
    let opens = c.open-mark.ensures.opens in
    let parent = opens.pieces c.args.parent c.requires.parent in
    let entity = (Opens-edit _ _ _ _ opens c.in-Ok.ensures.edit).pieces c.args.entity c.requires.entity in
    let opened = c.in-Ok.ensures.shape.shape_is ∙ ap (λ (s : Shape). default_arg_opened s c.args.number) parent.shape_is in
    let is = c.in-Ok-append_leaf.ensures.shape.shape_is ∙ ap₂ enclosed opened entity.shape_is in
    subst (λ (s : Shape). IfOk c.close.result (λ p. Lives c.close.new.self p s)) is c.close.ensures.shape

pub returns-clause-appends : goal.returns-clause-appends
returns-clause-appends c =
    let run = Opens-edit _ _ _ _ (Opens-edit _ _ _ _ c.open-mark.ensures.opens c.in-Ok.ensures.edit) c.in-Ok-append_leaf.ensures.edit in
    AppendsPiece-close c.args.buf.now c.append_leaf.new.buf c.close.new.self c.open-mark.result c.close.result
    c.open-mark.ensures.mark run c.close.ensures.closed c.close.ensures.stands

pub returns-clause-edit : goal.returns-clause-edit
returns-clause-edit c = grind (arith, common_steps)
