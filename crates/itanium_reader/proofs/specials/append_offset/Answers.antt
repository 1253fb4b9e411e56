use Rattle.std.proofs.Common.{codes, ◌++◌, ap, ◌∙◌, subst, IfOk}
use Rattle.demangle_text.specs.Shape.{Shape, appended}
use Rattle.demangle_text.specs.State.{shape, Lives}
use Rattle.itanium_grammar.specs.Tree.{offset_sign}
use Rattle.itanium_reader.proofs.Texts.{plain_printed, virtual_printed}
use Rattle.std.specs.Prelude.{decimal}
use Rattle.itanium_reader.proofs.specials.append_offset.Goals as goal

pub returns-in-Ok-clause-shape : goal.returns-in-Ok-clause-shape
returns-in-Ok-clause-shape c =
    let s = shape c.args.buf.now c.args.words in
    let is = ap (appended (codes ")}, ")) c.in-Ok.ensures.shape.shape_is ∙ plain_printed c.in-Plain.number s in
    rw c.in-Plain.is (subst (λ (t : Shape). IfOk c.append.result (λ p. Lives c.append.new.self p t)) is c.append.ensures.shape)

pub returns-in-Ok-append_signed-2-clause-shape : goal.returns-in-Ok-append_signed-2-clause-shape
returns-in-Ok-append_signed-2-clause-shape c =
    let s = shape c.args.buf.now c.args.words in
    let m = c.in-Virtual.second in
    let both = c.in-Ok-append_signed-2.ensures.shape.shape_is
    ∙ ap (appended (codes ", " ++ (offset_sign m ++ decimal m.magnitude))) c.in-Ok-append_signed.ensures.shape.shape_is in
    let is = ap (appended (codes ")}, ")) both ∙ virtual_printed c.in-Virtual.first m s in
    rw c.in-Virtual.is (subst (λ (t : Shape). IfOk c.append-in-Virtual.result (λ p. Lives c.append-in-Virtual.new.self p t)) is c.append-in-Virtual.ensures.shape)
