use Rattle.std.proofs.Common.{rules, List, ℕ, decimal, ◌++◌, ap, ◌∙◌, subst, IfOk}
use Rattle.demangle_text.specs.Shape.{Shape, appended}
use Rattle.demangle_text.specs.State.{shape, Lives}
use Rattle.itanium_reader.proofs.Texts.{signed_printed}
use Rattle.itanium_reader.proofs.specials.append_signed.Goals as goal

pub returns-clause-shape : goal.returns-clause-shape
returns-clause-shape c =
    let s = shape c.args.buf.now c.args.words in
    let sign = c.as_bytes.result.now in
    let digits = decimal c.args.number.magnitude in
    let signed = (c.in-Ok-append.ensures {u = tt}).shape.shape_is ∙ ap (appended sign) (c.in-Ok.ensures {u = tt}).shape.shape_is in
    let is = ap (appended digits) signed ∙ signed_printed c.args.bytes.now sign digits s
    ∙ ap (λ (t : List ℕ). appended (c.args.bytes.now ++ (t ++ digits)) s) (search rules) in
    subst (λ (t : Shape). IfOk c.append_number.result (λ p. Lives c.append_number.new.buf p t)) is c.append_number.ensures.shape
