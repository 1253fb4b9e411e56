use Rattle.demangle_text.proofs.Laws.{StaysInPlace-edit, AppendsPiece-push, AppendsPiece-edit, AppendsPiece-named, IsEdit-keeps, IsEdit-trans}
use Rattle.demangle_edit.proofs.expressions.push_bracketed.Goals as goal

-- what is pushed grows at the end
pub returns-clause-appends : goal.returns-clause-appends
returns-clause-appends c =
    let pushed = AppendsPiece-push c.args.buf.now c.push.new.self c.in-Ok.value c.sign_and_digits.result.0.now c.push.ensures.mark c.in-Ok.ensures.output c.in-Ok.ensures.stands in
    let at_signed = IsEdit-keeps _ _ c.push.ensures.kept in
    let at_opened = IsEdit-trans _ _ _ at_signed c.in-Ok-append.ensures.edit in
    let at_filled = IsEdit-trans _ _ _ at_opened c.in-Ok-append-2.ensures.edit in
    let opened = AppendsPiece-edit _ _ _ _ _ at_signed pushed (StaysInPlace-edit _ _ _ _ _ c.in-Ok-append.ensures.edit_of) in
    let filled = AppendsPiece-edit _ _ _ _ _ at_opened opened (StaysInPlace-edit _ _ _ _ _ c.in-Ok-append-2.ensures.edit_of) in
    let closed = AppendsPiece-edit _ _ _ _ _ at_filled filled (StaysInPlace-edit _ _ _ _ _ c.in-Ok-append-3.ensures.edit_of) in
    AppendsPiece-named _ _ _ c.whole.result closed c.whole.ensures.stands
