-- What stands after the words is the text of what was found.
use Rattle.std.proofs.Common.{◌≡◌, ap, ◌∙◌, subst}
use Rattle.demangle_text.specs.Shape.{Shape, whole_shape, appended}
use Rattle.demangle_text.specs.Calls.{text_after}
use Rattle.demangle_text.specs.State.{shape, Lives}
use Rattle.demangle_text.specs.declared.buffer.Buffer.{Buffer}
use Rattle.itanium_reader.proofs.Texts.{words_taken}
use Rattle.itanium_reader.proofs.reader.Reader.join_words.Goals as goal

pub returns-clause-shape : goal.returns-clause-shape
returns-clause-shape c =
    let b = c.args.self.now.buffer.value in
    let n = c.append.new.self in
    let words = c.args.words in
    let close = c.args.close.now in
    let worded = c.up_to_end-worded.result in
    let closed = c.in-Ok.value in
    let after = text_after b words in
    let first_is : c.deref_mut.result.now ≡ b = c.deref_mut.ensures.value in
    let same : c.up_to_end-worded.new.self ≡ b = c.up_to_end-worded.ensures.same ∙ first_is in
    let taken : shape b worded ≡ appended after (shape b words) =
    subst (λ (s : Buffer). shape s worded ≡ appended after (shape b words)) same
    (subst (λ (s : Buffer). shape c.up_to_end-worded.new.self worded ≡ appended (text_after s words) (shape s words)) first_is c.up_to_end-worded.ensures.shape.shape_is) in
    let ended : shape n closed ≡ appended close (shape b worded) =
    subst (λ (s : Buffer). shape n closed ≡ appended close (shape s worded)) (c.deref_mut-2.ensures.value ∙ same) (c.in-Ok.ensures {u = tt}).shape.shape_is in
    let whole : Lives n c.whole-self.result (whole_shape (shape n closed)) =
    subst (λ (s : Buffer). Lives s c.whole-self.result (whole_shape (shape s closed))) c.deref.ensures c.whole-self.ensures.shape in
    let is = ap whole_shape (ended ∙ ap (appended close) taken)
    ∙ words_taken (shape b words) (shape b c.args.self.now.found) after close c.requires.plain c.requires.after in
    subst (λ (t : Shape). Lives n c.whole-self.result t) is whole
