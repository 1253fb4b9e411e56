-- The bytes and the other text go after the text that ends the output then.
use Rattle.demangle_text.proofs.States.{internals}
use Rattle.demangle_text.specs.State.{IsAsOld, IsOlder, Stands, frame, frame_start, inside, main_bytes, outermost, outside, saved, scopes, shape}
use Rattle.std.proofs.Common.{arith}
use Rattle.std.proofs.lemmas.Grind.{common_steps}
use Rattle.std.proofs.Common.{◌≡◌, ◌++◌, OnOk, OnErr, sym, ◌∙◌, subst}
use Rattle.demangle_text.specs.Pieces.{Store, piece_text}
use Rattle.demangle_text.specs.State.{IsLiving}
use Rattle.demangle_text.specs.View.{store_of}
use Rattle.demangle_text.proofs.AtEnd.{KeepsAll-left, Extends-more, both-added, IsStore-extended, IsEdit-extended, IsSplice-extended}
use Rattle.demangle_text.proofs.buffer.Buffer.extend_by.Goals as goal

pub returns-in-Err-truncated_on_err-clause-err : goal.returns-in-Err-truncated_on_err-clause-err
returns-in-Err-truncated_on_err-clause-err c =
    let s = store_of c.self.inside in
    let mid = c.ensure_at_end.new.output in
    let done = c.add-added.new.self in
    let failed : done ≡ mid = subst (λ r. OnErr r (done ≡ mid)) (sym c.in-Err-truncated_on_err.ensures.same) c.add-added.ensures.err in
    (rw (← c.self.view_is)
    (KeepsAll-left s mid done c.truncated_on_err.new.output c.len-len.result c.len-len.ensures.value c.in-Ok.ensures.at_end.longer failed c.in-Err-truncated_on_err.ensures.err))

pub returns-in-Err-truncated_on_err-2-clause-err : goal.returns-in-Err-truncated_on_err-2-clause-err
returns-in-Err-truncated_on_err-2-clause-err c =
    let s = store_of c.self.inside in
    let mid = c.ensure_at_end.new.output in
    let bytes = c.args.bytes.now in
    let longer = c.in-Ok.ensures.at_end.longer in
    let one = c.in-Ok-truncated_on_err.ensures.ok ∙ subst (λ r. OnOk r (c.add-added.new.self ≡ mid ++ bytes)) (sym c.in-Ok-truncated_on_err.ensures.same) c.add-added.ensures.ok in
    let mid2 = c.truncated_on_err.new.output in
    let done = c.add_text-added.new.output in
    let failed : done ≡ mid2 = subst (λ r. OnErr r (done ≡ mid2)) (sym c.in-Err-truncated_on_err-2.ensures.same) c.add_text-added.ensures.err in
    (rw (← c.self.view_is)
    (KeepsAll-left s mid2 done c.truncated_on_err-2.new.output c.len-len.result c.len-len.ensures.value
    (Extends-more s.output_text mid mid2 bytes longer one) failed c.in-Err-truncated_on_err-2.ensures.err))

pub invariant_of-self-2 : goal.invariant_of-self-2
invariant_of-self-2 c =
    let s = store_of c.self.inside in
    let mid = c.ensure_at_end.new.output in
    let bytes = c.args.bytes.now in
    let longer = c.in-Ok.ensures.at_end.longer in
    let one = c.in-Ok-truncated_on_err.ensures.ok ∙ subst (λ r. OnOk r (c.add-added.new.self ≡ mid ++ bytes)) (sym c.in-Ok-truncated_on_err.ensures.same) c.add-added.ensures.ok in
    let two = c.in-Ok-truncated_on_err-2.ensures.ok
    ∙ subst (λ r. OnOk r (c.add_text-added.new.output ≡ c.truncated_on_err.new.output ++ piece_text c.truncated_on_err.new.output s.spill_text c.args.other))
    (sym c.in-Ok-truncated_on_err-2.ensures.same) c.add_text-added.ensures.ok in
    let lies = subst (λ (b : Store). IsLiving b c.args.other) (sym c.self.view_is) c.requires.other_living in
    let is = both-added s mid bytes c.truncated_on_err.new.output c.truncated_on_err-2.new.output c.args.other lies longer one two in
    IsStore-extended s mid _ _ c.self.invariant longer is

pub returns-clause-edit : goal.returns-clause-edit
returns-clause-edit c =
    let s = store_of c.self.inside in
    let mid = c.ensure_at_end.new.output in
    let bytes = c.args.bytes.now in
    let longer = c.in-Ok.ensures.at_end.longer in
    let one = c.in-Ok-truncated_on_err.ensures.ok ∙ subst (λ r. OnOk r (c.add-added.new.self ≡ mid ++ bytes)) (sym c.in-Ok-truncated_on_err.ensures.same) c.add-added.ensures.ok in
    let two = c.in-Ok-truncated_on_err-2.ensures.ok
    ∙ subst (λ r. OnOk r (c.add_text-added.new.output ≡ c.truncated_on_err.new.output ++ piece_text c.truncated_on_err.new.output s.spill_text c.args.other))
    (sym c.in-Ok-truncated_on_err-2.ensures.same) c.add_text-added.ensures.ok in
    let lies = subst (λ (b : Store). IsLiving b c.args.other) (sym c.self.view_is) c.requires.other_living in
    let is = both-added s mid bytes c.truncated_on_err.new.output c.truncated_on_err-2.new.output c.args.other lies longer one two in
    rw (← c.self.view_is) (IsEdit-extended s mid _ _ c.self.invariant longer is)

pub returns-clause-splice : goal.returns-clause-splice
returns-clause-splice c =
    let s = store_of c.self.inside in
    let mid = c.ensure_at_end.new.output in
    let bytes = c.args.bytes.now in
    let longer = c.in-Ok.ensures.at_end.longer in
    let one = c.in-Ok-truncated_on_err.ensures.ok ∙ subst (λ r. OnOk r (c.add-added.new.self ≡ mid ++ bytes)) (sym c.in-Ok-truncated_on_err.ensures.same) c.add-added.ensures.ok in
    let two = c.in-Ok-truncated_on_err-2.ensures.ok
    ∙ subst (λ r. OnOk r (c.add_text-added.new.output ≡ c.truncated_on_err.new.output ++ piece_text c.truncated_on_err.new.output s.spill_text c.args.other))
    (sym c.in-Ok-truncated_on_err-2.ensures.same) c.add_text-added.ensures.ok in
    let lies = subst (λ (b : Store). IsLiving b c.args.other) (sym c.self.view_is) c.requires.other_living in
    let is = both-added s mid bytes c.truncated_on_err.new.output c.truncated_on_err-2.new.output c.args.other lies longer one two in
    let at_end = subst (λ (b : Store). IsLiving b c.args.piece) (sym c.self.view_is) c.requires.living in
    rw (← c.self.view_is) (IsSplice-extended s (record s { output_text = c.truncated_on_err-2.new.output }) c.args.piece mid _ c.in-Ok.value at_end c.in-Ok.ensures.at_end is)

pub invariant_of-self : goal.invariant_of-self
unfolding IsLiving shape main_bytes Stands frame_start frame outermost IsOlder IsAsOld inside outside saved scopes
invariant_of-self c = grind arith

pub truncated_on_err-requires : goal.truncated_on_err-requires
unfolding IsLiving shape main_bytes Stands frame_start frame outermost IsOlder IsAsOld inside outside saved scopes
truncated_on_err-requires c = grind (arith, common_steps)

pub invariant_of-self-in-Err-truncated_on_err : goal.invariant_of-self-in-Err-truncated_on_err
unfolding IsLiving shape main_bytes Stands frame_start frame outermost IsOlder IsAsOld inside outside saved scopes
invariant_of-self-in-Err-truncated_on_err c = grind (arith, common_steps)

pub add_text-added-requires-clause-within : goal.add_text-added-requires-clause-within
unfolding IsLiving shape main_bytes Stands frame_start frame outermost IsOlder IsAsOld inside outside saved scopes
add_text-added-requires-clause-within c = grind (arith, common_steps)

pub truncated_on_err-requires-2 : goal.truncated_on_err-requires-2
unfolding IsLiving shape main_bytes Stands frame_start frame outermost IsOlder IsAsOld inside outside saved scopes
truncated_on_err-requires-2 c = grind (arith, common_steps)

pub invariant_of-self-in-Err-truncated_on_err-2 : goal.invariant_of-self-in-Err-truncated_on_err-2
unfolding IsLiving shape main_bytes Stands frame_start frame outermost IsOlder IsAsOld inside outside saved scopes
invariant_of-self-in-Err-truncated_on_err-2 c = grind (arith, common_steps)

pub returns-in-Err-truncated_on_err-clause-main_err : goal.returns-in-Err-truncated_on_err-clause-main_err
unfolding internals
returns-in-Err-truncated_on_err-clause-main_err c = grind (arith, common_steps)

pub returns-in-Err-truncated_on_err-2-clause-main_err : goal.returns-in-Err-truncated_on_err-2-clause-main_err
unfolding internals
returns-in-Err-truncated_on_err-2-clause-main_err c = grind (arith, common_steps)
