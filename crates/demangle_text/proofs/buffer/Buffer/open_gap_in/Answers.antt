-- A gap in the text that ends the output, or in a copy of it there.
use Rattle.demangle_text.specs.State.{IsAsOld, IsOlder, Stands, frame, frame_start, inside, main_bytes, outermost, outside, saved, scopes, shape}
use Rattle.std.proofs.lemmas.Grind.{common_steps}
use Rattle.std.proofs.Common.{◌≡◌, ◌+◌, ◌-◌, List, ℕ, OnOk, OnErr, length, take, drop, sym, ap, subst, arith, ◌∙◌}
use Rattle.std.proofs.lemmas.Bool.{false≢true}
use Rattle.std.proofs.lemmas.List.{length-append}
use Rattle.growing_text.specs.Gap.{HasGap}
use Rattle.demangle_text.specs.Pieces.{Store, IsTail, IsTailAt, piece_text}
use Rattle.demangle_text.specs.State.{IsLiving}
use Rattle.demangle_text.specs.View.{store_of}
use Rattle.demangle_text.proofs.States.{internals}
use Rattle.demangle_text.proofs.Tails.{length-text}
use Rattle.demangle_text.proofs.AtEnd.{tail-is, KeepsAll-left, IsOpen-tail, IsOpen-copied, IsStore-copied}
use Rattle.demangle_text.proofs.buffer.Buffer.open_gap_in.Goals as goal

pub returns-then-is_tail-clause-opened : goal.returns-then-is_tail-clause-opened
unfolding IsLiving
returns-then-is_tail-clause-opened c =
    IsOpen-tail c.args.self.now c.open_gap.new.self c.args.piece c.args.at c.args.n (tail-is (store_of c.self.inside) c.args.self.now c.args.piece c.len.result c.self.view_is c.len.ensures.value (c.is_tail.ensures.tail c.if-is_tail.true))
    c.requires.living.ordered c.requires.within c.in-Ok.ensures.gap

pub returns-in-Err-truncated_on_err-clause-err : goal.returns-in-Err-truncated_on_err-clause-err
returns-in-Err-truncated_on_err-clause-err c =
    let s = store_of c.self.inside in
    let mid = c.add_text.new.output in
    let done = c.open_gap-opened.new.self in
    let failed : done ≡ mid = subst (λ r. OnErr r (done ≡ mid)) (sym c.in-Err-truncated_on_err.ensures.same) c.open_gap-opened.ensures.err in
    (rw (← c.self.view_is)
    (KeepsAll-left s mid done c.truncated_on_err.new.output c.len-from.result c.len-from.ensures.value
    (record { more = piece_text s.output_text s.spill_text c.args.piece; all = c.in-Ok-add_text.ensures.ok }) failed c.in-Err-truncated_on_err.ensures.err))

pub invariant_of-self-2 : goal.invariant_of-self-2
invariant_of-self-2 c =
    let s = store_of c.self.inside in
    let p = c.args.piece in
    let at = c.args.at in
    let n = c.args.n in
    let mid = c.add_text.new.output in
    let done = c.open_gap-opened.new.self in
    let from = c.len-from.result in
    let text = piece_text s.output_text s.spill_text p in
    let lies = subst (λ (b : Store). IsLiving b p) (sym c.self.view_is) c.requires.living in
    let apart = λ (h : IsTail s p).
    let t = c.is_tail.ensures.other (subst (λ (k : ℕ). IsTailAt s.marked_len k p) (sym c.len.ensures.value) h) in
    let f = c.if-is_tail.false in let k : ⊥ = false≢true (sym f ∙ t) in k in
    let copied = c.in-Ok-add_text.ensures.ok in
    let place = c.len-2.result - (c.text_len.result - at) in
    let there : place ≡ from + at =
    omega (arith, c.len-2.ensures.value, c.len-from.ensures.value, c.text_len.ensures.value, c.requires.within, ap length copied, length-append s.output_text text, length-text s p lies) in
    let opened = subst (λ r. OnOk r (HasGap (take place mid) (drop place mid) done n)) (sym c.in-Ok-truncated_on_err.ensures.same) c.open_gap-opened.ensures.ok in
    let moved = subst (λ (i : ℕ). HasGap (take i mid) (drop i mid) done n) there opened in
    let gap = subst (λ (v : List ℕ). HasGap (take (from + at) mid) (drop (from + at) mid) v n) (sym c.in-Ok-truncated_on_err.ensures.ok) moved in
    IsStore-copied s p mid c.truncated_on_err.new.output at n from c.self.invariant lies apart c.len-from.ensures.value c.requires.within copied gap

pub returns-clause-opened : goal.returns-clause-opened
returns-clause-opened c =
    let s = store_of c.self.inside in
    let p = c.args.piece in
    let at = c.args.at in
    let n = c.args.n in
    let mid = c.add_text.new.output in
    let done = c.open_gap-opened.new.self in
    let from = c.len-from.result in
    let text = piece_text s.output_text s.spill_text p in
    let lies = subst (λ (b : Store). IsLiving b p) (sym c.self.view_is) c.requires.living in
    let apart = λ (h : IsTail s p).
    let t = c.is_tail.ensures.other (subst (λ (k : ℕ). IsTailAt s.marked_len k p) (sym c.len.ensures.value) h) in
    let f = c.if-is_tail.false in let k : ⊥ = false≢true (sym f ∙ t) in k in
    let copied = c.in-Ok-add_text.ensures.ok in
    let place = c.len-2.result - (c.text_len.result - at) in
    let there : place ≡ from + at =
    omega (arith, c.len-2.ensures.value, c.len-from.ensures.value, c.text_len.ensures.value, c.requires.within, ap length copied, length-append s.output_text text, length-text s p lies) in
    let opened = subst (λ r. OnOk r (HasGap (take place mid) (drop place mid) done n)) (sym c.in-Ok-truncated_on_err.ensures.same) c.open_gap-opened.ensures.ok in
    let moved = subst (λ (i : ℕ). HasGap (take i mid) (drop i mid) done n) there opened in
    let gap = subst (λ (v : List ℕ). HasGap (take (from + at) mid) (drop (from + at) mid) v n) (sym c.in-Ok-truncated_on_err.ensures.ok) moved in
    rw (← c.self.view_is) (IsOpen-copied s p mid c.truncated_on_err.new.output at n from c.self.invariant lies apart c.len-from.ensures.value c.requires.within copied gap)

pub overflow_sub-len : goal.overflow_sub-len
unfolding IsLiving shape main_bytes Stands frame_start frame outermost IsOlder IsAsOld inside outside saved scopes
overflow_sub-len c = grind (arith, common_steps)

pub truncated_on_err-requires : goal.truncated_on_err-requires
unfolding IsLiving shape main_bytes Stands frame_start frame outermost IsOlder IsAsOld inside outside saved scopes
truncated_on_err-requires c = grind (arith, common_steps)

pub invariant_of-self-in-Err-truncated_on_err : goal.invariant_of-self-in-Err-truncated_on_err
unfolding IsLiving shape main_bytes Stands frame_start frame outermost IsOlder IsAsOld inside outside saved scopes
invariant_of-self-in-Err-truncated_on_err c = grind (arith, common_steps)

pub returns-clause-fits : goal.returns-clause-fits
unfolding IsLiving shape main_bytes Stands frame_start frame outermost IsOlder IsAsOld inside outside saved scopes
returns-clause-fits c = grind (arith, common_steps)

pub invariant_of-self : goal.invariant_of-self
invariant_of-self c = grind arith

pub returns-in-Err-truncated_on_err-clause-main_err : goal.returns-in-Err-truncated_on_err-clause-main_err
unfolding internals
returns-in-Err-truncated_on_err-clause-main_err c = grind (arith, common_steps)
