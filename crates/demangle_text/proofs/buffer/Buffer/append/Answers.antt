-- The bytes go after the text, which ends the output then, and the outline is that of the shape with the bytes.
use Rattle.demangle_text.proofs.States.{internals}
use Rattle.std.proofs.lemmas.Grind.{common_steps, elements}
use Rattle.std.proofs.Common.{◌≡◌, ◌-◌, ◌++◌, ℕ, OnOk, OnErr, length, refl, sym, ap, ◌∙◌, subst, arith}
use Rattle.demangle_text.specs.declared.pieces.Place.TheVariants.{End}
use Rattle.demangle_text.specs.Pieces.{IsAt, outline_of, own_at}
use Rattle.demangle_text.specs.Shape.{moved}
use Rattle.demangle_text.specs.View.{store_of}
use Rattle.demangle_text.proofs.Tails.{Lives-inserted, IsEditOf-spliced, own-fits, layout-fits}
use Rattle.demangle_text.proofs.AtEnd.{KeepsAll-left, IsStore-extended, IsEdit-extended, IsSplice-added}
use Rattle.demangle_text.proofs.buffer.Buffer.append.Goals as goal

pub returns-in-Err-truncated_on_err-clause-err : goal.returns-in-Err-truncated_on_err-clause-err
returns-in-Err-truncated_on_err-clause-err c =
    let s = store_of c.self.inside in
    let mid = c.ensure_at_end.new.output in
    let done = c.add-added.new.self in
    let failed : done ≡ mid = subst (λ r. OnErr r (done ≡ mid)) (sym c.in-Err-truncated_on_err.ensures.same) c.add-added.ensures.err in
    (rw (← c.self.view_is)
    (KeepsAll-left s mid done c.truncated_on_err.new.output c.len-len.result c.len-len.ensures.value c.in-Ok.ensures.at_end.longer failed c.in-Err-truncated_on_err.ensures.err))

pub invariant_of-self-2 : goal.invariant_of-self-2
invariant_of-self-2 c =
    let mid = c.ensure_at_end.new.output in
    let more = c.args.bytes.now in
    let done = c.add-added.new.self in
    let is = c.in-Ok-truncated_on_err.ensures.ok ∙ subst (λ r. OnOk r (done ≡ mid ++ more)) (sym c.in-Ok-truncated_on_err.ensures.same) c.add-added.ensures.ok in
    IsStore-extended (store_of c.self.inside) mid more _ c.self.invariant c.in-Ok.ensures.at_end.longer is

pub returns-clause-edit : goal.returns-clause-edit
returns-clause-edit c =
    let mid = c.ensure_at_end.new.output in
    let more = c.args.bytes.now in
    let done = c.add-added.new.self in
    let is = c.in-Ok-truncated_on_err.ensures.ok ∙ subst (λ r. OnOk r (done ≡ mid ++ more)) (sym c.in-Ok-truncated_on_err.ensures.same) c.add-added.ensures.ok in
    rw (← c.self.view_is) (IsEdit-extended (store_of c.self.inside) mid more _ c.self.invariant c.in-Ok.ensures.at_end.longer is)

pub with_bytes-requires-clause-own_fits : goal.with_bytes-requires-clause-own_fits
with_bytes-requires-clause-own_fits c =
    let b = c.args.self.now in
    let s = store_of c.self.inside in
    let p = c.args.piece in
    let done = c.add-added.new.self in
    let added = subst (λ r. OnOk r (done ≡ c.ensure_at_end.new.output ++ c.args.bytes.now)) (sym c.in-Ok-truncated_on_err.ensures.same) c.add-added.ensures.ok in
    let splice = IsSplice-added s b c.truncated_on_err.new.output p _ _ c.in-Ok.value c.self.view_is c.requires.living c.in-Ok.ensures.at_end (c.in-Ok-truncated_on_err.ensures.ok ∙ added) in
    let fits = own-fits b _ p (p.to_byte - p.from_byte) c.args.bytes.now c.in-Ok.value c.requires.living splice in
    omega (arith, fits, c.len.ensures.value, c.len.type_inv)

pub with_bytes-requires-clause-layout_fits : goal.with_bytes-requires-clause-layout_fits
with_bytes-requires-clause-layout_fits c =
    let b = c.args.self.now in
    let s = store_of c.self.inside in
    let p = c.args.piece in
    let done = c.add-added.new.self in
    let added = subst (λ r. OnOk r (done ≡ c.ensure_at_end.new.output ++ c.args.bytes.now)) (sym c.in-Ok-truncated_on_err.ensures.same) c.add-added.ensures.ok in
    let splice = IsSplice-added s b c.truncated_on_err.new.output p _ _ c.in-Ok.value c.self.view_is c.requires.living c.in-Ok.ensures.at_end (c.in-Ok-truncated_on_err.ensures.ok ∙ added) in
    let fits = layout-fits b _ p (p.to_byte - p.from_byte) c.args.bytes.now c.in-Ok.value c.requires.living splice in
    omega (arith, fits, c.len.ensures.value, c.len.type_inv)

pub returns-clause-shape : goal.returns-clause-shape
returns-clause-shape c =
    let b = c.args.self.now in
    let s = store_of c.self.inside in
    let p = c.args.piece in
    let from = c.in-Ok.value in
    let bytes = c.args.bytes.now in
    let m = c.with_bytes.ensures in
    let done = c.add-added.new.self in
    let added = subst (λ r. OnOk r (done ≡ c.ensure_at_end.new.output ++ bytes)) (sym c.in-Ok-truncated_on_err.ensures.same) c.add-added.ensures.ok in
    let splice = IsSplice-added s b c.truncated_on_err.new.output p _ _ from c.self.view_is c.requires.living c.in-Ok.ensures.at_end (c.in-Ok-truncated_on_err.ensures.ok ∙ added) in
    let k = c.len.ensures.value in
    Lives-inserted b _ p (p.to_byte - p.from_byte) bytes from c.requires.living splice c.with_bytes.result (subst (IsAt c.with_bytes.result from) k m.stands)
    End tt refl m.layout
    (m.own ∙ ap (λ (j : ℕ). own_at (outline_of p).layout (c.len.result - from) (moved j (length bytes) (outline_of p).own)) c.text_len-at.ensures.value
    ∙ ap (λ (j : ℕ). own_at (outline_of p).layout (j - from) (moved (p.to_byte - p.from_byte) (length bytes) (outline_of p).own)) k) m.templ m.ctor

pub returns-clause-edit_of : goal.returns-clause-edit_of
returns-clause-edit_of c =
    let b = c.args.self.now in
    let s = store_of c.self.inside in
    let p = c.args.piece in
    let q = c.with_bytes.result in
    let from = c.in-Ok.value in
    let done = c.add-added.new.self in
    let added = subst (λ r. OnOk r (done ≡ c.ensure_at_end.new.output ++ c.args.bytes.now)) (sym c.in-Ok-truncated_on_err.ensures.same) c.add-added.ensures.ok in
    let splice = IsSplice-added s b c.truncated_on_err.new.output p _ _ from c.self.view_is c.requires.living c.in-Ok.ensures.at_end (c.in-Ok-truncated_on_err.ensures.ok ∙ added) in
    IsEditOf-spliced b _ p q (p.to_byte - p.from_byte) from c.args.bytes.now splice (subst (IsAt q from) c.len.ensures.value c.with_bytes.ensures.stands)

pub ensure_at_end-requires-clause-ordered : goal.ensure_at_end-requires-clause-ordered
unfolding internals
ensure_at_end-requires-clause-ordered c = grind arith

pub truncated_on_err-requires : goal.truncated_on_err-requires
unfolding internals
truncated_on_err-requires c = grind (arith, common_steps)

pub invariant_of-self-in-Err-truncated_on_err : goal.invariant_of-self-in-Err-truncated_on_err
unfolding internals
invariant_of-self-in-Err-truncated_on_err c = grind (arith, common_steps)

pub invariant_of-self : goal.invariant_of-self
invariant_of-self c = grind arith

pub returns-in-Err-truncated_on_err-clause-main_err : goal.returns-in-Err-truncated_on_err-clause-main_err
unfolding internals
returns-in-Err-truncated_on_err-clause-main_err c = grind (arith, common_steps)

pub with_bytes-requires-clause-text : goal.with_bytes-requires-clause-text
with_bytes-requires-clause-text c = grind (arith, elements)

pub with_bytes-requires-clause-within : goal.with_bytes-requires-clause-within
unfolding internals
with_bytes-requires-clause-within c = grind (arith, common_steps)
