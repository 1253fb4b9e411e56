-- The text with the bytes in it stands at the end, and its outline is that of the shape with the bytes.
use Rattle.demangle_text.specs.State.{IsAsOld, IsLiving, IsOlder, Stands, frame, frame_start, inside, main_bytes, outermost, outside, saved, scopes, shape}
use Rattle.std.proofs.lemmas.Grind.{common_steps}
use Rattle.std.proofs.Common.{◌+◌, ◌-◌, ℕ, length, refl, ap, ◌∙◌, subst, arith}
use Rattle.demangle_text.specs.Pieces.{IsAt, outline_of, own_at}
use Rattle.demangle_text.specs.Shape.{moved}
use Rattle.demangle_text.specs.View.{store_of}
use Rattle.demangle_text.proofs.Gaps.{length-gap, one-put}
use Rattle.demangle_text.proofs.AtEnd.{IsOpen-same, IsStore-put, IsEdit-put, IsSplice-put}
use Rattle.demangle_text.proofs.Tails.{Lives-inserted, IsEditOf-spliced, own-fits, layout-fits}
use Rattle.demangle_text.proofs.buffer.Buffer.insert.Goals as goal

-- the bytes fill the gap for them
pub put-requires : goal.put-requires
put-requires c =
    let b = c.args.self.now in
    let p = c.args.piece in
    let at = c.place-at.result in
    let from = c.in-Ok.value in
    let bytes = c.args.bytes.now in
    let k = length bytes in
    let o = IsOpen-same b (store_of c.self.inside) _ p at k from c.self.view_is c.in-Ok.ensures.opened in
    let n = length-gap o.output c.self.inside.output (from + at) k o.within o.gap in
    record { within = omega (arith, n, o.within) }

pub with_bytes-requires-clause-own_fits : goal.with_bytes-requires-clause-own_fits
with_bytes-requires-clause-own_fits c =
    let b = c.args.self.now in
    let p = c.args.piece in
    let at = c.place-at.result in
    let from = c.in-Ok.value in
    let bytes = c.args.bytes.now in
    let k = length bytes in
    let o = IsOpen-same b (store_of c.self.inside) _ p at k from c.self.view_is c.in-Ok.ensures.opened in
    let output = one-put o.output c.self.inside.output bytes c.put.new.self (from + at) o.within o.gap c.put.ensures.value in
    let splice = IsSplice-put b (store_of c.self.inside) p at k from o bytes c.put.new.self refl output in
    let fits = own-fits b _ p at bytes from c.requires.living splice in
    omega (arith, fits, c.len.ensures.value, c.len.type_inv)

pub with_bytes-requires-clause-layout_fits : goal.with_bytes-requires-clause-layout_fits
with_bytes-requires-clause-layout_fits c =
    let b = c.args.self.now in
    let p = c.args.piece in
    let at = c.place-at.result in
    let from = c.in-Ok.value in
    let bytes = c.args.bytes.now in
    let k = length bytes in
    let o = IsOpen-same b (store_of c.self.inside) _ p at k from c.self.view_is c.in-Ok.ensures.opened in
    let output = one-put o.output c.self.inside.output bytes c.put.new.self (from + at) o.within o.gap c.put.ensures.value in
    let splice = IsSplice-put b (store_of c.self.inside) p at k from o bytes c.put.new.self refl output in
    let fits = layout-fits b _ p at bytes from c.requires.living splice in
    omega (arith, fits, c.len.ensures.value, c.len.type_inv)

pub invariant_of-self : goal.invariant_of-self
invariant_of-self c =
    let b = c.args.self.now in
    let p = c.args.piece in
    let at = c.place-at.result in
    let from = c.in-Ok.value in
    let bytes = c.args.bytes.now in
    let k = length bytes in
    let o = IsOpen-same b (store_of c.self.inside) _ p at k from c.self.view_is c.in-Ok.ensures.opened in
    let output = one-put o.output c.self.inside.output bytes c.put.new.self (from + at) o.within o.gap c.put.ensures.value in
    IsStore-put b (store_of c.self.inside) p at k from o bytes c.put.new.self refl output

pub returns-clause-edit : goal.returns-clause-edit
returns-clause-edit c =
    let b = c.args.self.now in
    let p = c.args.piece in
    let at = c.place-at.result in
    let from = c.in-Ok.value in
    let bytes = c.args.bytes.now in
    let k = length bytes in
    let o = IsOpen-same b (store_of c.self.inside) _ p at k from c.self.view_is c.in-Ok.ensures.opened in
    let output = one-put o.output c.self.inside.output bytes c.put.new.self (from + at) o.within o.gap c.put.ensures.value in
    IsEdit-put b (store_of c.self.inside) p at k from o bytes c.put.new.self refl output

pub returns-clause-shape : goal.returns-clause-shape
returns-clause-shape c =
    let b = c.args.self.now in
    let p = c.args.piece in
    let at = c.place-at.result in
    let from = c.in-Ok.value in
    let bytes = c.args.bytes.now in
    let k = length bytes in
    let o = IsOpen-same b (store_of c.self.inside) _ p at k from c.self.view_is c.in-Ok.ensures.opened in
    let output = one-put o.output c.self.inside.output bytes c.put.new.self (from + at) o.within o.gap c.put.ensures.value in
    let splice = IsSplice-put b (store_of c.self.inside) p at k from o bytes c.put.new.self refl output in
    let m = c.with_bytes.ensures in
    Lives-inserted b _ p at bytes from c.requires.living splice c.with_bytes.result (subst (IsAt c.with_bytes.result from) c.len.ensures.value m.stands)
    c.args.place c.requires.fits c.place-at.ensures.value m.layout
    (m.own ∙ ap (λ (j : ℕ). own_at (outline_of p).layout (j - from) (moved at k (outline_of p).own)) c.len.ensures.value) m.templ m.ctor

pub returns-clause-edit_of : goal.returns-clause-edit_of
returns-clause-edit_of c =
    let b = c.args.self.now in
    let p = c.args.piece in
    let at = c.place-at.result in
    let from = c.in-Ok.value in
    let bytes = c.args.bytes.now in
    let k = length bytes in
    let o = IsOpen-same b (store_of c.self.inside) _ p at k from c.self.view_is c.in-Ok.ensures.opened in
    let output = one-put o.output c.self.inside.output bytes c.put.new.self (from + at) o.within o.gap c.put.ensures.value in
    let splice = IsSplice-put b (store_of c.self.inside) p at k from o bytes c.put.new.self refl output in
    let q = c.with_bytes.result in
    IsEditOf-spliced b _ p q at from bytes splice (subst (IsAt q from) c.len.ensures.value c.with_bytes.ensures.stands)

pub open_gap_in-requires : goal.open_gap_in-requires
unfolding IsLiving shape main_bytes Stands frame_start frame outermost IsOlder IsAsOld inside outside saved scopes
open_gap_in-requires c = grind (arith, common_steps)

pub with_bytes-requires-clause-text : goal.with_bytes-requires-clause-text
unfolding IsLiving shape main_bytes Stands frame_start frame outermost IsOlder IsAsOld inside outside saved scopes
with_bytes-requires-clause-text c = grind (arith, common_steps)
