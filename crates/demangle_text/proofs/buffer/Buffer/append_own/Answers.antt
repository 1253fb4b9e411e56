-- The text with the bytes and its base name after it stands at the end, and its outline is that of the shape with them.
use Rattle.demangle_text.specs.State.{IsAsOld, IsLiving, IsOlder, Stands, frame, frame_start, inside, main_bytes, outermost, outside, saved, scopes}
use Rattle.std.proofs.lemmas.Grind.{common_steps}
use Rattle.std.proofs.Common.{◌≡◌, ◌+◌, ◌-◌, ◌++◌, ℕ, List, length, refl, ap, ◌∙◌, subst, arith}
use Rattle.demangle_text.proofs.States.{internals}
use Rattle.std.proofs.lemmas.List.{length-append}
use Rattle.demangle_text.specs.declared.pieces.Place.TheVariants.{End}
use Rattle.demangle_text.specs.Pieces.{Store, IsAt, outline_of, own_at, own_text, layout_with}
use Rattle.demangle_text.specs.Shape.{moved, appended}
use Rattle.demangle_text.specs.State.{shape, Lives, IsEditOf}
use Rattle.demangle_text.proofs.Tails.{own-spliced, Lives-inserted, own-fits, layout-fits, own_text-is, length-own, IsEditOf-spliced}
use Rattle.demangle_text.proofs.buffer.Buffer.append_own.Goals as goal

pub overflow_add-n : goal.overflow_add-n
overflow_add-n c =
    let b = c.args.self.now in
    let p = c.args.piece in
    let name = own_text b.output_text b.spill_text p in
    let fits = own-fits b c.extend_by.new.self p (p.to_byte - p.from_byte) (c.args.between.now ++ name) c.in-Ok.value c.requires.living (own-spliced _ _ _ _ _ _ _ c.requires.living c.own.ensures.shape c.in-Ok.ensures.splice) in
    omega (arith, fits, length-append c.args.between.now name, length-own b p c.requires.living, c.len-to.ensures.value, c.len-to.type_inv, ap (λ (s : Store). length s.output_text) c.self.view_is)

pub with_bytes-requires-clause-own_fits : goal.with_bytes-requires-clause-own_fits
with_bytes-requires-clause-own_fits c =
    let b = c.args.self.now in
    let p = c.args.piece in
    let name = own_text b.output_text b.spill_text p in
    let fits = own-fits b c.extend_by.new.self p (p.to_byte - p.from_byte) (c.args.between.now ++ name) c.in-Ok.value c.requires.living (own-spliced _ _ _ _ _ _ _ c.requires.living c.own.ensures.shape c.in-Ok.ensures.splice) in
    omega (arith, fits, length-append c.args.between.now name, length-own b p c.requires.living, c.len-to.ensures.value, c.len-to.type_inv, ap (λ (s : Store). length s.output_text) c.self.view_is)

pub with_bytes-requires-clause-layout_fits : goal.with_bytes-requires-clause-layout_fits
with_bytes-requires-clause-layout_fits c =
    let b = c.args.self.now in
    let p = c.args.piece in
    let name = own_text b.output_text b.spill_text p in
    let fits = layout-fits b c.extend_by.new.self p (p.to_byte - p.from_byte) (c.args.between.now ++ name) c.in-Ok.value c.requires.living (own-spliced _ _ _ _ _ _ _ c.requires.living c.own.ensures.shape c.in-Ok.ensures.splice) in
    omega (arith, fits, length-append c.args.between.now name, length-own b p c.requires.living, c.len-to.ensures.value, c.len-to.type_inv, ap (λ (s : Store). length s.output_text) c.self.view_is)

pub returns-clause-shape : goal.returns-clause-shape
returns-clause-shape c =
    let b = c.args.self.now in
    let n = c.extend_by.new.self in
    let p = c.args.piece in
    let q = c.with_bytes.result in
    let from = c.in-Ok.value in
    let at = p.to_byte - p.from_byte in
    let name = own_text b.output_text b.spill_text p in
    let added = c.args.between.now ++ name in
    let m = c.with_bytes.ensures in
    let k : c.len-to.result ≡ length n.output_text = c.len-to.ensures.value ∙ ap (λ (s : Store). length s.output_text) c.self.view_is in
    let by = length c.args.between.now + (p.own_end - p.own_start) in
    let j : by ≡ length added = omega (arith, length-append c.args.between.now name, length-own b p c.requires.living) in
    let lives = Lives-inserted b n p at added from c.requires.living (own-spliced _ _ _ _ _ _ _ c.requires.living c.own.ensures.shape c.in-Ok.ensures.splice) q (subst (IsAt q from) k m.stands)
    End tt refl (m.layout ∙ ap (λ (i : ℕ). layout_with End i (outline_of p).layout) j)
    (m.own ∙ ap (λ (i : ℕ). own_at (outline_of p).layout (c.len-to.result - from) (moved i by (outline_of p).own)) c.text_len.ensures.value ∙ ap (λ (i : ℕ). own_at (outline_of p).layout (i - from) (moved at by (outline_of p).own)) k
    ∙ ap (λ (i : ℕ). own_at (outline_of p).layout (length n.output_text - from) (moved at i (outline_of p).own)) j) m.templ m.ctor in
    subst (λ (v : List ℕ). Lives n q (appended (c.args.between.now ++ v) (shape b p))) (own_text-is b p c.requires.living) lives

pub returns-clause-edit_of : goal.returns-clause-edit_of
returns-clause-edit_of c =
    let b = c.args.self.now in
    let n = c.extend_by.new.self in
    let p = c.args.piece in
    let q = c.with_bytes.result in
    let from = c.in-Ok.value in
    let name = own_text b.output_text b.spill_text p in
    let k : c.len-to.result ≡ length n.output_text = c.len-to.ensures.value ∙ ap (λ (s : Store). length s.output_text) c.self.view_is in
    let by = length-append c.args.between.now name ∙ ap (λ (v : List ℕ). length c.args.between.now + length v) (own_text-is b p c.requires.living) in
    subst (IsEditOf b n p q) by (IsEditOf-spliced b n p q (p.to_byte - p.from_byte) from (c.args.between.now ++ name) (own-spliced _ _ _ _ _ _ _ c.requires.living c.own.ensures.shape c.in-Ok.ensures.splice) (subst (IsAt q from) k c.with_bytes.ensures.stands))

pub with_bytes-requires-clause-within : goal.with_bytes-requires-clause-within
unfolding IsLiving shape main_bytes Stands frame_start frame outermost IsOlder IsAsOld inside outside saved scopes
with_bytes-requires-clause-within c = grind (arith, common_steps)

pub returns-in-Err : goal.returns-in-Err
unfolding internals
returns-in-Err c = grind arith
