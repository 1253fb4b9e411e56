-- The bytes after the piece stand there already: its outline is that of the shape with them.
use Rattle.demangle_text.specs.State.{IsAsOld, IsLiving, IsOlder, Stands, frame, frame_start, inside, main_bytes, outermost, outside, saved, scopes, shape}
use Rattle.std.proofs.Common.{arith}
use Rattle.std.proofs.lemmas.Grind.{common_steps}
use Rattle.std.proofs.Common.{◌≡◌, ◌-◌, ℕ, length, refl, sym, ap, ◌∙◌, subst}
use Rattle.std.proofs.lemmas.List.{length-drop}
use Rattle.demangle_text.specs.declared.pieces.Place.TheVariants.{End}
use Rattle.demangle_text.specs.Pieces.{Store, IsAt, outline_of, own_at, layout_with}
use Rattle.demangle_text.specs.Shape.{moved}
use Rattle.demangle_text.specs.Calls.{text_after}
use Rattle.demangle_text.proofs.Tails.{IsSplice-taken, Lives-inserted}
use Rattle.demangle_text.proofs.buffer.Buffer.up_to_end.Goals as goal

pub returns-clause-shape : goal.returns-clause-shape
unfolding text_after
returns-clause-shape c =
    let b = c.args.self.now in
    let p = c.args.piece in
    let q = c.with_bytes.result in
    let m = c.with_bytes.ensures in
    let at = p.to_byte - p.from_byte in
    let more = text_after b p in
    let k : c.len-to.result ≡ length b.output_text = c.len-to.ensures.value ∙ ap (λ (s : Store). length s.output_text) c.self.view_is in
    let n : c.len-to.result - p.to_byte ≡ length more = ap (λ (j : ℕ). j - p.to_byte) k ∙ sym (length-drop p.to_byte b.output_text) in
    Lives-inserted b b p at more p.from_byte c.requires.living (IsSplice-taken b p c.requires.living c.requires.inner) q (subst (IsAt q p.from_byte) k m.stands)
    End tt refl (m.layout ∙ ap (λ (j : ℕ). layout_with End j (outline_of p).layout) n)
    (m.own ∙ ap (λ (j : ℕ). own_at (outline_of p).layout (c.len-to.result - p.from_byte) (moved j (c.len-to.result - p.to_byte) (outline_of p).own)) c.text_len.ensures.value ∙ ap (λ (j : ℕ). own_at (outline_of p).layout (j - p.from_byte) (moved at (c.len-to.result - p.to_byte) (outline_of p).own)) k
    ∙ ap (λ (j : ℕ). own_at (outline_of p).layout (length b.output_text - p.from_byte) (moved at j (outline_of p).own)) n) m.templ m.ctor

pub with_bytes-requires-clause-within : goal.with_bytes-requires-clause-within
unfolding IsLiving shape main_bytes Stands frame_start frame outermost IsOlder IsAsOld inside outside saved scopes
with_bytes-requires-clause-within c = grind (arith, common_steps)

pub with_bytes-requires-clause-own_fits : goal.with_bytes-requires-clause-own_fits
unfolding IsLiving shape main_bytes Stands frame_start frame outermost IsOlder IsAsOld inside outside saved scopes
with_bytes-requires-clause-own_fits c = grind (arith, common_steps)
