-- The text and the bytes fill a gap for both.
use Rattle.demangle_text.specs.State.{IsAsOld, IsLiving, IsOlder, Stands, frame, frame_start, inside, main_bytes, outermost, outside, saved, scopes, shape}
use Rattle.std.proofs.lemmas.Grind.{common_steps}
use Rattle.std.proofs.Common.{true, ◌≡◌, ◌+◌, ◌-◌, ◌++◌, List, ℕ, Bool, length, take, drop, slice_range, refl, ap, sym, ◌∙◌, subst, arith}
use Rattle.std.proofs.lemmas.List.{length-append, length-take-le}
use Rattle.demangle_text.specs.declared.pieces.Piece.{Piece}
use Rattle.demangle_text.specs.Pieces.{Store, IsStore, home_bytes, piece_text}
use Rattle.demangle_text.specs.State.{IsEdit}
use Rattle.demangle_text.specs.View.{store_of}
use Rattle.demangle_text.specs.Gaps.{IsGap}
use Rattle.growing_text.proofs.Gaps.{both-put}
use Rattle.demangle_text.proofs.Tails.{length-text}
use Rattle.demangle_text.proofs.States.{text_is}
use Rattle.demangle_text.proofs.Gaps.{IsGap-same, IsStore-filled, IsEdit-filled, text-kept}
use Rattle.demangle_text.proofs.buffer.Buffer.insert_piece.Goals as goal
use Rattle.demangle_text.proofs.buffer.Buffer.insert_piece.Goals.{then-first, else-first}

-- the length of the text and of the bytes
abbrev num : goal.After-put → ℕ
num c = c.len.result + length c.args.bytes.now

size : (c : goal.After-put) → c.len.result ≡ c.args.first.to_byte - c.args.first.from_byte
size c =
    let b = c.args.self.now in
    let living = c.requires.living in
    c.len.ensures.value ∙ ap length (text_is b c.args.first living) ∙ length-text b c.args.first living

gap : (c : goal.After-put) → IsGap c.args.self.now (store_of c.self.inside) c.args.at (num c)
gap c =
    IsGap-same c.args.self.now _ (store_of c.self.inside) c.args.at (num c) c.self.view_is
    c.in-Ok.ensures.gap

-- the text is put from wherever it lies
same : (c : goal.After-put) → store_of c.if-first.self-inside ≡ record (store_of c.self.inside) { output_text = c.if-first.self-inside.output }
same c = elim c.if-first.branch [
  | then-first w ↦ rw w.self-inside-is refl
  | else-first w ↦ rw w.self-inside-is refl
]

-- how long the text is that was put from the spill
module _ (c : goal.After-put) where
  abbrev p : Piece
  p = c.args.first

  abbrev all : List ℕ
  all = c.self.inside.output

  abbrev spill : List ℕ
  spill = c.self.inside.kept.spill

  kept : piece_text all spill p ≡ piece_text c.args.self.now.output_text c.args.self.now.spill_text p
  kept = text-kept c.args.self.now (store_of c.self.inside) c.args.at (num c) (gap c) c.requires.within p c.requires.living c.requires.before

  spilled-is : (text : List ℕ) → text ≡ slice_range spill p.from_byte p.to_byte → p.spilled ≡ true → (text ≡ piece_text all spill p) × (length text ≡ p.to_byte - p.from_byte)
  spilled-is text is home =
      let part = is ∙ sym (ap (λ (h : Bool). slice_range (home_bytes all spill h) p.from_byte p.to_byte) home) in
      (part, ap length (part ∙ kept) ∙ length-text c.args.self.now p c.requires.living)

  value : c.if-first.self-inside.output ≡ take c.args.at all ++ (piece_text all spill p ++ drop (c.args.at + (p.to_byte - p.from_byte)) all)
  value = elim c.if-first.branch [
    | then-first w ↦
        let is = spilled-is w.part-text.result.now w.part-text.ensures.value w.if-first.true in
        ap (λ i. i.output) w.self-inside-is ∙ w.put-middle.ensures.value ∙ (λ j. take c.args.at all ++ (is.0 j ++ drop (c.args.at + is.1 j) all))
    | else-first w ↦
        ap (λ i. i.output) w.self-inside-is ∙ w.put_part-middle.ensures.value
        ∙ ap (λ (h : Bool). take c.args.at all ++ (slice_range (home_bytes all spill h) p.from_byte p.to_byte ++ drop (c.args.at + (p.to_byte - p.from_byte)) all)) (sym w.if-first.false)
  ]

  ends : c.if-first.middle ≡ c.args.at + (p.to_byte - p.from_byte)
  ends = elim c.if-first.branch [
    | then-first w ↦ w.middle-is ∙ w.put-middle.ensures.ends ∙ ap (λ (k : ℕ). c.args.at + k) (spilled-is w.part-text.result.now w.part-text.ensures.value w.if-first.true).1
    | else-first w ↦ w.middle-is ∙ w.put_part-middle.ensures.ends
  ]

-- what fills the gap
abbrev added : goal.After-put → List ℕ
added c = piece_text c.args.self.now.output_text c.args.self.now.spill_text c.args.first ++ c.args.bytes.now

output : (c : goal.After-put) → c.put.new.self
    ≡ take c.args.at c.args.self.now.output_text ++ (added c ++ drop c.args.at c.args.self.now.output_text)
output c =
    let b = c.args.self.now in
    let at = c.args.at in
    let p = c.args.first in
    let bytes = c.args.bytes.now in
    let all = c.self.inside.output in
    let mid = c.if-first.self-inside.output in
    let k = p.to_byte - p.from_byte in
    let text = piece_text b.output_text b.spill_text p in
    let long : length text ≡ k = length-text b p c.requires.living in
    let low = sym (length-take-le at b.output_text c.requires.within) in
    let is : mid ≡ take at all ++ (text ++ drop (at + k) all) = value c ∙ ap (λ (v : List ℕ). take at all ++ (v ++ drop (at + k) all)) (kept c) in
    let done : c.put.new.self ≡ take (at + k) mid ++ (bytes ++ drop (at + k + length bytes) mid) =
    c.put.ensures.value ∙ ap (λ (i : ℕ). take i mid ++ (bytes ++ drop (i + length bytes) mid)) (ends c) in
    both-put (take at b.output_text) (drop at b.output_text) all text bytes mid _ (num c) at k (gap c).gap low (sym long)
    (omega (arith, size c)) is done

long : (c : goal.After-put) → length (added c) ≡ (num c)
long c =
    let b = c.args.self.now in
    let p = c.args.first in
    let both = length-append (piece_text b.output_text b.spill_text p) c.args.bytes.now in
    omega (arith, both, length-text b p c.requires.living, size c)

pub invariant_of-self : goal.invariant_of-self
invariant_of-self c = subst (λ (t : Store). IsStore (record t { output_text = c.put.new.self })) (sym (same c)) (
    IsStore-filled c.args.self.now (store_of c.self.inside) c.args.at (num c) (gap c) _ _ (long c) (output c))

pub returns-clause-edit : goal.returns-clause-edit
returns-clause-edit c = subst (λ (t : Store). IsEdit c.args.self.now (record t { output_text = c.put.new.self })) (sym (same c)) (
    IsEdit-filled c.args.self.now (store_of c.self.inside) c.args.at (num c) (gap c) _ _ (long c) (output c))

pub returns-clause-output : goal.returns-clause-output
returns-clause-output c = output c

pub put-middle-requires : goal.put-middle-requires
unfolding IsLiving shape main_bytes Stands frame_start frame outermost IsOlder IsAsOld inside outside saved scopes
put-middle-requires c = grind (arith, common_steps)

pub put_part-middle-requires-clause-within : goal.put_part-middle-requires-clause-within
unfolding IsLiving shape main_bytes Stands frame_start frame outermost IsOlder IsAsOld inside outside saved scopes
put_part-middle-requires-clause-within c = grind (arith, common_steps)

pub put-requires : goal.put-requires
unfolding IsLiving shape main_bytes Stands frame_start frame outermost IsOlder IsAsOld inside outside saved scopes
put-requires c = grind (arith, common_steps)
