-- The text with the group in it stands at the end, and its outline is that of the declarator with the group.
use Rattle.demangle_text.specs.State.{IsAsOld, IsOlder, Stands, frame, frame_start, inside, main_bytes, outermost, outside, saved, scopes}
use Rattle.std.proofs.lemmas.Grind.{elements}
use Rattle.std.proofs.Common.{true, ◌≡◌, ◌-◌, ◌+◌, ◌++◌, ◌∷◌, [], ℕ, List, length, take, drop, sym, ap, ◌∙◌, subst, arith, append_assoc}
use Rattle.std.proofs.lemmas.List.{length-append, length-take-le}
use Rattle.growing_text.proofs.Gaps.{gap-fits, fits-first, fits-second, three-put}
use Rattle.demangle_text.specs.Pieces.{IsAt, outline_of, own_at, place_at, layout_opened, group_from, piece_text}
use Rattle.demangle_text.specs.declared.pieces.Piece.{Piece}
use Rattle.demangle_text.specs.declared.pieces.Place.TheVariants.{Suffix}
use Rattle.demangle_text.specs.Shape.{moved, gap_after}
use Rattle.demangle_text.specs.State.{IsLiving, IsEditOf, shape}
use Rattle.demangle_text.specs.View.{store_of}
use Rattle.demangle_text.proofs.States.{text_is}
use Rattle.demangle_text.proofs.AtEnd.{IsOpen-same, IsStore-put, IsEdit-put, IsSplice-put}
use Rattle.demangle_text.proofs.Groups.{group_text, layout_grouped}
use Rattle.demangle_text.proofs.Tails.{Lives-opened, length-text, suffix_within, opened-longer, own-fits, layout-fits, IsEditOf-spliced}
use Rattle.demangle_text.proofs.buffer.Buffer.open_group.Goals as goal

-- how long the three texts are
length-three : (front bytes : List ℕ) → length (front ++ (bytes ++ 41 ∷ [])) ≡ length front + length bytes + 1
length-three front bytes = omega (arith, length-append front (bytes ++ 41 ∷ []), length-append bytes (41 ∷ []))

-- the place lies in the text
pub slice_bounds-group_opening-end : goal.slice_bounds-group_opening-end
unfolding IsLiving
slice_bounds-group_opening-end c =
    let b = c.args.self.now in
    let p = c.args.piece in
    let t = piece_text b.output_text b.spill_text p in
    let long : length c.bytes.result.now ≡ length t = ap length (c.bytes.ensures.value ∙ text_is b p c.requires.living) in
    let at : c.place-at.result ≡ place_at Suffix (outline_of p).layout (length t) = c.place-at.ensures.value ∙ ap (place_at Suffix (outline_of p).layout) (sym (length-text b p c.requires.living)) in
    let within = suffix_within t (outline_of p).layout c.requires.living.outlined.layout in
    sym (length-take-le c.place-at.result c.bytes.result.now (omega (arith, long, at, within)))

-- the three texts fill the gap for them
pub put-middle-requires : goal.put-middle-requires
put-middle-requires c =
    let b = c.args.self.now in
    let p = c.args.piece in
    let at = c.place-at.result in
    let from = c.in-Ok.value in
    let front = c.group_opening-front.result.now in
    let bytes = c.args.bytes.now in
    let n = length front + length bytes + 1 in
    let o = IsOpen-same b (store_of c.self.inside) _ p at n from c.self.view_is c.in-Ok.ensures.opened in
    let low = sym (length-take-le (from + at) o.output o.within) in
    record { within = gap-fits (take (from + at) o.output) (drop (from + at) o.output) c.self.inside.output n (from + at) (length front) o.gap low (omega arith) }

pub put-end-requires : goal.put-end-requires
put-end-requires c =
    let b = c.args.self.now in
    let p = c.args.piece in
    let at = c.place-at.result in
    let from = c.in-Ok.value in
    let front = c.group_opening-front.result.now in
    let bytes = c.args.bytes.now in
    let n = length front + length bytes + 1 in
    let o = IsOpen-same b (store_of c.self.inside) _ p at n from c.self.view_is c.in-Ok.ensures.opened in
    let low = sym (length-take-le (from + at) o.output o.within) in
    let one = c.put-middle in
    record {
      within = fits-first (take (from + at) o.output) (drop (from + at) o.output) c.self.inside.output front bytes (41 ∷ [])
          one.new.self one.new.self n (from + at) one.result 0 o.gap low (omega arith) one.ensures.value one.ensures.ends;
    }

pub put-requires : goal.put-requires
put-requires c =
    let b = c.args.self.now in
    let p = c.args.piece in
    let at = c.place-at.result in
    let from = c.in-Ok.value in
    let front = c.group_opening-front.result.now in
    let bytes = c.args.bytes.now in
    let n = length front + length bytes + 1 in
    let o = IsOpen-same b (store_of c.self.inside) _ p at n from c.self.view_is c.in-Ok.ensures.opened in
    let low = sym (length-take-le (from + at) o.output o.within) in
    let one = c.put-middle in
    let two = c.put-end in
    record {
      within = fits-second (take (from + at) o.output) (drop (from + at) o.output) c.self.inside.output front bytes (41 ∷ [])
          one.new.self two.new.self n (from + at) one.result two.result o.gap low (omega arith)
          one.ensures.value one.ensures.ends two.ensures.value two.ensures.ends;
    }

pub with_bytes-moved-requires-clause-own_fits : goal.with_bytes-moved-requires-clause-own_fits
with_bytes-moved-requires-clause-own_fits c =
    let b = c.args.self.now in
    let p = c.args.piece in
    let at = c.place-at.result in
    let from = c.in-Ok.value in
    let front = c.group_opening-front.result.now in
    let bytes = c.args.bytes.now in
    let n = length front + length bytes + 1 in
    let o = IsOpen-same b (store_of c.self.inside) _ p at n from c.self.view_is c.in-Ok.ensures.opened in
    let low = sym (length-take-le (from + at) o.output o.within) in
    let output = three-put (take (from + at) o.output) (drop (from + at) o.output) c.self.inside.output front bytes (41 ∷ [])
    c.put-middle.new.self c.put-end.new.self n (from + at) c.put-middle.result c.put-end.result o.gap low (omega arith)
    c.put-middle.ensures.value c.put-middle.ensures.ends c.put-end.ensures.value c.put-end.ensures.ends _ c.put.ensures.value in
    let all = front ++ (bytes ++ 41 ∷ []) in
    let long = length-three front bytes in
    let splice = IsSplice-put b (store_of c.self.inside) p at n from o all c.put.new.self long output in
    let fits = own-fits b _ p at all from c.requires.living splice in
    omega (arith, fits, long, c.len.ensures.value, c.len.type_inv)

pub with_bytes-moved-requires-clause-layout_fits : goal.with_bytes-moved-requires-clause-layout_fits
with_bytes-moved-requires-clause-layout_fits c =
    let b = c.args.self.now in
    let p = c.args.piece in
    let at = c.place-at.result in
    let from = c.in-Ok.value in
    let front = c.group_opening-front.result.now in
    let bytes = c.args.bytes.now in
    let n = length front + length bytes + 1 in
    let o = IsOpen-same b (store_of c.self.inside) _ p at n from c.self.view_is c.in-Ok.ensures.opened in
    let low = sym (length-take-le (from + at) o.output o.within) in
    let output = three-put (take (from + at) o.output) (drop (from + at) o.output) c.self.inside.output front bytes (41 ∷ [])
    c.put-middle.new.self c.put-end.new.self n (from + at) c.put-middle.result c.put-end.result o.gap low (omega arith)
    c.put-middle.ensures.value c.put-middle.ensures.ends c.put-end.ensures.value c.put-end.ensures.ends _ c.put.ensures.value in
    let all = front ++ (bytes ++ 41 ∷ []) in
    let long = length-three front bytes in
    let splice = IsSplice-put b (store_of c.self.inside) p at n from o all c.put.new.self long output in
    let fits = layout-fits b _ p at all from c.requires.living splice in
    omega (arith, fits, long, c.len.ensures.value, c.len.type_inv)

-- `after` begins no earlier than the new group ends
pub overflow_sub-result : goal.overflow_sub-result
unfolding IsLiving shape
overflow_sub-result c =
    let b = c.args.self.now in
    let p = c.args.piece in
    let n = length c.group_opening-front.result.now + length c.args.bytes.now + 1 in
    let with = c.with_bytes-moved.result in
    let grouped = layout_grouped with.kind (group_from with.grouped with.group_start) with.after_start n (length c.args.bytes.now + 2)
    (piece_text b.output_text b.spill_text p) (outline_of p).layout c.requires.declared c.with_bytes-moved.ensures.layout in
    omega (arith, grouped.0, ap length c.group_opening-front.ensures.value, length-append {A = ℕ})

pub invariant_of-self : goal.invariant_of-self
invariant_of-self c =
    let b = c.args.self.now in
    let p = c.args.piece in
    let at = c.place-at.result in
    let from = c.in-Ok.value in
    let front = c.group_opening-front.result.now in
    let bytes = c.args.bytes.now in
    let n = length front + length bytes + 1 in
    let o = IsOpen-same b (store_of c.self.inside) _ p at n from c.self.view_is c.in-Ok.ensures.opened in
    let low = sym (length-take-le (from + at) o.output o.within) in
    let output = three-put (take (from + at) o.output) (drop (from + at) o.output) c.self.inside.output front bytes (41 ∷ [])
    c.put-middle.new.self c.put-end.new.self n (from + at) c.put-middle.result c.put-end.result o.gap low (omega arith)
    c.put-middle.ensures.value c.put-middle.ensures.ends c.put-end.ensures.value c.put-end.ensures.ends _ c.put.ensures.value in
    let all = front ++ (bytes ++ 41 ∷ []) in
    let long = length-three front bytes in
    IsStore-put b (store_of c.self.inside) p at n from o all c.put.new.self long output

pub returns-clause-edit : goal.returns-clause-edit
returns-clause-edit c =
    let b = c.args.self.now in
    let p = c.args.piece in
    let at = c.place-at.result in
    let from = c.in-Ok.value in
    let front = c.group_opening-front.result.now in
    let bytes = c.args.bytes.now in
    let n = length front + length bytes + 1 in
    let o = IsOpen-same b (store_of c.self.inside) _ p at n from c.self.view_is c.in-Ok.ensures.opened in
    let low = sym (length-take-le (from + at) o.output o.within) in
    let output = three-put (take (from + at) o.output) (drop (from + at) o.output) c.self.inside.output front bytes (41 ∷ [])
    c.put-middle.new.self c.put-end.new.self n (from + at) c.put-middle.result c.put-end.result o.gap low (omega arith)
    c.put-middle.ensures.value c.put-middle.ensures.ends c.put-end.ensures.value c.put-end.ensures.ends _ c.put.ensures.value in
    let all = front ++ (bytes ++ 41 ∷ []) in
    let long = length-three front bytes in
    IsEdit-put b (store_of c.self.inside) p at n from o all c.put.new.self long output

pub returns-clause-shape : goal.returns-clause-shape
unfolding IsLiving shape
returns-clause-shape c =
    let b = c.args.self.now in
    let p = c.args.piece in
    let at = c.place-at.result in
    let from = c.in-Ok.value in
    let front = c.group_opening-front.result.now in
    let bytes = c.args.bytes.now in
    let n = length front + length bytes + 1 in
    let o = IsOpen-same b (store_of c.self.inside) _ p at n from c.self.view_is c.in-Ok.ensures.opened in
    let low = sym (length-take-le (from + at) o.output o.within) in
    let output = three-put (take (from + at) o.output) (drop (from + at) o.output) c.self.inside.output front bytes (41 ∷ [])
    c.put-middle.new.self c.put-end.new.self n (from + at) c.put-middle.result c.put-end.result o.gap low (omega arith)
    c.put-middle.ensures.value c.put-middle.ensures.ends c.put-end.ensures.value c.put-end.ensures.ends _ c.put.ensures.value in
    let all = front ++ (bytes ++ 41 ∷ []) in
    let long = length-three front bytes in
    let splice = IsSplice-put b (store_of c.self.inside) p at n from o all c.put.new.self long output in
    let with = c.with_bytes-moved.result in
    let m = c.with_bytes-moved.ensures in
    let q : Piece = record with { group_start = with.after_start - (length bytes + 2); grouped = true } in
    let l = (outline_of p).layout in
    let t = piece_text b.output_text b.spill_text p in
    let stands : IsAt q from (length c.put.new.self) = record { in_main = m.stands.in_main; begins = m.stands.begins; ends = m.stands.ends ∙ c.len.ensures.value } in
    let grouped = layout_grouped with.kind (group_from with.grouped with.group_start) with.after_start n (length bytes + 2) t l c.requires.declared m.layout in
    let gap : front ≡ gap_after (take at t) ++ 40 ∷ [] =
    c.group_opening-front.ensures.value ∙ ap (λ (v : List ℕ). gap_after (take at v) ++ 40 ∷ []) (c.bytes.ensures.value ∙ text_is b p c.requires.living) in
    let is : all ≡ group_text bytes (take at t) =
    ap (λ (v : List ℕ). v ++ (bytes ++ 41 ∷ [])) gap ∙ append_assoc (gap_after (take at t)) (40 ∷ []) (bytes ++ 41 ∷ []) in
    Lives-opened b _ p at all from c.requires.living splice q stands
    bytes c.requires.declared c.place-at.ensures.value is
    (grouped.1 ∙ ap (λ (i : ℕ). layout_opened i (length bytes + 2) l) (sym long))
    (m.own ∙ ap (λ (i : ℕ). own_at l (i - from) (moved at n (outline_of p).own)) c.len.ensures.value
    ∙ ap (λ (i : ℕ). own_at l (length c.put.new.self - from) (moved at i (outline_of p).own)) (sym long))
    m.templ m.ctor

pub returns-clause-edit_of : goal.returns-clause-edit_of
returns-clause-edit_of c =
    let b = c.args.self.now in
    let p = c.args.piece in
    let at = c.place-at.result in
    let from = c.in-Ok.value in
    let front = c.group_opening-front.result.now in
    let bytes = c.args.bytes.now in
    let n = length front + length bytes + 1 in
    let o = IsOpen-same b (store_of c.self.inside) _ p at n from c.self.view_is c.in-Ok.ensures.opened in
    let low = sym (length-take-le (from + at) o.output o.within) in
    let output = three-put (take (from + at) o.output) (drop (from + at) o.output) c.self.inside.output front bytes (41 ∷ [])
    c.put-middle.new.self c.put-end.new.self n (from + at) c.put-middle.result c.put-end.result o.gap low (omega arith)
    c.put-middle.ensures.value c.put-middle.ensures.ends c.put-end.ensures.value c.put-end.ensures.ends _ c.put.ensures.value in
    let all = front ++ (bytes ++ 41 ∷ []) in
    let long = length-three front bytes in
    let splice = IsSplice-put b (store_of c.self.inside) p at n from o all c.put.new.self long output in
    let with = c.with_bytes-moved.result in
    let m = c.with_bytes-moved.ensures in
    let q : Piece = record with { group_start = with.after_start - (length bytes + 2); grouped = true } in
    let stands : IsAt q from (length c.put.new.self) = record { in_main = m.stands.in_main; begins = m.stands.begins; ends = m.stands.ends ∙ c.len.ensures.value } in
    let by = opened-longer b _ p at all from c.requires.living splice q stands bytes (returns-clause-shape c) in
    subst (IsEditOf b _ p q) by (IsEditOf-spliced b _ p q at from all splice stands)

pub open_gap_in-requires-clause-within : goal.open_gap_in-requires-clause-within
unfolding IsLiving shape main_bytes Stands frame_start frame outermost IsOlder IsAsOld inside outside saved scopes
open_gap_in-requires-clause-within c = grind (arith, elements)

pub with_bytes-moved-requires-clause-text : goal.with_bytes-moved-requires-clause-text
unfolding IsLiving shape main_bytes Stands frame_start frame outermost IsOlder IsAsOld inside outside saved scopes
with_bytes-moved-requires-clause-text c = grind (arith, elements)
