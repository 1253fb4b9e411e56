-- What stands at the end of the output after an insertion, a copy or a join.
use Rattle.std.specs.Prelude.{Some, None}
use Rattle.std.proofs.Common.{◌≡◌, ℕ, ◌+◌, ◌-◌, ◌≤◌, Bool, false, List, [], ◌++◌, length, take, drop, slice_range, refl, sym, ap, ◌∙◌, subst, arith, append_assoc}
use Rattle.std.proofs.lemmas.List.{length-append, length-drop, length-take-le, drop_at, take-append-drop}
use Rattle.std.proofs.lemmas.List.{drop-append-le, drop-drop, drop-take, take_all, drop_all, append-nil, take-append-le}
use Rattle.std.proofs.lemmas.List.{take-take}
use Rattle.std.proofs.lemmas.List.Edits.{length-between}
use Rattle.demangle_text.specs.declared.pieces.Piece.{Piece}
use Rattle.demangle_text.specs.Pieces.{Store, IsTail, IsAdjacent, IsSplice, IsJoint, EndsBy, piece_text, own_text, home_bytes}
use Rattle.demangle_text.specs.Shape.{Shape, text, text_len, plain_shape, inserted, own_shape, opened_group, moved}
use Rattle.demangle_text.specs.Calls.{joined, named, CanInsert, IsDeclared, IsInner, text_after}
use Rattle.demangle_text.specs.Pieces.{Layout, Flat, Cut, Outline, IsLayout, IsAt, IsOutlined, outline_of, whole_outline, shape_of, place_at, layout_with, layout_opened, layout_end, own_at}
use Rattle.demangle_text.specs.State.{IsLiving, shape, Lives, IsEditOf, IsJoinOf, main_bytes, frame, frame_start, Frame, Stands}
use Rattle.demangle_text.specs.declared.pieces.Place.{Place}
use Rattle.demangle_text.specs.declared.pieces.Place.TheVariants.{Suffix}
use Rattle.demangle_text.proofs.Inserts.{Inserts, length-inserted, shape-inserted, IsOutlined-inserted}
use Rattle.demangle_text.proofs.Groups.{Groups, group_text, layout_end_within, shape-opened, IsOutlined-opened}
use Rattle.demangle_text.proofs.Texts.{part-part, front_below}
use Rattle.demangle_text.proofs.States.{Lives-ensure_at_end, text_is, inner_text}

-- the text from a place on, with bytes inserted in it
tail_inserted : (output bytes : List ℕ) (from at : ℕ) → from + at ≤ length output
    → drop from (take (from + at) output ++ (bytes ++ drop (from + at) output)) ≡ take at
    (drop from output) ++ (bytes ++ drop at (drop from output))
tail_inserted output bytes from at h =
    let n = length-take-le (from + at) output h in
    let one = drop-append-le from (take (from + at) output) (bytes ++ drop (from + at) output) (omega arith) in
    let two = drop-take from at output in
    let three : drop (from + at) output ≡ drop at (drop from output) = sym (drop-drop at from output) in
    one ∙ ap (λ (v : List ℕ). v ++ (bytes ++ drop (from + at) output)) two ∙ ap (λ (v : List ℕ). take at (drop from output) ++ (bytes ++ v)) three

-- no byte before an insertion changes
front_inserted : (output bytes : List ℕ) (low at : ℕ) → low ≤ at → at ≤ length output → take low (take at output ++ (bytes ++ drop at output)) ≡ take low output
front_inserted output bytes low at below h =
    let n = length-take-le at output h in
    take-append-le low (take at output) (bytes ++ drop at output) (omega arith) ∙ take-take low at output below

-- nor one before the end of a text that grows
front_longer : (output more : List ℕ) (low : ℕ) → low ≤ length output → take low (output ++ more) ≡ take low output
front_longer output more low h = take-append-le low output more h

-- the text of a piece that ends the output
tail_text : (s : Store) (p : Piece) → IsTail s p → piece_text s.output_text s.spill_text p ≡ drop p.from_byte s.output_text
tail_text s p h =
    ap (λ (home : Bool). slice_range (home_bytes s.output_text s.spill_text home) p.from_byte p.to_byte) h.in_main
    ∙ take_all (p.to_byte - p.from_byte) (drop p.from_byte s.output_text) (omega (arith, h.ends, length-drop p.from_byte s.output_text))

-- an insertion into a piece that ends the output
pub IsSplice-inserted : (s t : Store) (p : Piece) (at : ℕ) (bytes : List ℕ) → IsTail s p → p.from_byte ≤ p.to_byte → at ≤ p.to_byte - p.from_byte
    → t.output_text ≡ take (p.from_byte + at) s.output_text ++ (bytes ++ drop (p.from_byte + at) s.output_text) → IsSplice s t p at bytes p.from_byte
IsSplice-inserted s t p at bytes h ordered within is =
    let output = s.output_text in
    let there : p.from_byte + at ≤ length output = omega (arith, h.ends) in
    let n = ap length is ∙ length-inserted output bytes (p.from_byte + at) in
    record {
      within = omega (arith, n);
      text = ap (drop p.from_byte) is ∙ tail_inserted output bytes p.from_byte at there
          ∙ ap (λ (v : List ℕ). take at v ++ (bytes ++ drop at v)) (sym (tail_text s p h));
      inner = h.inner;
      front = ap (take p.from_byte) is ∙ front_inserted output bytes p.from_byte (p.from_byte + at) (omega arith) there;
      in_place = λ _. (refl, n);
    }

-- a piece inside the innermost mark, with all that stands after it
pub IsSplice-taken : (s : Store) (p : Piece) → IsLiving s p → IsInner s p → IsSplice s s p (p.to_byte - p.from_byte) (text_after s p) p.from_byte
unfolding IsLiving frame frame_start Frame Stands text_after
IsSplice-taken s p lies i =
    let output = s.output_text in
    let t = piece_text output s.spill_text p in
    let at = p.to_byte - p.from_byte in
    let more = drop p.to_byte output in
    let within : p.to_byte ≤ length output = subst (λ (h : Bool). p.to_byte ≤ length (home_bytes output s.spill_text h)) i.stands.in_main lies.within in
    let long : length t ≡ at = length-between (home_bytes output s.spill_text p.spilled) p.from_byte p.to_byte lies.within in
    let front : take at t ≡ t = take_all at t (omega (arith, long)) in
    let none : drop at t ≡ [] = drop_all at t (omega (arith, long)) in
    record {
      within = omega (arith, within, lies.ordered);
      text = inner_text s p lies i ∙ ap (λ (v : List ℕ). t ++ v) (sym (append-nil more))
          ∙ ap (λ (v : List ℕ). t ++ (more ++ v)) (sym none) ∙ ap (λ (v : List ℕ). v ++ (more ++ drop at t)) (sym front);
      inner = omega (arith, i.inner, i.stands.begins);
      front = refl;
      in_place = λ tail. (refl, omega (arith, tail.ends, length-drop p.to_byte output));
    }

-- an edit that spliced bytes into the text of a piece
pub IsEditOf-spliced : (b n : Store) (p q : Piece) (at from : ℕ) (bytes : List ℕ) → IsSplice b n p at bytes from → IsAt q from (length n.output_text) → IsEditOf b n p q (length bytes)
unfolding main_bytes frame frame_start Frame Stands
IsEditOf-spliced b n p q at from bytes s stands = record {
  front = front_below b.output_text n.output_text b.marked_len from s.inner s.front;
  ends = record { from = from; inner = s.inner; front = s.front; stands = stands };
  in_place = λ i inner there.
      let tail : IsTail b p = record { in_main = there.in_main; inner = omega (arith, inner, there.begins); ends = there.ends } in
      let stays = s.in_place tail in
      (subst (λ (k : ℕ). IsAt q k (length n.output_text)) (stays.0 ∙ there.begins) stands, stays.1);
}

-- a copy with the bytes in it, of a piece that doesn't
pub IsSplice-copied : (s t : Store) (p : Piece) (at : ℕ) (bytes : List ℕ) (from : ℕ) → (IsTail s p → ⊥) → s.marked_len ≤ length s.output_text → from ≡ length s.output_text
    → t.output_text ≡ s.output_text ++ (take at (piece_text s.output_text s.spill_text p) ++ (bytes ++ drop at (piece_text s.output_text s.spill_text p))) → IsSplice s t p at bytes from
IsSplice-copied s t p at bytes from apart inner starts is =
    let text = piece_text s.output_text s.spill_text p in
    let more = take at text ++ (bytes ++ drop at text) in
    record {
      within = omega (arith, ap length is ∙ length-append s.output_text more);
      text = ap (drop from) is ∙ drop_at s.output_text more from (sym starts);
      inner = omega (arith, inner, starts);
      front = ap (take from) is ∙ front_longer s.output_text more from (omega (arith, starts));
      in_place = λ h. absurd (apart h);
    }

-- the texts of two pieces that meet and end the output
adjacent_text : (s : Store) (first second : Piece) → IsAdjacent s first second → first.from_byte ≤ first.to_byte → second.from_byte ≤ second.to_byte
    → (piece_text s.output_text s.spill_text first ≡ take (second.from_byte - first.from_byte) (drop first.from_byte s.output_text))
    × (piece_text s.output_text s.spill_text second ≡ drop (second.from_byte - first.from_byte) (drop first.from_byte s.output_text))
adjacent_text s first second h ordered after =
    let output = s.output_text in
    let k = second.from_byte - first.from_byte in
    let by_first = ap (λ (home : Bool). slice_range (home_bytes output s.spill_text home) first.from_byte first.to_byte) h.first_in_main in
    let by_second = ap (λ (home : Bool). slice_range (home_bytes output s.spill_text home) second.from_byte second.to_byte) h.second_in_main in
    let whole = take_all (second.to_byte - second.from_byte) (drop second.from_byte output) (omega (arith, h.ends, length-drop second.from_byte output)) in
    let split : second.from_byte ≡ first.from_byte + k = omega (arith, h.meets) in (
      by_first ∙ ap (λ (i : ℕ). take (i - first.from_byte) (drop first.from_byte output)) h.meets,
      by_second ∙ whole ∙ ap (λ (i : ℕ). drop i output) split ∙ sym (drop-drop k first.from_byte output),
    )

-- an insertion between them
pub IsJoint-inserted : (s t : Store) (first : Piece) (bytes : List ℕ) (second : Piece) → IsAdjacent s first second → first.from_byte ≤ first.to_byte → second.from_byte ≤ second.to_byte
    → t.output_text ≡ take second.from_byte s.output_text ++ (bytes ++ drop second.from_byte s.output_text) → IsJoint s t first bytes second first.from_byte
IsJoint-inserted s t first bytes second h ordered after is =
    let output = s.output_text in
    let k = second.from_byte - first.from_byte in
    let split : second.from_byte ≡ first.from_byte + k = omega (arith, h.meets) in
    let there : first.from_byte + k ≤ length output = omega (arith, h.ends, h.meets) in
    let n = ap length is ∙ length-inserted output bytes second.from_byte in
    let texts = adjacent_text s first second h ordered after in
    record {
      within = omega (arith, n);
      text = ap (drop first.from_byte) is
          ∙ ap (λ (i : ℕ). drop first.from_byte (take i output ++ (bytes ++ drop i output))) split
          ∙ tail_inserted output bytes first.from_byte k there
          ∙ ap (λ (v : List ℕ). v ++ (bytes ++ drop k (drop first.from_byte output))) (sym texts.0)
          ∙ ap (λ (v : List ℕ). piece_text output s.spill_text first ++ (bytes ++ v)) (sym texts.1)
          ∙ sym (append_assoc (piece_text output s.spill_text first) bytes (piece_text output s.spill_text second));
      inner = h.inner;
      front = ap (take first.from_byte) is ∙ front_inserted output bytes first.from_byte second.from_byte (omega (arith, h.meets)) (omega (arith, split));
      in_place = λ _. (refl, n);
      in_front = λ _ _ apart. absurd (apart h);
      -- (the second text is empty then)
      after = λ tail. (refl, n ∙ omega (arith, tail.ends, h.meets, ap length texts.1, length-drop k (drop first.from_byte output), length-drop first.from_byte output));
    }

-- a first piece and a second one that is there with the first before it meet
tails-meet : (s : Store) (first second : Piece) → second.from_byte ≤ second.to_byte → IsTail s second → EndsBy second.from_byte first → IsTail s first → IsAdjacent s first second
tails-meet s first second ordered two before one =
    let by = before one.in_main in
    record { first_in_main = one.in_main; second_in_main = two.in_main; inner = one.inner; meets = omega (arith, by, ordered, one.ends, two.ends); ends = two.ends }

-- the first text and the bytes in front of a second one that ends the output
pub IsJoint-moved : (s t : Store) (first : Piece) (bytes : List ℕ) (second : Piece) → (IsAdjacent s first second → ⊥) → IsTail s second → EndsBy second.from_byte first
    → second.from_byte ≤ second.to_byte
    → t.output_text ≡ take second.from_byte s.output_text ++ ((piece_text s.output_text s.spill_text first ++ bytes) ++ drop second.from_byte s.output_text)
    → IsJoint s t first bytes second second.from_byte
IsJoint-moved s t first bytes second apart h before ordered is =
    let output = s.output_text in
    let more = piece_text output s.spill_text first ++ bytes in
    let at = second.from_byte in
    let there : at ≤ length output = omega (arith, h.ends) in
    let low = length-take-le at output there in
    record {
      within = omega (arith, ap length is ∙ length-inserted output more at);
      text = ap (drop at) is ∙ drop_at (take at output) (more ++ drop at output) at low ∙ ap (λ (v : List ℕ). more ++ v) (sym (tail_text s second h));
      inner = h.inner;
      front = ap (take at) is ∙ front_inserted output more at at (omega arith) there;
      in_place = λ k. absurd (apart k);
      in_front = λ _ _ _. (refl, ap length is ∙ length-inserted output more at ∙ ap (λ (k : ℕ). length output + k) (length-append (piece_text output s.spill_text first) bytes));
      after = λ tail. absurd (apart (tails-meet s first second ordered h before tail));
    }

-- a join of two texts
pub IsJoinOf-joint : (b n : Store) (first second q : Piece) (bytes : List ℕ) (from : ℕ) → IsLiving b first → IsLiving b second → IsJoint b n first bytes second from
    → IsAt q from (length n.output_text)
    → IsJoinOf b n first second q (length bytes)
unfolding main_bytes frame frame_start Frame Stands
IsJoinOf-joint b n first second q bytes from lies two_lies s stands = record {
  front = front_below b.output_text n.output_text b.marked_len from s.inner s.front;
  ends = record { from = from; inner = s.inner; front = s.front; stands = stands };
  in_place = λ i middle inner one two.
      let meet : IsAdjacent b first second =
      record { first_in_main = one.in_main; second_in_main = two.in_main; inner = omega (arith, inner, one.begins); meets = one.ends ∙ sym two.begins; ends = two.ends } in
      let stays = s.in_place meet in
      (subst (λ (k : ℕ). IsAt q k (length n.output_text)) (stays.0 ∙ one.begins) stands, stays.1);
  in_front = λ at inner two before.
      let tail : IsTail b second = record { in_main = two.in_main; inner = omega (arith, inner, two.begins); ends = two.ends } in
      let ends : EndsBy second.from_byte first = λ home. omega (arith, (before first.from_byte first.to_byte (record { in_main = home; begins = refl; ends = refl })).0, two.begins) in
      let apart : IsAdjacent b first second → ⊥ = λ h.
      let less = (before first.from_byte first.to_byte (record { in_main = h.first_in_main; begins = refl; ends = refl })).1 h.inner in
      let k : ⊥ = omega (arith, less, h.meets, two.begins) in k in
      let stays = s.in_front tail ends apart in
      let long : length (piece_text b.output_text b.spill_text first) ≡ text_len (shape b first) = ap length (sym (text_is b first lies)) in (
        subst (λ (k : ℕ). IsAt q k (length n.output_text)) (stays.0 ∙ two.begins) stands,
        stays.1 ∙ ap (λ (k : ℕ). length b.output_text + (k + length bytes)) long,
      );
  after = λ at inner one.
      let stays = s.after (record { in_main = one.in_main; inner = omega (arith, inner, one.begins); ends = one.ends }) in
      let long : length (piece_text b.output_text b.spill_text second) ≡ text_len (shape b second) = ap length (sym (text_is b second two_lies)) in (
        subst (λ (k : ℕ). IsAt q k (length n.output_text)) (stays.0 ∙ one.begins) stands,
        stays.1 ∙ ap (λ (k : ℕ). length b.output_text + (length bytes + k)) long,
      );
}

-- where `after` begins in a text
pub suffix_within : (t : List ℕ) (l : Layout) → IsLayout t l → place_at Suffix l (length t) ≤ length t
suffix_within t Flat h = omega arith
suffix_within t (Cut kind None at) h = h
suffix_within t (Cut kind (Some group) at) h = h.1

-- how long the text of a piece is
pub length-text : (s : Store) (p : Piece) → IsLiving s p → length (piece_text s.output_text s.spill_text p) ≡ p.to_byte - p.from_byte
unfolding IsLiving
length-text s p h = length-between (home_bytes s.output_text s.spill_text p.spilled) p.from_byte p.to_byte h.within

-- a splice of a living piece
module _ (b n : Store) (p : Piece) (at : ℕ) (bytes : List ℕ) (from : ℕ) (lies : IsLiving b p) (i : IsSplice b n p at bytes from) where
  abbrev t : List ℕ
  t = piece_text b.output_text b.spill_text p

  pub splice-long : length n.output_text - from ≡ p.to_byte - p.from_byte + length bytes
  splice-long = sym (length-drop from n.output_text) ∙ ap length i.text ∙ length-inserted t bytes at ∙ ap (λ (k : ℕ). k + length bytes) (length-text b p lies)

  pub own-fits : p.own_end + length bytes ≤ length n.output_text
  unfolding IsLiving
  own-fits = omega (arith, splice-long, i.within, lies.outlined.own_within, length-text b p lies)

  pub layout-fits : layout_end (outline_of p).layout + length bytes ≤ length n.output_text
  unfolding IsLiving
  layout-fits = omega (arith, splice-long, i.within, layout_end_within t (outline_of p).layout lies.outlined.layout, length-text b p lies)

  module _ (q : Piece) (stands : IsAt q from (length n.output_text)) where
    abbrev u : List ℕ
    u = drop from n.output_text

    long : length n.output_text - from ≡ length u
    long = sym (length-drop from n.output_text)

    there : IsAt q q.from_byte (length n.output_text)
    there = record { in_main = stands.in_main; begins = refl; ends = stands.ends }

    ensure_at_end : IsOutlined u (outline_of q) → Lives n q (shape_of u (outline_of q))
    ensure_at_end outlined = Lives-ensure_at_end n q u there (omega (arith, i.within, stands.begins)) (ap (λ (k : ℕ). drop k n.output_text) stands.begins) outlined

    -- the bytes at a place
    pub Lives-inserted : (place : Place) → CanInsert place (shape b p).form → at ≡ place_at place (outline_of p).layout (p.to_byte - p.from_byte)
        → (outline_of q).layout ≡ layout_with place (length bytes) (outline_of p).layout
        → (outline_of q).own ≡ own_at (outline_of p).layout (length n.output_text - from) (moved at (length bytes) (outline_of p).own)
        → q.templ ≡ p.templ → q.ctor ≡ p.ctor → Lives n q (inserted place bytes (shape b p))
    unfolding IsLiving shape
    Lives-inserted place can at_is layout own templ ctor =
        let m = outline_of p in
        let w = outline_of q in
        let at_t : at ≡ place_at place m.layout (length t) = at_is ∙ ap (place_at place m.layout) (sym (length-text b p lies)) in
        let k : Inserts place bytes t u m w = record {
          text = i.text ∙ ap (λ (j : ℕ). take j t ++ (bytes ++ drop j t)) at_t;
          layout = layout;
          own = own ∙ ap (λ (j : ℕ). own_at m.layout j (moved at (length bytes) m.own)) long ∙ ap (λ (j : ℕ). own_at m.layout (length u) (moved j (length bytes) m.own)) at_t;
          templ = templ;
          ctor = ctor;
        } in
        rw (← shape-inserted place bytes t u m w lies.outlined can k) (ensure_at_end (IsOutlined-inserted place bytes t u m w lies.outlined can k))

    -- bytes and a name at the end, which is the base name then
    pub Lives-named : (between name : List ℕ) → bytes ≡ between ++ name → at ≡ p.to_byte - p.from_byte → (outline_of q).layout ≡ Flat
        → (outline_of q).own ≡ (length n.output_text - from - length name, length n.output_text - from)
        → q.templ ≡ false → q.ctor ≡ false → Lives n q (named between name (shape b p))
    unfolding IsLiving shape
    Lives-named between name is at_is layout own templ ctor =
        let before = t ++ between in
        let all : List ℕ = before ++ name in
        let n_all = length-append before name in
        let n_before = length-append t between in
        let n_t = length-text b p lies in
        let n_bytes = ap length is ∙ length-append between name in
        let front : take at t ≡ t = take_all at t (omega (arith, n_t, at_is)) in
        let none : drop at t ≡ [] = drop_all at t (omega (arith, n_t, at_is)) in
        let whole : u ≡ all = i.text ∙ ap (λ (v : List ℕ). v ++ (bytes ++ drop at t)) front ∙ ap (λ (v : List ℕ). t ++ (bytes ++ v)) none
        ∙ ap (λ (v : List ℕ). t ++ v) (append-nil bytes ∙ is) ∙ sym (append_assoc t between name) in
        let m : Outline = record { layout = Flat; own = (length before, length all); templ = false; ctor = false } in
        let starts : length n.output_text - from - length name ≡ length before = omega (arith, splice-long, n_before, n_t, n_bytes) in
        let ends : length n.output_text - from ≡ length all = omega (arith, splice-long, n_all, n_before, n_t, n_bytes) in
        let own_is : (outline_of q).own ≡ (length before, length all) = own ∙ (λ j. (starts j, ends j)) in
        let outline : outline_of q ≡ m = λ j. record { layout = layout j; own = own_is j; templ = templ j; ctor = ctor j } in
        let outlined : IsOutlined all m = record { layout = tt; own_ordered = omega (arith, n_all); own_within = omega arith; own_whole = tt } in
        let lives = ensure_at_end (subst (λ (v : List ℕ). IsOutlined v (outline_of q)) (sym whole) (subst (IsOutlined all) (sym outline) outlined)) in
        let shape_is : shape_of u (outline_of q) ≡ named between name (shape b p) =
        (λ j. shape_of (whole j) (outline j)) ∙ ap (λ (v : List ℕ). shape_of ((v ++ between) ++ name) (record {
          layout = Flat;
          own = (length (v ++ between), length ((v ++ between) ++ name));
          templ = false;
          ctor = false;
        })) (sym (text_is b p lies)) in
        subst (λ (s : Shape). Lives n q s) shape_is lives

    -- a group before `after`, where the bytes are the gap and the group in its parentheses
    pub Lives-opened : (group : List ℕ) → IsDeclared (shape b p).form → at ≡ place_at Suffix (outline_of p).layout (p.to_byte - p.from_byte) → bytes ≡ group_text group (take at t)
        → (outline_of q).layout ≡ layout_opened (length bytes) (length group + 2) (outline_of p).layout
        → (outline_of q).own ≡ own_at (outline_of p).layout (length n.output_text - from) (moved at (length bytes) (outline_of p).own)
        → q.templ ≡ p.templ → q.ctor ≡ p.ctor → Lives n q (opened_group group (shape b p))
    unfolding IsLiving shape
    Lives-opened group declared at_is is layout own templ ctor =
        let m = outline_of p in
        let w = outline_of q in
        let at_t : at ≡ place_at Suffix m.layout (length t) = at_is ∙ ap (place_at Suffix m.layout) (sym (length-text b p lies)) in
        let k : Groups group t u m w at = record {
          place = at_t;
          text = i.text ∙ ap (λ (v : List ℕ). take at t ++ (v ++ drop at t)) is;
          layout = layout ∙ ap (λ (v : List ℕ). layout_opened (length v) (length group + 2) m.layout) is;
          own = own ∙ ap (λ (j : ℕ). own_at m.layout j (moved at (length bytes) m.own)) long ∙ ap (λ (v : List ℕ). own_at m.layout (length u) (moved at (length v) m.own)) is;
          templ = templ;
          ctor = ctor;
        } in
        rw (← shape-opened group t u m w at lies.outlined declared k) (ensure_at_end (IsOutlined-opened group t u m w at lies.outlined declared k))

    -- by how much its text grows
    pub opened-longer : (group : List ℕ) → Lives n q (opened_group group (shape b p)) → length bytes ≡ text_len (opened_group group (shape b p)) - text_len (shape b p)
    unfolding IsLiving shape
    opened-longer group h =
        let new = ap text (sym h.shape_is) ∙ text_is n q h.living in
        let whole = length-text n q h.living in
        let old = ap length (text_is b p lies) in
        omega (arith, ap length new, whole, old, length-text b p lies, splice-long, stands.begins, stands.ends, i.within)

-- both texts with bytes between them
pub Lives-joined : (b n : Store) (first second q : Piece) (bytes : List ℕ) (from : ℕ) → IsLiving b first → IsLiving b second → IsJoint b n first bytes second from
    → IsAt q from (length n.output_text) → outline_of q ≡ whole_outline (length n.output_text - from) → Lives n q (joined (shape b first) bytes (shape b second))
Lives-joined b n first second q bytes from one two i stands outline =
    let u = piece_text b.output_text b.spill_text first ++ bytes ++ piece_text b.output_text b.spill_text second in
    let texts : u ≡ text (shape b first) ++ bytes ++ text (shape b second) =
    ap (λ (v : List ℕ). v ++ bytes ++ piece_text b.output_text b.spill_text second) (sym (text_is b first one))
    ∙ ap (λ (v : List ℕ). text (shape b first) ++ bytes ++ v) (sym (text_is b second two)) in
    let n_is : length n.output_text - from ≡ length u = sym (length-drop from n.output_text) ∙ ap length i.text in
    let outline_is : outline_of q ≡ whole_outline (length u) = outline ∙ ap whole_outline n_is in
    let whole : IsOutlined u (whole_outline (length u)) = record { layout = tt; own_ordered = omega arith; own_within = omega arith; own_whole = tt } in
    let there : IsAt q q.from_byte (length n.output_text) = record { in_main = stands.in_main; begins = refl; ends = stands.ends } in
    let lives = Lives-ensure_at_end n q u there (omega (arith, i.within, stands.begins)) (ap (λ (k : ℕ). drop k n.output_text) stands.begins ∙ i.text) (subst (IsOutlined u) (sym outline_is) whole) in
    record {
      living = lives.living;
      shape_is = lives.shape_is ∙ ap (shape_of u) outline_is ∙ ap plain_shape texts;
    }

-- a text that stands there already
pub kept_only-already : (b : Store) (p : Piece) (at : ℕ) → p.spilled ≡ false → p.from_byte ≡ at
    → p.to_byte ≡ length b.output_text → b.output_text ≡ take at b.output_text ++ piece_text b.output_text b.spill_text p
kept_only-already b p at home begins ends =
    let text : piece_text b.output_text b.spill_text p ≡ drop at b.output_text =
    ap (λ (h : Bool). slice_range (home_bytes b.output_text b.spill_text h) p.from_byte p.to_byte) home
    ∙ take_all (p.to_byte - p.from_byte) (drop p.from_byte b.output_text) (omega (arith, ends, length-drop p.from_byte b.output_text))
    ∙ ap (λ (k : ℕ). drop k b.output_text) begins in
    sym (take-append-drop at b.output_text) ∙ ap (λ (v : List ℕ). take at b.output_text ++ v) (sym text)

-- a copy at the end that becomes the block
pub kept_only-copy : (output mid t : List ℕ) (at from to : ℕ) → mid ≡ output ++ t → at ≤ length output → from ≡ length output → to ≡ length mid → take at mid ++ slice_range mid from to ≡ take at output ++ t
kept_only-copy output mid t at from to is within starts ends =
    let low = ap (take at) is ∙ take-append-le at output t within in
    let block = take_all (to - from) (drop from mid) (omega (arith, ends, length-drop from mid)) ∙ ap (drop from) is ∙ drop_at output t from (sym starts) in
    ap (λ (v : List ℕ). v ++ slice_range mid from to) low ∙ ap (λ (v : List ℕ). take at output ++ v) block

-- they are the text of the base name
pub own_text-is : (b : Store) (p : Piece) → IsLiving b p → own_text b.output_text b.spill_text p ≡ text (own_shape (shape b p))
unfolding IsLiving shape
own_text-is b p lies = ap (λ (v : List ℕ). slice_range v p.own_start p.own_end) (sym (text_is b p lies))

-- so a text with that after it has the base name after it
pub own-spliced : (b n : Store) (p q : Piece) (between : List ℕ) (at from : ℕ) → IsLiving b p → Lives b q (own_shape (shape b p))
    → IsSplice b n p at (between ++ piece_text b.output_text b.spill_text q) from → IsSplice b n p at (between ++ own_text b.output_text b.spill_text p) from
own-spliced b n p q between at from lies name h =
    let same = sym (text_is b q name.living) ∙ ap text name.shape_is ∙ sym (own_text-is b p lies) in
    subst (λ (v : List ℕ). IsSplice b n p at (between ++ v) from) same h

-- how long it is
pub length-own : (b : Store) (p : Piece) → IsLiving b p → length (own_text b.output_text b.spill_text p) ≡ p.own_end - p.own_start
unfolding IsLiving
length-own b p lies = length-between (piece_text b.output_text b.spill_text p) p.own_start p.own_end lies.outlined.own_within

-- the base name as a piece of its own
pub Lives-own : (b : Store) (p q : Piece) → IsLiving b p → q.spilled ≡ p.spilled → q.from_byte ≡ p.from_byte + p.own_start → q.to_byte ≡ p.from_byte + p.own_end
    → outline_of q ≡ whole_outline (p.from_byte + p.own_end - (p.from_byte + p.own_start)) → Lives b q (own_shape (shape b p))
unfolding IsLiving shape
Lives-own b p q lies home begins ends outline =
    let bytes = home_bytes b.output_text b.spill_text p.spilled in
    let t = piece_text b.output_text b.spill_text p in
    let u = slice_range bytes (p.from_byte + p.own_start) (p.from_byte + p.own_end) in
    let n = length-text b p lies in
    let inside : p.from_byte + p.own_end ≤ p.to_byte = omega (arith, n, lies.outlined.own_within, lies.ordered) in
    let m : length u ≡ p.from_byte + p.own_end - (p.from_byte + p.own_start) = length-between bytes (p.from_byte + p.own_start) (p.from_byte + p.own_end) (omega (arith, inside, lies.within)) in
    let here : piece_text b.output_text b.spill_text q ≡ u =
    ap (λ (h : Bool). slice_range (home_bytes b.output_text b.spill_text h) q.from_byte q.to_byte) home
    ∙ ap (λ (k : ℕ). slice_range bytes k q.to_byte) begins ∙ ap (λ (k : ℕ). slice_range bytes (p.from_byte + p.own_start) k) ends in
    let outline_is : outline_of q ≡ whole_outline (length u) = outline ∙ ap whole_outline (sym m) in
    let whole : IsOutlined u (whole_outline (length u)) = record { layout = tt; own_ordered = omega arith; own_within = omega arith; own_whole = tt } in
    let name : u ≡ slice_range (text (shape b p)) p.own_start p.own_end =
    part-part bytes p.from_byte p.to_byte p.own_start p.own_end lies.outlined.own_ordered inside ∙ ap (λ (v : List ℕ). slice_range v p.own_start p.own_end) (sym (text_is b p lies)) in
    record {
      living = record {
        ordered = omega (arith, begins, ends, lies.outlined.own_ordered);
        within = rw home (omega (arith, ends, inside, lies.within));
        outlined = rw (here, outline_is) whole;
      };
      shape_is = ap (λ (v : List ℕ). shape_of v (outline_of q)) here ∙ ap (shape_of u) outline_is ∙ ap plain_shape name;
    }
