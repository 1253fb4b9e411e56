-- A text that ends the output, and what is put after it or into it there.
use Rattle.std.proofs.Common.{◌≡◌, ℕ, ◌+◌, ◌-◌, ◌≤◌, Bool, true, false, List, ◌++◌, length, take, drop, slice_range, refl, sym, ap, ◌∙◌, subst, arith, append_assoc}
use Rattle.std.proofs.lemmas.List.{length-append, length-drop, length-take-le, take_at, drop_at, take_all, drop_all, append-nil, take-append-le, drop-append-le, take-append-drop}
use Rattle.demangle_text.specs.declared.pieces.Piece.{Piece}
use Rattle.growing_text.specs.Gap.{HasGap}
use Rattle.growing_text.proofs.Parts.{part-append}
use Rattle.demangle_text.specs.Pieces.{Store, IsStore, IsTail, IsTailAt, HasAtEnd, IsSplice, IsAdjacent, IsJoint, EndsBy, Extends, home_bytes, piece_text}
use Rattle.demangle_text.specs.State.{IsLiving, KeepsAll, IsEdit}
use Rattle.demangle_text.specs.Gaps.{IsGap, IsOpen, with_gap_filled}
use Rattle.demangle_text.proofs.Laws.{IsEdit-keeps}
use Rattle.demangle_text.proofs.States.{KeepsAll-longer, IsStore-longer, Extends-same, Extends-trans, unchanged}
use Rattle.demangle_text.proofs.Tails.{IsSplice-inserted, IsSplice-copied, length-text}

-- whether a piece ends the output is asked by the output's length
pub tail-is : (s b : Store) (p : Piece) (len : ℕ) → s ≡ b → len ≡ length s.output_text → IsTailAt s.marked_len len p → IsTail b p
tail-is s b p len same by h = subst (λ (v : Store). IsTail v p) same (subst (λ (k : ℕ). IsTailAt s.marked_len k p) by h)

pub is-tail : (s b : Store) (p : Piece) (len : ℕ) → s ≡ b → len ≡ length s.output_text → IsTail b p → IsTailAt s.marked_len len p
is-tail s b p len same by h = subst (λ (k : ℕ). IsTailAt s.marked_len k p) (sym by) (subst (λ (v : Store). IsTail v p) (sym same) h)

-- a piece that ends where one at the end begins
pub adjacent-is : (s b : Store) (first second : Piece) → s ≡ b → IsTailAt s.marked_len second.from_byte first → IsTail b second → IsAdjacent b first second
adjacent-is s b first second same h tail =
    let k = subst (λ (v : Store). IsTailAt v.marked_len second.from_byte first) same h in
    record { first_in_main = k.in_main; second_in_main = tail.in_main; inner = k.inner; meets = k.ends; ends = tail.ends }

pub is-adjacent : (s b : Store) (first second : Piece) → s ≡ b → IsAdjacent b first second → IsTailAt s.marked_len second.from_byte first
is-adjacent s b first second same h =
    subst (λ (v : Store). IsTailAt v.marked_len second.from_byte first) (sym same) (record { in_main = h.first_in_main; inner = h.inner; ends = h.meets })

pub adjacent-tail : (b : Store) (first second : Piece) → IsLiving b first → IsAdjacent b first second → IsTail b second
unfolding IsLiving
adjacent-tail b first second lies h = record { in_main = h.second_in_main; inner = omega (arith, h.inner, h.meets, lies.ordered); ends = h.ends }

-- one that ends it already
pub HasAtEnd-stays : (output spill : List ℕ) (mark : ℕ) (p : Piece) → p.from_byte ≤ p.to_byte → IsTailAt mark (length output) p → HasAtEnd output spill mark p output p.from_byte
HasAtEnd-stays output spill mark p ordered h = record {
  begins = omega (arith, h.ends);
  text =
      let here = ap (λ (home : Bool). slice_range (home_bytes output spill home) p.from_byte p.to_byte) h.in_main in
      let whole = take_all (p.to_byte - p.from_byte) (drop p.from_byte output) (omega (arith, h.ends, length-drop p.from_byte output)) in
      sym (here ∙ whole);
  inner = h.inner;
  front = refl;
  longer = Extends-same output;
  in_place = λ _. (refl, refl);
}

-- what was added after it goes again
pub taken-back : (output mid new : List ℕ) (len : ℕ) → len ≡ length output → Extends output mid → new ≡ take len mid → new ≡ output
taken-back output mid new len long e is = is ∙ ap (take len) e.all ∙ take_at output e.more len (sym long)

-- bytes after it
module _ (s : Store) (mid bytes output : List ℕ) (i : IsStore s) (e : Extends s.output_text mid) (is : output ≡ mid ++ bytes) where
  all : output ≡ s.output_text ++ (e.more ++ bytes)
  all = is ∙ ap (λ (v : List ℕ). v ++ bytes) e.all ∙ append_assoc s.output_text e.more bytes

  pub IsStore-extended : IsStore (record s { output_text = output })
  IsStore-extended = subst (λ (v : List ℕ). IsStore (record s { output_text = v })) (sym all) (IsStore-longer s (e.more ++ bytes) i)

  pub IsEdit-extended : IsEdit s (record s { output_text = output })
  IsEdit-extended = subst (λ (v : List ℕ). IsEdit s (record s { output_text = v })) (sym all) (IsEdit-keeps s _ (KeepsAll-longer s (e.more ++ bytes) i))

pub IsSplice-extended : (s t : Store) (p : Piece) (mid bytes : List ℕ) (from : ℕ) → IsLiving s p → HasAtEnd s.output_text s.spill_text s.marked_len p mid from
    → t.output_text ≡ mid ++ bytes → IsSplice s t p (p.to_byte - p.from_byte) bytes from
unfolding IsLiving
IsSplice-extended s t p mid bytes from lies b is =
    let text = piece_text s.output_text s.spill_text p in
    let k = p.to_byte - p.from_byte in
    let within : from ≤ length mid = omega (arith, b.begins) in
    let whole : length text ≤ k = omega (arith, length-text s p lies) in
    let longer = ap length is ∙ length-append mid bytes in
    record {
      within = omega (arith, longer, within);
      text = ap (drop from) is ∙ drop-append-le from mid bytes within ∙ ap (λ (v : List ℕ). v ++ bytes) b.text
          ∙ ap (λ (v : List ℕ). text ++ v) (sym (append-nil bytes))
          ∙ ap (λ (v : List ℕ). text ++ (bytes ++ v)) (sym (drop_all k text whole))
          ∙ ap (λ (v : List ℕ). v ++ (bytes ++ drop k text)) (sym (take_all k text whole));
      inner = b.inner;
      front = ap (take from) is ∙ take-append-le from mid bytes within ∙ b.front;
      in_place = λ h.
          let stays = b.in_place h in
          (stays.0, longer ∙ ap (λ (v : List ℕ). length v + length bytes) stays.1);
    }

-- the same for the buffer that these fields are
pub IsSplice-added : (s b : Store) (output : List ℕ) (p : Piece) (mid bytes : List ℕ) (from : ℕ) → s ≡ b → IsLiving b p
    → HasAtEnd s.output_text s.spill_text s.marked_len p mid from → output ≡ mid ++ bytes
    → IsSplice b (record s { output_text = output }) p (p.to_byte - p.from_byte) bytes from
IsSplice-added s b output p mid bytes from same lies at_end is =
    subst (λ (v : Store). IsSplice v (record s { output_text = output }) p (p.to_byte - p.from_byte) bytes from) same
    (IsSplice-extended s (record s { output_text = output }) p mid bytes from (subst (λ (v : Store). IsLiving v p) (sym same) lies) at_end is)

-- a part stays when the output grows
part-longer : (output spill more : List ℕ) (h : Bool) (a b : ℕ) → a ≤ b → b ≤ length (home_bytes output spill h)
    → slice_range (home_bytes (output ++ more) spill h) a b ≡ slice_range (home_bytes output spill h) a b
part-longer output spill more false a b ordered within = part-append output more a b ordered within
part-longer output spill more true a b ordered within = refl

pub text-at_end : (s : Store) (mid : List ℕ) (p : Piece) → IsLiving s p → Extends s.output_text mid → piece_text mid s.spill_text p ≡ piece_text s.output_text s.spill_text p
unfolding IsLiving
text-at_end s mid p lies e =
    ap (λ (v : List ℕ). piece_text v s.spill_text p) e.all ∙ part-longer s.output_text s.spill_text e.more p.spilled p.from_byte p.to_byte lies.ordered lies.within

-- bytes and another text after it, put there one after the other
pub Extends-more : (old mid new bytes : List ℕ) → Extends old mid → new ≡ mid ++ bytes → Extends old new
Extends-more old mid new bytes e is = Extends-trans old mid new e (record { more = bytes; all = is })

pub both-added : (s : Store) (mid bytes one two : List ℕ) (other : Piece) → IsLiving s other → Extends s.output_text mid → one ≡ mid ++ bytes
    → two ≡ one ++ piece_text one s.spill_text other → two ≡ mid ++ (bytes ++ piece_text s.output_text s.spill_text other)
both-added s mid bytes one two other lies e is_one is_two =
    let same = text-at_end s one other lies (Extends-more s.output_text mid one bytes e is_one) in
    is_two ∙ ap (λ (v : List ℕ). one ++ v) same ∙ ap (λ (v : List ℕ). v ++ piece_text s.output_text s.spill_text other) is_one
    ∙ append_assoc mid bytes (piece_text s.output_text s.spill_text other)

-- bytes and another text after it join both
pub IsJoint-spliced : (s t : Store) (first : Piece) (bytes : List ℕ) (second : Piece) (from : ℕ) → (IsAdjacent s first second → ⊥)
    → (IsTail s second → EndsBy second.from_byte first → ⊥) → IsLiving s first
    → IsSplice s t first (first.to_byte - first.from_byte) (bytes ++ piece_text s.output_text s.spill_text second) from → IsJoint s t first bytes second from
IsJoint-spliced s t first bytes second from apart later lies h =
    let one = piece_text s.output_text s.spill_text first in
    let two = piece_text s.output_text s.spill_text second in
    let k = first.to_byte - first.from_byte in
    let whole : length one ≤ k = omega (arith, length-text s first lies) in
    record {
      within = h.within;
      text = h.text ∙ ap (λ (v : List ℕ). v ++ ((bytes ++ two) ++ drop k one)) (take_all k one whole) ∙ ap (λ (v : List ℕ). one ++ ((bytes ++ two) ++ v)) (drop_all k one whole)
          ∙ ap (λ (v : List ℕ). one ++ v) (append-nil (bytes ++ two)) ∙ sym (append_assoc one bytes two);
      inner = h.inner;
      front = h.front;
      in_place = λ meet. absurd (apart meet);
      in_front = λ tail before _. absurd (later tail before);
      after = λ tail.
          let stays = h.in_place tail in
          (stays.0, stays.1 ∙ ap (λ (n : ℕ). length s.output_text + n) (length-append bytes two));
    }

-- a gap in a text that ends the output
pub IsOpen-tail : (s t : Store) (p : Piece) (at n : ℕ) → IsTail s p → p.from_byte ≤ p.to_byte → at ≤ p.to_byte - p.from_byte → IsGap s t (p.from_byte + at) n → IsOpen s t p at n p.from_byte
IsOpen-tail s t p at n h ordered place gap = record {
  output = s.output_text;
  within = omega (arith, h.ends);
  gap = gap.gap;
  consistent = gap.consistent;
  edit = gap.edit;
  splice = λ bytes long. IsSplice-inserted s (with_gap_filled s.output_text (p.from_byte + at) bytes t) p at bytes h ordered place refl;
}

-- bytes in the copy of a text
in-copy : (output text bytes : List ℕ) (from at : ℕ) → from ≡ length output → at ≤ length text
    → take (from + at) (output ++ text) ++ (bytes ++ drop (from + at) (output ++ text)) ≡ output ++ (take at text ++ (bytes ++ drop at text))
in-copy output text bytes from at starts within =
    let split : output ++ text ≡ (output ++ take at text) ++ drop at text =
    ap (λ (v : List ℕ). output ++ v) (sym (take-append-drop at text)) ∙ sym (append_assoc output (take at text) (drop at text)) in
    let front : length (output ++ take at text) ≡ from + at = omega (arith, length-append output (take at text), length-take-le at text within, starts) in
    let low = ap (take (from + at)) split ∙ take_at (output ++ take at text) (drop at text) (from + at) front in
    let high = ap (drop (from + at)) split ∙ drop_at (output ++ take at text) (drop at text) (from + at) front in
    ap (λ (v : List ℕ). v ++ (bytes ++ drop (from + at) (output ++ text))) low ∙ ap (λ (v : List ℕ). (output ++ take at text) ++ (bytes ++ v)) high
    ∙ append_assoc output (take at text) (bytes ++ drop at text)

-- a gap in a copy
module _ (s : Store) (p : Piece) (mid all : List ℕ) (at n from : ℕ) (i : IsStore s) (lies : IsLiving s p) (apart : IsTail s p → ⊥)
    (starts : from ≡ length s.output_text) (place : at ≤ p.to_byte - p.from_byte) (copied : mid ≡ s.output_text ++ piece_text s.output_text s.spill_text p)
    (gap : HasGap (take (from + at) mid) (drop (from + at) mid) all n) where
  abbrev text : List ℕ
  text = piece_text s.output_text s.spill_text p

  abbrev filled : List ℕ → List ℕ
  filled bytes = take (from + at) mid ++ (bytes ++ drop (from + at) mid)

  filled-is : (bytes : List ℕ) → filled bytes ≡ s.output_text ++ (take at text ++ (bytes ++ drop at text))
  filled-is bytes =
      ap (λ (v : List ℕ). take (from + at) v ++ (bytes ++ drop (from + at) v)) copied
      ∙ in-copy s.output_text text bytes from at starts (omega (arith, length-text s p lies))

  pub IsOpen-copied : IsOpen s (record s { output_text = all }) p at n from
  IsOpen-copied = record {
    output = mid;
    within = omega (arith, ap length copied, length-append s.output_text text, length-text s p lies, starts, place);
    gap = gap;
    consistent = λ bytes long. subst (λ (v : List ℕ). IsStore (record s { output_text = v })) (sym (filled-is bytes)) (IsStore-longer s _ i);
    edit = λ bytes long. subst (λ (v : List ℕ). IsEdit s (record s { output_text = v })) (sym (filled-is bytes)) (IsEdit-keeps s _ (KeepsAll-longer s _ i));
    splice = λ bytes long. IsSplice-copied s (record s { output_text = filled bytes }) p at bytes from apart i.main_frame starts (filled-is bytes);
  }

  -- it is consistent whatever stands in the gap
  pub IsStore-copied : IsStore (record s { output_text = all })
  IsStore-copied =
      subst (λ (v : List ℕ). IsStore (record s { output_text = v })) (sym (gap.parts ∙ filled-is gap.gap)) (IsStore-longer s _ i)

-- the same store has the gap
pub IsOpen-same : (old s new : Store) (p : Piece) (at n from : ℕ) → s ≡ new → IsOpen old new p at n from → IsOpen old s p at n from
IsOpen-same old s new p at n from same open_gap = subst (λ (b : Store). IsOpen old b p at n from) (sym same) open_gap

-- the gap is filled
module _ (old s : Store) (p : Piece) (at n from : ℕ) (o : IsOpen old s p at n from) (bytes output : List ℕ) (long : length bytes ≡ n)
    (is : output ≡ take (from + at) o.output ++ (bytes ++ drop (from + at) o.output)) where
  pub IsStore-put : IsStore (record s { output_text = output })
  IsStore-put = subst (λ (v : List ℕ). IsStore (record s { output_text = v })) (sym is) (o.consistent bytes long)

  pub IsEdit-put : IsEdit old (record s { output_text = output })
  IsEdit-put = subst (λ (v : List ℕ). IsEdit old (record s { output_text = v })) (sym is) (o.edit bytes long)

  pub IsSplice-put : IsSplice old (record s { output_text = output }) p at bytes from
  IsSplice-put = subst (λ (v : List ℕ). IsSplice old (record s { output_text = v }) p at bytes from) (sym is) (o.splice bytes long)

-- what failed after it left nothing
pub nothing-left : (output mid done new : List ℕ) (len : ℕ) → len ≡ length output → Extends output mid → done ≡ mid → new ≡ take len done → new ≡ output
nothing-left output mid done new len long e failed is = taken-back output mid new len long e (is ∙ ap (take len) failed)

-- so all is as it was
pub KeepsAll-left : (s : Store) (mid done new : List ℕ) (len : ℕ) → len ≡ length s.output_text → Extends s.output_text mid → done ≡ mid → new ≡ take len done
    → KeepsAll s (record s { output_text = new })
KeepsAll-left s mid done new len long e failed is =
    unchanged s (record s { output_text = new }) (nothing-left s.output_text mid done new len long e failed is) refl refl refl refl refl
