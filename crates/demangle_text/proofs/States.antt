-- What stays when a buffer's texts grow, and when the texts that it keeps lie elsewhere.
use Rattle.std.proofs.Common.{◌≡◌, ℕ, ◌+◌, ◌-◌, ◌<◌, ◌≤◌, Bool, true, false, List, [], ◌++◌, length, take, drop, slice_range}
use Rattle.std.proofs.Common.{leb, All, map, refl, sym, ap, ◌∙◌, subst, arith, append_assoc}
use Rattle.std.proofs.Common.{set, get_or}
use Rattle.std.specs.Prelude.{⊤}
use Rattle.std.proofs.Math.Seq.{map-set_same}
use Rattle.std.proofs.lemmas.Bool.{leb-true, leb-false}
use Rattle.std.proofs.lemmas.List.Elements.{All-set, All-get_or, All-weaker}
use Rattle.std.proofs.lemmas.List.{length-append, length-drop, append-nil, drop_at, drop_all, take_all, take-append-le, drop-append-le, drop-drop, take-append-drop}
use Rattle.demangle_text.specs.declared.pieces.Piece.{Piece}
use Rattle.demangle_text.specs.declared.pieces.Mark.{Mark}
use Rattle.demangle_text.specs.Shape.{text}
use Rattle.demangle_text.specs.Pieces.{Store, IsStore, IsPiece, IsAt, IsOutlined, outline_of, shape_of, shape_in, piece_text, home_bytes, Extends}
use Rattle.demangle_text.specs.State.{IsLiving, shape, saved, scopes, main_bytes, Stands, StandsBefore, frame}
use Rattle.demangle_text.specs.State.{frame_start, outermost, inside, outside, Frame, IsOlder, IsAsOld, KeepsAll, Opens}
use Rattle.demangle_text.specs.State.{Lives, parts_at}
use Rattle.demangle_text.specs.Calls.{IsLast, IsInner, text_after}
use Rattle.demangle_text.proofs.Forms.{text-form_of}
use Rattle.growing_text.proofs.Parts.{part-append}
use Rattle.demangle_text.proofs.Texts.{map_same}

home-grown : (output spill m n : List ℕ) (h : Bool) → home_bytes (output ++ m) (spill ++ n) h ≡ home_bytes output spill h ++ home_bytes m n h
home-grown output spill m n false = refl
home-grown output spill m n true = refl

-- the text of a piece stays when both texts grow
module _ (output spill m n : List ℕ) (p : Piece) (h : IsPiece output spill p) where
  piece_text-grown : piece_text (output ++ m) (spill ++ n) p ≡ piece_text output spill p
  piece_text-grown =
      ap (λ (t : List ℕ). slice_range t p.from_byte p.to_byte) (home-grown output spill m n p.spilled)
      ∙ part-append (home_bytes output spill p.spilled) (home_bytes m n p.spilled) p.from_byte p.to_byte h.ordered h.within

  pub IsPiece-grown : IsPiece (output ++ m) (spill ++ n) p
  IsPiece-grown = record {
    ordered = h.ordered;
    within = rw (home-grown output spill m n p.spilled) (omega (arith, length-append (home_bytes output spill p.spilled) (home_bytes m n p.spilled), h.within));
    outlined = rw piece_text-grown h.outlined;
  }

  pub shape_in-grown : shape_in (output ++ m) (spill ++ n) p ≡ shape_in output spill p
  shape_in-grown = ap (λ (t : List ℕ). shape_of t (outline_of p)) piece_text-grown

-- the same when the spill goes on
module _ (output spill new : List ℕ) (e : Extends spill new) where
  shape_in-extends : (p : Piece) → IsPiece output spill p → shape_in output new p ≡ shape_in output spill p
  shape_in-extends p h =
      ap (λ (t : List ℕ). shape_in t new p) (sym (append-nil output)) ∙ ap (λ (t : List ℕ). shape_in (output ++ []) t p) e.all
      ∙ shape_in-grown output spill [] e.more p h

  pub IsPiece-extends : (p : Piece) → IsPiece output spill p → IsPiece output new p
  IsPiece-extends p h =
      let a = IsPiece-grown output spill [] e.more p h in
      subst (λ (t : List ℕ). IsPiece t new p) (append-nil output) (subst (λ (t : List ℕ). IsPiece (output ++ []) t p) (sym e.all) a)

  pub All-extends : (ps : List Piece) → All (IsPiece output spill) ps → All (IsPiece output new) ps
  All-extends ps h = All-weaker (IsPiece output spill) (IsPiece output new) IsPiece-extends ps h

  pub shapes-extends : (ps : List Piece) → All (IsPiece output spill) ps → map (shape_in output new) ps ≡ map (shape_in output spill) ps
  shapes-extends ps h = map_same (IsPiece output spill) (shape_in output new) (shape_in output spill) shape_in-extends ps h

-- a piece of the output, whose text was put at the end of the spill
module _ (output spill new : List ℕ) (p : Piece) (from to : ℕ) (lies : IsPiece output spill p) (home : p.spilled ≡ false)
    (is : new ≡ spill ++ slice_range output p.from_byte p.to_byte) (starts : from ≡ length spill) (ends : to ≡ length new) where
  abbrev pub set_aside : Piece
  set_aside = record p { from_byte = from; to_byte = to; spilled = true }

  text-spilled : slice_range new from to ≡ piece_text output spill p
  text-spilled =
      take_all (to - from) (drop from new) (omega (arith, ends, length-drop from new)) ∙ ap (drop from) is ∙ drop_at spill (slice_range output p.from_byte p.to_byte) from (sym starts)
      ∙ sym (ap (λ (h : Bool). slice_range (home_bytes output spill h) p.from_byte p.to_byte) home)

  pub IsPiece-spilled : IsPiece output new set_aside
  IsPiece-spilled = record {
    ordered = omega (arith, starts, ends, ap length is, length-append spill (slice_range output p.from_byte p.to_byte));
    within = omega (arith, ends);
    outlined = rw text-spilled lies.outlined;
  }

  pub shape-spilled : shape_in output new set_aside ≡ shape_in output spill p
  shape-spilled = ap (λ (t : List ℕ). shape_of t (outline_of p)) text-spilled

-- one piece is replaced by one of the same shape
module _ (output spill new : List ℕ) (ps : List Piece) (i : ℕ) (d q : Piece) where
  pub replaced_lie : Extends spill new → All (IsPiece output spill) ps → IsPiece output new q → All (IsPiece output new) (set ps i q)
  replaced_lie e lie h =
      All-set (IsPiece output new) ps i q h (All-weaker (IsPiece output spill) (IsPiece output new) (IsPiece-extends output spill new e) ps lie)

  pub replaced_shapes : i < length ps → Extends spill new → All (IsPiece output spill) ps
      → shape_in output new q ≡ shape_in output spill (get_or ps i d)
      → map (shape_in output new) (set ps i q) ≡ map (shape_in output spill) ps
  replaced_shapes there e lie same =
      let at = All-get_or (IsPiece output spill) ps i d there lie in
      map-set_same (shape_in output new) ps i q d (same ∙ sym (shape_in-extends output spill new e (get_or ps i d) at)) ∙ shapes-extends output spill new e ps lie

pub Extends-trans : (a b c : List ℕ) → Extends a b → Extends b c → Extends a c
Extends-trans a b c h k = record { more = h.more ++ k.more; all = k.all ∙ ap (λ (v : List ℕ). v ++ k.more) h.all ∙ append_assoc a h.more k.more }

pub Extends-same : (a : List ℕ) → Extends a a
Extends-same a = record { more = []; all = sym (append-nil a) }

-- the store with longer texts
abbrev grown : Store → List ℕ → List ℕ → Store
grown s m n = record s { output_text = s.output_text ++ m; spill_text = s.spill_text ++ n }

KeepsAll-grown : (s : Store) (m n : List ℕ) → IsStore s → KeepsAll s (grown s m n)
unfolding IsLiving shape saved scopes main_bytes frame frame_start Frame
KeepsAll-grown s m n i =
    let same = (λ (p : Piece) (h : IsPiece s.output_text s.spill_text p). shape_in-grown s.output_text s.spill_text m n p h) in
    let f = shape_in (s.output_text ++ m) (s.spill_text ++ n) in
    let g = shape_in s.output_text s.spill_text in
    record {
      pieces = λ p h. record { living = IsPiece-grown s.output_text s.spill_text m n p h; shape_is = same p h };
      frame_same = refl;
      lists = record {
        saved_same = map_same (IsPiece s.output_text s.spill_text) f g same s.saved_pieces i.saved_lie;
        scopes_same = ap (parts_at s.scope_starts) (map_same (IsPiece s.output_text s.spill_text) f g same s.arg_pieces i.args_lie);
      };
      front = take-append-le s.marked_len s.output_text m i.main_frame;
    }

IsStore-grown : (s : Store) (m n : List ℕ) → IsStore s → IsStore (grown s m n)
IsStore-grown s m n i = record {
  saved_lie = λ k d h. IsPiece-grown s.output_text s.spill_text m n _ (i.saved_lie k d h);
  args_lie = λ k d h. IsPiece-grown s.output_text s.spill_text m n _ (i.args_lie k d h);
  starts_fit = i.starts_fit;
  main_frame = omega (arith, length-append s.output_text m, i.main_frame);
}

-- the store with a longer output
abbrev pub longer : Store → List ℕ → Store
longer s m = record s { output_text = s.output_text ++ m }

longer-is : (s : Store) (m : List ℕ) → grown s m [] ≡ longer s m
longer-is s m = ap (λ (v : List ℕ). let t : Store = record s { output_text = s.output_text ++ m; spill_text = v } in t) (append-nil s.spill_text)

pub KeepsAll-longer : (s : Store) (m : List ℕ) → IsStore s → KeepsAll s (longer s m)
KeepsAll-longer s m i = subst (KeepsAll s) (longer-is s m) (KeepsAll-grown s m [] i)

pub IsStore-longer : (s : Store) (m : List ℕ) → IsStore s → IsStore (longer s m)
IsStore-longer s m i = subst IsStore (longer-is s m) (IsStore-grown s m [] i)

-- the kept pieces may lie elsewhere, with the same shapes
pub KeepsAll-elsewhere : (s t : Store) → t.output_text ≡ s.output_text → Extends s.spill_text t.spill_text
    → map (shape_in t.output_text t.spill_text) t.saved_pieces ≡ map (shape_in s.output_text s.spill_text) s.saved_pieces
    → map (shape_in t.output_text t.spill_text) t.arg_pieces ≡ map (shape_in s.output_text s.spill_text) s.arg_pieces
    → t.scope_starts ≡ s.scope_starts → t.marked_len ≡ s.marked_len → KeepsAll s t
unfolding IsLiving shape saved scopes main_bytes frame frame_start Frame
KeepsAll-elsewhere s t by_main by_side by_saved by_args by_starts by_marked_len =
    record {
      pieces = λ p h. record {
        living = rw by_main (IsPiece-extends s.output_text s.spill_text t.spill_text by_side p h);
        shape_is = rw by_main (shape_in-extends s.output_text s.spill_text t.spill_text by_side p h);
      };
      frame_same = cc;
      lists = record { saved_same = by_saved; scopes_same = cc };
      front = ap (take s.marked_len) by_main;
    }

-- a piece of the output that ends it, by its text
pub Lives-ensure_at_end : (s : Store) (p : Piece) (t : List ℕ) → IsAt p p.from_byte (length s.output_text) → p.from_byte ≤ length s.output_text
    → drop p.from_byte s.output_text ≡ t → IsOutlined t (outline_of p) → Lives s p (shape_of t (outline_of p))
unfolding IsLiving shape
Lives-ensure_at_end s p t stands within is outlined =
    let home : piece_text s.output_text s.spill_text p ≡ slice_range s.output_text p.from_byte p.to_byte =
    ap (λ (h : Bool). slice_range (home_bytes s.output_text s.spill_text h) p.from_byte p.to_byte) stands.in_main in
    let here : piece_text s.output_text s.spill_text p ≡ t =
    home ∙ take_all (p.to_byte - p.from_byte) (drop p.from_byte s.output_text) (omega (arith, stands.ends, length-drop p.from_byte s.output_text)) ∙ is in
    record {
      living = record { ordered = omega (arith, stands.ends); within = rw stands.in_main (omega (arith, stands.ends)); outlined = rw here outlined };
      shape_is = ap (λ (u : List ℕ). shape_of u (outline_of p)) here;
    }

-- what lives in the output lies before its end
below_end : (output spill : List ℕ) (end n : ℕ) (h : Bool) → end ≡ length output → n ≤ length (home_bytes output spill h) → h ≡ false → n ≤ end
below_end output spill end n h by_main within e = omega (arith, by_main, rw e at within)

-- a mark is opened at the end of the output
pub Opens-here : (s : Store) (m : Mark) → IsStore s → m.inside_len ≡ length s.output_text → m.outside_len ≡ s.marked_len
    → Opens s (record s { marked_len = m.inside_len }) m
unfolding IsLiving shape saved scopes main_bytes frame frame_start inside outside IsOlder Frame
Opens-here s m i by_main outer = record {
  pieces = λ p h. record { living = h; shape_is = refl };
  older = λ p h. below_end s.output_text s.spill_text m.inside_len p.to_byte p.spilled by_main h.within;
  inside_is = refl;
  outside_is = outer;
  lists = record { saved_same = refl; scopes_same = refl };
  nested = omega (arith, by_main, i.main_frame);
  front = take_all m.inside_len s.output_text (omega (arith, by_main));
}

-- a piece stands at one place
pub Stands-begins : (p : Piece) (from to at end : ℕ) → Stands p from to → Stands p at end → from ≡ at
unfolding Stands
Stands-begins p from to at end one two = sym one.begins ∙ two.begins

-- and what lives ends no earlier than it begins
pub Stands-ordered : (s : Store) (p : Piece) (from to : ℕ) → IsLiving s p → Stands p from to → from ≤ to
unfolding IsLiving Stands
Stands-ordered s p from to lies stands = omega (arith, lies.ordered, stands.begins, stands.ends)

-- it stands up to the end of the output, from the innermost mark or later, or else before that end
pub Stands-tail : (s : Store) (p : Piece) (P : Type 0) → IsLiving s p → ((from : ℕ) → frame_start (frame s) ≤ from → Stands p from (length (main_bytes s)) → P)
    → (StandsBefore s p (length (main_bytes s)) → P) → P
unfolding IsLiving Stands main_bytes frame frame_start Frame
Stands-tail s p P lies tail before = by p.spilled (leb s.marked_len p.from_byte) (leb (length s.output_text) p.to_byte) refl refl refl
  where
    within : p.spilled ≡ false → p.to_byte ≤ length s.output_text
    within home = subst (λ (h : Bool). p.to_byte ≤ length (home_bytes s.output_text s.spill_text h)) home lies.within

    by : (spilled inner ends : Bool) → p.spilled ≡ spilled → leb s.marked_len p.from_byte ≡ inner → leb (length s.output_text) p.to_byte ≡ ends → P
    by true inner ends home from to = before (λ a b at. cc)
    by false true true home from to =
        tail p.from_byte (leb-true _ _ from) (record { in_main = home; begins = refl; ends = omega (arith, within home, leb-true _ _ to) })
    by false false ends home from to =
        before (λ a b at. (omega (arith, within home, at.ends), λ inner. let k : ⊥ = omega (arith, leb-false _ _ from, at.begins, inner) in absurd k))
    by false true false home from to = before (λ a b at. (omega (arith, within home, at.ends), λ inner. omega (arith, leb-false _ _ to, at.ends)))

-- what stands after a piece grows as the output does
pub text_after-more : (s t : Store) (p : Piece) (bytes : List ℕ) → IsLiving s p → IsInner s p → main_bytes t ≡ main_bytes s ++ bytes → text_after t p ≡ text_after s p ++ bytes
unfolding IsLiving Stands main_bytes text_after
text_after-more s t p bytes lies i output =
    let within : p.to_byte ≤ length s.output_text = subst (λ (h : Bool). p.to_byte ≤ length (home_bytes s.output_text s.spill_text h)) i.stands.in_main lies.within in
    ap (drop p.to_byte) output ∙ drop-append-le p.to_byte s.output_text bytes within

-- and stays with it
pub text_after-same : (s t : Store) (p : Piece) → main_bytes t ≡ main_bytes s → text_after t p ≡ text_after s p
unfolding main_bytes text_after
text_after-same s t p output = ap (drop p.to_byte) output

-- nothing stands after what ends the output
pub text_after-last : (s : Store) (p : Piece) → IsLast s p → text_after s p ≡ []
unfolding Stands main_bytes text_after
text_after-last s p l = drop_all p.to_byte s.output_text (omega (arith, l.stands.ends))

-- the output from an inner piece on is its text and what stands after it
pub inner_text : (s : Store) (p : Piece) → IsLiving s p → IsInner s p → drop p.from_byte s.output_text ≡ piece_text s.output_text s.spill_text p ++ drop p.to_byte s.output_text
unfolding IsLiving Stands
inner_text s p lies i =
    let output = s.output_text in
    let at = p.to_byte - p.from_byte in
    let rest = drop p.from_byte output in
    let here : piece_text output s.spill_text p ≡ take at rest = ap (λ (h : Bool). slice_range (home_bytes output s.spill_text h) p.from_byte p.to_byte) i.stands.in_main in
    let split : p.to_byte ≡ p.from_byte + at = omega (arith, lies.ordered) in
    let after : drop p.to_byte output ≡ drop at rest = ap (λ (k : ℕ). drop k output) split ∙ sym (drop-drop at p.from_byte output) in
    sym (take-append-drop at rest) ∙ ap (λ (v : List ℕ). v ++ drop at rest) (sym here) ∙ ap (λ (v : List ℕ). piece_text output s.spill_text p ++ v) (sym after)

-- the text of a living piece is that of its bytes
pub text_is : (s : Store) (p : Piece) → IsLiving s p → text (shape s p) ≡ piece_text s.output_text s.spill_text p
unfolding IsLiving shape
text_is s p h = text-form_of (piece_text s.output_text s.spill_text p) (outline_of p).layout h.outlined.layout

-- the output is what stands before an inner piece, its text and what stands after it
pub main_split : (s : Store) (p : Piece) → IsLiving s p → (i : IsInner s p) → main_bytes s ≡ take i.from (main_bytes s) ++ (text (shape s p) ++ text_after s p)
unfolding Stands main_bytes text_after
main_split s p lies i =
    let output = s.output_text in
    sym (take-append-drop i.from output) ∙ ap (λ (v : List ℕ). take i.from output ++ v)
    (ap (λ (k : ℕ). drop k output) (sym i.stands.begins) ∙ inner_text s p lies i ∙ ap (λ (v : List ℕ). v ++ drop p.to_byte output) (sym (text_is s p lies)))

-- the same as it was
pub unchanged : (s new : Store) → new.output_text ≡ s.output_text → new.spill_text ≡ s.spill_text → new.saved_pieces ≡ s.saved_pieces → new.arg_pieces ≡ s.arg_pieces
    → new.scope_starts ≡ s.scope_starts → new.marked_len ≡ s.marked_len → KeepsAll s new
unfolding IsLiving shape
unchanged s new by_main by_side by_saved by_args by_starts by_marked_len =
    let e : new ≡ s = λ j. record {
      output_text = by_main j;
      spill_text = by_side j;
      saved_pieces = by_saved j;
      arg_pieces = by_args j;
      scope_starts = by_starts j;
      marked_len = by_marked_len j;
    } in
    rw e (record {
      pieces = λ p h. record { living = h; shape_is = refl };
      frame_same = refl;
      lists = record { saved_same = refl; scopes_same = refl };
      front = refl;
    })

-- the lemmas for the calls of a buffer
pub ruleset states = (KeepsAll-longer, IsStore-longer, text-form_of, unchanged)

-- the definitions that they open
unfoldable pub internals : ⊤
unfolding IsLiving shape saved scopes main_bytes Stands frame outermost inside outside frame_start IsOlder IsAsOld
internals = tt
