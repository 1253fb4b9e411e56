-- A gap in the output, and what fills it.
use Rattle.std.proofs.Common.{◌≡◌, ℕ, ◌+◌, ◌≤◌, Bool, true, false, List, ◌++◌, length, take, drop, slice_range, All, map}
use Rattle.std.proofs.Common.{refl, sym, ap, ◌∙◌, subst, arith, append_assoc}
use Rattle.std.proofs.lemmas.List.{length-drop, length-take-le, take_at}
use Rattle.demangle_text.specs.declared.pieces.Piece.{Piece}
use Rattle.demangle_text.specs.Pieces.{Store, IsStore, IsApart, IsSpilled, EndsBy, carried}
use Rattle.growing_text.specs.Gap.{HasGap}
use Rattle.demangle_text.specs.Pieces.{home_bytes, piece_text}
use Rattle.demangle_text.specs.State.{IsLiving, IsEdit}
use Rattle.demangle_text.specs.Gaps.{IsGap}
use Rattle.demangle_text.proofs.Texts.{Moves, part-below}
use Rattle.growing_text.proofs.Parts.{part-append}
use Rattle.growing_text.proofs.Gaps.{length-HasGap, HasGap-put, HasGap-filled}
use Rattle.demangle_text.proofs.Carried.{Moves-inserted, IsStore-after, IsEdit-after}

-- how long the text with the gap is
pub length-gap : (old new : List ℕ) (at n : ℕ) → at ≤ length old → HasGap (take at old) (drop at old) new n
    → length new ≡ length old + n
length-gap old new at n within h =
    omega (arith, length-HasGap (take at old) (drop at old) new n h, length-take-le at old within, length-drop at old)

-- what would be torn is set aside, and all after a place moves on by n bytes
module _ (s : Store) (m spill : List ℕ) (saved args saved' args' : List Piece) (at n len dest : ℕ)
    (same : m ≡ s.output_text) (a : IsSpilled m s.spill_text spill s.saved_pieces saved s.arg_pieces args)
    (saved_apart : All (IsApart at at len) saved) (args_apart : All (IsApart at at len) args)
    (by_saved : saved' ≡ map (carried at at dest) saved) (by_args : args' ≡ map (carried at at dest) args)
    (i : IsStore s) (inner : s.marked_len ≤ at) (within : at ≤ length s.output_text)
    (by_len : len ≡ length s.output_text) (by_dest : dest ≡ at + n) where
  abbrev gapped : List ℕ → Store
  gapped output = record s { output_text = output; spill_text = spill; saved_pieces = saved'; arg_pieces = args' }

  module _ (output bytes : List ℕ) (long : length bytes ≡ n)
      (is : output ≡ take at s.output_text ++ (bytes ++ drop at s.output_text)) where
    moves : Moves s.output_text output at at len dest
    moves =
        subst (λ (d : ℕ). Moves s.output_text output at at len d) (ap (λ (k : ℕ). at + k) long ∙ sym by_dest)
        (Moves-inserted s.output_text bytes output at len within by_len is)

    IsStore-gapped : IsStore (gapped output)
    IsStore-gapped =
        IsStore-after s m spill saved args same a at at len dest output saved' args' i
        saved_apart args_apart by_saved by_args moves inner

    IsEdit-gapped : IsEdit s (gapped output)
    IsEdit-gapped =
        IsEdit-after s m spill saved args same a at at len dest output saved' args' i
        saved_apart args_apart by_saved by_args moves inner

  module _ (output : List ℕ) (h : HasGap (take at s.output_text) (drop at s.output_text) output n) where
    pub IsStore-opened : IsStore (gapped output)
    IsStore-opened = IsStore-gapped output h.gap h.long h.parts

    pub IsGap-opened : IsGap s (gapped output) at n
    IsGap-opened = record {
      gap = h;
      spill = a.spill;
      consistent = λ bytes long. IsStore-gapped _ bytes long refl;
      edit = λ bytes long. IsEdit-gapped _ bytes long refl;
    }

-- the same store has the gap
pub IsGap-same : (old new s : Store) (at n : ℕ) → s ≡ new → IsGap old new at n → IsGap old s at n
IsGap-same old new s at n same gap = subst (λ (b : Store). IsGap old b at n) (sym same) gap

-- the gap is filled
module _ (old s : Store) (at n : ℕ) (gap : IsGap old s at n) (bytes output : List ℕ) (long : length bytes ≡ n)
    (is : output ≡ take at old.output_text ++ (bytes ++ drop at old.output_text)) where
  pub IsStore-filled : IsStore (record s { output_text = output })
  IsStore-filled = subst (λ (v : List ℕ). IsStore (record s { output_text = v })) (sym is) (gap.consistent bytes long)

  pub IsEdit-filled : IsEdit old (record s { output_text = output })
  IsEdit-filled = subst (λ (v : List ℕ). IsEdit old (record s { output_text = v })) (sym is) (gap.edit bytes long)

-- by one text
pub one-put : (old all bytes new : List ℕ) (at : ℕ) → at ≤ length old
    → HasGap (take at old) (drop at old) all (length bytes)
    → new ≡ take at all ++ (bytes ++ drop (at + length bytes) all) → new ≡ take at old ++ (bytes ++ drop at old)
one-put old all bytes new at within h is =
    let low = sym (length-take-le at old within) in
    HasGap-filled (take at old ++ bytes) (drop at old) new
    (HasGap-put (take at old) (drop at old) all bytes new (length bytes) 0 at (length bytes) h low refl (omega arith) is)
    ∙ append_assoc (take at old) bytes (drop at old)

-- a part of what stands before the gap stays
part-before : (old new : List ℕ) (at n a b : ℕ) → at ≤ length old → HasGap (take at old) (drop at old) new n
    → a ≤ b → b ≤ at → slice_range new a b ≡ slice_range old a b
part-before old new at n a b place h ordered before =
    let low = length-take-le at old place in
    let same : take at new ≡ take at old =
    ap (take at) h.parts ∙ take_at (take at old) (h.gap ++ drop at old) at low in
    part-below old new at a b ordered before place (omega (arith, length-gap old new at n place h)) same

part-kept : (old new : Store) (at n a b : ℕ) (h : Bool) → IsGap old new at n → at ≤ length old.output_text → a ≤ b
    → b ≤ length (home_bytes old.output_text old.spill_text h) → (h ≡ false → b ≤ at)
    → slice_range (home_bytes new.output_text new.spill_text h) a b ≡ slice_range (home_bytes old.output_text old.spill_text h) a b
part-kept old new at n a b false gap place ordered within before =
    part-before old.output_text new.output_text at n a b place gap.gap ordered (before refl)
part-kept old new at n a b true gap place ordered within before =
    ap (λ (v : List ℕ). slice_range v a b) gap.spill.all
    ∙ part-append old.spill_text gap.spill.more a b ordered within

-- a piece that ends by the place keeps its text
module _ (old new : Store) (at n : ℕ) (gap : IsGap old new at n) (place : at ≤ length old.output_text)
    (p : Piece) (lies : IsLiving old p) where
  pub text-kept : EndsBy at p → piece_text new.output_text new.spill_text p ≡ piece_text old.output_text old.spill_text p
  unfolding IsLiving
  text-kept before =
      part-kept old new at n p.from_byte p.to_byte p.spilled gap place lies.ordered lies.within before
