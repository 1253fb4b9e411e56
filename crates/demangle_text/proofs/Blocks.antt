-- The block of the output that `close` keeps: the text of a piece, or a copy of it at the end.
use Rattle.std.proofs.Common.{◌≡◌, ℕ, ◌≤◌, Bool, false, List, ◌++◌, length, take, slice_range, refl, sym, ap, ◌∙◌, subst, arith}
use Rattle.std.proofs.lemmas.List.{length-append}
use Rattle.demangle_text.specs.Pieces.{Store, IsStore, home_bytes}
use Rattle.demangle_text.specs.State.{KeepsAll}
use Rattle.demangle_text.proofs.States.{KeepsAll-longer, IsStore-longer, unchanged}
use Rattle.demangle_text.proofs.Tails.{kept_only-copy}

-- the block has the text, and nothing else changed
pub record IsBlock (s mid : Store) (text : List ℕ) (at from to : ℕ) : Type 0 where
  pub keeps : KeepsAll s mid
  pub store : IsStore mid
  pub inner : mid.marked_len ≤ at
  pub low : at ≤ length mid.output_text
  pub ordered : from ≤ to
  pub within : to ≤ length mid.output_text
  pub has : take at mid.output_text ++ slice_range mid.output_text from to ≡ take at s.output_text ++ text

-- a part of the output, where it stands
pub IsBlock-here : (s : Store) (spilled : Bool) (at from to : ℕ) → IsStore s → s.marked_len ≡ at → spilled ≡ false → from ≤ to
    → to ≤ length (home_bytes s.output_text s.spill_text spilled) → IsBlock s s (slice_range (home_bytes s.output_text s.spill_text spilled) from to) at from to
IsBlock-here s spilled at from to i mark home ordered within =
    let here = ap (home_bytes s.output_text s.spill_text) home in
    record {
      keeps = unchanged s s refl refl refl refl refl refl;
      store = i;
      inner = omega (arith, mark);
      low = omega (arith, mark, i.main_frame);
      ordered = ordered;
      within = omega (arith, within, ap length here);
      has = ap (λ (v : List ℕ). take at s.output_text ++ slice_range v from to) (sym here);
    }

-- a copy of a text at the end
pub IsBlock-copied : (s : Store) (t output : List ℕ) (at from to : ℕ) → IsStore s → s.marked_len ≡ at
    → output ≡ s.output_text ++ t → from ≡ length s.output_text → to ≡ length output → IsBlock s (record s { output_text = output }) t at from to
IsBlock-copied s t output at from to i mark is starts ends =
    let long = ap length is ∙ length-append s.output_text t in
    record {
      keeps = subst (λ (v : List ℕ). KeepsAll s (record s { output_text = v })) (sym is) (KeepsAll-longer s t i);
      store = subst (λ (v : List ℕ). IsStore (record s { output_text = v })) (sym is) (IsStore-longer s t i);
      inner = omega (arith, mark);
      low = omega (arith, mark, i.main_frame, long);
      ordered = omega (arith, starts, ends, long);
      within = omega (arith, ends);
      has = kept_only-copy s.output_text output t at from to is (omega (arith, mark, i.main_frame)) starts ends;
    }
