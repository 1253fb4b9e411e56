-- A gap in the output, what fills it, and what else stays as it is.
use Rattle.std.specs.Prelude.{◌≡◌, ℕ, ◌+◌, ◌≤◌, List, ◌++◌, length, take, drop}
use Rattle.demangle_text.specs.Pieces.{Store, IsStore, IsSplice, Extends}
use Rattle.growing_text.specs.Gap.{HasGap}
use Rattle.demangle_text.specs.State.{IsEdit}
use Rattle.demangle_text.specs.declared.pieces.Piece.{Piece}

-- the store where bytes stand at a place of this output
abbrev pub with_gap_filled : List ℕ → ℕ → List ℕ → Store → Store
with_gap_filled output at bytes s = record s { output_text = take at output ++ (bytes ++ drop at output) }

-- the output has a gap of n bytes at a place, and the call is an edit, whatever bytes fill the gap
pub record IsGap (old new : Store) (at n : ℕ) : Type 0 where
  pub gap : HasGap (take at old.output_text) (drop at old.output_text) new.output_text n
  pub spill : Extends old.spill_text new.spill_text
  pub consistent : (bytes : List ℕ) → length bytes ≡ n → IsStore (with_gap_filled old.output_text at bytes new)
  pub edit : (bytes : List ℕ) → length bytes ≡ n → IsEdit old (with_gap_filled old.output_text at bytes new)

-- the output ends in the text of the piece, from a byte on, with a gap of n bytes at a place of it. Whatever bytes
-- fill the gap, the call is an edit, and they are in the text then
pub record IsOpen (old new : Store) (p : Piece) (at n from : ℕ) : Type 0 where
  pub output : List ℕ
  pub within : from + at ≤ length output
  pub gap : HasGap (take (from + at) output) (drop (from + at) output) new.output_text n
  pub consistent : (bytes : List ℕ) → length bytes ≡ n → IsStore (with_gap_filled output (from + at) bytes new)
  pub edit : (bytes : List ℕ) → length bytes ≡ n → IsEdit old (with_gap_filled output (from + at) bytes new)
  pub splice :
      (bytes : List ℕ)
      → length bytes ≡ n
      → IsSplice old (with_gap_filled output (from + at) bytes new) p at bytes from
