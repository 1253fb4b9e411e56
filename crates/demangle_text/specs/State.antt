-- What a buffer is to its callers: the shapes of its pieces, its frames, its saved shapes and its scopes.
use Rattle.std.specs.Prelude.{◌≡◌, ℕ, ◌≤◌, ◌<◌, List, [], ◌∷◌, ◌++◌, ◌+◌, ◌-◌, length, take, drop}
use Rattle.std.specs.Prelude.{slice_range, slice_index_or, slice_set, map}
use Rattle.demangle_text.specs.Shape.{Shape, text_len}
use Rattle.demangle_text.specs.Pieces.{Store, IsPiece, IsAt, EndsBy, shape_in}
use Rattle.demangle_text.specs.declared.pieces.Piece.{Piece}
use Rattle.demangle_text.specs.declared.pieces.Mark.{Mark}

-- the piece lives in the buffer
unfoldable pub IsLiving : Store → Piece → Type 0
IsLiving b p = IsPiece b.output_text b.spill_text p

-- the shape that a living piece stands for
unfoldable pub shape : Store → Piece → Shape
shape b p = shape_in b.output_text b.spill_text p

-- the saved shapes, the first one saved first
unfoldable pub saved : Store → List Shape
saved b = map (shape b) b.saved_pieces

-- a list cut where its parts begin
abbrev pub parts_at : {X : Type 0} → List ℕ → List X → List (List X)
parts_at [] xs = []
parts_at (start ∷ []) xs = drop start xs ∷ []
parts_at (start ∷ next ∷ rest) xs = slice_range xs start next ∷ parts_at (next ∷ rest) xs

-- the scopes, the outermost first, each with its arguments
unfoldable pub scopes : Store → List (List Shape)
scopes b = parts_at b.scope_starts (map (shape b) b.arg_pieces)

-- the bytes of the output
unfoldable pub main_bytes : Store → List ℕ
main_bytes b = b.output_text

-- the piece stands at these bytes of the output, from the first one up to the second
unfoldable pub Stands : Piece → ℕ → ℕ → Type 0
Stands p from to = IsAt p from to

-- a frame: the part of the output from one open mark to the next, given by the byte at which it begins
unfoldable pub Frame : Type 0
Frame = ℕ

-- the frame of a buffer whose innermost mark is at the start of the output, or that has no open mark
unfoldable pub outermost : Frame
unfolding Frame
outermost = 0

-- the frame inside the innermost open mark
unfoldable pub frame : Store → Frame
unfolding Frame
frame b = b.marked_len

-- the frame inside a mark, and the one outside it
unfoldable pub inside : Mark → Frame
unfolding Frame
inside m = m.inside_len

unfoldable pub outside : Mark → Frame
unfolding Frame
outside m = m.outside_len

-- the byte of the output at which a frame begins
unfoldable pub frame_start : Frame → ℕ
unfolding Frame
frame_start f = f

-- p is older than f: p is in the spill, whose bytes stay, or it ends at the byte at which f begins or earlier
unfoldable pub IsOlder : Piece → Frame → Type 0
unfolding Frame
IsOlder p f = EndsBy f p

-- q is at least as old as p: q is older than every frame that p is older than
unfoldable pub IsAsOld : Piece → Piece → Type 0
IsAsOld p q = (f : Frame) → IsOlder p f → IsOlder q f

-- the piece lives with the shape
pub record Lives (b : Store) (p : Piece) (s : Shape) : Type 0 where
  pub living : IsLiving b p
  pub shape_is : shape b p ≡ s

-- every living piece keeps its shape
abbrev pub KeepsPieces : Store → Store → Type 0
KeepsPieces old new = (p : Piece) → IsLiving old p → Lives new p (shape old p)

-- every living piece that was made before the frame keeps its shape
abbrev pub KeepsOlder : Frame → Store → Store → Type 0
KeepsOlder f old new = (p : Piece) → IsLiving old p → IsOlder p f → Lives new p (shape old p)

-- no byte of the output before the innermost mark changes
abbrev pub KeepsFront : Store → Store → Type 0
KeepsFront old new = take (frame_start (frame old)) (main_bytes new) ≡ take (frame_start (frame old)) (main_bytes old)

-- both lists stay
pub record SameLists (old new : Store) : Type 0 where
  pub saved_same : saved new ≡ saved old
  pub scopes_same : scopes new ≡ scopes old

-- pieces, innermost mark and the output before that mark stay
pub record SameFrame (old new : Store) : Type 0 where
  pub pieces : KeepsPieces old new
  pub frame_same : frame new ≡ frame old
  pub front : KeepsFront old new

-- pieces, innermost mark, both lists and the output before that mark stay
pub record KeepsAll (old new : Store) : Type 0 where
  pub pieces : KeepsPieces old new
  pub frame_same : frame new ≡ frame old
  pub lists : SameLists old new
  pub front : KeepsFront old new

-- a call inside the innermost mark: what was made before it keeps its shape, both lists stay, and so does the output
-- before it
pub record IsEdit (old new : Store) : Type 0 where
  pub pieces : KeepsOlder (frame old) old new
  pub frame_same : frame new ≡ frame old
  pub lists : SameLists old new
  pub front : KeepsFront old new

-- a run of calls inside the innermost mark: what was made before it keeps its shape, and the output before it stays;
-- the lists may have changed
pub record IsRun (old new : Store) : Type 0 where
  pub pieces : KeepsOlder (frame old) old new
  pub frame_same : frame new ≡ frame old
  pub front : KeepsFront old new

-- a run of calls since a mark was opened: all that lived then keeps its shape, and is older than the mark; the output
-- before the mark is all that there was
pub record IsSince (old new : Store) (m : Mark) : Type 0 where
  pub pieces : KeepsPieces old new
  pub older : (p : Piece) → IsLiving old p → IsOlder p (inside m)
  pub inside_is : frame new ≡ inside m
  pub outside_is : outside m ≡ frame old
  pub nested : frame_start (frame old) ≤ frame_start (inside m)
  pub front : take (frame_start (inside m)) (main_bytes new) ≡ main_bytes old

-- a mark is opened: each living piece is older than it, it stands at the mark outside it or later, and the output
-- before it is all that there was
pub record Opens (old new : Store) (m : Mark) : Type 0 where
  pub pieces : KeepsPieces old new
  pub older : (p : Piece) → IsLiving old p → IsOlder p (inside m)
  pub inside_is : frame new ≡ inside m
  pub outside_is : outside m ≡ frame old
  pub lists : SameLists old new
  pub nested : frame_start (frame old) ≤ frame_start (inside m)
  pub front : take (frame_start (inside m)) (main_bytes new) ≡ main_bytes old

-- a mark is closed: what was made before it keeps its shape, and the output before it stays
pub record Closes (old new : Store) (m : Mark) : Type 0 where
  pub pieces : KeepsOlder (inside m) old new
  pub outside_is : frame new ≡ outside m
  pub lists : SameLists old new
  pub front : take (frame_start (inside m)) (main_bytes new) ≡ take (frame_start (inside m)) (main_bytes old)

-- the piece stands up to the end of the output, from the innermost mark or later, and no byte before it changes
pub record EndsMain (old new : Store) (p : Piece) : Type 0 where
  pub from : ℕ
  pub inner : frame_start (frame old) ≤ from
  pub front : take from (main_bytes new) ≡ take from (main_bytes old)
  pub stands : Stands p from (length (main_bytes new))

-- A piece is edited, and n bytes are put into its text. The answer ends the output, and begins at the innermost mark
-- or later. No byte before it changes.
-- `in_place`: the piece begins at the innermost mark or later, and ends the output. Then the answer begins where the
-- piece began, and the output grows by n bytes.
pub record IsEditOf (old new : Store) (piece answer : Piece) (n : ℕ) : Type 0 where
  pub front : KeepsFront old new
  pub ends : EndsMain old new answer
  pub in_place : (at : ℕ) → frame_start (frame old) ≤ at → Stands piece at (length (main_bytes old))
      → Stands answer at (length (main_bytes new)) × (length (main_bytes new) ≡ length (main_bytes old) + n)

-- if the piece is in the output, it ends at this byte or earlier; if it also begins at the innermost mark or later, it
-- ends before this byte
abbrev pub StandsBefore : Store → Piece → ℕ → Type 0
StandsBefore b p at = (from to : ℕ) → Stands p from to → (to ≤ at) × (frame_start (frame b) ≤ from → to < at)

-- two pieces are joined into one, the answer, with n bytes between them. The answer ends the output. A piece is last
-- here if it ends the output and begins at the innermost mark or later.
-- `in_place`: the second piece is last, and the first begins at the innermost mark or later and ends where the second
-- begins. Then the answer begins where the first piece began, and the output grows by n bytes.
-- `in_front`: the second piece is last, and `StandsBefore` holds of the first. Then the answer begins where the second
-- piece began, and the output grows by the first text and n bytes.
-- `after`: the first piece is last. Then the answer begins where it began, and the output grows by n bytes and the
-- second text.
pub record IsJoinOf (old new : Store) (first second answer : Piece) (n : ℕ) : Type 0 where
  pub front : KeepsFront old new
  pub ends : EndsMain old new answer
  pub in_place : (from middle : ℕ) → frame_start (frame old) ≤ from → Stands first from middle
      → Stands second middle (length (main_bytes old))
      → Stands answer from (length (main_bytes new)) × (length (main_bytes new) ≡ length (main_bytes old) + n)
  pub in_front : (at : ℕ) → frame_start (frame old) ≤ at → Stands second at (length (main_bytes old))
      → StandsBefore old first at → Stands answer at (length (main_bytes new))
      × (length (main_bytes new) ≡ length (main_bytes old) + (text_len (shape old first) + n))
  pub after : (at : ℕ) → frame_start (frame old) ≤ at → Stands first at (length (main_bytes old))
      → Stands answer at (length (main_bytes new))
      × (length (main_bytes new) ≡ length (main_bytes old) + (n + text_len (shape old second)))

-- if p stands in the output, then q stands at the same bytes
abbrev pub StandsAs : Piece → Piece → Type 0
StandsAs p q = (from to : ℕ) → Stands p from to → Stands q from to

-- if p stands in the output, then q begins at the same byte, and ends n bytes earlier
abbrev pub StandsShortened : ℕ → Piece → Piece → Type 0
StandsShortened n p q = (from to : ℕ) → Stands p from to → Stands q from (to - n)

-- The answer ends the output, and begins at the innermost mark or later. No byte before it changes.
-- If the piece begins at the innermost mark or later, and ends the output, then the answer begins where it began.
pub record StaysInPlace (old new : Store) (piece answer : Piece) : Type 0 where
  pub ends : EndsMain old new answer
  pub stays : (at : ℕ) → frame_start (frame old) ≤ at → Stands piece at (length (main_bytes old))
      → Stands answer at (length (main_bytes new)) × (take at (main_bytes new) ≡ take at (main_bytes old))

-- an edit that may change nothing
pub data IsUnchangedOrStays (old new : Store) (piece answer : Piece) : Type 0 where
  -- the answer is the piece, and no byte of the output changes
  unchanged : main_bytes new ≡ main_bytes old → answer ≡ piece → IsUnchangedOrStays old new piece answer
  -- the piece was edited
  edited : StaysInPlace old new piece answer → IsUnchangedOrStays old new piece answer

-- The answer ends the output, and begins at the innermost mark or later. No byte before it changes.
-- If the first piece begins at the innermost mark or later, and either ends the output, or ends where the second begins
-- and the second ends the output, then the answer begins where the first began.
pub record JoinsInPlace (old new : Store) (first second answer : Piece) : Type 0 where
  pub ends : EndsMain old new answer
  pub stays : (from middle : ℕ) → frame_start (frame old) ≤ from → Stands first from middle
      → Stands second middle (length (main_bytes old))
      → Stands answer from (length (main_bytes new)) × (take from (main_bytes new) ≡ take from (main_bytes old))
  pub after : (from : ℕ) → frame_start (frame old) ≤ from → Stands first from (length (main_bytes old))
      → Stands answer from (length (main_bytes new)) × (take from (main_bytes new) ≡ take from (main_bytes old))

-- The new output is the old output, followed by the answer. The answer begins at the innermost mark or later.
pub record AppendsPiece (old new : Store) (answer : Piece) : Type 0 where
  pub front : take (length (main_bytes old)) (main_bytes new) ≡ main_bytes old
  pub inner : frame_start (frame old) ≤ length (main_bytes old)
  pub stands : Stands answer (length (main_bytes old)) (length (main_bytes new))

-- the arguments of the last scope
abbrev pub last_args : List (List Shape) → List Shape
last_args scopes = slice_index_or scopes (length scopes - 1) []

-- the last scope gains an argument
abbrev pub with_arg : Shape → List (List Shape) → List (List Shape)
with_arg s scopes = slice_set scopes (length scopes - 1) (last_args scopes ++ s ∷ [])
