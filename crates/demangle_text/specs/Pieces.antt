-- How a piece lies in the two texts of a buffer.
use Rattle.std.specs.Prelude.{◌≡◌, ℕ, Bool, min, max, true, false, ◌+◌, ◌-◌, ◌<◌, ◌≤◌, List, [], ◌∷◌, ◌++◌, length}
use Rattle.std.specs.Prelude.{take, drop, slice_range, slice_index, nat_le, Option, Some, None, All, map}
use Rattle.std.specs.List.{AllWithin}
use Rattle.demangle_text.specs.declared.pieces.Kind.{Kind}
use Rattle.demangle_text.specs.declared.pieces.Kind.TheVariants.{Array, Function}
use Rattle.demangle_text.specs.declared.pieces.Place.{Place}
use Rattle.demangle_text.specs.declared.pieces.Place.TheVariants.{Start, Close, Suffix, End}
use Rattle.demangle_text.specs.declared.pieces.Piece.{Piece}
use Rattle.demangle_text.specs.declared.piece_list.Entry.{Entry}
use Rattle.demangle_text.specs.Shape.{Form, Plain, Declared, Shape}

-- how a text is cut
pub data Layout : Type 0 where
  -- not at all
  Flat : Layout
  -- a declarator: where the `(` of its group stands, if there is one, and where `after` begins
  Cut : Kind → Option ℕ → ℕ → Layout

-- what a text stands for, by places in it
pub record Outline : Type 0 where
  pub layout : Layout
  pub own : ℕ × ℕ
  pub templ : Bool
  pub ctor : Bool

-- a place of a group, where there is one
abbrev pub group_from : Bool → ℕ → Option ℕ
group_from true start = Some start
group_from false start = None

-- the layout of a piece that declares this
abbrev pub layout_by : Option Kind → Option ℕ → ℕ → Layout
layout_by None group at = Flat
layout_by (Some kind) group at = Cut kind group at

-- what the text of a piece stands for
abbrev pub outline_of : Piece → Outline
outline_of p = record {
  layout = layout_by p.kind (group_from p.grouped p.group_start) p.after_start;
  own = (p.own_start, p.own_end);
  templ = p.templ;
  ctor = p.ctor;
}

-- the form that a layout cuts out of a text
abbrev pub form_of : List ℕ → Layout → Form
form_of t Flat = Plain t
form_of t (Cut kind None at) = Declared kind (take at t) None (drop at t)
form_of t (Cut kind (Some group) at) =
    Declared kind (take group t) (Some (slice_range t (group + 1) (at - 1))) (drop at t)

-- the shape of a text under its outline
abbrev pub shape_of : List ℕ → Outline → Shape
shape_of t m = record { form = form_of t m.layout; own = m.own; templ = m.templ; ctor = m.ctor }

-- the layout fits the text: a group stands between its parentheses
abbrev pub IsLayout : List ℕ → Layout → Type 0
IsLayout t Flat = Unit {0}
IsLayout t (Cut kind None at) = at ≤ length t
IsLayout t (Cut kind (Some group) at) =
    (group + 1 < at) × (at ≤ length t) × (slice_index t group ≡ 40) × (slice_index t (at - 1) ≡ 41)

-- the base name of a function is its whole text
abbrev pub IsOwn : List ℕ → Layout → ℕ × ℕ → Type 0
IsOwn t Flat own = Unit {0}
IsOwn t (Cut Array group at) own = Unit {0}
IsOwn t (Cut Function group at) own = own ≡ (0, length t)

-- the outline fits the text
pub record IsOutlined (t : List ℕ) (m : Outline) : Type 0 where
  pub layout : IsLayout t m.layout
  pub own_ordered : m.own.0 ≤ m.own.1
  pub own_within : m.own.1 ≤ length t
  pub own_whole : IsOwn t m.layout m.own

-- the outline of a plain text of this length, all of which is its base name
abbrev pub whole_outline : ℕ → Outline
whole_outline len = record { layout = Flat; own = (0, len); templ = false; ctor = false }

-- the outline of a plain text that is cut to this length
abbrev pub cut_outline : ℕ → Outline → Outline
cut_outline len m = record m { layout = Flat; own = (min m.own.0 len, min m.own.1 len) }

-- where a place lies in a text of this length
abbrev pub place_at : Place → Layout → ℕ → ℕ
place_at Start l len = 0
place_at End l len = len
place_at Close Flat len = len
place_at Close (Cut kind group at) len = at - 1
place_at Suffix Flat len = len
place_at Suffix (Cut kind group at) len = at

-- the layout after n bytes were inserted at a place
abbrev pub layout_with : Place → ℕ → Layout → Layout
layout_with place n Flat = Flat
layout_with Start n (Cut kind None at) = Cut kind None (at + n)
layout_with Start n (Cut kind (Some group) at) = Cut kind (Some (group + n)) (at + n)
layout_with Close n (Cut kind group at) = Cut kind group (at + n)
layout_with Suffix n (Cut kind group at) = Cut kind group (at + n)
layout_with End n (Cut kind group at) = Cut kind group at

-- the layout after n bytes were inserted where `after` began, which end in a group of m bytes with its
-- parentheses
abbrev pub layout_opened : ℕ → ℕ → Layout → Layout
layout_opened n m Flat = Flat
layout_opened n m (Cut kind group at) = Cut kind (Some (at + n - m)) (at + n)

-- how far the parts reach in the text
abbrev pub layout_end : Layout → ℕ
layout_end Flat = 0
layout_end (Cut kind None at) = at
layout_end (Cut kind (Some group) at) = max group at

-- the base name of a declarator whose text has this length
abbrev pub own_of : Kind → ℕ → ℕ × ℕ → ℕ × ℕ
own_of Array len own = own
own_of Function len own = (0, len)

-- the base name in a text of this length
abbrev pub own_at : Layout → ℕ → ℕ × ℕ → ℕ × ℕ
own_at Flat len own = own
own_at (Cut kind group at) len own = own_of kind len own

-- the text in which a piece lies
abbrev pub home_bytes : List ℕ → List ℕ → Bool → List ℕ
home_bytes output spill false = output
home_bytes output spill true = spill

-- the text of a piece
abbrev pub piece_text : List ℕ → List ℕ → Piece → List ℕ
piece_text output spill p = slice_range (home_bytes output spill p.spilled) p.from_byte p.to_byte

-- the base name of a piece
abbrev pub own_text : List ℕ → List ℕ → Piece → List ℕ
own_text output spill p = slice_range (piece_text output spill p) p.own_start p.own_end

-- the piece lies in the two texts
pub record IsPiece (output spill : List ℕ) (p : Piece) : Type 0 where
  pub ordered : p.from_byte ≤ p.to_byte
  pub within : p.to_byte ≤ length (home_bytes output spill p.spilled)
  pub outlined : IsOutlined (piece_text output spill p) (outline_of p)

-- the shape of a piece
abbrev pub shape_in : List ℕ → List ℕ → Piece → Shape
shape_in output spill p = shape_of (piece_text output spill p) (outline_of p)

-- the piece lies in the output, at these bytes
pub record IsAt (p : Piece) (from to : ℕ) : Type 0 where
  pub in_main : p.spilled ≡ false
  pub begins : p.from_byte ≡ from
  pub ends : p.to_byte ≡ to

-- where the lists of arguments begin: in order, and none past the last argument
abbrev pub AreStarts : List ℕ → ℕ → Type 0
AreStarts [] count = Unit {0}
AreStarts (start ∷ []) count = start ≤ count
AreStarts (start ∷ next ∷ rest) count = (start ≤ next) × AreStarts (next ∷ rest) count

-- what a buffer keeps: its two texts, the saved pieces, the arguments of all scopes with the places
-- where the scopes begin, and how long the output was at the innermost mark
pub record Store : Type 0 where
  pub output_text : List ℕ
  pub spill_text : List ℕ
  pub saved_pieces : List Piece
  pub arg_pieces : List Piece
  pub scope_starts : List ℕ
  pub marked_len : ℕ

-- what is kept lies in the texts
pub record IsStore (s : Store) : Type 0 where
  pub saved_lie : All (IsPiece s.output_text s.spill_text) s.saved_pieces
  pub args_lie : All (IsPiece s.output_text s.spill_text) s.arg_pieces
  pub starts_fit : AreStarts s.scope_starts (length s.arg_pieces)
  pub main_frame : s.marked_len ≤ length s.output_text

-- the piece ends a output of this length, from the mark's byte or later
pub record IsTailAt (mark end : ℕ) (p : Piece) : Type 0 where
  pub in_main : p.spilled ≡ false
  pub inner : mark ≤ p.from_byte
  pub ends : p.to_byte ≡ end

-- the piece lies in the output, from the innermost mark or later up to the end
abbrev pub IsTail : Store → Piece → Type 0
IsTail s p = IsTailAt s.marked_len (length s.output_text) p

-- the text begins with the other
pub record Extends (old new : List ℕ) : Type 0 where
  pub more : List ℕ
  pub all : new ≡ old ++ more

-- the output ends in the text of the piece, from a byte on, at the mark or later: where the piece ended it, nothing
-- changed
pub record HasAtEnd (old spill : List ℕ) (mark : ℕ) (p : Piece) (new : List ℕ) (from : ℕ) : Type 0 where
  pub begins : from + (p.to_byte - p.from_byte) ≡ length new
  pub text : drop from new ≡ piece_text old spill p
  pub inner : mark ≤ from
  pub front : take from new ≡ take from old
  pub longer : Extends old new
  pub in_place : IsTailAt mark (length old) p → (from ≡ p.from_byte) × (new ≡ old)

-- a piece in the output ends by `low`, or lies in the block from `from` to `to`
abbrev pub IsApart : ℕ → ℕ → ℕ → Piece → Type 0
IsApart low from to p = p.spilled ≡ false → low < p.to_byte → (from ≤ p.from_byte) × (p.to_byte ≤ to)

-- both lists keep their shapes while texts of theirs are put at the end of the spill
pub record IsSpilled (output old_spill new_spill : List ℕ)
    (old_saved new_saved old_args new_args : List Piece) : Type 0 where
  pub spill : Extends old_spill new_spill
  pub saved_lie : All (IsPiece output new_spill) new_saved
  pub args_lie : All (IsPiece output new_spill) new_args
  pub saved_shapes : map (shape_in output new_spill) new_saved ≡ map (shape_in output old_spill) old_saved
  pub args_shapes : map (shape_in output new_spill) new_args ≡ map (shape_in output old_spill) old_args
  pub args_long : length new_args ≡ length old_args

-- the piece lies in the spill, or ends by a byte of the output
abbrev pub EndsBy : ℕ → Piece → Type 0
EndsBy end p = p.spilled ≡ false → p.to_byte ≤ end

-- the pieces of a list
abbrev pub pieces_of : List Entry → List Piece
pieces_of kept = map (λ k. k.piece) kept

-- the bytes that stand beside them
abbrev pub reaches_of : List Entry → List ℕ
reaches_of kept = map (λ k. k.reach) kept

-- each of the first pieces of a list ends by the byte that stands at its index, and so do all before it
pub record AreReached (pieces : List Piece) (reaches : List ℕ) (count : ℕ) : Type 0 where
  pub within : count ≤ length reaches
  pub capacity : length reaches ≤ length pieces
  pub ends : (i : ℕ) → i < count → AllWithin (EndsBy (slice_index reaches i)) pieces 0 (i + 1)

-- where a place lies after the block that begins at `from` was moved to `dest`: what ends by `low` stays
abbrev pub carried_from : Bool → Bool → ℕ → ℕ → ℕ → ℕ
carried_from true ends from dest at = at
carried_from false true from dest at = at
carried_from false false from dest at = dest + (at - from)

-- the piece after that move
abbrev pub carried : ℕ → ℕ → ℕ → Piece → Piece
carried low from dest p =
    let ends = nat_le p.to_byte low in
    record p {
      from_byte = carried_from p.spilled ends from dest p.from_byte;
      to_byte = carried_from p.spilled ends from dest p.to_byte;
    }

-- the second piece begins where the first ends, and both lie in the output, from the innermost mark up to the end
pub record IsAdjacent (s : Store) (first second : Piece) : Type 0 where
  pub first_in_main : first.spilled ≡ false
  pub second_in_main : second.spilled ≡ false
  pub inner : s.marked_len ≤ first.from_byte
  pub meets : first.to_byte ≡ second.from_byte
  pub ends : second.to_byte ≡ length s.output_text

-- the output ends in the text of the piece with bytes at a place of it, from a byte on: a piece at the end stayed
pub record IsSplice (old new : Store) (p : Piece) (at : ℕ) (bytes : List ℕ) (from : ℕ) : Type 0 where
  pub within : from ≤ length new.output_text
  pub text : drop from new.output_text
      ≡ take at (piece_text old.output_text old.spill_text p)
      ++ (bytes ++ drop at (piece_text old.output_text old.spill_text p))
  pub inner : old.marked_len ≤ from
  pub front : take from new.output_text ≡ take from old.output_text
  pub in_place : IsTail old p → (from ≡ p.from_byte) × (length new.output_text ≡ length old.output_text + length bytes)

-- the output ends in both texts with bytes between them, from a byte on: adjacent pieces at the end stayed, and so
-- did a second one at the end with the first before it, and a first one at the end
pub record IsJoint (old new : Store) (first : Piece) (bytes : List ℕ) (second : Piece) (from : ℕ) : Type 0 where
  pub within : from ≤ length new.output_text
  pub text : drop from new.output_text
      ≡ piece_text old.output_text old.spill_text first ++ bytes ++ piece_text old.output_text old.spill_text second
  pub inner : old.marked_len ≤ from
  pub front : take from new.output_text ≡ take from old.output_text
  pub in_place : IsAdjacent old first second
      → (from ≡ first.from_byte) × (length new.output_text ≡ length old.output_text + length bytes)
  pub in_front : IsTail old second → EndsBy second.from_byte first → (IsAdjacent old first second → ⊥)
      → (from ≡ second.from_byte) × (length new.output_text
      ≡ length old.output_text + (length (piece_text old.output_text old.spill_text first) + length bytes))
  pub after : IsTail old first → (from ≡ first.from_byte) × (length new.output_text
      ≡ length old.output_text + (length bytes + length (piece_text old.output_text old.spill_text second)))
