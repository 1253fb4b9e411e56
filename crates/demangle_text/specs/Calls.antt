-- For the contracts of the buffer and of the crates that call it: where a piece stands, which forms a call requires,
-- the fields of a form, and those steps on shapes that the grammar doesn't use.
use Rattle.std.specs.Prelude.{ℕ, ◌+◌, ◌-◌, ◌≤◌, List, ◌++◌, length}
use Rattle.std.specs.Prelude.{take, drop, slice_range, false, Option, Some, None}
use Rattle.demangle_text.specs.declared.pieces.Kind.{Kind}
use Rattle.demangle_text.specs.declared.pieces.Kind.TheVariants.{Array, Function}
use Rattle.demangle_text.specs.declared.pieces.Place.{Place}
use Rattle.demangle_text.specs.declared.pieces.Place.TheVariants.{Start, Close, Suffix, End}
use Rattle.demangle_text.specs.declared.pieces.Piece.{Piece}
use Rattle.demangle_text.specs.Shape.{Form, Plain, Declared, Shape, grouped, text, plain_shape, own_in}
use Rattle.demangle_text.specs.Pieces.{Store}
use Rattle.demangle_text.specs.State.{Stands, frame, frame_start, main_bytes}

-- the piece stands up to the end of the output, from the innermost mark or later
pub record IsLast (b : Store) (p : Piece) : Type 0 where
  pub from : ℕ
  pub inner : frame_start (frame b) ≤ from
  pub stands : Stands p from (length (main_bytes b))

-- the piece stands in the output, from the innermost mark or later
pub record IsInner (b : Store) (p : Piece) : Type 0 where
  pub from : ℕ
  pub to : ℕ
  pub inner : frame_start (frame b) ≤ from
  pub stands : Stands p from to

-- the bytes of the output after a piece that stands in it
unfoldable pub text_after : Store → Piece → List ℕ
text_after b p = drop p.to_byte b.output_text

-- two texts with bytes between them
abbrev pub joined : Shape → List ℕ → Shape → Shape
joined first bytes second = plain_shape (text first ++ bytes ++ text second)

-- its text, bytes and a name after it as a plain shape: the name is its base name
abbrev pub named : List ℕ → List ℕ → Shape → Shape
named between name s =
    let before = text s ++ between in
    let own : ℕ × ℕ = (length before, length (before ++ name)) in
    record { form = Plain (before ++ name); own = own; templ = false; ctor = false }

-- declared, with a group between the `(` at one byte and the `)` right before `after`
abbrev pub declared_group : Kind → ℕ → ℕ → Shape → Shape
declared_group kind from at s =
    let group = slice_range (text s) (from + 1) (at - 1) in
    let form = Declared kind (take from (text s)) (Some group) (drop at (text s)) in
    record s { form = form; own = own_in form s.own }

-- all text up to `after`
abbrev pub front_text : Form → List ℕ
front_text (Plain t) = t
front_text (Declared k before group after) = before ++ grouped group

-- the form is a plain text
abbrev pub IsPlain : Form → Type 0
IsPlain (Plain t) = Unit {0}
IsPlain (Declared k before group after) = ⊥

-- the form is a declarator
abbrev pub IsDeclared : Form → Type 0
IsDeclared (Plain t) = ⊥
IsDeclared (Declared k before group after) = Unit {0}

-- `Close` asks for a group, and `Suffix` for a declarator without one
abbrev pub CanInsert : Place → Form → Type 0
CanInsert Start f = Unit {0}
CanInsert End f = Unit {0}
CanInsert Close (Plain t) = ⊥
CanInsert Close (Declared k before None after) = ⊥
CanInsert Close (Declared k before (Some group) after) = Unit {0}
CanInsert Suffix (Plain t) = ⊥
CanInsert Suffix (Declared k before None after) = Unit {0}
CanInsert Suffix (Declared k before (Some group) after) = ⊥

-- the form isn't a function's
abbrev pub IsNotFunction : Form → Type 0
IsNotFunction (Plain t) = Unit {0}
IsNotFunction (Declared Array before group after) = Unit {0}
IsNotFunction (Declared Function before group after) = ⊥

-- what a declarator declares
abbrev pub kind_of : Form → Option Kind
kind_of (Plain t) = None
kind_of (Declared k before group after) = Some k

-- the group, without its parentheses
abbrev pub group_of : Form → Option (List ℕ)
group_of (Plain t) = None
group_of (Declared k before group after) = group

-- where `after` begins in the text
abbrev pub after_of : Form → Option ℕ
after_of (Plain t) = None
after_of (Declared k before group after) = Some (length (before ++ grouped group))
