-- Shapes: their texts, and what edits change in them.
use Rattle.std.specs.Prelude.{ℕ, ◌+◌, ◌-◌, ◌==◌, ◌||◌, Bool, true, false, if◌then◌else◌, List, [], ◌++◌, length}
use Rattle.std.specs.Prelude.{take, drop, slice_range, nat_le, min, codes, Option, Some, None}
use Rattle.std.specs.Prelude.{nat_eq}
use Rattle.std.specs.List.{ends_with}
use Rattle.demangle_text.specs.declared.pieces.Kind.{Kind}
use Rattle.demangle_text.specs.declared.pieces.Kind.TheVariants.{Array, Function}
use Rattle.demangle_text.specs.declared.pieces.Place.{Place}
use Rattle.demangle_text.specs.declared.pieces.Place.TheVariants.{Start, Close, End}

-- a plain text, or a declarator: what stands before, the group if there is one, what stands after
pub data Form : Type 0 where
  -- a text
  Plain : List ℕ → Form
  -- an array or a function: `before`, the group if there is one, and `after`
  Declared : Kind → List ℕ → Option (List ℕ) → List ℕ → Form

-- a form, the base name as a range of its text, whether it ends in template arguments, and whether it names a
-- constructor, a destructor or a conversion
pub record Shape : Type 0 where
  pub form : Form
  pub own : ℕ × ℕ
  pub templ : Bool
  pub ctor : Bool

-- the group in its parentheses
abbrev pub grouped : Option (List ℕ) → List ℕ
grouped None = []
grouped (Some group) = codes "(" ++ (group ++ codes ")")

-- the parts of a form, one after another
abbrev pub form_text : Form → List ℕ
form_text (Plain t) = t
form_text (Declared k before group after) = before ++ (grouped group ++ after)

-- the text of the whole shape
abbrev pub text : Shape → List ℕ
text s = form_text s.form

-- how many bytes the text has
abbrev pub text_len : Shape → ℕ
text_len s = length (form_text s.form)

-- a plain shape whose base name is the whole text
abbrev pub plain_shape : List ℕ → Shape
plain_shape t = record { form = Plain t; own = (0, length t); templ = false; ctor = false }

-- the index where bytes go: `Close` ends the group; `Suffix`, or `Close` without a group, ends `before` or a plain text
abbrev pub place_in : Place → Form → ℕ
place_in Start form = 0
place_in End form = length (form_text form)
place_in Close (Declared k before (Some group) after) = length before + 1 + length group
place_in place (Declared k before group after) = length before
place_in place (Plain t) = length t

-- the form after the bytes are inserted at that index
abbrev pub form_with : Place → List ℕ → Form → Form
form_with Start bytes (Plain t) = Plain (bytes ++ t)
form_with Start bytes (Declared k before group after) = Declared k (bytes ++ before) group after
form_with place bytes (Plain t) = Plain (t ++ bytes)
form_with End bytes (Declared k before group after) = Declared k before group (after ++ bytes)
form_with Close bytes (Declared k before (Some group) after) = Declared k before (Some (group ++ bytes)) after
form_with place bytes (Declared k before group after) = Declared k (before ++ bytes) group after

-- The range of a base name after n bytes are inserted at an index. A range that begins there or later moves by n. Any
-- other range stays if it ends there or earlier. Else it grows by n
abbrev pub moved : ℕ → ℕ → ℕ × ℕ → ℕ × ℕ
moved at n (from, to) =
    if nat_le at from then (from + n, to + n) else (if nat_le to at then (from, to) else (from, to + n))

-- the base name in a form: of a function the whole text, and otherwise the range that is given
abbrev pub own_in : Form → ℕ × ℕ → ℕ × ℕ
own_in (Plain t) own = own
own_in (Declared Array before group after) own = own
own_in (Declared Function before group after) own = (0, length (before ++ (grouped group ++ after)))

-- the shape with bytes inserted at a place
abbrev pub inserted : Place → List ℕ → Shape → Shape
inserted place bytes s =
    let form = form_with place bytes s.form in
    record s { form = form; own = own_in form (moved (place_in place s.form) (length bytes) s.own) }

-- `End` is the place of an append
abbrev pub appended : List ℕ → Shape → Shape
appended bytes s = inserted End bytes s

-- the shape without its last n bytes: the base name is what is left of it
abbrev pub shortened : ℕ → Shape → Shape
shortened n s =
    let left = text_len s - n in
    record s { form = Plain (take left (text s)); own = (min s.own.0 left, min s.own.1 left) }

-- the shape with its whole text as a plain form: base name and flags stay
abbrev pub flattened : Shape → Shape
flattened s = record s { form = Plain (text s) }

-- the shape with its whole text as the base name
abbrev pub whole_shape : Shape → Shape
whole_shape s = record s { own = (0, text_len s) }

-- the base name of the shape, as a plain shape
abbrev pub own_shape : Shape → Shape
own_shape s = plain_shape (slice_range (text s) s.own.0 s.own.1)

-- the shape with a range as its base name
abbrev pub with_own : ℕ → ℕ → Shape → Shape
with_own from to s = record s { own = (from, to) }

-- the shape with these flags
abbrev pub flagged : Bool → Bool → Shape → Shape
flagged templ ctor s = record s { templ = templ; ctor = ctor }

-- the shape as a declarator without a group: `after` is its text from an index on
abbrev pub declared_at : Kind → ℕ → Shape → Shape
declared_at kind at s =
    let form = Declared kind (take at (text s)) None (drop at (text s)) in
    record s { form = form; own = own_in form s.own }

-- the gap between a text and a group: a space, but none after an empty text, a space, `(` or `*`
abbrev pub gap_after : List ℕ → List ℕ
gap_after t =
    if length t == 0 || ends_with nat_eq t (codes " ") || ends_with nat_eq t (codes "(")
    || ends_with nat_eq t (codes "*") then [] else codes " "

-- all text up to `after` stands before a new group
abbrev pub opened_form : List ℕ → Form → Form
opened_form bytes (Plain t) = Plain t
opened_form bytes (Declared k before group after) =
    Declared k ((before ++ grouped group) ++ gap_after (before ++ grouped group)) (Some bytes) after

-- the base name when the gap and the new group are inserted in front of `after`
abbrev pub opened_own : List ℕ → Form → ℕ × ℕ → ℕ × ℕ
opened_own bytes (Plain t) own = own
opened_own bytes (Declared k before group after) own =
    moved (length (before ++ grouped group)) (length (gap_after (before ++ grouped group) ++ grouped (Some bytes))) own

-- a declarator with a new group; a plain shape is left as it is
abbrev pub opened_group : List ℕ → Shape → Shape
opened_group bytes s =
    let form = opened_form bytes s.form in
    record s { form = form; own = own_in form (opened_own bytes s.form s.own) }

-- whether the form is a plain text
abbrev pub is_plain : Form → Bool
is_plain (Plain t) = true
is_plain (Declared k before group after) = false
