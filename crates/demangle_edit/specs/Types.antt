-- The shapes of types, and which types there are. A function `.._in` takes the form of its shape first, to match on it.
use Rattle.std.specs.Prelude.{ℕ, List, [], ◌++◌, length, take, drop, codes, nat_eq, decimal}
use Rattle.std.specs.Prelude.{Bool, true, false, not, ◌&&◌, ◌||◌, if◌then◌else◌, Option, Some, None, unwrap_or}
use Rattle.std.specs.List.{ends_with}
use Rattle.demangle_text.specs.declared.pieces.Kind.TheVariants.{Array, Function}
use Rattle.demangle_text.specs.declared.pieces.Place.{Place}
use Rattle.demangle_text.specs.declared.pieces.Place.TheVariants.{Close, Suffix, End}
use Rattle.demangle_text.specs.Shape.{Shape, Form, Plain, Declared, text, moved, whole_shape, is_plain}
use Rattle.demangle_text.specs.Shape.{appended, inserted, shortened, opened_group, declared_at}
use Rattle.demangle_quals.specs.declared.quals.Quals.{Quals}
use Rattle.demangle_quals.specs.declared.quals.Pointer.{Pointer}
use Rattle.demangle_quals.specs.declared.quals.Pointer.TheVariants.{Star, Left, Right}
use Rattle.demangle_quals.specs.Quals.{pointer_text, words_text}
use Rattle.demangle_edit.specs.Lists.{params_text}

-- a token at the end of a plain text or of a group, or in a group that is opened for it
abbrev pub pointed_in : Form → List ℕ → Shape → Shape
pointed_in (Plain t) token s = appended token s
pointed_in (Declared k before None after) token s = opened_group token s
pointed_in (Declared k before (Some group) after) token s = inserted Close token s

-- the token put on a type
abbrev pub pointed : List ℕ → Shape → Shape
pointed token s = pointed_in s.form token s

-- what a reference collapses to, or none: on a plain text that ends in `&`; `&` on `&&` leaves `&`, else the text stays
abbrev pub collapse_step : Bool → Shape → Option Shape
collapse_step rvalue s =
    if is_plain s.form && ends_with nat_eq (text s) (codes "&")
    then Some (if not rvalue && ends_with nat_eq (text s) (codes "&&") then shortened 1 s else s)
    else None

-- a pointer or a reference to the type
abbrev pub pointer_shape : Pointer → Shape → Shape
pointer_shape Star s = pointed (pointer_text Star) s
pointer_shape Left s = unwrap_or (collapse_step false s) (pointed (pointer_text Left) s)
pointer_shape Right s = unwrap_or (collapse_step true s) (pointed (pointer_text Right) s)

-- where the words of qualifiers go: the end of the group, of what is before an array's dimensions, or of
-- the text
abbrev pub cv_place : Form → Place
cv_place (Plain t) = End
cv_place (Declared k before (Some group) after) = Close
cv_place (Declared Array before None after) = Suffix
cv_place (Declared Function before None after) = End

-- the type with the words of its qualifiers
abbrev pub cv_shape : Quals → Shape → Shape
cv_shape quals s = inserted (cv_place s.form) (words_text quals) s

-- the digits of a dimension, none where it isn't known
abbrev pub dimension_digits : Option ℕ → List ℕ
dimension_digits None = []
dimension_digits (Some n) = decimal n

-- `[n]`, or `[]`
abbrev pub dimension_text : Option ℕ → List ℕ
dimension_text dimension = codes "[" ++ (dimension_digits dimension ++ codes "]")

-- a dimension after a plain text, at the end of a group, or in front of the dimensions that an array has
abbrev pub dimensioned_in : Form → Option ℕ → Shape → Shape
dimensioned_in (Plain t) dimension s = declared_at Array (length t) (appended (codes " " ++ dimension_text dimension) s)
dimensioned_in (Declared k before (Some group) after) dimension s =
    inserted Close (codes " " ++ dimension_text dimension) s
dimensioned_in (Declared Function before None after) dimension s = s
dimensioned_in (Declared Array before None after) dimension s =
    record s {
      form = Declared Array before None (take 1 after ++ (dimension_text dimension ++ drop 1 after));
      own = moved (length (before ++ take 1 after)) (length (dimension_text dimension)) s.own;
    }

-- an array of these elements, with its dimension where one is given
abbrev pub array_shape : Option ℕ → Shape → Shape
array_shape dimension s = dimensioned_in s.form dimension s

-- no type is an array of functions
abbrev pub may_be_element : Form → Bool
may_be_element (Plain t) = true
may_be_element (Declared k before (Some group) after) = true
may_be_element (Declared Array before None after) = true
may_be_element (Declared Function before None after) = false

-- a space after a text that ends in neither `(` nor a space
abbrev pub member_gap : List ℕ → List ℕ
member_gap t = if ends_with nat_eq t (codes "(") || ends_with nat_eq t (codes " ") then [] else codes " "

-- member pointers to arrays aren't read, nor those to pointers and references to arrays: all have an array's shape
abbrev pub may_be_member : Form → Bool
may_be_member (Plain t) = true
may_be_member (Declared Function before group after) = true
may_be_member (Declared Array before group after) = false

-- a token after a plain text, or in a group that is opened for it
abbrev pub member_in : Form → List ℕ → Shape → Shape
member_in (Plain t) token s = appended (member_gap t ++ token) s
member_in (Declared k before group after) token s = opened_group token s

-- the pointer to a member of the class: the token is the class and `::*`
abbrev pub member_pointer_shape : Shape → Shape → Shape
member_pointer_shape class member = member_in member.form (text class ++ codes "::*") member

-- the function type: its base name is its whole text
abbrev pub function_shape : Shape → List Shape → Quals → Shape
function_shape ret params quals =
    whole_shape (record {
      form = Declared Function (text ret ++ codes " ") None (params_text params quals);
      own = (0, 0);
      templ = false;
      ctor = false;
    })

-- the expansion of a pack
abbrev pub expansion_shape : Shape → Shape
expansion_shape s = appended (codes "...") s
