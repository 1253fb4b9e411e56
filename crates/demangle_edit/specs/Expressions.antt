-- The shapes of literals, and of operands of expressions.
use Rattle.std.specs.Prelude.{ℕ, List, [], ◌++◌, drop, codes, nat_eq, bytes_eq}
use Rattle.std.specs.Prelude.{Bool, true, not, ◌&&◌, ◌||◌, if◌then◌else◌}
use Rattle.std.specs.List.{starts_with}
use Rattle.demangle_text.specs.declared.pieces.Place.TheVariants.{Start}
use Rattle.demangle_text.specs.Shape.{Shape, text, plain_shape, inserted}
use Rattle.demangle_edit.specs.declared.expressions.LiteralForm.{LiteralForm}
use Rattle.demangle_edit.specs.declared.expressions.LiteralForm.TheVariants.{Boolean, Null, Integer, Float, Cast}

-- one leading `n` of a literal's value is its minus
abbrev pub is_minus : List ℕ → Bool
is_minus value = starts_with nat_eq value (codes "n")

-- the sign of a value
abbrev pub sign_text : List ℕ → List ℕ
sign_text value = if is_minus value then codes "-" else []

-- the digits of a value, as they stand
abbrev pub digits_text : List ℕ → List ℕ
digits_text value = if is_minus value then drop 1 value else value

-- how a literal is printed, by the text of its type and whether it has a minus: `bool` with a minus is a cast
abbrev pub literal_form : List ℕ → Bool → LiteralForm
literal_form type minus =
    if bytes_eq type (codes "bool") && not minus then Boolean else
    if bytes_eq type (codes "std::nullptr_t") then Null else
    if bytes_eq type (codes "int") then Integer else
    if bytes_eq type (codes "float") || bytes_eq type (codes "double") || bytes_eq type (codes "long double") then Float
    else Cast

-- which values a literal has
abbrev pub has_value : LiteralForm → List ℕ → Bool
has_value Boolean value = bytes_eq value (codes "0") || bytes_eq value (codes "1")
has_value form value = true

-- the literal, by its form, the text of its type and its value
abbrev pub literal_text : LiteralForm → List ℕ → List ℕ → List ℕ
literal_text Boolean type value = if bytes_eq value (codes "0") then codes "false" else codes "true"
literal_text Null type value = codes "nullptr"
literal_text Integer type value = sign_text value ++ digits_text value
literal_text Float type value = sign_text value ++ codes "[" ++ digits_text value ++ codes "]"
literal_text Cast type value = codes "(" ++ type ++ codes ")" ++ (sign_text value ++ digits_text value)

-- the literal of the type with this value
abbrev pub literal_shape : Shape → List ℕ → Shape
literal_shape type value = plain_shape (literal_text (literal_form (text type) (is_minus value)) (text type) value)

-- whether a type with this text has a literal with this value
abbrev pub has_literal : List ℕ → List ℕ → Bool
has_literal type value = has_value (literal_form type (is_minus value)) value

-- a text in parentheses
abbrev pub parenthesized : Shape → Shape
parenthesized s = plain_shape (codes "(" ++ text s ++ codes ")")

-- an operand of an expression, in parentheses or as it is
abbrev pub operand_shape : Bool → Shape → Shape
operand_shape paren s = if paren then parenthesized s else s

-- the address of what is named
abbrev pub address_shape : Shape → Shape
address_shape s = inserted Start (codes "&") s
