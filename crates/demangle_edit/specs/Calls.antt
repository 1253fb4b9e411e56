-- What the edits answer where there may be no step, what they take away, and where they put what they answer.
use Rattle.std.specs.Prelude.{ℕ, List, [], ◌++◌, codes, nat_eq}
use Rattle.std.specs.Prelude.{Bool, true, false, not, ◌&&◌, if◌then◌else◌, Option, Some, None}
use Rattle.std.specs.List.{ends_with}
use Rattle.demangle_text.specs.Shape.{Shape, Form, Plain, Declared, text, is_plain}
use Rattle.demangle_quals.specs.declared.quals.Quals.{Quals}
use Rattle.demangle_quals.specs.declared.quals.Pointer.{Pointer}
use Rattle.demangle_quals.specs.declared.quals.Pointer.TheVariants.{Star, Left, Right}
use Rattle.demangle_edit.specs.Types.{array_shape, may_be_element, may_be_member, member_pointer_shape, function_shape}
use Rattle.demangle_edit.specs.Built.{function_opened}
use Rattle.demangle_text.specs.declared.pieces.Piece.{Piece}
use Rattle.demangle_text.specs.declared.buffer.Buffer.{Buffer}
use Rattle.demangle_text.specs.State.{StaysInPlace, JoinsInPlace, AppendsPiece}
use Rattle.demangle_edit.specs.declared.expressions.LiteralForm.{LiteralForm}
use Rattle.demangle_edit.specs.declared.expressions.LiteralForm.TheVariants.{Boolean, Null, Integer, Float, Cast}
use Rattle.demangle_edit.specs.Expressions.{literal_shape, has_literal, sign_text, digits_text}
use Rattle.demangle_text.specs.State.{IsLiving}
use Rattle.demangle_edit.specs.declared.glue_parts.Glue.{Glue}
use Rattle.demangle_edit.specs.declared.glue_parts.Glue.TheVariants.{Text, Piece as Part}

-- whether that reference takes a byte of the type away
abbrev pub ref_shortens : Bool → Shape → Bool
ref_shortens rvalue s = not rvalue && (is_plain s.form && ends_with nat_eq (text s) (codes "&&"))

-- whether a pointer or a reference takes a byte of the type away: `&` takes one of `&&`
abbrev pub pointer_shortens : Pointer → Shape → Bool
pointer_shortens Star s = false
pointer_shortens Left s = ref_shortens false s
pointer_shortens Right s = false

-- whether a reference to the type is the type itself: a plain text that ends in `&` and loses no byte
abbrev pub ref_is_same : Bool → Shape → Bool
ref_is_same rvalue s = is_plain s.form && ends_with nat_eq (text s) (codes "&") && not (ref_shortens rvalue s)

-- whether a pointer or a reference to the type is the type itself
abbrev pub pointer_is_same : Pointer → Shape → Bool
pointer_is_same Star s = false
pointer_is_same Left s = ref_is_same false s
pointer_is_same Right s = ref_is_same true s

-- the array of the type, where there is one
abbrev pub array_step : Option ℕ → Shape → Option Shape
array_step dimension s = if may_be_element s.form then Some (array_shape dimension s) else None

-- what stands after the group of a declarator
abbrev pub after_text : Form → List ℕ
after_text (Plain t) = []
after_text (Declared k before group after) = after

-- the pointer to a member of the class, where there is one
abbrev pub member_pointer_step : Shape → Shape → Option Shape
member_pointer_step class member =
    if may_be_member member.form then Some (member_pointer_shape class member) else None

-- what a function returns is plain
abbrev pub function_step : Shape → List Shape → Quals → Option Shape
function_step ret params quals = if is_plain ret.form then Some (function_shape ret params quals) else None

-- what a function returns with what opens its parameters, where that is plain
abbrev pub opening_step : Shape → Option Shape
opening_step ret = if is_plain ret.form then Some (function_opened ret) else None

-- where a literal is put, by its form: around its type, where that is shown, and else after the output
abbrev pub IsPut : LiteralForm → Buffer → Buffer → Piece → Piece → Type 0
IsPut Boolean old new type literal = AppendsPiece old new literal
IsPut Null old new type literal = AppendsPiece old new literal
IsPut Integer old new type literal = AppendsPiece old new literal
IsPut Float old new type literal = AppendsPiece old new literal
IsPut Cast old new type literal = StaysInPlace old new type literal

-- the same of one that may begin with a parenthesis that is there
abbrev pub IsPutAfter : LiteralForm → Buffer → Buffer → Piece → Piece → Piece → Type 0
IsPutAfter Boolean old new paren type literal = AppendsPiece old new literal
IsPutAfter Null old new paren type literal = AppendsPiece old new literal
IsPutAfter Integer old new paren type literal = AppendsPiece old new literal
IsPutAfter Float old new paren type literal = AppendsPiece old new literal
IsPutAfter Cast old new paren type literal = JoinsInPlace old new paren type literal

-- the sign and the digits of a literal's value
abbrev pub value_text : List ℕ → List ℕ
value_text value = sign_text value ++ digits_text value

-- the literal, where there is one
abbrev pub literal_step : Shape → List ℕ → Option Shape
literal_step type value = if has_literal (text type) value then Some (literal_shape type value) else None

-- the text of a part, where the pieces have these shapes
abbrev pub part_text : (Piece → Shape) → Glue → List ℕ
part_text shape_of (Text bytes) = bytes.now
part_text shape_of (Part piece) = text (shape_of piece)

-- a part that is a piece lives
abbrev pub IsLivingPart : Buffer → Glue → Type 0
IsLivingPart buf (Text bytes) = Unit {0}
IsLivingPart buf (Part piece) = IsLiving buf piece
