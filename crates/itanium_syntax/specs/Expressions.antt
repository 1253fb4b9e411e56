-- The cases of literals and of expressions. Of several cases the first one that fits holds.
use Prim.Native.String.{String}
use Rattle.std.specs.Prelude.{ℕ, ◌+◌, List, [], ◌∷◌, length, take, drop, Bool, false, not, ◌&&◌, ◌||◌, ◌==◌, nat_lt, codes, if◌then◌else◌, Option, Some, None, unwrap_or}
use Rattle.std.specs.List.{prefix_len}
use Rattle.std.specs.Str.{is_utf8}
use Rattle.abi_scalars.specs.Bytes.{is, begins, begins_one_of}
use Rattle.itanium_syntax.specs.Cases.{PrimaryCase, ExternalName, ValueLiteral, UnreadablePrimary, ExpressionCase}
use Rattle.itanium_syntax.specs.Cases.{PreExpression, AddressExpression, UnaryExpression, PostExpression}
use Rattle.itanium_syntax.specs.Cases.{BinaryExpression, GreaterExpression, ConditionalExpression, TemplateParamExpression}
use Rattle.itanium_syntax.specs.Cases.{PrimaryExpression, UnreadableExpression}
use Rattle.itanium_syntax.specs.Operators.{is_code, operator_here, operator_arity}

-- an external name is next
abbrev pub is_external : List ℕ → Bool
is_external bytes = begins (codes "L_Z") bytes

-- a literal or an external name, from its L on
abbrev pub primary_case : List ℕ → PrimaryCase
primary_case bytes =
    if is_external bytes then ExternalName else
    if begins (codes "L_") bytes || begins (codes "LZ") bytes then UnreadablePrimary else ValueLiteral

-- how many bytes come before the first E: all where there is none
abbrev pub value_len : List ℕ → ℕ
value_len bytes = prefix_len (λ b. not (is "E" b)) bytes

-- the value of a literal, all bytes up to the first E, which are UTF-8, and what follows the E
unfoldable pub literal_value : List ℕ → Option (List ℕ × List ℕ)
literal_value bytes =
    let value = take (value_len bytes) bytes in
    if nat_lt (value_len bytes) (length bytes) && is_utf8 value
    then Some (value, drop (value_len bytes + 1) bytes) else None

-- the codes of expressions that aren't read
abbrev pub refused_codes : List String
refused_codes =
    "cl" ∷ "cv" ∷ "tl" ∷ "il" ∷ "dc" ∷ "sc" ∷ "cc" ∷ "rc" ∷ "ti" ∷ "te" ∷ "st" ∷ "sz" ∷ "at" ∷ "az" ∷ "nx" ∷ "so" ∷
    "dt" ∷ "pt" ∷ "ds" ∷ "sZ" ∷ "sP" ∷ "sp" ∷ "tw" ∷ "tr" ∷ "gs" ∷ "nw" ∷ "na" ∷ "dl" ∷ "da" ∷ []

-- the code is one of these
abbrev pub is_code_of : List String → ℕ → ℕ → Bool
is_code_of [] first second = false
is_code_of (code ∷ table) first second = is_code (codes code) first second || is_code_of table first second

-- the code of an expression that isn't read
abbrev pub expression_refused : ℕ → ℕ → Bool
expression_refused first second = is_code_of refused_codes first second

-- such a code is next
abbrev pub refused_here : List ℕ → Bool
refused_here (first ∷ second ∷ bytes) = expression_refused first second
refused_here bytes = false

-- how many operands the code has that is next
abbrev pub arity_here : List ℕ → Option ℕ
arity_here (first ∷ second ∷ bytes) = operator_arity first second
arity_here bytes = None

-- the text of the operator whose code is next, and no text where none is
abbrev pub expression_text : List ℕ → List ℕ
expression_text bytes = unwrap_or (operator_here bytes) []

-- an expression that isn't an operator's: a <template-param>, or a literal or an external name
abbrev pub operand_case : List ℕ → ExpressionCase
operand_case bytes =
    if begins (codes "T") bytes && not (begins_one_of (codes "sueL") (drop 1 bytes)) then TemplateParamExpression else
    if begins (codes "L") bytes then PrimaryExpression else UnreadableExpression

-- an expression, by its operator's number of operands; `None` where no operator is next
abbrev pub operator_case : List ℕ → Option ℕ → ExpressionCase
operator_case bytes None = operand_case bytes
operator_case bytes (Some arity) =
    if begins (codes "ad") bytes && is_external (drop 2 bytes) then AddressExpression else
    if begins (codes "pp") bytes || begins (codes "mm") bytes then PostExpression else
    if begins (codes "gt") bytes then GreaterExpression else
    if arity == 1 then UnaryExpression else
    if arity == 3 then ConditionalExpression else BinaryExpression

-- `pp_` or `mm_` is next: ++ or -- is printed in front of the operand
abbrev pub is_pre : List ℕ → Bool
is_pre bytes = begins (codes "pp_") bytes || begins (codes "mm_") bytes

-- <expression>
abbrev pub expression_case : List ℕ → ExpressionCase
expression_case bytes =
    if is_pre bytes then PreExpression else
    if refused_here bytes then UnreadableExpression else operator_case bytes (arity_here bytes)
