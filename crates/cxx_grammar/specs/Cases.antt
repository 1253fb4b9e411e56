-- Which case of a production the next bytes select. Each table is in order: the first row that fits is taken.
use Prim.Native.String.{String}
use Rattle.std.specs.Prelude.{ℕ, List, [], ◌∷◌, codes, Bool, true, false, ◌||◌, ◌&&◌, not, if◌then◌else◌, drop, is_some}
use Rattle.abi_scalars.specs.Bytes.{begins, begins_between, begins_digit, begins_one_of, past_letter, letter}
use Rattle.cxx_grammar.specs.Words.{builtin_of, integer_of}
use Rattle.cxx_grammar.specs.declared.cases.PrefixCase.{PrefixCase}
use Rattle.cxx_grammar.specs.declared.cases.PrefixCase.TheVariants as prefix
use Rattle.cxx_grammar.specs.declared.cases.EncodingCase.{EncodingCase}
use Rattle.cxx_grammar.specs.declared.cases.EncodingCase.TheVariants as encoding
use Rattle.cxx_grammar.specs.declared.cases.NameCase.{NameCase}
use Rattle.cxx_grammar.specs.declared.cases.NameCase.TheVariants as name_case
use Rattle.cxx_grammar.specs.declared.cases.LocalCase.{LocalCase}
use Rattle.cxx_grammar.specs.declared.cases.LocalCase.TheVariants as local
use Rattle.cxx_grammar.specs.declared.cases.FirstCase.{FirstCase}
use Rattle.cxx_grammar.specs.declared.cases.FirstCase.TheVariants as first
use Rattle.cxx_grammar.specs.declared.cases.ComponentCase.{ComponentCase}
use Rattle.cxx_grammar.specs.declared.cases.ComponentCase.TheVariants as component
use Rattle.cxx_grammar.specs.declared.cases.BaseCase.{BaseCase}
use Rattle.cxx_grammar.specs.declared.cases.BaseCase.TheVariants as base
use Rattle.cxx_grammar.specs.declared.cases.TypeCase.{TypeCase}
use Rattle.cxx_grammar.specs.declared.cases.TypeCase.TheVariants as type_case
use Rattle.cxx_grammar.specs.declared.cases.ExceptionCase.{ExceptionCase}
use Rattle.cxx_grammar.specs.declared.cases.ExceptionCase.TheVariants as exception
use Rattle.cxx_grammar.specs.declared.cases.ArgCase.{ArgCase}
use Rattle.cxx_grammar.specs.declared.cases.ArgCase.TheVariants as arg
use Rattle.cxx_grammar.specs.declared.cases.LiteralCase.{LiteralCase}
use Rattle.cxx_grammar.specs.declared.cases.LiteralCase.TheVariants as literal
use Rattle.cxx_grammar.specs.declared.cases.FloatFormat.TheVariants as float
use Rattle.cxx_grammar.specs.declared.cases.ExpressionCase.{ExpressionCase}
use Rattle.cxx_grammar.specs.declared.cases.ExpressionCase.TheVariants as expression
use Rattle.cxx_grammar.specs.declared.cases.UnresolvedCase.{UnresolvedCase}
use Rattle.cxx_grammar.specs.declared.cases.UnresolvedCase.TheVariants as unresolved
use Rattle.cxx_grammar.specs.declared.cases.UnresolvedTypeCase.{UnresolvedTypeCase}
use Rattle.cxx_grammar.specs.declared.cases.UnresolvedTypeCase.TheVariants as unresolved_type
use Rattle.cxx_grammar.specs.declared.cases.DeclarationCase.{DeclarationCase}
use Rattle.cxx_grammar.specs.declared.cases.DeclarationCase.TheVariants as declaration
use Rattle.cxx_grammar.specs.declared.cases.RequirementCase.{RequirementCase}
use Rattle.cxx_grammar.specs.declared.cases.RequirementCase.TheVariants as requirement
use Rattle.cxx_grammar.specs.declared.cases.BaseNameCase.{BaseNameCase}
use Rattle.cxx_grammar.specs.declared.cases.BaseNameCase.TheVariants as base_name

-- the case of the first row that fits, or else the other one
abbrev pub case_in : {C : Type 0} → List (String × C) → C → List ℕ → C
case_in [] other bytes = other
case_in ((code, case) ∷ table) other bytes = if begins (codes code) bytes then case else case_in table other bytes

abbrev pub prefixes : List (String × PrefixCase)
prefixes =
    ("_Z", prefix.Plain 2) ∷
    ("__Z", prefix.Plain 3) ∷
    ("___Z", prefix.Block 4) ∷
    ("____Z", prefix.Block 5) ∷ []

abbrev pub case_of_prefix : List ℕ → PrefixCase
case_of_prefix bytes = case_in prefixes prefix.None bytes

-- an encoding ends at the end of the symbol, or before `E`, `.` or `_`
abbrev pub is_encoding_end : List ℕ → Bool
is_encoding_end [] = true
is_encoding_end (b ∷ bytes) = begins_one_of (codes "E._") (b ∷ bytes)

-- the parameters of an encoding also end before its constraint
abbrev pub is_params_end : List ℕ → Bool
is_params_end bytes = is_encoding_end bytes || begins (codes "Q") bytes

-- the parameters of a lambda end before `E` or a constraint
abbrev pub is_lambda_end : List ℕ → Bool
is_lambda_end bytes = begins_one_of (codes "EQ") bytes

-- the parameters of a function type end before `E`, `RE` or `OE`
abbrev pub is_function_end : List ℕ → Bool
is_function_end bytes = begins (codes "E") bytes || begins (codes "RE") bytes || begins (codes "OE") bytes

abbrev pub encodings : List (String × EncodingCase)
encodings =
    ("G", encoding.Special) ∷
    ("T", encoding.Special) ∷ []

abbrev pub case_of_encoding : List ℕ → EncodingCase
case_of_encoding bytes = case_in encodings encoding.Name bytes

abbrev pub names : List (String × NameCase)
names =
    ("N", name_case.Nested) ∷
    ("Z", name_case.Local) ∷
    ("St", name_case.Std) ∷
    ("S", name_case.Substitution) ∷ []

abbrev pub case_of_name : List ℕ → NameCase
case_of_name bytes = case_in names name_case.Unqualified bytes

-- after the `E`
abbrev pub locals : List (String × LocalCase)
locals =
    ("s", local.String) ∷
    ("d", local.DefaultArg) ∷ []

abbrev pub case_of_local : List ℕ → LocalCase
case_of_local bytes = case_in locals local.Entity bytes

abbrev pub firsts : List (String × FirstCase)
firsts =
    ("St", first.Std) ∷
    ("S", first.Substitution) ∷
    ("T", first.Param) ∷
    ("Dt", first.Decltype) ∷
    ("DT", first.Decltype) ∷ []

abbrev pub case_of_first : List ℕ → FirstCase
case_of_first bytes = case_in firsts first.Unqualified bytes

-- after the `L` of internal linkage
abbrev pub case_of_component : List ℕ → ComponentCase
case_of_component bytes =
    if begins (codes "C") bytes && begins_between "1" "5" (drop 1 bytes) then component.Ctor else
    if begins (codes "CI") bytes && begins_between "1" "5" (drop 2 bytes) then component.InheritedCtor else
    if begins (codes "D") bytes && begins_one_of (codes "01245") (drop 1 bytes) then component.Dtor else
    component.Unqualified

abbrev pub bases : List (String × BaseCase)
bases =
    ("DC", base.Bindings) ∷
    ("Ut", base.Unnamed) ∷
    ("Ub", base.Block) ∷
    ("Ul", base.Closure) ∷
    ("cv", base.Conversion) ∷
    ("li", base.Literal) ∷ []

abbrev pub case_of_base : List ℕ → BaseCase
case_of_base bytes =
    if begins_between "1" "9" bytes then base.Source else
    if begins (codes "v") bytes && begins_digit (drop 1 bytes) then base.Vendor else
    case_in bases base.Operator bytes

-- what a <function-type> begins with, after its qualifiers
abbrev pub functions : List (String × Bool)
functions =
    ("F", true) ∷
    ("Do", true) ∷
    ("DO", true) ∷
    ("Dw", true) ∷
    ("Dx", true) ∷ []

abbrev pub begins_function : List ℕ → Bool
begins_function bytes = case_in functions false bytes

abbrev pub past_qualifiers : List ℕ → List ℕ
past_qualifiers bytes = past_letter (letter "K") (past_letter (letter "V") (past_letter (letter "r") bytes))

abbrev pub types : List (String × TypeCase)
types =
    ("r", type_case.Qualified) ∷
    ("V", type_case.Qualified) ∷
    ("K", type_case.Qualified) ∷
    ("U", type_case.Qualified) ∷
    ("u", type_case.Vendor) ∷
    ("Dt", type_case.SavedRow) ∷
    ("DT", type_case.SavedRow) ∷
    ("Dv", type_case.Vector) ∷
    ("Dp", type_case.Expansion) ∷
    ("DF", type_case.Float) ∷
    ("DB", type_case.Row) ∷
    ("DU", type_case.Row) ∷
    ("Dk", type_case.Row) ∷
    ("DK", type_case.Row) ∷
    ("D", type_case.Builtin) ∷
    ("A", type_case.Array) ∷
    ("Ts", type_case.SavedRow) ∷
    ("Tu", type_case.SavedRow) ∷
    ("Te", type_case.SavedRow) ∷
    ("T", type_case.Param) ∷
    ("P", type_case.Pointer) ∷
    ("R", type_case.Reference true) ∷
    ("O", type_case.Reference false) ∷
    ("C", type_case.Suffixed true) ∷
    ("G", type_case.Suffixed false) ∷
    ("M", type_case.MemberPointer) ∷
    ("St", type_case.Class) ∷
    ("S", type_case.Substitution) ∷ []

abbrev pub case_of_type : List ℕ → TypeCase
case_of_type bytes =
    if begins_function (past_qualifiers bytes) then type_case.Function else
    if is_some (builtin_of bytes) then type_case.Builtin else case_in types type_case.Class bytes

abbrev pub exceptions : List (String × ExceptionCase)
exceptions =
    ("Do", exception.Noexcept) ∷
    ("DO", exception.Computed) ∷
    ("Dw", exception.Throw) ∷ []

abbrev pub case_of_exception : List ℕ → ExceptionCase
case_of_exception bytes = case_in exceptions exception.None bytes

abbrev pub args : List (String × ArgCase)
args =
    ("X", arg.Expression) ∷
    ("Ty", arg.Declared) ∷
    ("Tk", arg.Declared) ∷
    ("Tn", arg.Declared) ∷
    ("Tt", arg.Declared) ∷
    ("Tp", arg.Declared) ∷
    ("J", arg.Pack) ∷
    ("LZ", arg.Encoding) ∷
    ("L", arg.Literal) ∷ []

abbrev pub case_of_arg : List ℕ → ArgCase
case_of_arg bytes = case_in args arg.Type bytes

-- after the `L` of a literal
abbrev pub literals : List (String × LiteralCase)
literals =
    ("b", literal.Bool) ∷
    ("f", literal.Float float.Single) ∷
    ("d", literal.Float float.Double) ∷
    ("e", literal.Float float.Extended) ∷
    ("_Z", literal.Encoding) ∷
    ("_", literal.Unread) ∷
    ("A", literal.String) ∷
    ("Dn", literal.Null) ∷
    ("T", literal.Unread) ∷
    ("Ul", literal.Lambda) ∷
    ("U", literal.Unread) ∷ []

abbrev pub case_of_literal : List ℕ → LiteralCase
case_of_literal bytes = if is_some (integer_of bytes) then literal.Integer else case_in literals literal.Typed bytes

-- an expression that is no row
abbrev pub expressions : List (String × ExpressionCase)
expressions =
    ("nw", expression.New false false) ∷
    ("na", expression.New false true) ∷
    ("gsnw", expression.New true false) ∷
    ("gsna", expression.New true true) ∷
    ("gssr", expression.GlobalName) ∷
    ("gson", expression.GlobalName) ∷
    ("gsdn", expression.GlobalName) ∷
    ("L", expression.Literal) ∷
    ("T", expression.Param) ∷
    ("fp", expression.FunctionParam) ∷
    ("fL", expression.FunctionParam) ∷
    ("so", expression.Subobject) ∷
    ("rq", expression.Requires false) ∷
    ("rQ", expression.Requires true) ∷
    ("u", expression.Vendor) ∷
    ("aw", expression.Unread) ∷ []

abbrev pub case_of_expression : List ℕ → ExpressionCase
case_of_expression bytes =
    if begins (codes "gs") bytes && begins_digit (drop 2 bytes) then expression.GlobalName else
    case_in expressions expression.Name bytes

-- after the `gs`
abbrev pub unresolveds : List (String × UnresolvedCase)
unresolveds =
    ("srSt", unresolved.Type) ∷
    ("srNSt", unresolved.Type) ∷
    ("srN", unresolved.Nested) ∷
    ("sr", unresolved.Unresolved) ∷ []

abbrev pub case_of_unresolved : List ℕ → UnresolvedCase
case_of_unresolved bytes =
    if begins (codes "sr") bytes && begins_digit (drop 2 bytes) then unresolved.Simple else
    if begins (codes "srN") bytes && begins_digit (drop 3 bytes) then unresolved.Type else
    case_in unresolveds unresolved.Base bytes

abbrev pub unresolved_types : List (String × UnresolvedTypeCase)
unresolved_types =
    ("T", unresolved_type.Param) ∷
    ("Dt", unresolved_type.Decltype) ∷
    ("DT", unresolved_type.Decltype) ∷
    ("S", unresolved_type.Substitution) ∷ []

abbrev pub case_of_unresolved_type : List ℕ → UnresolvedTypeCase
case_of_unresolved_type bytes = case_in unresolved_types unresolved_type.Unread bytes

abbrev pub case_of_base_name : List ℕ → BaseNameCase
case_of_base_name bytes =
    if begins_digit bytes then base_name.Simple else
    if begins (codes "dn") bytes then base_name.Destructor else base_name.Operator

abbrev pub declarations : List (String × DeclarationCase)
declarations =
    ("Ty", declaration.Type) ∷
    ("Tk", declaration.Constrained) ∷
    ("Tn", declaration.Value) ∷
    ("Tt", declaration.Template) ∷
    ("Tp", declaration.Pack) ∷ []

abbrev pub case_of_declaration : List ℕ → DeclarationCase
case_of_declaration bytes = case_in declarations declaration.Unread bytes

-- a list of declarations has no mark at its end
abbrev pub is_declarations_end : List ℕ → Bool
is_declarations_end bytes = not (begins (codes "T") bytes && begins_one_of (codes "ykntp") (drop 1 bytes))

abbrev pub requirements : List (String × RequirementCase)
requirements =
    ("X", requirement.Expression) ∷
    ("T", requirement.Type) ∷
    ("Q", requirement.Nested) ∷ []

abbrev pub case_of_requirement : List ℕ → RequirementCase
case_of_requirement bytes = case_in requirements requirement.Unread bytes
