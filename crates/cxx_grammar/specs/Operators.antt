-- The rows of expressions: operators, and what else is a code, items and a tree (Itanium C++ ABI 5.1.6).
use Prim.Native.String.{String}
use Rattle.std.specs.Prelude.{ℕ, List, [], ◌∷◌, codes, drop, true, false, Option, Some, None, if◌then◌else◌}
use Rattle.cxx_tree.specs.declared.kinds.Prec.{Prec}
use Rattle.cxx_tree.specs.declared.kinds.Prec.TheVariants.{Postfix, Unary, Cast, PtrMem, Multiplicative, Additive, Shift, Spaceship, Relational, Equality, And, Xor, Ior, AndIf, OrIf, Assign, Comma}
use Rattle.abi_scalars.specs.Bytes.{begins}
use Rattle.cxx_grammar.specs.declared.rows.Item.{Item}
use Rattle.cxx_grammar.specs.declared.rows.Item.TheVariants as item
use Rattle.cxx_grammar.specs.declared.rows.Maker.{Maker}
use Rattle.cxx_grammar.specs.declared.rows.Maker.TheVariants as maker
use Rattle.cxx_grammar.specs.Words.{row}
use Rattle.cxx_grammar.specs.Rows.{Row, made}

-- <expression>, and <expression> <expression>
abbrev pub one_operand : List Item
one_operand = item.Expression ∷ []

abbrev pub two_operands : List Item
two_operands = item.Expression ∷ item.Expression ∷ []

-- <binary operator-name> <expression> <expression>
abbrev pub between : String → Prec → Row
between symbol prec = made (maker.Binary prec) symbol two_operands

abbrev pub assigned : String → Row
assigned symbol = between symbol Assign

-- those of two letters of which the second is a capital letter
abbrev pub assignment_rows : List (String × Row)
assignment_rows =
    ("aN", assigned "&=") ∷
    ("aS", assigned "=") ∷
    ("dV", assigned "/=") ∷
    ("eO", assigned "^=") ∷
    ("lS", assigned "<<=") ∷
    ("mI", assigned "-=") ∷
    ("mL", assigned "*=") ∷
    ("oR", assigned "|=") ∷
    ("pL", assigned "+=") ∷
    ("rM", assigned "%=") ∷
    ("rS", assigned ">>=") ∷ []

-- all of them
abbrev pub binary_rows : List (String × Row)
binary_rows =
    ("aa", between "&&" AndIf) ∷
    ("an", between "&" And) ∷
    ("cm", between "," Comma) ∷
    ("dv", between "/" Multiplicative) ∷
    ("eo", between "^" Xor) ∷
    ("eq", between "==" Equality) ∷
    ("ge", between ">=" Relational) ∷
    ("gt", between ">" Relational) ∷
    ("le", between "<=" Relational) ∷
    ("ls", between "<<" Shift) ∷
    ("lt", between "<" Relational) ∷
    ("mi", between "-" Additive) ∷
    ("ml", between "*" Multiplicative) ∷
    ("ne", between "!=" Equality) ∷
    ("oo", between "||" OrIf) ∷
    ("or", between "|" Ior) ∷
    ("pl", between "+" Additive) ∷
    ("rm", between "%" Multiplicative) ∷
    ("rs", between ">>" Shift) ∷
    ("ss", between "<=>" Spaceship) ∷ assignment_rows

-- dt <expression> <unresolved-name> | pt <expression> <unresolved-name>, where any expression may be the name
-- ds <expression> <expression> | pm <expression> <expression>
abbrev pub member_by : String → Prec → Row
member_by symbol prec = made (maker.Member prec) symbol two_operands

-- those that a fold may have
abbrev pub foldable_rows : List (String × Row)
foldable_rows =
    ("ds", member_by ".*" PtrMem) ∷
    ("pm", member_by "->*" PtrMem) ∷ binary_rows

-- <unary operator-name> <expression>
abbrev pub in_front : String → Row
in_front symbol = made (maker.Prefix Unary) symbol one_operand

-- ti <type> | st <type> | at <type>
-- te <expression> | sz <expression> | az <expression> | nx <expression>
abbrev pub word_of_type : String → Prec → Row
word_of_type word prec = made (maker.Enclosing prec) word (item.Type ∷ [])

abbrev pub word_of_operand : String → Prec → Row
word_of_operand word prec = made (maker.Enclosing prec) word one_operand

-- [gs] dl <expression> | [gs] da <expression>
abbrev pub deleted : String → Row
deleted word = made maker.Unary word one_operand

-- those of one expression or of one type, and then those that a fold may have
abbrev pub unary_rows : List (String × Row)
unary_rows =
    ("ad", in_front "&") ∷
    ("co", in_front "~") ∷
    ("de", in_front "*") ∷
    ("ng", in_front "-") ∷
    ("nt", in_front "!") ∷
    ("ps", in_front "+") ∷
    ("mm", made maker.Postfix "--" one_operand) ∷
    ("pp", made maker.Postfix "++" one_operand) ∷
    ("dl", deleted "delete ") ∷
    ("da", deleted "delete[] ") ∷
    ("at", word_of_type "alignof " Unary) ∷
    ("st", word_of_type "sizeof " Unary) ∷
    ("ti", word_of_type "typeid " Postfix) ∷
    ("az", word_of_operand "alignof " Unary) ∷
    ("sz", word_of_operand "sizeof " Unary) ∷
    ("te", word_of_operand "typeid " Postfix) ∷
    ("nx", word_of_operand "noexcept " Unary) ∷ foldable_rows

-- dc <type> <expression> | sc <type> <expression> | cc <type> <expression> | rc <type> <expression>
abbrev pub cast_by : String → Row
cast_by word = made maker.NamedCast word (item.Type ∷ item.Expression ∷ [])

-- il <braced-expression>* E | tl <type> <braced-expression>* E
-- sp <expression>
-- sZ <function-param> | sP <template-arg>* E
-- tr | tw <expression>
abbrev pub word_rows : List (String × Row)
word_rows =
    ("il", made maker.InitList "" (item.Braces ∷ [])) ∷
    ("tl", made maker.TypedInitList "" (item.Type ∷ item.Braces ∷ [])) ∷
    ("sp", made maker.Expansion "" one_operand) ∷
    ("sZ", made maker.CountPack "" (item.FunctionParam ∷ [])) ∷
    ("sP", made maker.CountArgs "" (item.Args ∷ [])) ∷
    ("tr", made maker.Name "throw" []) ∷
    ("tw", made maker.Prefixed "throw " one_operand) ∷ unary_rows

-- cl <expression>+ E
-- ix <expression> <expression>
-- qu <expression> <expression> <expression>
-- cv <type> <expression> | cv <type> _ <expression>* E
-- mc <parameter type> <expression> [<offset number>] E
abbrev pub coded_rows : List (String × Row)
coded_rows =
    ("cc", cast_by "const_cast") ∷
    ("dc", cast_by "dynamic_cast") ∷
    ("rc", cast_by "reinterpret_cast") ∷
    ("sc", cast_by "static_cast") ∷
    ("dt", member_by "." Postfix) ∷
    ("pt", member_by "->" Postfix) ∷
    ("cl", made maker.Call "" (item.Expression ∷ item.Expressions ∷ [])) ∷
    ("ix", made maker.Subscript "" two_operands) ∷
    ("qu", made maker.Conditional "" (item.Expression ∷ item.Expression ∷ item.Expression ∷ [])) ∷
    ("cv", made (maker.Conversion Cast) "" (item.BareType ∷ item.Operands ∷ [])) ∷
    ("mc", made (maker.Conversion Unary) "" (item.Type ∷ item.Expression ∷ item.Number ∷ item.E ∷ [])) ∷ word_rows

-- pp_ <expression> | mm_ <expression>
abbrev pub stepped : String → Row
stepped symbol = record (made (maker.Prefix Postfix) symbol one_operand) { skip = 3 }

-- those whose codes are longer: with a letter of what follows, or behind gs
abbrev pub longer_rows : List (String × Row)
longer_rows =
    ("mm_", stepped "--") ∷
    ("pp_", stepped "++") ∷
    ("sZT", made maker.CountPattern "" (item.TemplateParam ∷ [])) ∷
    ("gsdl", record (deleted "::delete ") { skip = 4 }) ∷
    ("gsda", record (deleted "::delete[] ") { skip = 4 }) ∷ []

abbrev pub first_row : Option Row → Option Row → Option Row
first_row None other = other
first_row (Some row) other = Some row

-- Folds.

-- a code of four letters, of which the last two are an operator's
pub record FoldCase : Type 0 where
  pub items : List Item
  pub maker : Maker

abbrev pub folding : List Item → Maker → FoldCase
folding items maker = record { items = items; maker = maker }

-- fl <binary operator-name> <expression> | fr <binary operator-name> <expression>
-- fL <binary operator-name> <expression> <expression> | fR <binary operator-name> <expression> <expression>
abbrev pub folds : List (String × FoldCase)
folds =
    ("fl", folding one_operand (maker.Fold true)) ∷
    ("fr", folding one_operand (maker.Fold false)) ∷
    ("fL", folding two_operands (maker.FoldWith true)) ∷
    ("fR", folding two_operands (maker.FoldWith false)) ∷ []

abbrev pub fold_of : Option FoldCase → Option Row → Option Row
fold_of (Some fold) (Some operator) =
    Some (record { skip = 4; items = fold.items; maker = fold.maker; words = operator.words })
fold_of fold operator = None

unfoldable pub fold_row_of : List ℕ → Option Row
fold_row_of bytes = fold_of (row folds bytes) (row foldable_rows (drop 2 bytes))

-- the row of an expression
unfoldable pub expression_row_of : List ℕ → Option Row
expression_row_of bytes =
    if begins (codes "f") bytes then fold_row_of bytes else first_row (row longer_rows bytes) (row coded_rows bytes)

-- di <field source-name> <braced-expression>
-- dx <index expression> <braced-expression>
-- dX <range begin expression> <range end expression> <braced-expression>
abbrev pub braced_rows : List (String × Row)
braced_rows =
    ("di", made (maker.Designated false) "" (item.SourceName ∷ item.Braced ∷ [])) ∷
    ("dx", made (maker.Designated true) "" (item.Expression ∷ item.Braced ∷ [])) ∷
    ("dX", made maker.DesignatedRange "" (item.Expression ∷ item.Expression ∷ item.Braced ∷ [])) ∷ []

unfoldable pub braced_row_of : List ℕ → Option Row
braced_row_of bytes = row braced_rows bytes
