-- What is built as it is read: what opens a name or a list, what each text adds, and what closes it.
use Rattle.std.specs.Prelude.{ℕ, ◌+◌, List, [], ◌∷◌, ◌++◌, codes, decimal, nat_eq, Bool, true, false, if◌then◌else◌}
use Rattle.std.specs.List.{ends_with}
use Rattle.demangle_text.specs.declared.pieces.Place.TheVariants.{Start}
use Rattle.demangle_quals.specs.declared.quals.Quals.{Quals}
use Rattle.demangle_quals.specs.Quals.{quals_text}
use Rattle.demangle_text.specs.declared.pieces.Kind.TheVariants.{Function}
use Rattle.demangle_text.specs.Shape.{Shape, text, plain_shape, whole_shape, inserted, appended, flattened, flagged, declared_at}
use Rattle.demangle_edit.specs.Names.{angle_gap}

-- the parent as a plain text, with the `::` after it that stands in front of a leaf
abbrev pub parent_opened : Shape → Shape
parent_opened parent = appended (codes "::") (flattened parent)

-- the parent as a plain text, with `::{default arg#k}::` after it, k being the number of a default argument
abbrev pub default_arg_opened : Shape → ℕ → Shape
default_arg_opened parent number =
    appended (codes "::{default arg#" ++ (decimal number ++ codes "}::")) (flattened parent)

-- a name as a plain text, with the text in front that was opened for it: that of a parent or of a default argument
abbrev pub enclosed : Shape → Shape → Shape
enclosed opened name = inserted Start (text opened) (flattened name)

-- what stands in front of a text of a list: nothing in front of the first
abbrev pub separator : Bool → List ℕ
separator first = if first then [] else codes ", "

-- whether the next text of a list is its first
abbrev pub is_first : List Shape → Bool
is_first [] = true
is_first (s ∷ rest) = false

-- a list as a plain text, with what stands in front of its next text
abbrev pub separated : Bool → Shape → Shape
separated first list = appended (separator first) (flattened list)

-- a list as a plain text, with a text at its end
abbrev pub followed : Shape → Shape → Shape
followed list next = appended (text next) (flattened list)

-- a list with one text more
abbrev pub listed_more : Bool → Shape → Shape → Shape
listed_more first list next = followed (separated first list) next

-- a list with each of these texts more
abbrev pub listed_each : Bool → Shape → List Shape → Shape
listed_each first list [] = list
listed_each first list (next ∷ rest) = listed_each false (listed_more first list next) rest

-- the end of a list of template arguments, with a space after `>`
abbrev pub arguments_closed : Shape → Shape
arguments_closed list = appended (if ends_with nat_eq (text list) (codes ">") then codes " >" else codes ">") list

-- a name that its template arguments follow
abbrev pub arguments_opened : Shape → Shape
arguments_opened name = flagged true name.ctor (appended (angle_gap (text name) ++ codes "<") (flattened name))

-- a name that its parameters follow
abbrev pub params_opened : Shape → Shape
params_opened name = flagged false name.ctor (appended (codes "(") (flattened name))

-- the end of a name's parameters, with the qualifiers of the function
abbrev pub params_closed : Quals → Shape → Shape
params_closed quals list = appended (codes ")" ++ quals_text quals) list

-- the end of a lambda's parameters, with its number
abbrev pub lambda_closed : ℕ → Shape → Shape
lambda_closed number list = whole_shape (appended (codes ")#" ++ (decimal number ++ codes "}")) list)

-- what a function returns, which its parameters follow, as a plain text
abbrev pub function_opened : Shape → Shape
function_opened ret = plain_shape (text ret ++ codes " (")

-- the end of a function type's parameters, with its qualifiers: what it returns has so many bytes
abbrev pub function_closed : ℕ → Quals → Shape → Shape
function_closed front quals list =
    flagged false false (declared_at Function (front + 1) (params_closed quals (flattened list)))
