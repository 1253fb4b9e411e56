-- The trees whose text is texts and trees in a row, each with its fields. A text that GNU's style has otherwise follows
-- that of LLVM's. All other trees are constructors of Tree: a name in a scope and a friend are both `scoped`.
use Prim.Native.String.{String}
use Rattle.std.specs.Prelude.{ℕ, ◌+◌, Bool, true, false, not, if◌then◌else◌, Option, Some, None, List, [], ◌∷◌, length}
use Rattle.std.specs.Prelude.{codes, bytes_eq}
use Rattle.cxx_tree.specs.declared.kinds.Cv.{Cv}
use Rattle.cxx_tree.specs.declared.kinds.RefQual.{RefQual}
use Rattle.cxx_tree.specs.declared.kinds.Phrase.{Phrase}
use Rattle.cxx_tree.specs.declared.kinds.Prec.{Prec}
use Rattle.cxx_tree.specs.declared.kinds.Prec.TheVariants.{Primary, Postfix, Unary, Cast, OrIf}
use Rattle.cxx_tree.specs.declared.kinds.Prec.TheVariants.{Conditional, Assign, Comma}
use Rattle.cxx_tree.specs.declared.kinds.Role.TheVariants.{Ordinary, Simple, Designator, Module}
use Rattle.cxx_tree.specs.declared.kinds.Guard.{Guard}
use Rattle.cxx_tree.specs.declared.kinds.Guard.TheVariants as guarded
use Rattle.cxx_tree.specs.declared.kinds.Context.TheVariants.{Same, Enclosed, Angle}
use Rattle.cxx_tree.specs.declared.kinds.Manner.{Manner}
use Rattle.cxx_tree.specs.declared.kinds.Manner.TheVariants.{Whole, Operand, Scope, Callee, Address, Value}
use Rattle.cxx_tree.specs.declared.kinds.Manner.TheVariants.{Argument, Count, Folded}
use Rattle.cxx_tree.specs.declared.kinds.Listing.TheVariants as listing
use Rattle.cxx_tree.specs.Tree.{Tree, Trees, Parts, leaf, phrase, template_param, array, function, encoding}
use Rattle.cxx_tree.specs.Tree.{no_trees, more_trees, no_parts, text, tree, trees}

-- Pieces: each puts a part, a few or none in front of the parts behind it.

-- a piece, and the parts behind it
infixr 20 ◌·◌
abbrev pub ◌·◌ : (Parts → Parts) → Parts → Parts
piece · behind = piece behind

-- a text that is always the same, in LLVM's style and in GNU's
abbrev pub styled : String → String → Parts → Parts
styled llvm gnu = text (codes llvm) (codes gnu)

-- the same text in both styles
abbrev pub fixed : String → Parts → Parts
fixed words = styled words words

-- a text of the tree, in both styles
abbrev pub held : List ℕ → Parts → Parts
held w = text w w

-- a tree as it is
abbrev pub whole : Tree → Parts → Parts
whole t = tree (Whole Same) t

-- a tree in parentheses or in brackets
abbrev pub enclosed : Tree → Parts → Parts
enclosed t = tree (Whole Enclosed) t

-- a tree in angle brackets
abbrev pub angled : Tree → Parts → Parts
angled t = tree (Whole Angle) t

-- an operand that may be as loose as the precedence
abbrev pub loose : Prec → Tree → Parts → Parts
loose p t = tree (Operand p true) t

-- an operand that is tighter than the precedence
abbrev pub tight : Prec → Tree → Parts → Parts
tight p t = tree (Operand p false) t

-- a tree that only GNU's style has in parentheses
abbrev pub gnu_operand : Tree → Parts → Parts
gnu_operand t = loose Comma t

-- trees in parentheses
abbrev pub parens : Trees → Parts → Parts
parens ts = trees listing.Parens ts

-- the same, if there are any
abbrev pub parens_if_any : Trees → Parts → Parts
parens_if_any no_trees behind = behind
parens_if_any (more_trees t ts) behind = parens (more_trees t ts) behind

-- a tree, if there is one
abbrev pub optional : Option Tree → Parts → Parts
optional None behind = behind
optional (Some t) behind = whole t · behind

-- ` requires ` and a constraint, if there is one
abbrev pub constrained : Option Tree → Parts → Parts
constrained None behind = behind
constrained (Some r) behind = fixed " requires " · whole r · behind

-- Attributes. The work of a phrase itself is 1 and the bytes of the texts that it holds.

-- an expression that holds texts of so many bytes, whose last part isn't at its end
abbrev pub expression : ℕ → Prec → Phrase
expression bytes p = record {
  own = 1 + bytes;
  prec = p;
  role = Ordinary;
  guard = guarded.Open;
  is_closed = false;
  is_open = false;
  is_reversed = false;
}

-- a name, a type or a primary expression
abbrev pub primary : ℕ → Phrase
primary bytes = expression bytes Primary

-- the same, but the last part is at the end
abbrev pub ending : Phrase → Phrase
ending p = record p { is_open = true }

-- Names.

abbrev pub word : List ℕ → List ℕ → Tree
word llvm gnu = leaf true llvm gnu

abbrev pub literal : List ℕ → List ℕ → Tree
literal llvm gnu = leaf false llvm gnu

-- the number of the declaration is no part of the tree
abbrev pub lambda_param : List ℕ → List ℕ → Tree
lambda_param llvm gnu = leaf false llvm gnu

-- the ordinal of a count is given beside it
abbrev pub default_arg : Tree → List ℕ → List ℕ → Tree
default_arg e count ordinal =
    phrase (primary (length count))
    (tree Scope e · styled "" "::{default arg#" · text [] ordinal · styled "" "}" · no_parts)

-- what stands in front of the name of a module
abbrev pub module_front : Option Tree → Bool → Parts → Parts
module_front None false behind = behind
module_front None true behind = fixed ":" · behind
module_front (Some parent) false behind = whole parent · fixed "." · behind
module_front (Some parent) true behind = whole parent · fixed ":" · behind

abbrev pub module_name : Option Tree → Tree → Bool → Tree
module_name parent n is_partition =
    phrase (record (primary 0) { role = Module }) (module_front parent is_partition · whole n · no_parts)

abbrev pub tilde : Bool → Parts → Parts
tilde false behind = behind
tilde true behind = fixed "~" · behind

abbrev pub ctor_dtor : List ℕ → Bool → Tree
ctor_dtor class is_destructor = phrase (primary (length class)) (tilde is_destructor · held class · no_parts)

abbrev pub dtor_name : Tree → Tree
dtor_name t = phrase (ending (primary 0)) (fixed "~" · whole t · no_parts)

abbrev pub unnamed : List ℕ → List ℕ → Tree
unnamed count ordinal =
    phrase (primary (length count))
    (styled "'unnamed" "{unnamed type#" · text count ordinal · styled "'" "}" · no_parts)

-- the template parameters of a lambda, if there are any
abbrev pub declared : Trees → Parts → Parts
declared no_trees behind = behind
declared (more_trees d ds) behind = trees listing.Declarations (more_trees d ds) behind

-- the constraint of a lambda in front of its parameters, if there is one
abbrev pub constrained_before : Option Tree → Parts → Parts
constrained_before None behind = behind
constrained_before (Some r) behind = fixed " requires " · whole r · fixed " " · behind

-- `<DECLARATIONS> requires BEFORE (PARAMS) requires AFTER`
abbrev pub signature : Trees → Option Tree → Trees → Option Tree → Parts → Parts
signature declarations before params after behind =
    declared declarations · constrained_before before · parens params · constrained after · behind

abbrev pub closure : Trees → Option Tree → Trees → Option Tree → List ℕ → List ℕ → Tree
closure declarations before params after count ordinal =
    phrase (primary (length count))
    (styled "'lambda" "{lambda" · text count [] · styled "'" "" · signature declarations before params after
    · styled "" "#" · text [] ordinal · styled "" "}" · no_parts)

abbrev pub bindings : Trees → Tree
bindings names =
    phrase (record (primary 0) { is_closed = true }) (fixed "[" · trees listing.Enclosed names · fixed "]" · no_parts)

-- Types.

abbrev pub dimension_of : Option Tree → Parts
dimension_of d = optional d · no_parts

abbrev pub array_of : Tree → Option Tree → Tree
array_of element dimension = array element (dimension_of dimension)

-- the exception specification of a function, if there is one
abbrev pub exception_of : Option Tree → Parts
exception_of None = no_parts
exception_of (Some x) = fixed " " · whole x · no_parts

abbrev pub function_of : Tree → Trees → Cv → RefQual → Option Tree → Tree
function_of ret params cv ref exception = function ret params cv ref (exception_of exception)

abbrev pub suffixed : Tree → List ℕ → List ℕ → Tree
suffixed t llvm gnu = phrase (primary (length llvm)) (whole t · text llvm gnu · no_parts)

abbrev pub vendor_qualified : Tree → List ℕ → Option Trees → Tree
vendor_qualified t qualifier None =
    phrase (primary (length qualifier)) (whole t · fixed " " · held qualifier · no_parts)
vendor_qualified t qualifier (Some args) =
    phrase (ending (primary (length qualifier)))
    (whole t · fixed " " · held qualifier · trees listing.Angles args · no_parts)

abbrev pub vector : Tree → Option Tree → Tree
vector t d =
    phrase (record (primary 0) { is_closed = true })
    (whole t · styled " vector[" " __vector(" · optional d · styled "]" ")" · no_parts)

-- Declarations and encodings.

abbrev pub template_param_of : Tree → Trees → Option Tree → Tree
template_param_of n declarations constraint = template_param n declarations (constrained constraint · no_parts)

-- no tree, or one
abbrev pub at_most_one : Option Tree → Trees
at_most_one None = no_trees
at_most_one (Some t) = more_trees t no_trees

-- what follows the qualifiers of a function with a name
abbrev pub rest_of : Option Trees → Option Tree → Parts
rest_of None None = no_parts
rest_of None (Some r) = fixed " requires " · whole r · no_parts
rest_of (Some conditions) None = fixed " [enable_if:" · trees listing.Items conditions · fixed "]" · no_parts
rest_of (Some conditions) (Some r) =
    fixed " [enable_if:" · trees listing.Items conditions · fixed "] requires " · whole r · no_parts

abbrev pub function_encoding : Option Tree → Tree → Trees → Option Trees → Option Tree → Cv → RefQual → Tree
function_encoding ret n params enable_if constraint cv ref =
    encoding (at_most_one ret) n params cv ref (rest_of enable_if constraint)

abbrev pub ctor_vtable : Tree → Tree → Tree
ctor_vtable a b =
    phrase (ending (primary 0)) (fixed "construction vtable for " · whole a · fixed "-in-" · whole b · no_parts)

-- Prefixed and enclosed trees.

-- in GNU's style the operand of a unary operator may be in parentheses
abbrev pub prefixed_manner : Prec → Manner
prefixed_manner Unary = Operand Comma true
prefixed_manner p = Whole Same

abbrev pub prefixed : List ℕ → List ℕ → Tree → Prec → Tree
prefixed llvm gnu t p =
    phrase (ending (expression (length llvm) p)) (text llvm gnu · tree (prefixed_manner p) t · no_parts)

abbrev pub enclosing : List ℕ → List ℕ → Tree → Prec → Tree
enclosing llvm gnu t p =
    phrase (expression (length llvm) p) (text llvm gnu · fixed "(" · enclosed t · fixed ")" · no_parts)

-- Enclosing with the word `sizeof...`, or `sizeof... ` where a blank stands behind it
abbrev pub count : Bool → Tree → Tree
count false t = phrase (primary (length (codes "sizeof..."))) (tree (Count false) t · no_parts)
count true t = phrase (primary (length (codes "sizeof... "))) (tree (Count true) t · no_parts)

-- Expressions.

-- what a binary operator is in a template argument list
abbrev pub guard_of : List ℕ → Guard
guard_of symbol =
    if bytes_eq symbol (codes ">")
    then guarded.Greater
    else (if bytes_eq symbol (codes ">>") then guarded.Shift else guarded.Open)

-- in front of a comma there is no blank
abbrev pub blank_before : List ℕ → Parts → Parts
blank_before symbol behind = if bytes_eq symbol (codes ",") then behind else (styled " " "" · behind)

-- in GNU's style a `<` or a `>` at the end of `A>B` isn't one at the end of the text, since it stands in parentheses
abbrev pub binary_phrase : List ℕ → Prec → Phrase
binary_phrase symbol p =
    record (expression (length symbol) p) { guard = guard_of symbol; is_open = not (bytes_eq symbol (codes ">")) }

-- the operands of a binary operator. An assignment has the looser one at its right
abbrev pub left_manner : Prec → Manner
left_manner Assign = Operand OrIf false
left_manner p = Operand p true

abbrev pub right_manner : Prec → Manner
right_manner Assign = Operand Assign true
right_manner p = Operand p false

abbrev pub binary : Tree → List ℕ → Tree → Prec → Tree
binary a symbol b p =
    phrase (binary_phrase symbol p)
    (tree (left_manner p) a · blank_before symbol · held symbol · styled " " "" · tree (right_manner p) b · no_parts)

abbrev pub subscript : Tree → Tree → Tree
subscript a index =
    phrase (expression 0 Postfix) (tight Postfix a · fixed "[" · enclosed index · fixed "]" · no_parts)

abbrev pub postfix_op : Tree → List ℕ → Tree
postfix_op a symbol = phrase (expression (length symbol) Postfix) (loose Postfix a · held symbol · no_parts)

-- the operand of a prefix operator
abbrev pub prefix_manner : List ℕ → Prec → Manner
prefix_manner symbol p = if bytes_eq symbol (codes "&") then Address p else Operand p false

abbrev pub prefix_op : List ℕ → Tree → Prec → Tree
prefix_op symbol a p =
    phrase (ending (expression (length symbol) p)) (held symbol · tree (prefix_manner symbol p) a · no_parts)

abbrev pub conditional : Tree → Tree → Tree → Tree
conditional a b c =
    phrase (ending (expression 0 Conditional))
    (tight Conditional a · styled " ? " "?" · gnu_operand b · fixed " : " · loose Assign c · no_parts)

abbrev pub member : Tree → List ℕ → Tree → Prec → Tree
member a symbol b p =
    phrase (ending (expression (length symbol) p)) (loose p a · held symbol · tight p b · no_parts)

-- an offset without a text is 0
abbrev pub offset_text : List ℕ → List ℕ
offset_text [] = codes "0"
offset_text (d ∷ ds) = d ∷ ds

-- the pack that counts is that of the type, which stands behind the expression
abbrev pub subobject : Tree → Tree → List ℕ → Tree
subobject t e offset =
    phrase (record (ending (primary (length offset))) { is_reversed = true })
    (whole e · fixed ".<" · whole t · fixed " at offset " · held (offset_text offset) · fixed ">" · no_parts)

abbrev pub named_cast : List ℕ → Tree → Tree → Tree
named_cast w t e =
    phrase (expression (length w) Postfix)
    (held w · fixed "<" · angled t · fixed ">(" · enclosed e · fixed ")" · no_parts)

abbrev pub call : Tree → Trees → Tree
call callee args = phrase (expression 0 Postfix) (tree Callee callee · parens args · no_parts)

abbrev pub new_llvm : Bool → Bool → List ℕ
new_llvm false false = codes "new"
new_llvm false true = codes "new[]"
new_llvm true false = codes "::new"
new_llvm true true = codes "::new[]"

abbrev pub new_gnu : Bool → List ℕ
new_gnu false = codes "new "
new_gnu true = codes "::new "

abbrev pub placed : Trees → Parts → Parts
placed no_trees behind = styled " " "" · behind
placed (more_trees t ts) behind = parens (more_trees t ts) · fixed " " · behind

abbrev pub new_expression : Trees → Tree → Trees → Bool → Bool → Tree
new_expression placement t inits is_global is_array =
    phrase (expression 0 Unary)
    (text (new_llvm is_global is_array) (new_gnu is_global) · placed placement · whole t · parens_if_any inits
    · no_parts)

abbrev pub conversion : Tree → Trees → Prec → Tree
conversion t (more_trees e no_trees) p =
    phrase (ending (expression 0 p)) (fixed "(" · enclosed t · fixed ")" · tree Argument e · no_parts)
conversion t es p = phrase (expression 0 p) (fixed "(" · enclosed t · fixed ")" · parens es · no_parts)

abbrev pub init_list : Option Tree → Trees → Tree
init_list t es =
    phrase (record (primary 0) { role = Simple })
    (optional t · fixed "{" · trees listing.Items es · fixed "}" · no_parts)

abbrev pub designator : Phrase
designator = record (primary 0) { role = Designator }

abbrev pub designated : Tree → Tree → Bool → Tree
designated d e false = phrase designator (fixed "." · whole d · tree Value e · no_parts)
designated d e true = phrase designator (fixed "[" · whole d · fixed "]" · tree Value e · no_parts)

abbrev pub designated_range : Tree → Tree → Tree → Tree
designated_range a b e =
    phrase designator (fixed "[" · whole a · fixed " ... " · whole b · fixed "]" · tree Value e · no_parts)

-- two operands, with the symbol at both sides of the dots
abbrev pub fold_between : List ℕ → Manner → Tree → Manner → Tree → Parts
fold_between symbol m a n b =
    fixed "(" · tree m a · styled " " "" · held symbol · styled " ... " "..." · held symbol · styled " " "" · tree n b
    · fixed ")" · no_parts

-- the flag says that the pack is at the right of the dots
abbrev pub fold_parts : Bool → List ℕ → Tree → Option Tree → Parts
fold_parts true symbol t None =
    styled "(... " "(..." · held symbol · styled " " "" · tree Folded t · fixed ")" · no_parts
fold_parts false symbol t None =
    fixed "(" · tree Folded t · styled " " "" · held symbol · styled " ...)" "...)" · no_parts
fold_parts true symbol t (Some init) = fold_between symbol (Operand Cast true) init Folded t
fold_parts false symbol t (Some init) = fold_between symbol Folded t (Operand Cast true) init

abbrev pub fold : Bool → List ℕ → Tree → Option Tree → Tree
fold is_left symbol t init =
    phrase (record (primary (length symbol)) { guard = guarded.Enclosed }) (fold_parts is_left symbol t init)

abbrev pub string_literal : Tree → Tree
string_literal t = phrase (primary 0) (fixed "\"<" · whole t · fixed ">\"" · no_parts)

abbrev pub lambda : Trees → Option Tree → Trees → Option Tree → Tree
lambda declarations before params after =
    phrase (primary 0) (fixed "[]" · signature declarations before params after · fixed "{...}" · no_parts)

abbrev pub typed_literal : Tree → List ℕ → Tree
typed_literal t value =
    phrase (primary (length value)) (fixed "(" · enclosed t · fixed ")" · held value · no_parts)

abbrev pub requires_expression : Trees → Trees → Tree
requires_expression no_trees requirements =
    phrase (primary 0) (fixed "requires {" · trees listing.Sequence requirements · fixed " }" · no_parts)
requires_expression (more_trees p ps) requirements =
    phrase (primary 0)
    (fixed "requires " · parens (more_trees p ps) · fixed " {" · trees listing.Sequence requirements · fixed " }"
    · no_parts)

abbrev pub requirement_parts : Tree → Bool → Option Tree → Parts
requirement_parts e false None = fixed " " · whole e · fixed ";" · no_parts
requirement_parts e true None = fixed " {" · enclosed e · fixed "} noexcept;" · no_parts
requirement_parts e false (Some c) = fixed " {" · enclosed e · fixed "} -> " · whole c · fixed ";" · no_parts
requirement_parts e true (Some c) = fixed " {" · enclosed e · fixed "} noexcept -> " · whole c · fixed ";" · no_parts

abbrev pub expr_requirement : Tree → Bool → Option Tree → Tree
expr_requirement e is_noexcept c = phrase (primary 0) (requirement_parts e is_noexcept c)

abbrev pub requirement : List ℕ → Tree → Tree
requirement w t = phrase (primary (length w)) (fixed " " · held w · fixed " " · whole t · fixed ";" · no_parts)
