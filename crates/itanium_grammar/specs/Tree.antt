-- What a symbol says, as a tree, and the shape of its printing: a text, with the places where a later step may change
-- it (`demangle_text/specs/Shape`). Each tree has a shape here. What can't be printed isn't read: the grammar asks
-- `may_be_element`, `may_be_member`, `has_literal` and `is_plain`.
use Rattle.std.specs.Prelude.{ℕ, ◌+◌, Bool, true, false, not, List, [], ◌∷◌, ◌++◌, map, length, codes, decimal, Option, Some, None, if◌then◌else◌}
use Rattle.demangle_text.specs.Shape.{Shape, plain_shape, with_own, flagged, appended, text}
use Rattle.demangle_quals.specs.declared.quals.Quals.{Quals}
use Rattle.demangle_quals.specs.declared.quals.Pointer.{Pointer}
use Rattle.demangle_quals.specs.Quals.{no_quals}
use Rattle.demangle_edit.specs.Types.{pointer_shape, cv_shape, array_shape, member_pointer_shape, function_shape, expansion_shape}
use Rattle.std.specs.List.{concat}
use Rattle.demangle_edit.specs.Lists.{glued, arguments_shape, pack_shape, lambda_shape}
use Rattle.demangle_edit.specs.Expressions.{literal_shape, operand_shape, address_shape}
use Rattle.demangle_edit.specs.Names.{qualified, default_arg_shape, qualified_ctor, attached, tagged, with_name_qualifiers, encoding_shape}
use Rattle.itanium_syntax.specs.declared.offsets.Signed.{Signed}
use Rattle.itanium_syntax.specs.declared.offsets.CallOffset.{CallOffset}
use Rattle.itanium_syntax.specs.declared.offsets.CallOffset.TheVariants.{Plain, Virtual}
use Rattle.itanium_syntax.specs.declared.offsets.ThunkOffsets.{ThunkOffsets}
use Rattle.itanium_syntax.specs.declared.offsets.ThunkOffsets.TheVariants.{Single, Covariant}
use Rattle.itanium_syntax.specs.declared.abbreviations.Abbreviation.{Abbreviation}
use Rattle.abi_scalars.specs.Scalars.{source_text}
use Rattle.itanium_syntax.specs.Abbreviations.{abbreviation_text, abbreviation_own}

mutual
  -- what a symbol, or a part of it, says
  pub data Tree : Type 0 where
    -- a plain text: a source name, an operator's name, an unnamed type, a builtin type, `auto`, `std`
    plain_text : List ℕ → Tree
    -- an abbreviation of std
    abbreviation : Abbreviation → Tree
    -- parent::leaf
    name_in : Tree → Tree → Tree
    -- the constructor of a parent; where the truth value is true, its destructor
    ctor_dtor_of : Tree → Bool → Tree
    -- a name with an ABI tag
    tagged_with : Tree → List ℕ → Tree
    -- a name or a type with template arguments
    with_args : Tree → Trees → Tree
    -- a lambda: the types of its parameters, and its number
    lambda_of : Trees → ℕ → Tree
    -- a conversion to a type
    conversion_to : Tree → Tree
    -- a nested name with its qualifiers, and whether their words are shown
    nested_of : Tree → Quals → Bool → Tree
    -- an entity in its encoding: encoding::entity
    local_in : Tree → Tree → Tree
    -- the string literal of an encoding
    string_literal_of : Tree → Tree
    -- an entity in a default argument of an encoding, with its number: encoding::{default arg#k}::entity
    default_argument_of : Tree → ℕ → Tree → Tree
    -- the encoding of a name without parameters
    encoding_of : Tree → Tree
    -- the encoding of a name with its parameters
    function_encoding : Tree → Trees → Tree
    -- a pointer or a reference to a type
    pointer_to : Pointer → Tree → Tree
    -- a type with const, volatile or restrict
    cv_of : Quals → Tree → Tree
    -- an array, with its dimension if it has one, of elements
    array_of : Option ℕ → Tree → Tree
    -- a pointer to a member: the class, and the member's type
    member_of : Tree → Tree → Tree
    -- a function: what it returns, its parameters and its qualifiers
    function_to : Tree → Trees → Quals → Tree
    -- struct, union or enum, and a name
    elaborated : List ℕ → Tree → Tree
    -- the expansion of a pack
    expansion_of : Tree → Tree
    -- a pack of arguments
    pack_of : Trees → Tree
    -- words around a type or in front of a name
    worded : List ℕ → Tree → List ℕ → Tree
    -- a reference temporary of a name, with its number
    temporary_of : ℕ → Tree → Tree
    -- the construction vtable of a type in another
    construction_of : Tree → Tree → Tree
    -- a thunk: its offsets, and its encoding
    thunk_of : ThunkOffsets → Tree → Tree
    -- a literal: its type, and its value as it stands in the bytes
    literal_of : Tree → List ℕ → Tree
    -- the address of an external name
    address_of : Tree → Tree
    -- an operator's text in front of an expression without parentheses
    pre_of : List ℕ → Tree → Tree
    -- an operator's text in front of its operand
    unary_of : List ℕ → Operand → Tree
    -- an operator's text after its operand
    post_of : Operand → List ℕ → Tree
    -- an operator's text between its operands
    binary_of : Operand → List ℕ → Operand → Tree
    -- > between two expressions, each in parentheses, and all in parentheses
    greater_of : Tree → Tree → Tree
    -- ? and : between three operands
    conditional_of : Operand → Operand → Operand → Tree

  -- an operand of an expression
  pub data Operand : Type 0 where
    -- an expression, and whether it was spelled as an external name: then it has no parentheses
    operand : Bool → Tree → Operand

  -- a list of trees
  pub data Trees : Type 0 where
    -- the empty list
    no_trees : Trees
    -- a tree, and the rest of the list
    more_trees : Tree → Trees → Trees

-- a list of trees, of std's lists
abbrev pub trees : List Tree → Trees
trees [] = no_trees
trees (t ∷ ts) = more_trees t (trees ts)

-- an abbreviation as it is printed: its base name stands after `std::`
abbrev pub abbreviation_shape : Abbreviation → Shape
abbreviation_shape abbreviated =
    with_own 5 (5 + length (abbreviation_own abbreviated)) (plain_shape (abbreviation_text abbreviated))

-- a word in front of a name, as a plain text
abbrev pub elaborated_shape : List ℕ → Shape → Shape
elaborated_shape word name = plain_shape (word ++ text name)

-- a conversion's name, as a plain text: its flag `ctor` is set
abbrev pub conversion_shape : Shape → Shape
conversion_shape t = flagged false true (plain_shape (codes "operator " ++ text t))

-- an operator's text in front of a text
abbrev pub pre_shape : List ℕ → Shape → Shape
pre_shape op t = glued (op ∷ text t ∷ [])

-- an operator's text after a text
abbrev pub post_shape : Shape → List ℕ → Shape
post_shape t op = glued (text t ∷ op ∷ [])

-- an operator's text between two texts
abbrev pub binary_shape : Shape → List ℕ → Shape → Shape
binary_shape t op u = glued (text t ∷ op ∷ text u ∷ [])

-- > between two texts in parentheses, and all in parentheses
abbrev pub greater_shape : Shape → Shape → Shape
greater_shape t u = glued (codes "((" ∷ text t ∷ codes ")>(" ∷ text u ∷ codes "))" ∷ [])

-- ? between a condition and two texts with : between them
abbrev pub conditional_shape : Shape → Shape → Shape → Shape
conditional_shape t u v = binary_shape t (codes "?") (binary_shape u (codes " : ") v)

-- the sign of an offset
abbrev pub offset_sign : Signed → List ℕ
offset_sign n = if n.negative then codes "-" else []

-- the printed text of a call offset
abbrev pub offset_text : CallOffset → List ℕ
offset_text (Plain n) = concat (codes "{offset(" ∷ offset_sign n ∷ decimal n.magnitude ∷ codes ")}" ∷ [])
offset_text (Virtual n m) =
    concat (codes "{virtual offset(" ∷ offset_sign n ∷ decimal n.magnitude ∷ codes ", " ∷ offset_sign m
    ∷ decimal m.magnitude ∷ codes ")}" ∷ [])

-- words around a text
abbrev pub worded_shape : List ℕ → Shape → List ℕ → Shape
worded_shape word t close = glued (word ∷ text t ∷ close ∷ [])

-- a reference temporary
abbrev pub temporary_shape : ℕ → Shape → Shape
temporary_shape number t = glued (codes "reference temporary #" ∷ decimal number ∷ codes " for " ∷ text t ∷ [])

-- a construction vtable
abbrev pub construction_shape : Shape → Shape → Shape
construction_shape t u = glued (codes "construction vtable for " ∷ text t ∷ codes "-in-" ∷ text u ∷ [])

-- a thunk, with one offset or two
abbrev pub thunk_shape : ThunkOffsets → Shape → Shape
thunk_shape (Single o) t =
    glued (codes "{virtual override thunk(" ∷ offset_text o ∷ codes ", " ∷ text t ∷ codes ")}" ∷ [])
thunk_shape (Covariant o p) t =
    glued (codes "{virtual override thunk(" ∷ offset_text o ∷ codes ", " ∷ offset_text p ∷ codes ", " ∷ text t
    ∷ codes ")}" ∷ [])

-- the qualifiers of a name that follow its parameters where it has some: those of a nested name, and those of the
-- entity of a local name, also in a default argument
abbrev pub own_quals : Tree → Quals
own_quals (nested_of name quals shown) = quals
own_quals (local_in encoding entity) = own_quals entity
own_quals (default_argument_of encoding number entity) = own_quals entity
own_quals t = no_quals

unfoldable mutual
  -- the shape that the tree prints
  pub shape_of : Tree → Shape
  shape_of (plain_text bytes) = plain_shape bytes
  shape_of (abbreviation abbreviated) = abbreviation_shape abbreviated
  shape_of (name_in parent leaf) = qualified (shape_of parent) (shape_of leaf)
  shape_of (ctor_dtor_of parent destructor) = qualified_ctor (shape_of parent) destructor
  shape_of (tagged_with name tag) = tagged (shape_of name) tag
  shape_of (with_args name list) = attached (shape_of name) (arguments_shape (shape_each list))
  shape_of (lambda_of params number) = lambda_shape (shape_each params) number
  shape_of (conversion_to t) = conversion_shape (shape_of t)
  shape_of (nested_of name quals shown) = with_name_qualifiers (shape_of name) quals shown
  shape_of (local_in encoding entity) = qualified (shape_of encoding) (shape_of entity)
  shape_of (string_literal_of encoding) = appended (codes "::string literal") (shape_of encoding)
  shape_of (default_argument_of encoding number entity) =
      default_arg_shape (shape_of encoding) number (shape_of entity)
  shape_of (encoding_of name) = with_name_qualifiers (bare_in (shape_of name) name) (own_quals name) true
  shape_of (function_encoding name params) =
      encoding_shape (bare_in (shape_of name) name) (shape_each params) (own_quals name)
  shape_of (pointer_to kind t) = pointer_shape kind (shape_of t)
  shape_of (cv_of quals t) = cv_shape quals (shape_of t)
  shape_of (array_of dimension t) = array_shape dimension (shape_of t)
  shape_of (member_of class t) = member_pointer_shape (shape_of class) (shape_of t)
  shape_of (function_to ret params quals) = function_shape (shape_of ret) (shape_each params) quals
  shape_of (elaborated word name) = elaborated_shape word (shape_of name)
  shape_of (expansion_of t) = expansion_shape (shape_of t)
  shape_of (pack_of list) = pack_shape (shape_each list)
  shape_of (worded word t close) = worded_shape word (shape_of t) close
  shape_of (temporary_of number t) = temporary_shape number (shape_of t)
  shape_of (construction_of t u) = construction_shape (shape_of t) (shape_of u)
  shape_of (thunk_of offsets t) = thunk_shape offsets (shape_of t)
  shape_of (literal_of t value) = literal_shape (shape_of t) value
  shape_of (address_of name) = address_shape (shape_of name)
  shape_of (pre_of op t) = pre_shape op (shape_of t)
  shape_of (unary_of op t) = pre_shape op (shape_of_operand t)
  shape_of (post_of t op) = post_shape (shape_of_operand t) op
  shape_of (binary_of t op u) = binary_shape (shape_of_operand t) op (shape_of_operand u)
  shape_of (greater_of t u) = greater_shape (shape_of t) (shape_of u)
  shape_of (conditional_of t u v) =
      conditional_shape (shape_of_operand t) (shape_of_operand u) (shape_of_operand v)

  -- the shape of a name without its own qualifiers. A name that can't have any keeps the whole shape
  pub bare_in : Shape → Tree → Shape
  bare_in whole (nested_of name quals shown) = shape_of name
  bare_in whole (local_in encoding entity) = qualified (shape_of encoding) (bare_in (shape_of entity) entity)
  bare_in whole (default_argument_of encoding number entity) =
      default_arg_shape (shape_of encoding) number (bare_in (shape_of entity) entity)
  bare_in whole t = whole

  -- the shape of an operand: in parentheses, but for an external name
  pub shape_of_operand : Operand → Shape
  shape_of_operand (operand external t) = operand_shape (not external) (shape_of t)

  -- the shapes of the trees, in order
  pub shape_each : Trees → List Shape
  shape_each no_trees = []
  shape_each (more_trees t ts) = shape_of t ∷ shape_each ts

-- the shape of a name without its own qualifiers
abbrev pub bare_shape : Tree → Shape
bare_shape t = bare_in (shape_of t) t

-- the text that the tree prints
abbrev pub printing : Tree → List ℕ
printing t = text (shape_of t)

-- the text that a name prints; if the first argument is true, without its own qualifiers, which are printed later
abbrev pub name_printing : Bool → Tree → List ℕ
name_printing true t = text (bare_shape t)
name_printing false t = printing t

-- the text that a list of template arguments prints
abbrev pub list_printing : List Tree → List ℕ
list_printing ts = text (arguments_shape (map shape_of ts))

-- the name of an unnamed type
abbrev pub unnamed_text : ℕ → List ℕ
unnamed_text number = codes "{unnamed type#" ++ (decimal number ++ codes "}")

-- the name of a literal operator
abbrev pub literal_operator_text : List ℕ → List ℕ
literal_operator_text name = codes "operator\"\" " ++ source_text name

-- an expansion adds its dots where no pack is around it
abbrev pub expanded : Bool → Tree → Tree
expanded in_pack t = if in_pack then t else expansion_of t

-- the name in its parent, where there is one
abbrev pub in_parent : Option Tree → Tree → Tree
in_parent None leaf = leaf
in_parent (Some parent) leaf = name_in parent leaf
