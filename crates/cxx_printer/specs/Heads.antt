-- What is asked of the head of a tree, whatever is printed around it.
use Rattle.std.specs.Prelude.{ℕ, ◌+◌, nat_eq, nat_lt, Bool, true, false, ◌&&◌, not, List, codes, if◌then◌else◌, Option, Some, None, unwrap_or}
use Rattle.std.specs.Str.{bytes_eq}
use denote.Enum.Declared.{tag_of}
use Rattle.cxx_tree.specs.contracts.kinds.Prec.{the_type}
use Rattle.cxx_tree.specs.declared.kinds.Cv.{Cv}
use Rattle.cxx_tree.specs.declared.kinds.Prec.{Prec}
use Rattle.cxx_tree.specs.declared.kinds.Prec.TheVariants as prec
use Rattle.cxx_tree.specs.declared.kinds.RefQual.{RefQual}
use Rattle.cxx_tree.specs.declared.kinds.RefQual.TheVariants as refqual
use Rattle.cxx_tree.specs.declared.kinds.Role.{Role}
use Rattle.cxx_tree.specs.declared.kinds.Role.TheVariants as role
use Rattle.cxx_tree.specs.Tree.{Tree, Trees, named, leaf, phrase, scoped, with_args, data_name, objc_protocol, listed, expansion, no_trees, more_trees}
use Rattle.cxx_tree.specs.Measure.{measure}

unfoldable pub prec_of : Tree → Prec
prec_of (phrase attributes ps) = attributes.prec
prec_of t = prec.Primary

-- the place of a precedence in the order from tight to loose
unfoldable pub rank : Prec → ℕ
rank p = tag_of the_type p

-- an operand needs no parentheses in LLVM's style: it is tighter, or as loose where this is allowed
abbrev pub is_tight : Prec → Prec → Bool → Bool
is_tight inner outer loose = if nat_eq (rank inner) (rank outer) then loose else nat_lt (rank inner) (rank outer)

abbrev pub is_simple_role : Role → Bool
is_simple_role role.Simple = true
is_simple_role r = false

unfoldable pub has_args : Tree → Bool
has_args (with_args n ts) = true
has_args t = false

-- an operand needs no parentheses in GNU's style
unfoldable pub is_simple : Tree → Bool
is_simple (named w) = true
is_simple (leaf simple a b) = simple
is_simple (phrase attributes ps) = is_simple_role attributes.role
is_simple (scoped friend q n) = not friend && not (has_args n)
is_simple (data_name n) = is_simple n
is_simple t = false

abbrev pub is_designator_role : Role → Bool
is_designator_role role.Designator = true
is_designator_role r = false

-- a designator of an initializer
unfoldable pub is_designator : Tree → Bool
is_designator (phrase attributes ps) = is_designator_role attributes.role
is_designator t = false

-- a name in a scope, and not a friend's
unfoldable pub is_scoped : Tree → Bool
is_scoped (scoped friend q n) = not friend
is_scoped t = false

-- a function has none of these qualifiers
abbrev pub is_unqualified : Cv → RefQual → Bool
is_unqualified cv refqual.None = not cv.is_const && not cv.is_volatile && not cv.is_restrict
is_unqualified cv ref = false

-- the address of a function with this name and these qualifiers has no parameters in GNU's style
abbrev pub is_named_address : Tree → Cv → RefQual → Bool
is_named_address n cv ref = is_unqualified cv ref && is_scoped n && is_simple n

unfoldable pub is_objc_object : Tree → Bool
is_objc_object (named w) = bytes_eq w (codes "objc_object")
is_objc_object t = false

-- a pointer to the type is an `id` with this protocol
unfoldable pub protocol_of : Tree → Option (List ℕ)
protocol_of (objc_protocol t w) = if is_objc_object t then Some w else None
protocol_of t = None

unfoldable pub count_item : Tree → ℕ
count_item (expansion t) = unwrap_or (measure t).elements 0
count_item t = 1

unfoldable pub count_items : Trees → ℕ
count_items no_trees = 0
count_items (more_trees t ts) = count_item t + count_items ts

-- the number of elements of what `sizeof...` counts, if it is known
unfoldable pub count_of : Tree → Option ℕ
count_of (expansion t) = (measure t).elements
count_of (listed ts) = Some (count_items ts)
count_of t = None
