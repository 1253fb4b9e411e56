-- What a symbol stands for. The parts of a symbol of a function or of data: the base of its name, the scopes around it,
-- the parameters and the return type. Of another symbol they are empty.
use Rattle.std.specs.Prelude.{ℕ, Bool, true, false, ◌||◌, List, [], ◌∷◌, ◌++◌, codes, if◌then◌else◌, Option, Some, None}
use Rattle.std.specs.Option.{option_map_or}
use Rattle.cxx_tree.specs.declared.kinds.Cv.{Cv}
use Rattle.cxx_tree.specs.declared.kinds.RefQual.{RefQual}
use Rattle.cxx_tree.specs.declared.kinds.RefQual.TheVariants as ref_qual
use Rattle.cxx_tree.specs.Tree.{Tree, scoped, with_args, abi_tag, in_module, data_name, encoding}
use Rattle.cxx_printer.specs.declared.env.Env.{Env}
use Rattle.cxx_printer.specs.declared.parts.Kind.{Kind}
use Rattle.cxx_printer.specs.declared.parts.Kind.TheVariants.{Function, Data, Special}
use Rattle.cxx_printer.specs.Print.{whole, print, items_of, of_return, parens, scope_text}

unfoldable pub kind_of : Tree → Kind
kind_of (encoding ret name params cv ref rest) = Function
kind_of (data_name name) = Data
kind_of t = Special

unfoldable pub is_some_ref : RefQual → Bool
is_some_ref ref_qual.None = false
is_some_ref ref_qual.Lvalue = true
is_some_ref ref_qual.Rvalue = true

unfoldable pub is_some_cv : Cv → Bool
is_some_cv cv = cv.is_const || (cv.is_volatile || cv.is_restrict)

-- the tree is that of a function with qualifiers
unfoldable pub has_qualifiers : Tree → Bool
has_qualifiers (encoding ret name params cv ref rest) = is_some_cv cv || is_some_ref ref
has_qualifiers t = false

-- the name of a function or of data
unfoldable pub named_of : Tree → Option Tree
named_of (encoding ret name params cv ref rest) = Some name
named_of (data_name name) = Some name
named_of t = None

-- the scopes that are passed on the way to the base of a name, and the base: without ABI tags, module and arguments
unfoldable pub split : Tree → List Tree × Tree
split (abi_tag name tag) = split name
split (in_module name owner) = split name
split (with_args name args) = split name
split (scoped friend scope name) = (scope ∷ (split name).0, (split name).1)
split t = ([], t)

unfoldable pub colons : Bool → List ℕ
colons first = if first then [] else codes "::"

-- scopes, with `::` between
unfoldable pub joined : Bool → Env → List Tree → List ℕ
joined first env [] = []
joined first env (q ∷ qs) = colons first ++ (scope_text env (print q env) ++ joined false env qs)

abbrev pub base_name_text : Env → Tree → List ℕ
base_name_text env t = option_map_or (λ name. whole (print (split name).1 env)) (named_of t) []

abbrev pub context_text : Env → Tree → List ℕ
context_text env t = option_map_or (λ name. joined true env (split name).0) (named_of t) []

unfoldable pub parameters_text : Env → Tree → List ℕ
parameters_text env (encoding ret name params cv ref rest) = parens env (items_of params)
parameters_text env t = []

unfoldable pub return_type_text : Env → Tree → List ℕ
return_type_text env (encoding ret name params cv ref rest) = of_return whole env (items_of ret)
return_type_text env t = []
