-- What a tree is asked for while reading, always before its template parameters are bound.
use Rattle.std.specs.Prelude.{ℕ, List, [], codes, Bool, true, false, Option, Some, None}
use Rattle.cxx_tree.specs.declared.kinds.Std.{Std}
use Rattle.cxx_tree.specs.declared.kinds.Std.TheVariants as std
use Rattle.cxx_tree.specs.declared.kinds.Role.{Role}
use Rattle.cxx_tree.specs.declared.kinds.Role.TheVariants as role
use Rattle.cxx_tree.specs.Tree.{Tree, Trees, named, leaf, std_name, phrase, scoped, with_args, abi_tag, in_module, param, type_param, non_type_param, template_param, pack_param}

-- an abbreviation of std without `std::` and arguments; whether it is written out
abbrev pub std_base : Std → Bool → List ℕ
std_base std.Allocator expanded = codes "allocator"
std_base std.BasicString expanded = codes "basic_string"
std_base std.String true = codes "basic_string"
std_base std.String false = codes "string"
std_base std.Istream true = codes "basic_istream"
std_base std.Istream false = codes "istream"
std_base std.Ostream true = codes "basic_ostream"
std_base std.Ostream false = codes "ostream"
std_base std.Iostream true = codes "basic_iostream"
std_base std.Iostream false = codes "iostream"

-- the text that the constructors of a class are named by
unfoldable pub base_name : Tree → List ℕ
base_name (named w) = w
base_name (leaf simple llvm gnu) = llvm
base_name (std_name std expanded) = std_base std expanded
base_name (abi_tag name tag) = base_name name
base_name (in_module name owner) = base_name name
base_name (with_args name args) = base_name name
base_name (scoped friend scope name) = base_name name
base_name t = []

abbrev pub args_or : Option Trees → Option Trees → Option Trees
args_or None other = other
args_or (Some args) other = Some args

-- the arguments that the template parameters of an encoding with this name refer to, if there are any
unfoldable pub args_of : Tree → Option Trees
args_of (with_args name args) = Some args
args_of (scoped friend scope name) = args_or (args_of name) (args_of scope)
args_of (abi_tag name tag) = args_of name
args_of (in_module name owner) = args_of name
args_of t = None

unfoldable pub is_with_args : Tree → Bool
is_with_args (with_args name args) = true
is_with_args t = false

unfoldable pub is_param : Tree → Bool
is_param (param level index) = true
is_param t = false

abbrev pub is_module_role : Role → Bool
is_module_role role.Module = true
is_module_role other = false

-- the name of a module
unfoldable pub is_module : Tree → Bool
is_module (phrase attributes parts) = is_module_role attributes.role
is_module t = false

-- a template parameter, with arguments or without. It isn't known which name its constructors would have
unfoldable pub is_param_class : Tree → Bool
is_param_class (param level index) = true
is_param_class (with_args name args) = is_param name
is_param_class t = false

-- the scope of a constructor: an abbreviation of std is written out
unfoldable pub expand : Tree → Tree
expand (std_name std expanded) = std_name std true
expand t = t

-- the name that a declaration of a template parameter invents
unfoldable pub declared_name : Tree → Tree
declared_name (type_param front name) = name
declared_name (non_type_param name t) = name
declared_name (template_param name declarations rest) = name
declared_name (pack_param declaration) = declared_name declaration
declared_name t = t
