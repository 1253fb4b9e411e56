-- What becomes of template parameters when their binder is complete.
use Rattle.std.specs.Prelude.{ℕ, zero, suc, ◌+◌, ◌<◌, ◌≤◌, Bool, false, ◌&&◌, if◌then◌else◌, nat_eq, nat_le, nat_lt, List, [], ◌∷◌, ◌++◌, Option, map, drop, length, codes, decimal}
use Rattle.std.specs.List.{AllByRecursion}
use Rattle.cxx_tree.specs.declared.bind.Binding as given
use Rattle.cxx_tree.specs.declared.bind.Others.{Others}
use Rattle.cxx_tree.specs.declared.bind.Others.TheVariants.{Keep, Auto, Written}
use Rattle.cxx_tree.specs.declared.node.List as handle
use Rattle.cxx_tree.specs.declared.node.Parts as handle_parts
use Rattle.cxx_tree.specs.declared.node.Part.{Part}
use Rattle.cxx_tree.specs.declared.node.Node.{Node}
use Rattle.cxx_tree.specs.declared.node.Node.TheVariants as node
use Rattle.cxx_tree.specs.declared.node.Plain.{Plain}
use Rattle.cxx_tree.specs.declared.node.Declaration.{Declaration}
use Rattle.cxx_tree.specs.declared.node.Plain.TheVariants as plain
use Rattle.cxx_tree.specs.Tree.{Tree, Trees, Parts, named, leaf, std_name, phrase, scoped, with_args, abi_tag, in_module, data_name, objc_protocol, listed, expansion, param, type_param, non_type_param, template_param, pack_param, qualified, pointer, reference, member_pointer, array, function, encoding, pack, no_trees, more_trees, no_parts, text, tree, trees}
use Rattle.cxx_tree.specs.Stored.{Store, forest, size, tree_at, trees_in, parts_in, parts_of, option_at, plain_tree, declaration_tree, tree_of}

pub record Binding : Type 0 where
  -- the level whose parameters have names
  pub level : ℕ
  pub names : List Tree
  -- what becomes of the other parameters
  pub others : Others

-- a parameter as it is mangled, without its last underscore
abbrev pub written : ℕ → ℕ → List ℕ
written zero zero = codes "T"
written zero (suc n) = codes "T" ++ decimal n
written (suc m) zero = codes "TL" ++ (decimal m ++ codes "_")
written (suc m) (suc n) = codes "TL" ++ (decimal m ++ (codes "_" ++ decimal n))

-- a parameter of a lambda that has no declaration
abbrev pub auto_param : ℕ → Tree
auto_param index = leaf false (codes "auto") (codes "auto:" ++ decimal (index + 1))

-- a parameter that has no name, where the binder's level is given
abbrev pub other : Others → ℕ → ℕ → ℕ → Tree
other Keep binder level index = param level index
other Auto binder level index = if nat_le binder level then auto_param index else param level index
other Written binder level index = named (written level index)

abbrev pub has_name : Binding → ℕ → ℕ → Bool
has_name b level index = nat_eq level b.level && nat_lt index (length b.names)

-- where a parameter stands for a list of arguments, it stands for a pack of them
unfoldable pub as_pack : Tree → Tree
as_pack (listed ts) = pack ts
as_pack t = t

-- what becomes of a parameter
abbrev pub bound : Binding → ℕ → ℕ → Tree
bound b level index =
    if has_name b level index then as_pack (tree_at b.names index) else other b.others b.level level index

-- a tree whose template parameters are replaced
unfoldable mutual
  pub bind : Binding → Tree → Tree
  bind b (named bytes) = named bytes
  bind b (leaf simple x y) = leaf simple x y
  bind b (std_name std expanded) = std_name std expanded
  bind b (phrase attributes ps) = phrase attributes (bind_parts b ps)
  bind b (scoped friend scope name) = scoped friend (bind b scope) (bind b name)
  bind b (with_args name args) = with_args (bind b name) (bind_each b args)
  bind b (abi_tag name tag) = abi_tag (bind b name) tag
  bind b (in_module name owner) = in_module (bind b name) (bind b owner)
  bind b (data_name name) = data_name (bind b name)
  bind b (objc_protocol t protocol) = objc_protocol (bind b t) protocol
  bind b (listed ts) = listed (bind_each b ts)
  bind b (expansion t) = expansion (bind b t)
  bind b (param level index) = bound b level index
  bind b (type_param constraint name) = type_param (bind b constraint) (bind b name)
  bind b (non_type_param name t) = non_type_param (bind b name) (bind b t)
  bind b (template_param name declarations rest) =
      template_param (bind b name) (bind_each b declarations) (bind_parts b rest)
  bind b (pack_param declaration) = pack_param (bind b declaration)
  bind b (qualified t cv) = qualified (bind b t) cv
  bind b (pointer t) = pointer (bind b t)
  bind b (reference t lvalue) = reference (bind b t) lvalue
  bind b (member_pointer class member) = member_pointer (bind b class) (bind b member)
  bind b (array element dimension) = array (bind b element) (bind_parts b dimension)
  bind b (function ret params cv ref exception) =
      function (bind b ret) (bind_each b params) cv ref (bind_parts b exception)
  bind b (encoding ret name params cv ref rest) =
      encoding (bind_each b ret) (bind b name) (bind_each b params) cv ref (bind_parts b rest)
  bind b (pack ts) = pack (bind_each b ts)

  pub bind_each : Binding → Trees → Trees
  bind_each b no_trees = no_trees
  bind_each b (more_trees t ts) = more_trees (bind b t) (bind_each b ts)

  pub bind_parts : Binding → Parts → Parts
  bind_parts b no_parts = no_parts
  bind_parts b (text x y ps) = text x y (bind_parts b ps)
  bind_parts b (tree manner t ps) = tree manner (bind b t) (bind_parts b ps)
  bind_parts b (trees listing ts ps) = trees listing (bind_each b ts) (bind_parts b ps)

-- the names: the nodes that are collected from an index on
abbrev pub names_at : Store → given.Binding → List ℕ
names_at s b = drop b.from s.pending

-- the names are nodes of an arena
abbrev pub AreNamed : Store → given.Binding → Type 0
AreNamed s b = (b.from ≤ length s.pending) × AllByRecursion (λ n. n < size s) (names_at s b)

-- a binding, whose names stand for trees
abbrev pub binding_at : Store → given.Binding → Binding
binding_at s b = record { level = b.level; names = map (tree_at (forest s)) (names_at s b); others = b.others }

-- what nodes become
abbrev pub bound_at : Store → given.Binding → ℕ → Tree
bound_at s b i = bind (binding_at s b) (tree_at (forest s) i)

abbrev pub bound_list : Store → given.Binding → handle.List → Trees
bound_list s b l = bind_each (binding_at s b) (trees_in s.held (forest s) l)

abbrev pub bound_parts : Store → given.Binding → handle_parts.Parts → Parts
bound_parts s b ps = bind_parts (binding_at s b) (parts_in s.held (forest s) ps)

abbrev pub bound_option : Store → given.Binding → Option ℕ → Trees
bound_option s b o = bind_each (binding_at s b) (option_at (forest s) o)

-- a part as the only one
abbrev pub part_at : Store → Part → Parts
part_at s p = parts_of s.held (forest s) (p ∷ [])

abbrev pub plain_at : Store → Plain → Tree
plain_at s p = plain_tree s.held (forest s) p

abbrev pub declaration_at : Store → Declaration → Tree
declaration_at s d = declaration_tree s.held (forest s) d

abbrev pub node_at : Store → Node → Tree
node_at s n = tree_of s.held (forest s) n

-- a node that isn't a template parameter
abbrev pub IsInnerPlain : Plain → Type 0
IsInnerPlain (plain.Param level index) = ⊥
IsInnerPlain p = Unit {0}

abbrev pub IsInner : Node → Type 0
IsInner (node.Plain p) = IsInnerPlain p
IsInner n = Unit {0}
