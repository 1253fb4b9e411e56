-- What an arena holds, and the trees that its nodes stand for.
use Rattle.std.specs.Prelude.{ℕ, ◌<◌, ◌≤◌, ◌≡◌, List, [], ◌∷◌, ◌++◌, false, map, length, codes, slice_range, Option, Some, None, get_or, IfSome}
use Rattle.std.specs.List.{AllByRecursion}
use Rattle.cxx_tree.specs.declared.node.Range.{Range}
use Rattle.cxx_tree.specs.declared.node.NodeText.{NodeText}
use Rattle.cxx_tree.specs.declared.node.NodeText.TheVariants.{Fixed, Stored}
use Rattle.cxx_tree.specs.declared.node.List as handle
use Rattle.cxx_tree.specs.declared.node.Parts as handles
use Rattle.cxx_tree.specs.declared.node.Part.{Part}
use Rattle.cxx_tree.specs.declared.node.Part.TheVariants as part
use Rattle.cxx_tree.specs.declared.node.Plain.{Plain}
use Rattle.cxx_tree.specs.declared.node.Plain.TheVariants as plain
use Rattle.cxx_tree.specs.declared.node.Declaration.{Declaration}
use Rattle.cxx_tree.specs.declared.node.Declaration.TheVariants as declaration
use Rattle.cxx_tree.specs.declared.node.Node.{Node}
use Rattle.cxx_tree.specs.declared.node.Node.TheVariants as node
use Rattle.cxx_tree.specs.Tree.{Tree, Trees, Parts, named, leaf, std_name, phrase, scoped, with_args, abi_tag, in_module, data_name, objc_protocol, listed, expansion, param, type_param, non_type_param, template_param, pack_param, qualified, pointer, reference, member_pointer, array, function, encoding, pack, no_trees, more_trees, no_parts, text, tree, trees}

-- what nodes refer to: lists of nodes, parts of phrases, and bytes
pub record Held : Type 0 where
  pub lists : List ℕ
  pub parts : List Part
  pub texts : List ℕ

abbrev pub text_at : Held → NodeText → List ℕ
text_at h (Fixed bytes) = bytes.now
text_at h (Stored r) = slice_range h.texts r.from r.to

abbrev pub list_at : Held → handle.List → List ℕ
list_at h l = slice_range h.lists l.range.from l.range.to

abbrev pub parts_at : Held → handles.Parts → List Part
parts_at h ps = slice_range h.parts ps.range.from ps.range.to

-- the tree at an index; past the end, an empty name
abbrev pub tree_at : List Tree → ℕ → Tree
tree_at ts i = get_or ts i (named [])

abbrev pub trees_from_list : List Tree → Trees
trees_from_list [] = no_trees
trees_from_list (t ∷ ts) = more_trees t (trees_from_list ts)

abbrev pub trees_at : List Tree → List ℕ → Trees
trees_at ts is = trees_from_list (map (tree_at ts) is)

-- no tree, or the one at an index
abbrev pub option_at : List Tree → Option ℕ → Trees
option_at ts None = no_trees
option_at ts (Some i) = more_trees (tree_at ts i) no_trees

-- what parts stand for, over the trees of the nodes
abbrev pub parts_of : Held → List Tree → List Part → Parts
parts_of h ts [] = no_parts
parts_of h ts (part.Text a b ∷ ps) = text (text_at h a) (text_at h b) (parts_of h ts ps)
parts_of h ts (part.Tree manner t ∷ ps) = tree manner (tree_at ts t) (parts_of h ts ps)
parts_of h ts (part.Trees listing l ∷ ps) = trees listing (trees_at ts (list_at h l)) (parts_of h ts ps)

abbrev pub trees_in : Held → List Tree → handle.List → Trees
trees_in h ts l = trees_at ts (list_at h l)

abbrev pub parts_in : Held → List Tree → handles.Parts → Parts
parts_in h ts ps = parts_of h ts (parts_at h ps)

-- what a node stands for, over the trees of the nodes before it
unfoldable pub plain_tree : Held → List Tree → Plain → Tree
plain_tree h ts (plain.Name bytes) = named (text_at h bytes)
plain_tree h ts (plain.Leaf simple a b) = leaf simple (text_at h a) (text_at h b)
plain_tree h ts (plain.StdName std expanded) = std_name std expanded
plain_tree h ts (plain.Phrase attributes ps) = phrase attributes (parts_in h ts ps)
plain_tree h ts (plain.Scoped friend scope name) = scoped friend (tree_at ts scope) (tree_at ts name)
plain_tree h ts (plain.ScopedName scope name) = scoped false (tree_at ts scope) (named (text_at h name))
plain_tree h ts (plain.WithArgs name args) = with_args (tree_at ts name) (trees_in h ts args)
plain_tree h ts (plain.AbiTag name tag) = abi_tag (tree_at ts name) (text_at h tag)
plain_tree h ts (plain.InModule name owner) = in_module (tree_at ts name) (tree_at ts owner)
plain_tree h ts (plain.Data name) = data_name (tree_at ts name)
plain_tree h ts (plain.ObjcProtocol t protocol) = objc_protocol (tree_at ts t) (text_at h protocol)
plain_tree h ts (plain.Several items) = listed (trees_in h ts items)
plain_tree h ts (plain.Expansion t) = expansion (tree_at ts t)
plain_tree h ts (plain.Param level index) = param level index

unfoldable pub declaration_tree : Held → List Tree → Declaration → Tree
declaration_tree h ts (declaration.Typename name) = type_param (named (codes "typename")) (tree_at ts name)
declaration_tree h ts (declaration.TypeParam constraint name) = type_param (tree_at ts constraint) (tree_at ts name)
declaration_tree h ts (declaration.NonTypeParam name t) = non_type_param (tree_at ts name) (tree_at ts t)
declaration_tree h ts (declaration.TemplateParam name declarations rest) =
    template_param (tree_at ts name) (trees_in h ts declarations) (parts_in h ts rest)
declaration_tree h ts (declaration.PackParam d) = pack_param (tree_at ts d)

unfoldable pub tree_of : Held → List Tree → Node → Tree
tree_of h ts (node.Plain p) = plain_tree h ts p
tree_of h ts (node.Declaration d) = declaration_tree h ts d
tree_of h ts (node.Qualified t cv) = qualified (tree_at ts t) cv
tree_of h ts (node.Pointer t) = pointer (tree_at ts t)
tree_of h ts (node.Reference t lvalue) = reference (tree_at ts t) lvalue
tree_of h ts (node.MemberPointer class member) = member_pointer (tree_at ts class) (tree_at ts member)
tree_of h ts (node.Array element dimension) = array (tree_at ts element) (parts_in h ts dimension)
tree_of h ts (node.Function f) =
    function (tree_at ts f.ret) (trees_in h ts f.params) f.cv f.ref_qual (parts_in h ts f.exception)
tree_of h ts (node.Encoding f) =
    encoding (option_at ts f.ret) (tree_at ts f.name) (trees_in h ts f.params) f.cv f.ref_qual (parts_in h ts f.clauses)
tree_of h ts (node.Pack items) = pack (trees_in h ts items)

abbrev pub IsRange : ℕ → Range → Type 0
IsRange n r = (r.from ≤ r.to) × (r.to ≤ n)

abbrev pub IsText : Held → NodeText → Type 0
IsText h (Fixed bytes) = Unit {0}
IsText h (Stored r) = IsRange (length h.texts) r

-- a list of the arena, whose nodes stand before an index
abbrev pub IsListBelow : Held → ℕ → handle.List → Type 0
IsListBelow h n l = IsRange (length h.lists) l.range × AllByRecursion (λ t. t < n) (list_at h l)

abbrev pub IsPartBelow : Held → ℕ → Part → Type 0
IsPartBelow h n (part.Text a b) = IsText h a × IsText h b
IsPartBelow h n (part.Tree manner t) = t < n
IsPartBelow h n (part.Trees listing l) = IsListBelow h n l

-- parts of the arena, whose nodes stand before an index
abbrev pub IsPartsBelow : Held → ℕ → handles.Parts → Type 0
IsPartsBelow h n ps = IsRange (length h.parts) ps.range × AllByRecursion (IsPartBelow h n) (parts_at h ps)

abbrev pub IsOptionBelow : ℕ → Option ℕ → Type 0
IsOptionBelow n o = IfSome o (λ i. i < n)

-- what a node refers to is in the arena, and its children stand before an index
unfoldable pub IsPlainBelow : Held → ℕ → Plain → Type 0
IsPlainBelow h n (plain.Name bytes) = IsText h bytes
IsPlainBelow h n (plain.Leaf simple a b) = IsText h a × IsText h b
IsPlainBelow h n (plain.Phrase attributes ps) = IsPartsBelow h n ps
IsPlainBelow h n (plain.Scoped friend scope name) = (scope < n) × (name < n)
IsPlainBelow h n (plain.ScopedName scope name) = (scope < n) × IsText h name
IsPlainBelow h n (plain.WithArgs name args) = (name < n) × IsListBelow h n args
IsPlainBelow h n (plain.AbiTag name tag) = (name < n) × IsText h tag
IsPlainBelow h n (plain.InModule name owner) = (name < n) × (owner < n)
IsPlainBelow h n (plain.Data name) = name < n
IsPlainBelow h n (plain.ObjcProtocol t protocol) = (t < n) × IsText h protocol
IsPlainBelow h n (plain.Several items) = IsListBelow h n items
IsPlainBelow h n (plain.Expansion t) = t < n
IsPlainBelow h n p = Unit {0}

unfoldable pub IsDeclarationBelow : Held → ℕ → Declaration → Type 0
IsDeclarationBelow h n (declaration.Typename name) = name < n
IsDeclarationBelow h n (declaration.TypeParam constraint name) = (constraint < n) × (name < n)
IsDeclarationBelow h n (declaration.NonTypeParam name t) = (name < n) × (t < n)
IsDeclarationBelow h n (declaration.TemplateParam name declarations rest) =
    (name < n) × IsListBelow h n declarations × IsPartsBelow h n rest
IsDeclarationBelow h n (declaration.PackParam d) = d < n

unfoldable pub IsBelow : Held → ℕ → Node → Type 0
IsBelow h n (node.Plain p) = IsPlainBelow h n p
IsBelow h n (node.Declaration d) = IsDeclarationBelow h n d
IsBelow h n (node.Qualified t cv) = t < n
IsBelow h n (node.Pointer t) = t < n
IsBelow h n (node.Reference t lvalue) = t < n
IsBelow h n (node.MemberPointer class member) = (class < n) × (member < n)
IsBelow h n (node.Array element dimension) = (element < n) × IsPartsBelow h n dimension
IsBelow h n (node.Function f) = (f.ret < n) × IsListBelow h n f.params × IsPartsBelow h n f.exception
IsBelow h n (node.Encoding f) =
    IsOptionBelow n f.ret × (f.name < n) × IsListBelow h n f.params × IsPartsBelow h n f.clauses
IsBelow h n (node.Pack items) = IsListBelow h n items

-- what an arena holds: nodes, what they refer to, the substitution candidates, and the nodes that are collected
pub record Store : Type 0 where
  pub nodes : List Node
  pub held : Held
  pub saved : List ℕ  -- the substitution candidates: indices of nodes
  pub pending : List ℕ  -- the nodes of lists that aren't complete
  pub limit : ℕ  -- the most of each that it may hold: nodes, items of lists, parts, bytes, saved and pending nodes

-- the trees of nodes, in order, after the trees before them
abbrev pub trees_from : Held → List Tree → List Node → List Tree
trees_from h ts [] = ts
trees_from h ts (n ∷ ns) = trees_from h (ts ++ tree_of h ts n ∷ []) ns

-- the trees that the nodes stand for, in order
unfoldable pub forest : Store → List Tree
forest s = trees_from s.held [] s.nodes

abbrev pub size : Store → ℕ
size s = length s.nodes

-- the tree that a node stands for
unfoldable pub stands : Store → ℕ → Tree
stands s i = tree_at (forest s) i

-- the trees of the substitution candidates, in order
unfoldable pub saved_trees : Store → List Tree
saved_trees s = map (stands s) s.saved

-- at most n nodes, items of lists, parts of phrases, bytes of texts, saved nodes and pending ones, each
pub record IsWithin (n : ℕ) (s : Store) : Type 0 where
  pub nodes : size s ≤ n
  pub items : length s.held.lists ≤ n
  pub parts : length s.held.parts ≤ n
  pub texts : length s.held.texts ≤ n
  pub saved : length s.saved ≤ n
  pub pending : length s.pending ≤ n

-- a list that another one begins with
abbrev pub Begins : (A : Type 0) → List A → List A → Type 0
Begins A xs ys = (zs : List A) × (ys ≡ xs ++ zs)

-- what is held grows at its ends, so that what refers to it stays right
abbrev pub Extends : Held → Held → Type 0
Extends h g = Begins ℕ h.lists g.lists × Begins Part h.parts g.parts × Begins ℕ h.texts g.texts
