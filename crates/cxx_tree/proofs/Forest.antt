-- The trees of nodes, as nodes and what they refer to grow.
use Rattle.std.proofs.Common.{ℕ, ◌≡◌, ◌+◌, ◌<◌, ◌≤◌, List, [], ◌∷◌, ◌++◌, length, refl, sym, ap, ◌∙◌, arith, subst, zero, suc, length-append, Option, Some, None, slice_range, map, drop}
use Rattle.std.proofs.Math.ListN.{get_or, get_or-append}
use Rattle.std.proofs.Math.Seq.{get_or-append_seam}
use Rattle.std.proofs.lemmas.Grind.{common_steps}
use Rattle.std.proofs.lemmas.List.{append-nil}
use Rattle.std.specs.Prelude.{codes}
use Rattle.std.specs.List.{AllByRecursion}
use Rattle.cxx_tree.specs.declared.arena.Entry as entry
use Rattle.cxx_tree.specs.declared.node.Range.{Range}
use Rattle.cxx_tree.specs.declared.node.NodeText.{NodeText}
use Rattle.cxx_tree.specs.declared.node.NodeText.TheVariants.{Fixed, Stored}
use Rattle.cxx_tree.specs.declared.node.List as handle
use Rattle.cxx_tree.specs.declared.node.Parts as handles
use Rattle.cxx_tree.specs.declared.node.Part.{Part}
use Rattle.cxx_tree.specs.declared.node.Part.TheVariants as part
use Rattle.cxx_tree.specs.declared.node.Plain.{Plain}
use Rattle.cxx_tree.specs.declared.node.Plain.TheVariants as plain
use Rattle.cxx_tree.specs.declared.node.Declaration.{Declaration}
use Rattle.cxx_tree.specs.declared.node.Declaration.TheVariants as declaration
use Rattle.cxx_tree.specs.declared.node.Node.{Node}
use Rattle.cxx_tree.specs.declared.node.Node.TheVariants as node
use Rattle.cxx_tree.specs.Tree.{Tree, named, phrase, data_name, listed, expansion, type_param, pack_param, qualified, pointer, reference, pack, no_trees, more_trees}
use Rattle.cxx_tree.specs.Stored.{Held, Store, text_at, list_at, parts_at, tree_at, trees_at, trees_in, option_at, trees_from_list, parts_of, parts_in, plain_tree, declaration_tree, tree_of, IsRange, IsText, IsListBelow, IsPartBelow, IsPartsBelow, IsOptionBelow, IsPlainBelow, IsDeclarationBelow, IsBelow, trees_from, forest, size, Begins, Extends}
use Rattle.cxx_tree.specs.View.{AreStored, IsStore, IsKept}
use Rattle.cxx_tree.specs.Counts.{AreCounted}

-- a node at the end
pub trees_from-push : (h : Held) (ts : List Tree) (ns : List Node) (n : Node) → trees_from h ts (ns ++ n ∷ []) ≡ trees_from h ts ns ++ tree_of h (trees_from h ts ns) n ∷ []
trees_from-push h ts [] n = refl
trees_from-push h ts (m ∷ ns) n = trees_from-push h (ts ++ tree_of h ts m ∷ []) ns n

pub length-trees_from : (h : Held) (ts : List Tree) (ns : List Node) → length (trees_from h ts ns) ≡ length ts + length ns
length-trees_from h ts [] = omega arith
length-trees_from h ts (n ∷ ns) = grind (arith, common_steps, length-trees_from h (ts ++ tree_of h ts n ∷ []) ns)

-- the trees that were there stay
pub trees_from-old : (h : Held) (ts : List Tree) (ns : List Node) (i : ℕ) → i < length ts → tree_at (trees_from h ts ns) i ≡ tree_at ts i
trees_from-old h ts [] i b = refl
trees_from-old h ts (n ∷ ns) i b =
    trees_from-old h (ts ++ tree_of h ts n ∷ []) ns i (grind (arith, common_steps)) ∙ get_or-append ts (tree_of h ts n ∷ []) (named []) i b

-- two lists of trees that agree below n
abbrev pub Agree : ℕ → List Tree → List Tree → Type 0
Agree n ts us = (i : ℕ) → i < n → tree_at ts i ≡ tree_at us i

pub map-same : (n : ℕ) (ts us : List Tree) → Agree n ts us → (is : List ℕ) → AllByRecursion (λ t. t < n) is → map (tree_at ts) is ≡ map (tree_at us) is
map-same n ts us agree [] b = refl
map-same n ts us agree (i ∷ is) b = let one = agree i b.0 in let rest = map-same n ts us agree is b.1 in cc

pub trees_at-same : (n : ℕ) (ts us : List Tree) → Agree n ts us → (is : List ℕ) → AllByRecursion (λ t. t < n) is → trees_at ts is ≡ trees_at us is
trees_at-same n ts us agree is b = ap trees_from_list (map-same n ts us agree is b)

pub option_at-same : (n : ℕ) (ts us : List Tree) → Agree n ts us → (o : Option ℕ) → IsOptionBelow n o → option_at ts o ≡ option_at us o
option_at-same n ts us agree None b = refl
option_at-same n ts us agree (Some i) b = ap (λ (t : Tree). more_trees t no_trees) (agree i b)

-- what is held grows at its ends
pub Begins-same : (A : Type 0) (xs ys : List A) → ys ≡ xs → Begins A xs ys
Begins-same A xs ys e = ([], e ∙ sym (append-nil xs))

pub Extends-same : (h g : Held) → g ≡ h → Extends h g
Extends-same h g e =
    (Begins-same _ h.lists g.lists (ap (λ (x : Held). x.lists) e), Begins-same _ h.parts g.parts (ap (λ (x : Held). x.parts) e), Begins-same _ h.texts g.texts (ap (λ (x : Held). x.texts) e))

pub text_at-more : (h g : Held) → Extends h g → (t : NodeText) → IsText h t → text_at g t ≡ text_at h t
text_at-more h g e (Fixed bytes) b = refl
text_at-more h g e (Stored r) b = ap (λ (l : List ℕ). slice_range l r.from r.to) e.2.1 ∙ grind (arith, common_steps)

pub list_at-more : (h g : Held) → Extends h g → (l : handle.List) → IsRange (length h.lists) l.range → list_at g l ≡ list_at h l
list_at-more h g e l b = ap (λ (is : List ℕ). slice_range is l.range.from l.range.to) e.0.1 ∙ grind (arith, common_steps)

pub parts_at-more : (h g : Held) → Extends h g → (ps : handles.Parts) → IsRange (length h.parts) ps.range → parts_at g ps ≡ parts_at h ps
parts_at-more h g e ps b = ap (λ (l : List Part). slice_range l ps.range.from ps.range.to) e.1.1 ∙ grind (arith, common_steps)

-- what nodes stand for, over trees that agree, and as what is held grows
pub trees_in-more : (h g : Held) → Extends h g → (n : ℕ) (ts us : List Tree) → Agree n us ts → (l : handle.List) → IsListBelow h n l → trees_in g us l ≡ trees_in h ts l
trees_in-more h g e n ts us agree l b =
    ap (trees_at us) (list_at-more h g e l b.0) ∙ trees_at-same n us ts agree (list_at h l) b.1

pub parts_of-more : (h g : Held) → Extends h g → (n : ℕ) (ts us : List Tree) → Agree n us ts → (ps : List Part) → AllByRecursion (IsPartBelow h n) ps → parts_of g us ps ≡ parts_of h ts ps
parts_of-more h g e n ts us agree [] b = refl
parts_of-more h g e n ts us agree (part.Text x y ∷ ps) b =
    let one = text_at-more h g e x b.0.0 in
    let two = text_at-more h g e y b.0.1 in
    let rest = parts_of-more h g e n ts us agree ps b.1 in
    cc
parts_of-more h g e n ts us agree (part.Tree manner t ∷ ps) b =
    let one = agree t b.0 in let rest = parts_of-more h g e n ts us agree ps b.1 in cc
parts_of-more h g e n ts us agree (part.Trees listing l ∷ ps) b =
    let one = trees_in-more h g e n ts us agree l b.0 in let rest = parts_of-more h g e n ts us agree ps b.1 in cc

pub parts_in-more : (h g : Held) → Extends h g → (n : ℕ) (ts us : List Tree) → Agree n us ts → (ps : handles.Parts) → IsPartsBelow h n ps → parts_in g us ps ≡ parts_in h ts ps
parts_in-more h g e n ts us agree ps b =
    ap (parts_of g us) (parts_at-more h g e ps b.0) ∙ parts_of-more h g e n ts us agree (parts_at h ps) b.1

plain_tree-more : (h g : Held) → Extends h g → (n : ℕ) (ts us : List Tree) → Agree n us ts → (p : Plain) → IsPlainBelow h n p → plain_tree g us p ≡ plain_tree h ts p
unfolding plain_tree IsPlainBelow
plain_tree-more h g e n ts us agree (plain.Name bytes) b = ap named (text_at-more h g e bytes b)
plain_tree-more h g e n ts us agree (plain.Leaf simple x y) b =
    let one = text_at-more h g e x b.0 in let two = text_at-more h g e y b.1 in cc
plain_tree-more h g e n ts us agree (plain.StdName std expanded) b = refl
plain_tree-more h g e n ts us agree (plain.Phrase attributes ps) b =
    ap (phrase attributes) (parts_in-more h g e n ts us agree ps b)
plain_tree-more h g e n ts us agree (plain.Scoped friend scope name) b =
    let one = agree scope b.0 in let two = agree name b.1 in cc
plain_tree-more h g e n ts us agree (plain.ScopedName scope name) b =
    let one = agree scope b.0 in let two = text_at-more h g e name b.1 in cc
plain_tree-more h g e n ts us agree (plain.WithArgs name args) b =
    let one = agree name b.0 in let rest = trees_in-more h g e n ts us agree args b.1 in cc
plain_tree-more h g e n ts us agree (plain.AbiTag name tag) b =
    let one = agree name b.0 in let two = text_at-more h g e tag b.1 in cc
plain_tree-more h g e n ts us agree (plain.InModule name owner) b =
    let one = agree name b.0 in let two = agree owner b.1 in cc
plain_tree-more h g e n ts us agree (plain.Data name) b = ap data_name (agree name b)
plain_tree-more h g e n ts us agree (plain.ObjcProtocol t protocol) b =
    let one = agree t b.0 in let two = text_at-more h g e protocol b.1 in cc
plain_tree-more h g e n ts us agree (plain.Several items) b = ap listed (trees_in-more h g e n ts us agree items b)
plain_tree-more h g e n ts us agree (plain.Expansion t) b = ap expansion (agree t b)
plain_tree-more h g e n ts us agree (plain.Param level index) b = refl

declaration_tree-more : (h g : Held) → Extends h g → (n : ℕ) (ts us : List Tree) → Agree n us ts → (d : Declaration) → IsDeclarationBelow h n d → declaration_tree g us d ≡ declaration_tree h ts d
unfolding declaration_tree IsDeclarationBelow
declaration_tree-more h g e n ts us agree (declaration.Typename name) b = ap (type_param (named (codes "typename"))) (agree name b)
declaration_tree-more h g e n ts us agree (declaration.TypeParam constraint name) b =
    let one = agree constraint b.0 in let two = agree name b.1 in cc
declaration_tree-more h g e n ts us agree (declaration.NonTypeParam name t) b =
    let one = agree name b.0 in let two = agree t b.1 in cc
declaration_tree-more h g e n ts us agree (declaration.TemplateParam name declarations rest) b =
    let one = agree name b.0 in
    let two = trees_in-more h g e n ts us agree declarations b.1 in
    let three = parts_in-more h g e n ts us agree rest b.2 in
    cc
declaration_tree-more h g e n ts us agree (declaration.PackParam d) b = ap pack_param (agree d b)

pub tree_of-more : (h g : Held) → Extends h g → (n : ℕ) (ts us : List Tree) → Agree n us ts → (x : Node) → IsBelow h n x → tree_of g us x ≡ tree_of h ts x
unfolding tree_of IsBelow
tree_of-more h g e n ts us agree (node.Plain p) b = plain_tree-more h g e n ts us agree p b
tree_of-more h g e n ts us agree (node.Declaration d) b = declaration_tree-more h g e n ts us agree d b
tree_of-more h g e n ts us agree (node.Qualified t cv) b = ap (λ (u : Tree). qualified u cv) (agree t b)
tree_of-more h g e n ts us agree (node.Pointer t) b = ap pointer (agree t b)
tree_of-more h g e n ts us agree (node.Reference t lvalue) b = ap (λ (u : Tree). reference u lvalue) (agree t b)
tree_of-more h g e n ts us agree (node.MemberPointer class member) b =
    let one = agree class b.0 in let two = agree member b.1 in cc
tree_of-more h g e n ts us agree (node.Array element dimension) b =
    let one = agree element b.0 in let two = parts_in-more h g e n ts us agree dimension b.1 in cc
tree_of-more h g e n ts us agree (node.Function f) b =
    let one = agree f.ret b.0 in
    let two = trees_in-more h g e n ts us agree f.params b.1 in
    let three = parts_in-more h g e n ts us agree f.exception b.2 in
    cc
tree_of-more h g e n ts us agree (node.Encoding f) b =
    let zero = option_at-same n us ts agree f.ret b.0 in
    let one = agree f.name b.1 in
    let two = trees_in-more h g e n ts us agree f.params b.2 in
    let three = parts_in-more h g e n ts us agree f.clauses b.3 in
    cc
tree_of-more h g e n ts us agree (node.Pack items) b = ap pack (trees_in-more h g e n ts us agree items b)

-- the tree at an index is what the node there stands for
pub trees_from-at : (h : Held) (ts : List Tree) (ns : List Node) → AreStored h (length ts) ns → (i : ℕ) (d : Node) → i < length ns → tree_at (trees_from h ts ns) (length ts + i) ≡ tree_of h (trees_from h ts ns) (get_or ns i d)
trees_from-at h ts [] s i d below = absurd (omega arith)
trees_from-at h ts (n ∷ ns) s zero d below =
    let all = trees_from h ts (n ∷ ns) in
    let here : tree_at all (length ts) ≡ tree_at (ts ++ tree_of h ts n ∷ []) (length ts) =
    trees_from-old h (ts ++ tree_of h ts n ∷ []) ns (length ts) (grind (arith, common_steps)) in
    let at : tree_at (ts ++ tree_of h ts n ∷ []) (length ts) ≡ tree_of h ts n =
    get_or-append_seam ts (tree_of h ts n) [] (named []) in
    let e : length ts + 0 ≡ length ts = omega arith in
    ap (tree_at all) e ∙ here ∙ at
    ∙ tree_of-more h h (Extends-same h h refl) (length ts) all ts (λ i hi. sym (trees_from-old h ts (n ∷ ns) i hi)) n s.0
trees_from-at h ts (n ∷ ns) s (suc i) d below =
    let more = ts ++ tree_of h ts n ∷ [] in
    let all = trees_from h more ns in
    let e : length more ≡ length ts + 1 = length-append ts (tree_of h ts n ∷ []) in
    let e2 : length ts + suc i ≡ length more + i = omega (arith, e) in
    ap (tree_at all) e2 ∙ trees_from-at h more ns (subst (λ (k : ℕ). AreStored h k ns) (sym e) s.1) i d (omega arith)

AreStored-at : (h : Held) (k : ℕ) (ns : List Node) (i : ℕ) (d : Node) → AreStored h k ns → i < length ns → IsBelow h (k + i) (get_or ns i d)
AreStored-at h k [] i d s below = absurd (omega arith)
AreStored-at h k (n ∷ ns) zero d s below = let e : k ≡ k + 0 = omega arith in subst (λ (j : ℕ). IsBelow h j n) e s.0
AreStored-at h k (n ∷ ns) (suc i) d s below =
    let e : k + 1 + i ≡ k + suc i = omega arith in
    subst (λ (j : ℕ). IsBelow h j (get_or ns i d)) e (AreStored-at h (k + 1) ns i d s.1 (omega arith))

pub forest-at : (h : Held) (ns : List Node) (i : ℕ) (d : Node) → AreStored h 0 ns → i < length ns → tree_at (trees_from h [] ns) i ≡ tree_of h (trees_from h [] ns) (get_or ns i d)
forest-at h ns i d s b =
    let e : 0 + i ≡ i = omega arith in
    subst (λ (j : ℕ). tree_at (trees_from h [] ns) j ≡ tree_of h (trees_from h [] ns) (get_or ns i d)) e (trees_from-at h [] ns s i d b)

pub stored-at : (h : Held) (ns : List Node) (i : ℕ) (d : Node) → AreStored h 0 ns → i < length ns → IsBelow h i (get_or ns i d)
stored-at h ns i d s b =
    let e : 0 + i ≡ i = omega arith in
    subst (λ (j : ℕ). IsBelow h j (get_or ns i d)) e (AreStored-at h 0 ns i d s b)

pub IsRange-more : (n m : ℕ) (r : Range) → n ≤ m → IsRange n r → IsRange m r
IsRange-more n m r h b = (b.0, omega (arith, h, b.1))

pub length-more : (A : Type 0) (xs ys : List A) → Begins A xs ys → length xs ≤ length ys
length-more A xs ys e = omega (arith, ap length e.1, length-append xs e.0)

pub IsText-more : (h g : Held) → Extends h g → (t : NodeText) → IsText h t → IsText g t
IsText-more h g e (Fixed bytes) b = b
IsText-more h g e (Stored r) b = IsRange-more (length h.texts) (length g.texts) r (length-more ℕ h.texts g.texts e.2) b

pub below-more : (m n : ℕ) (is : List ℕ) → m ≤ n → AllByRecursion (λ k. k < m) is → AllByRecursion (λ k. k < n) is
below-more m n [] l h = tt
below-more m n (i ∷ is) l h = (omega (arith, h.0, l), below-more m n is l h.1)

pub IsListBelow-more : (h g : Held) → Extends h g → (n m : ℕ) → n ≤ m → (l : handle.List) → IsListBelow h n l → IsListBelow g m l
IsListBelow-more h g e n m le l b = (
  IsRange-more (length h.lists) (length g.lists) l.range (length-more ℕ h.lists g.lists e.0) b.0,
  subst (AllByRecursion (λ (t : ℕ). t < m)) (sym (list_at-more h g e l b.0)) (below-more n m (list_at h l) le b.1),
)

pub IsPartBelow-more : (h g : Held) → Extends h g → (n m : ℕ) → n ≤ m → (p : Part) → IsPartBelow h n p → IsPartBelow g m p
IsPartBelow-more h g e n m le (part.Text x y) b = (IsText-more h g e x b.0, IsText-more h g e y b.1)
IsPartBelow-more h g e n m le (part.Tree manner t) b = omega (arith, le, b)
IsPartBelow-more h g e n m le (part.Trees listing l) b = IsListBelow-more h g e n m le l b

pub all_parts-more : (h g : Held) → Extends h g → (n m : ℕ) → n ≤ m → (ps : List Part) → AllByRecursion (IsPartBelow h n) ps → AllByRecursion (IsPartBelow g m) ps
all_parts-more h g e n m le [] b = b
all_parts-more h g e n m le (p ∷ ps) b = (IsPartBelow-more h g e n m le p b.0, all_parts-more h g e n m le ps b.1)

pub IsPartsBelow-more : (h g : Held) → Extends h g → (n m : ℕ) → n ≤ m → (ps : handles.Parts) → IsPartsBelow h n ps → IsPartsBelow g m ps
IsPartsBelow-more h g e n m le ps b = (
  IsRange-more (length h.parts) (length g.parts) ps.range (length-more Part h.parts g.parts e.1) b.0,
  subst (AllByRecursion (IsPartBelow g m)) (sym (parts_at-more h g e ps b.0)) (all_parts-more h g e n m le (parts_at h ps) b.1),
)

pub IsOptionBelow-more : (n m : ℕ) → n ≤ m → (o : Option ℕ) → IsOptionBelow n o → IsOptionBelow m o
IsOptionBelow-more n m le None b = b
IsOptionBelow-more n m le (Some i) b = omega (arith, le, b)

IsPlainBelow-more : (h g : Held) → Extends h g → (n m : ℕ) → n ≤ m → (p : Plain) → IsPlainBelow h n p → IsPlainBelow g m p
unfolding IsPlainBelow
IsPlainBelow-more h g e n m le (plain.Name bytes) b = IsText-more h g e bytes b
IsPlainBelow-more h g e n m le (plain.Leaf simple x y) b = (IsText-more h g e x b.0, IsText-more h g e y b.1)
IsPlainBelow-more h g e n m le (plain.StdName std expanded) b = b
IsPlainBelow-more h g e n m le (plain.Phrase attributes ps) b = IsPartsBelow-more h g e n m le ps b
IsPlainBelow-more h g e n m le (plain.Scoped friend scope name) b = (omega (arith, le, b.0), omega (arith, le, b.1))
IsPlainBelow-more h g e n m le (plain.ScopedName scope name) b = (omega (arith, le, b.0), IsText-more h g e name b.1)
IsPlainBelow-more h g e n m le (plain.WithArgs name args) b = (omega (arith, le, b.0), IsListBelow-more h g e n m le args b.1)
IsPlainBelow-more h g e n m le (plain.AbiTag name tag) b = (omega (arith, le, b.0), IsText-more h g e tag b.1)
IsPlainBelow-more h g e n m le (plain.InModule name owner) b = (omega (arith, le, b.0), omega (arith, le, b.1))
IsPlainBelow-more h g e n m le (plain.Data name) b = omega (arith, le, b)
IsPlainBelow-more h g e n m le (plain.ObjcProtocol t protocol) b = (omega (arith, le, b.0), IsText-more h g e protocol b.1)
IsPlainBelow-more h g e n m le (plain.Several items) b = IsListBelow-more h g e n m le items b
IsPlainBelow-more h g e n m le (plain.Expansion t) b = omega (arith, le, b)
IsPlainBelow-more h g e n m le (plain.Param level index) b = b

IsDeclarationBelow-more : (h g : Held) → Extends h g → (n m : ℕ) → n ≤ m → (d : Declaration) → IsDeclarationBelow h n d → IsDeclarationBelow g m d
unfolding IsDeclarationBelow
IsDeclarationBelow-more h g e n m le (declaration.Typename name) b = omega (arith, le, b)
IsDeclarationBelow-more h g e n m le (declaration.TypeParam constraint name) b = (omega (arith, le, b.0), omega (arith, le, b.1))
IsDeclarationBelow-more h g e n m le (declaration.NonTypeParam name t) b = (omega (arith, le, b.0), omega (arith, le, b.1))
IsDeclarationBelow-more h g e n m le (declaration.TemplateParam name declarations rest) b =
    (omega (arith, le, b.0), IsListBelow-more h g e n m le declarations b.1, IsPartsBelow-more h g e n m le rest b.2)
IsDeclarationBelow-more h g e n m le (declaration.PackParam d) b = omega (arith, le, b)

pub IsBelow-more : (h g : Held) → Extends h g → (n m : ℕ) → n ≤ m → (x : Node) → IsBelow h n x → IsBelow g m x
unfolding IsBelow
IsBelow-more h g e n m le (node.Plain p) b = IsPlainBelow-more h g e n m le p b
IsBelow-more h g e n m le (node.Declaration d) b = IsDeclarationBelow-more h g e n m le d b
IsBelow-more h g e n m le (node.Qualified t cv) b = omega (arith, le, b)
IsBelow-more h g e n m le (node.Pointer t) b = omega (arith, le, b)
IsBelow-more h g e n m le (node.Reference t lvalue) b = omega (arith, le, b)
IsBelow-more h g e n m le (node.MemberPointer class member) b = (omega (arith, le, b.0), omega (arith, le, b.1))
IsBelow-more h g e n m le (node.Array element dimension) b = (omega (arith, le, b.0), IsPartsBelow-more h g e n m le dimension b.1)
IsBelow-more h g e n m le (node.Function f) b =
    (omega (arith, le, b.0), IsListBelow-more h g e n m le f.params b.1, IsPartsBelow-more h g e n m le f.exception b.2)
IsBelow-more h g e n m le (node.Encoding f) b =
    (IsOptionBelow-more n m le f.ret b.0, omega (arith, le, b.1), IsListBelow-more h g e n m le f.params b.2, IsPartsBelow-more h g e n m le f.clauses b.3)
IsBelow-more h g e n m le (node.Pack items) b = IsListBelow-more h g e n m le items b

pub AreStored-more : (h g : Held) → Extends h g → (k : ℕ) (ns : List Node) → AreStored h k ns → AreStored g k ns
AreStored-more h g e k [] s = s
AreStored-more h g e k (n ∷ ns) s = (IsBelow-more h g e k k (omega arith) n s.0, AreStored-more h g e (k + 1) ns s.1)

-- what is held more changes no tree
pub trees_from-more : (h g : Held) → Extends h g → (k : ℕ) (ts : List Tree) (ns : List Node) → AreStored h k ns → trees_from g ts ns ≡ trees_from h ts ns
trees_from-more h g e k ts [] s = refl
trees_from-more h g e k ts (n ∷ ns) s =
    ap (λ (t : Tree). trees_from g (ts ++ t ∷ []) ns) (tree_of-more h g e k ts ts (λ i b. refl) n s.0)
    ∙ trees_from-more h g e (k + 1) (ts ++ tree_of h ts n ∷ []) ns s.1

AreStored-push : (h : Held) (k : ℕ) (ns : List Node) (n : Node) → AreStored h k ns → IsBelow h (k + length ns) n → AreStored h k (ns ++ n ∷ [])
AreStored-push h k [] n s b = let e : k + 0 ≡ k = omega arith in (subst (λ (j : ℕ). IsBelow h j n) e b, tt)
AreStored-push h k (m ∷ ns) n s b =
    let e : k + length (m ∷ ns) ≡ k + 1 + length ns = omega arith in
    (s.0, AreStored-push h (k + 1) ns n s.1 (subst (λ (j : ℕ). IsBelow h j n) e b))

pub stored-push : (h : Held) (ns : List Node) (n : Node) (k : ℕ) → k ≡ length ns → AreStored h 0 ns → IsBelow h k n → AreStored h 0 (ns ++ n ∷ [])
stored-push h ns n k e s b =
    let e2 : k ≡ 0 + length ns = omega arith in AreStored-push h 0 ns n s (subst (λ (j : ℕ). IsBelow h j n) e2 b)

pub length-forest : (s : Store) → length (forest s) ≡ size s
unfolding forest
length-forest s = omega (arith, length-trees_from s.held [] s.nodes)

-- what is held grows, and no node is new
pub grown : (a b : Store) → b.nodes ≡ a.nodes → Extends a.held b.held → IsStore a → IsStore b
grown a b e x i = subst (AreStored b.held 0) (sym e) (AreStored-more a.held b.held x 0 a.nodes i)

pub grown-forest : (a b : Store) → b.nodes ≡ a.nodes → Extends a.held b.held → IsStore a → forest b ≡ forest a
unfolding forest
grown-forest a b e x i = ap (trees_from b.held []) e ∙ trees_from-more a.held b.held x 0 [] a.nodes i

-- the nodes are the same
pub same-forest : (a b : Store) → b.nodes ≡ a.nodes → b.held ≡ a.held → forest b ≡ forest a
unfolding forest
same-forest a b e h = ap (trees_from b.held []) e ∙ ap (λ (g : Held). trees_from g [] a.nodes) h

-- a node is new
pub pushed-forest : (a b : Store) (n : Node) → b.nodes ≡ a.nodes ++ n ∷ [] → b.held ≡ a.held → forest b ≡ forest a ++ tree_of a.held (forest a) n ∷ []
unfolding forest
pushed-forest a b n e h =
    ap (trees_from b.held []) e ∙ ap (λ (g : Held). trees_from g [] (a.nodes ++ n ∷ [])) h ∙ trees_from-push a.held [] a.nodes n

-- indices of a store that grew
pub below-push : (n : ℕ) (is : List ℕ) (i : ℕ) → AllByRecursion (λ k. k < n) is → i < n → AllByRecursion (λ k. k < n) (is ++ i ∷ [])
below-push n [] i h b = (b, tt)
below-push n (k ∷ is) i h b = (h.0, below-push n is i h.1 b)

pub below-drop : (m n : ℕ) (is : List ℕ) → AllByRecursion (λ k. k < n) is → AllByRecursion (λ k. k < n) (drop m is)
below-drop zero n is h = h
below-drop (suc m) n [] h = tt
below-drop (suc m) n (i ∷ is) h = below-drop m n is h.1

-- what is held changes, and all else stays
abbrev pub holding : Store → Held → Store
holding s h = record { nodes = s.nodes; held = h; saved = s.saved; pending = s.pending; limit = s.limit }

pub kept-held : (es : List entry.Entry) (s : Store) (h : Held) → IsKept es s → Extends s.held h → length h.lists ≤ s.limit → length h.parts ≤ s.limit → length h.texts ≤ s.limit → IsKept es (holding s h)
kept-held es s h k x items parts texts =
    let w = k.2.within in (
      grown s (holding s h) refl x k.0,
      subst (AreCounted es) (sym (grown-forest s (holding s h) refl x k.0)) k.1,
      record {
        within =
            record { nodes = w.nodes; items = items; parts = parts; texts = texts; saved = w.saved; pending = w.pending };
        small = k.2.small;
      },
      record { saved = k.3.saved; pending = k.3.pending },
    )

pub ruleset laws = (AreStored-more, stored-push)
