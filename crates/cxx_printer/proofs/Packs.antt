use Rattle.std.proofs.Common.{ℕ, ◌≡◌, ◌<◌, ◌≤◌, Bool, true, false, List, [], ◌∷◌, ◌++◌, length, refl, sym, ap, subst, ◌∙◌, arith, zero, suc, Option, Some, None}
use Rattle.std.proofs.Math.ListN.{get_or}
use Rattle.std.proofs.lemmas.List.{append-nil}
use Rattle.std.specs.List.{AllByRecursion}
use Rattle.std.specs.Prelude.{is_some, if◌then◌else◌}
use mathlib.Core.Bool.{true≢false}
use Rattle.cxx_tree.specs.declared.node.Part.{Part}
use Rattle.cxx_tree.specs.declared.node.Part.TheVariants as part
use Rattle.cxx_tree.specs.declared.node.Plain.{Plain}
use Rattle.cxx_tree.specs.declared.node.Plain.TheVariants as plain
use Rattle.cxx_tree.specs.Tree.{Tree, Trees, pack, qualified, pointer, reference}
use Rattle.cxx_tree.specs.Stored.{Held, tree_at, trees_at, plain_tree, parts_of, IsPartBelow}
use Rattle.cxx_printer.specs.Asked.{Refers, IsLeft, OneSided, ends_of_part, run_ends}
use Rattle.cxx_printer.specs.declared.env.Env.{Env}
use Rattle.cxx_printer.specs.Words.{ending, ending_of_byte, opened, closed}
use Rattle.cxx_printer.specs.declared.words.Form.{Form}
use Rattle.cxx_printer.specs.Heads.{protocol_of}
use Rattle.cxx_tree.specs.declared.kinds.Cv.{Cv}
use Rattle.cxx_printer.specs.Print.{Printed, Sides, simple, joinable, print, print_parts, whole, right_behind, blank_unless, without_return, head, declared_name, pointed, items_of, printed_at, nothing, element_of, last_ends}
use Rattle.cxx_printer.specs.declared.shapes.Ending.TheVariants.{Other}

-- the element of a pack
pub printed_at-item : (ts : List Tree) (is : List ℕ) (env : Env) (k d : ℕ) → k < length is → printed_at (items_of (trees_at ts is)) k env ≡ print (tree_at ts (get_or is k d)) env
unfolding print
printed_at-item ts [] env k d h = absurd (omega arith)
printed_at-item ts (i ∷ is) env zero d h = refl
printed_at-item ts (i ∷ is) env (suc k) d h = printed_at-item ts is env k d (omega arith)

pub printed_at-past : (ts : List Tree) (is : List ℕ) (env : Env) (k : ℕ) → length is ≤ k → printed_at (items_of (trees_at ts is)) k env ≡ nothing
unfolding print
printed_at-past ts [] env k h = refl
printed_at-past ts (i ∷ is) env zero h = absurd (omega arith)
printed_at-past ts (i ∷ is) env (suc k) h = printed_at-past ts is env k (omega arith)

pub below_at : (n : ℕ) (is : List ℕ) (k d : ℕ) → AllByRecursion (λ t. t < n) is → k < length is → get_or is k d < n
below_at n [] k d h b = absurd (omega arith)
below_at n (i ∷ is) zero d h b = h.0
below_at n (i ∷ is) (suc k) d h b = below_at n is k d h.1 (omega arith)

-- how a list ends
pub last_ends-at : (ts : List Tree) (env : Env) (is : List ℕ) (k d : ℕ) → length is ≡ suc k → last_ends env (items_of (trees_at ts is)) ≡ (print (tree_at ts (get_or is k d)) env).ends
unfolding print last_ends
last_ends-at ts env [] k d h = absurd (omega (arith, h))
last_ends-at ts env (i ∷ []) zero d h = refl
last_ends-at ts env (i ∷ []) (suc k) d h = absurd (omega (arith, h))
last_ends-at ts env (i ∷ j ∷ is) zero d h = absurd (omega (arith, h))
last_ends-at ts env (i ∷ j ∷ is) (suc k) d h = last_ends-at ts env (j ∷ is) k d (omega (arith, h))

pub ending-at : (bs : List ℕ) (k d : ℕ) → length bs ≡ suc k → ending bs ≡ ending_of_byte (get_or bs k d)
unfolding ending
ending-at [] k d h = absurd (omega (arith, h))
ending-at (b ∷ []) zero d h = refl
ending-at (b ∷ []) (suc k) d h = absurd (omega (arith, h))
ending-at (b ∷ c ∷ bs) zero d h = absurd (omega (arith, h))
ending-at (b ∷ c ∷ bs) (suc k) d h = ending-at (c ∷ bs) k d (omega (arith, h))

pub ending-none : (bs : List ℕ) → length bs ≡ 0 → ending bs ≡ Other
unfolding ending
ending-none [] h = refl
ending-none (b ∷ bs) h = absurd (omega (arith, h))

pub last_ends-none : (ts : List Tree) (env : Env) (is : List ℕ) → length is ≡ 0 → last_ends env (items_of (trees_at ts is)) ≡ Other
unfolding print last_ends
last_ends-none ts env [] h = refl
last_ends-none ts env (i ∷ is) h = absurd (omega (arith, h))

-- the element of a pack in an environment
pub pack-item : (ts : List Tree) (is : List ℕ) (us : Trees) (env : Env) (k d : ℕ) → us ≡ trees_at ts is → k ≡ env.pack → k < length is → print (pack us) env ≡ element_of (print (tree_at ts (get_or is k d)) env)
unfolding print
pack-item ts is us env k d e f h =
    ap (λ (vs : Trees). element_of (printed_at (items_of vs) env.pack env)) e
    ∙ ap (λ (j : ℕ). element_of (printed_at (items_of (trees_at ts is)) j env)) (sym f)
    ∙ ap element_of (printed_at-item ts is env k d h)

pub pack-past : (ts : List Tree) (is : List ℕ) (us : Trees) (env : Env) (k : ℕ) → us ≡ trees_at ts is → k ≡ env.pack → length is ≤ k → print (pack us) env ≡ nothing
unfolding print
pack-past ts is us env k e f h =
    ap (λ (vs : Trees). element_of (printed_at (items_of vs) env.pack env)) e
    ∙ ap (λ (j : ℕ). element_of (printed_at (items_of (trees_at ts is)) j env)) (sym f)
    ∙ ap element_of (printed_at-past ts is env k h)

-- how parts end
ends-rest : (h : Held) (ts : List Tree) (env : Env) (p q : Part) (ps : List Part) → (print_parts (parts_of h ts (p ∷ q ∷ ps)) env).ends ≡ (print_parts (parts_of h ts (q ∷ ps)) env).ends
unfolding print
ends-rest h ts env (part.Text a b) (part.Text x y) ps = refl
ends-rest h ts env (part.Text a b) (part.Tree m u) ps = refl
ends-rest h ts env (part.Text a b) (part.Trees k v) ps = refl
ends-rest h ts env (part.Tree manner t) (part.Text x y) ps = refl
ends-rest h ts env (part.Tree manner t) (part.Tree m u) ps = refl
ends-rest h ts env (part.Tree manner t) (part.Trees k v) ps = refl
ends-rest h ts env (part.Trees listing l) (part.Text x y) ps = refl
ends-rest h ts env (part.Trees listing l) (part.Tree m u) ps = refl
ends-rest h ts env (part.Trees listing l) (part.Trees k v) ps = refl

pub parts-end-at : (h : Held) (ts : List Tree) (env : Env) (ps : List Part) (k : ℕ) (d : Part) → length ps ≡ suc k → run_ends (print_parts (parts_of h ts ps) env).ends ≡ ends_of_part h ts env (get_or ps k d)
unfolding print ends_of_part
parts-end-at h ts env [] k d e = absurd (omega (arith, e))
parts-end-at h ts env (part.Text a b ∷ []) zero d e = refl
parts-end-at h ts env (part.Tree manner t ∷ []) zero d e = refl
parts-end-at h ts env (part.Trees listing l ∷ []) zero d e = refl
parts-end-at h ts env (p ∷ []) (suc k) d e = absurd (omega (arith, e))
parts-end-at h ts env (p ∷ q ∷ ps) zero d e = absurd (omega (arith, e))
parts-end-at h ts env (p ∷ q ∷ ps) (suc k) d e =
    ap run_ends (ends-rest h ts env p q ps) ∙ parts-end-at h ts env (q ∷ ps) k d (omega (arith, e))

pub parts-end-none : (h : Held) (ts : List Tree) (env : Env) (ps : List Part) → length ps ≡ 0 → run_ends (print_parts (parts_of h ts ps) env).ends ≡ Other
unfolding print
parts-end-none h ts env [] e = refl
parts-end-none h ts env (p ∷ ps) e = absurd (omega (arith, e))

pub in_parts : (h : Held) (n : ℕ) (ps : List Part) (k : ℕ) (d : Part) → AllByRecursion (IsPartBelow h n) ps → k < length ps → IsPartBelow h n (get_or ps k d)
in_parts h n [] k d b l = absurd (omega arith)
in_parts h n (p ∷ ps) zero d b l = b.0
in_parts h n (p ∷ ps) (suc k) d b l = in_parts h n ps k d b.1 (omega arith)

-- trees with one side
pub closed_nothing : (t : Sides) → IsLeft t → closed t.form ++ right_behind false t ≡ []
unfolding closed
closed_nothing t e =
    ap (λ (f : Form). closed f ++ right_behind false t) e.2
    ∙ ap (λ (b : Bool). (if b then blank_unless false else []) ++ t.right) e.1 ∙ e.0

pub one-side : (x : Sides) (c : Bool) → IsLeft x → x.left ++ right_behind c x ≡ x.left
one-side x c h =
    ap (λ (b : Bool). x.left ++ ((if b then blank_unless c else []) ++ x.right)) h.1
    ∙ ap (λ (l : List ℕ). x.left ++ l) h.0 ∙ append-nil x.left

-- a node with one side has a text, and nothing else but how the text ends
pub plain-joinable : (h : Held) (ts : List Tree) (p : Plain) (env : Env) → let q = print (plain_tree h ts p) env in q ≡ joinable q.text.left q.closed q.ends
unfolding print plain_tree
plain-joinable h ts (plain.Name x) env = refl
plain-joinable h ts (plain.Leaf a x y) env = refl
plain-joinable h ts (plain.StdName k x) env = refl
plain-joinable h ts (plain.Phrase a x) env = refl
plain-joinable h ts (plain.Scoped true q n) env = refl
plain-joinable h ts (plain.Scoped false q n) env = refl
plain-joinable h ts (plain.ScopedName q x) env = refl
plain-joinable h ts (plain.WithArgs n x) env = refl
plain-joinable h ts (plain.AbiTag n x) env = refl
plain-joinable h ts (plain.InModule n m) env = refl
plain-joinable h ts (plain.Data n) env = refl
plain-joinable h ts (plain.ObjcProtocol t x) env = refl
plain-joinable h ts (plain.Several x) env = refl
plain-joinable h ts (plain.Expansion t) env = refl
plain-joinable h ts (plain.Param l i) env = refl

plain-left : (h : Held) (ts : List Tree) (p : Plain) (env : Env) → IsLeft (print (plain_tree h ts p) env).text × IsLeft (print (plain_tree h ts p) env).base
plain-left h ts p env =
    let e = plain-joinable h ts p env in
    let text = ap (λ (q : Printed). q.text) e in
    let base = ap (λ (q : Printed). q.base) e in (
      (ap (λ (x : Sides). x.right) text, ap (λ (x : Sides). x.bracket) text, ap (λ (x : Sides). x.form) text),
      (ap (λ (x : Sides). x.right) base, ap (λ (x : Sides). x.bracket) base, ap (λ (x : Sides). x.form) base),
    )

-- a node with one side is no function, and no declaration
plain-printed : (h : Held) (ts : List Tree) (p : Plain) (t : Tree) (env : Env) → t ≡ plain_tree h ts p → let q = print (plain_tree h ts p) env in print t env ≡ joinable q.text.left q.closed q.ends
plain-printed h ts p t env e = ap (λ (v : Tree). print v env) e ∙ plain-joinable h ts p env

pub plain-scope : (h : Held) (ts : List Tree) (p : Plain) (t : Tree) (env : Env) → t ≡ plain_tree h ts p → whole (print t env) ≡ without_return (print t env)
plain-scope h ts p t env e =
    let q = plain-printed h ts p t env e in ap whole q ∙ sym (ap without_return q)

pub plain-head : (h : Held) (ts : List Tree) (p : Plain) (t : Tree) (env : Env) → t ≡ plain_tree h ts p → whole (print t env) ≡ head (print t env)
plain-head h ts p t env e =
    let q = plain-printed h ts p t env e in ap whole q ∙ sym (ap head q)

pub plain-declares : (h : Held) (ts : List Tree) (p : Plain) (t : Tree) (env : Env) → t ≡ plain_tree h ts p → declared_name (print t env) ≡ []
plain-declares h ts p t env e = ap declared_name (plain-printed h ts p t env e)

pub plain-right : (h : Held) (ts : List Tree) (p : Plain) (t : Tree) (env : Env) (joined : Bool) → t ≡ plain_tree h ts p → right_behind joined (print t env).text ≡ []
plain-right h ts p t env joined e = ap (λ (q : Printed). right_behind joined q.text) (plain-printed h ts p t env e)

pub plain-one_sided : (h : Held) (ts : List Tree) (p : Plain) (t : Tree) → t ≡ plain_tree h ts p → OneSided t
unfolding OneSided
plain-one_sided h ts p t e = λ env. subst (λ (u : Tree). IsLeft (print u env).text × IsLeft (print u env).base) (sym e) (plain-left h ts p env)

pub qualified-one_sided : (u : Tree) (cv : Cv) (t : Tree) → t ≡ qualified u cv → OneSided u → OneSided t
unfolding OneSided print
qualified-one_sided u cv t e h =
    λ env. subst (λ (v : Tree). IsLeft (print v env).text × IsLeft (print v env).base) (sym e)
    (((h env).0.0, (h env).0.1, (h env).0.2), ((h env).0.0, (h env).0.1, (h env).0.2))

pointed-left : (o : Option (List ℕ)) (p : Printed) → IsLeft p.text → IsLeft (pointed o p).text × IsLeft (pointed o p).base
pointed-left None p h = ((closed_nothing p.text h, refl, refl), (closed_nothing p.text h, refl, refl))
pointed-left (Some w) p h = ((refl, refl, refl), (refl, refl, refl))

pub pointer-one_sided : (u : Tree) (t : Tree) → t ≡ pointer u → OneSided u → OneSided t
unfolding OneSided print
pointer-one_sided u t e h =
    λ env. subst (λ (v : Tree). IsLeft (print v env).text × IsLeft (print v env).base) (sym e) (pointed-left (protocol_of u) (print u env) (h env).0)

pub reference-one_sided : (u : Tree) (l : Bool) (t : Tree) → t ≡ reference u l → OneSided u → OneSided t
unfolding OneSided print
reference-one_sided u l t e h =
    λ env. subst (λ (v : Tree). IsLeft (print v env).text × IsLeft (print v env).base) (sym e)
    ((closed_nothing (print u env).base (h env).1, refl, refl), (h env).1)

-- a reference to nothing
pub refers-none : (o : Option ℕ) (b : Sides) (f : ℕ → Printed) → o ≡ None → Refers o b f → b ≡ simple []
refers-none None b f e r = r
refers-none (Some j) b f e r = absurd (true≢false (ap is_some e))

pub left-none : (b : Sides) (k : List ℕ) → b ≡ simple [] → b.left ++ (opened b.form ++ k) ≡ k
unfolding opened
left-none b k e = ap (λ (t : Sides). t.left ++ (opened t.form ++ k)) e

pub right-none : (b : Sides) → b ≡ simple [] → closed b.form ++ right_behind false b ≡ []
unfolding closed
right-none b e = ap (λ (t : Sides). closed t.form ++ right_behind false t) e

pub ruleset packs = (below_at, ending-at, ending-none, last_ends-at, last_ends-none, parts-end-at, parts-end-none, in_parts)

pub ruleset plains = (plain-scope, plain-head, plain-declares, plain-right)
