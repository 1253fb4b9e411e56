-- Items of lists.
use Rattle.std.proofs.Common.{ℕ, ◌≡◌, ◌+◌, ◌<◌, ◌≤◌, drop, Option, Some, None, Bool, true, false, List, [], ◌∷◌, ◌++◌, length, codes, nat_eq, refl, sym, subst, ap, ◌∙◌, arith, if◌then◌else◌, Result}
use Rattle.std.proofs.Math.ListN.{get_or}
use Rattle.std.proofs.lemmas.List.{append-nil, length-append}
use Rattle.std.specs.declared.alloc.AllocError.{AllocError}
use Rattle.cxx_tree.specs.declared.kinds.Prec.{Prec}
use Rattle.cxx_tree.specs.declared.kinds.Prec.TheVariants.{Primary, Comma}
use Rattle.cxx_tree.specs.Tree.{Tree, Trees, named, leaf, scoped, with_args, pointer, reference}
use Rattle.cxx_printer.specs.Heads.{prec_of, rank, is_tight, is_simple, protocol_of}
use Rattle.cxx_printer.specs.Asked.{item}
use Rattle.cxx_printer.specs.declared.env.Env.{Env}
use Rattle.cxx_printer.specs.declared.shapes.Ending.TheVariants.{Less}
use Rattle.cxx_tree.specs.Stored.{tree_at, trees_at}
use Rattle.cxx_printer.specs.Print.{Printed, Sides, print, whole, item_text, in_parens, item_behind, is_still_first, separator, scope_text, with_list, items_of, gnu_blank, pointed, right_behind, refers, collapsed, list_from}
use Rattle.cxx_printer.specs.Prints.{Prints}
use Rattle.cxx_printer.specs.Words.{is_llvm, styled, mark, opened, closed}
use Rattle.cxx_printer.proofs.Appended.{prints_then}
use Rattle.cxx_printer.proofs.Turns.{so_far_step, list_step}

bare : (b s : Bool) (p : Prec) (w q : List ℕ) → p ≡ Primary → (if b then (if (if b then is_tight p Comma false else s) then w else q) else w) ≡ w
unfolding rank
bare true s p w q e = ap (λ (r : Prec). if is_tight r Comma false then w else q) e
bare false s p w q e = refl

-- an item that has no parentheses
pub item_text-bare : (t : Tree) (env : Env) → prec_of t ≡ Primary → item_text env (item t) ≡ whole (print t env)
item_text-bare t env e = bare (is_llvm env) (is_simple t) (prec_of t) (whole (print t env)) (in_parens env (item t)) e

-- an item that prints something
some-item : (first : Bool) (x : List ℕ) → 1 ≤ length x → item_behind first x ≡ separator first ++ x
some-item first [] h = absurd (omega arith)
some-item first (b ∷ bs) h = refl

-- a text after what stands before an item
pub item_printed : (r : Result (Unit {0}) AllocError) (old mid new x : List ℕ) (done first : Bool) (env : Env) (t : Tree) → done ≡ true → mid ≡ (if done then old ++ separator first else old)
    → whole (print t env) ≡ x → prec_of t ≡ Primary → 1 ≤ length x → Prints r mid new x → Prints r old new (item_behind first (item_text env (item t)))
item_printed r old mid new x done first env t d m e p h prints =
    let start : mid ≡ old ++ separator first = m ∙ ap (λ (b : Bool). if b then old ++ separator first else old) d in
    let text : separator first ++ x ≡ item_behind first (item_text env (item t)) =
    sym (some-item first x h) ∙ sym (ap (item_behind first) (item_text-bare t env p ∙ e)) in
    subst (λ (l : List ℕ). Prints r old new l) text (prints_then r old mid new (separator first) x start prints)

-- a name in a scope
some-colons : (s w : List ℕ) → 1 ≤ length (s ++ (codes "::" ++ w))
some-colons s w = omega (arith, length-append s (codes "::" ++ w))

pub scoped_item : (r : Result (Unit {0}) AllocError) (old mid new : List ℕ) (done first : Bool) (env : Env) (t a b : Tree) → done ≡ true → mid ≡ (if done then old ++ separator first else old)
    → t ≡ scoped false a b → Prints r mid new (scope_text env (print a env) ++ (codes "::" ++ whole (print b env))) → Prints r old new (item_behind first (item_text env (item t)))
unfolding print prec_of
scoped_item r old mid new done first env t a b d m e prints =
    let x = scope_text env (print a env) ++ (codes "::" ++ whole (print b env)) in
    item_printed r old mid new x done first env t d m (ap (λ (v : Tree). whole (print v env)) e ∙ append-nil x) (ap prec_of e)
    (some-colons (scope_text env (print a env)) (whole (print b env))) prints

-- a name with template arguments
some-angles : (s w x : List ℕ) → 1 ≤ length (s ++ (w ++ (codes "<" ++ x)))
some-angles s w x = omega (arith, length-append s (w ++ (codes "<" ++ x)), length-append w (codes "<" ++ x))

pub args_item : (r : Result (Unit {0}) AllocError) (old mid new : List ℕ) (done first : Bool) (env : Env) (t n : Tree) (ts : Trees) → done ≡ true → mid ≡ (if done then old ++ separator first else old)
    → t ≡ with_args n ts → Prints r mid new ((with_list env (print n env) (items_of ts)).text.left) → Prints r old new (item_behind first (item_text env (item t)))
unfolding print prec_of
args_item r old mid new done first env t n ts d m e prints =
    let x = (with_list env (print n env) (items_of ts)).text.left in
    item_printed r old mid new x done first env t d m (ap (λ (v : Tree). whole (print v env)) e ∙ append-nil x) (ap prec_of e)
    (some-angles (whole (print n env)) (gnu_blank env Less (print n env).ends) _) prints

-- a pointer
some-pointed : (o : Option (List ℕ)) (p : Printed) → 1 ≤ length (whole (pointed o p))
some-pointed None p =
    let l = p.text.left in
    let k = opened p.text.form in
    let x = closed p.text.form ++ right_behind false p.text in
    omega (arith, length-append (l ++ (k ++ codes "*")) x, length-append l (k ++ codes "*"), length-append k (codes "*"))
some-pointed (Some w) p = omega (arith, length-append (codes "id<" ++ (w ++ codes ">")) [])

pub pointer_item : (r : Result (Unit {0}) AllocError) (old mid new : List ℕ) (done first : Bool) (env : Env) (t u : Tree) → done ≡ true → mid ≡ (if done then old ++ separator first else old)
    → t ≡ pointer u → Prints r mid new (whole (print t env)) → Prints r old new (item_behind first (item_text env (item t)))
unfolding print prec_of
pointer_item r old mid new done first env t u d m e prints =
    item_printed r old mid new (whole (print t env)) done first env t d m refl (ap prec_of e)
    (subst (λ (v : Tree). 1 ≤ length (whole (print v env))) (sym e) (some-pointed (protocol_of u) (print u env))) prints

-- a reference
some-mark : (lvalue : Bool) → 1 ≤ length (mark lvalue)
unfolding mark
some-mark true = omega arith
some-mark false = omega arith

some-refers : (lvalue : Bool) (b : Sides) → 1 ≤ length ((refers lvalue b).left ++ (refers lvalue b).right)
some-refers lvalue b =
    let k = opened b.form in
    let m = mark lvalue in
    omega (arith, length-append (refers lvalue b).left (refers lvalue b).right, length-append b.left (k ++ m), length-append k m, some-mark lvalue)

pub reference_item : (r : Result (Unit {0}) AllocError) (old mid new : List ℕ) (done first : Bool) (env : Env) (t u : Tree) (lvalue : Bool) → done ≡ true → mid ≡ (if done then old ++ separator first else old)
    → t ≡ reference u lvalue → Prints r mid new (whole (print t env)) → Prints r old new (item_behind first (item_text env (item t)))
unfolding print prec_of
reference_item r old mid new done first env t u lvalue d m e prints =
    let p = print u env in
    item_printed r old mid new (whole (print t env)) done first env t d m refl (ap prec_of e)
    (subst (λ (v : Tree). 1 ≤ length (whole (print v env))) (sym e) (some-refers (collapsed lvalue p.kind) p.base)) prints

-- a text
text_item : (r : Result (Unit {0}) AllocError) (old new x : List ℕ) (first : Bool) (env : Env) (t : Tree) → prec_of t ≡ Primary → whole (print t env) ≡ x
    → Prints r old new (item_behind first x) → Prints r old new (item_behind first (item_text env (item t)))
text_item r old new x first env t p e prints =
    subst (λ (l : List ℕ). Prints r old new (item_behind first l)) (sym (item_text-bare t env p ∙ e)) prints

pub name_item : (r : Result (Unit {0}) AllocError) (old new x w : List ℕ) (first : Bool) (env : Env) (t : Tree) → t ≡ named w → x ≡ w
    → Prints r old new (item_behind first x) → Prints r old new (item_behind first (item_text env (item t)))
unfolding print prec_of
name_item r old new x w first env t e is prints =
    text_item r old new x first env t (ap prec_of e) (ap (λ (v : Tree). whole (print v env)) e ∙ append-nil w ∙ sym is) prints

pub leaf_item : (r : Result (Unit {0}) AllocError) (old new x a b : List ℕ) (simple first : Bool) (env : Env) (t : Tree) → t ≡ leaf simple a b → x ≡ styled env a b
    → Prints r old new (item_behind first x) → Prints r old new (item_behind first (item_text env (item t)))
unfolding print prec_of
leaf_item r old new x a b simple first env t e is prints =
    text_item r old new x first env t (ap prec_of e) (ap (λ (v : Tree). whole (print v env)) e ∙ append-nil (styled env a b) ∙ sym is) prints

-- whether the next item is the first: whether the text is as long as where the list begins
pub still_first : (out new text : List ℕ) (start : ℕ) → start ≤ length out → new ≡ out ++ item_behind (nat_eq (length out) start) text
    → (is_still_first (nat_eq (length out) start) text ≡ nat_eq (length new) start) × (start ≤ length new)
still_first out new [] start h e =
    let same : new ≡ out = e ∙ append-nil out in
    (sym (ap (λ (l : List ℕ). nat_eq (length l) start) same), subst (λ (l : List ℕ). start ≤ length l) (sym same) h)
still_first out new (b ∷ bs) start h e =
    let sep = separator (nat_eq (length out) start) in
    let n : length new ≡ length out + (length sep + length (b ∷ bs)) = ap length e ∙ length-append out (sep ++ (b ∷ bs)) ∙ ap (λ (k : ℕ). length out + k) (length-append sep (b ∷ bs)) in
    (grind (arith, n, h), omega (arith, n, h))

-- what is printed of a list so far, and what is left
pub items_step : (ts : List Tree) (is : List ℕ) (env : Env) (old out new all : List ℕ) (first : Bool) (k d : ℕ) → first ≡ nat_eq (length out) (length old) → k < length is
    → (old ++ all ≡ out ++ list_from (nat_eq (length out) (length old)) env (items_of (trees_at ts (drop k is)))) × (length old ≤ length out)
    → new ≡ out ++ item_behind first (item_text env (item (tree_at ts (get_or is k d))))
    → (old ++ all ≡ new ++ list_from (nat_eq (length new) (length old)) env (items_of (trees_at ts (drop (k + 1) is)))) × (length old ≤ length new)
items_step ts is env old out new all first k d s h inv e =
    let text = item_text env (item (tree_at ts (get_or is k d))) in
    let same = nat_eq (length out) (length old) in
    let more = items_of (trees_at ts (drop (k + 1) is)) in
    let f : new ≡ out ++ item_behind same text = e ∙ ap (λ (b : Bool). out ++ item_behind b text) s in
    let next = still_first out new text (length old) inv.1 f in (
      so_far_step old out new all (list_from same env (items_of (trees_at ts (drop k is)))) (item_behind same text) (list_from (is_still_first same text) env more) inv.0
          (list_step ts is env same k d h) f ∙ ap (λ (b : Bool). new ++ list_from b env more) next.0,
      next.1,
    )
