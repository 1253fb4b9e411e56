-- Encodings that the arguments of their names don't change.
use Rattle.std.proofs.Common.{ℕ, ◌≡◌, ◌+◌, List, [], ◌∷◌, ◌++◌, length, refl, sym, arith, zero, suc, Option, Some, None, true, false, Bool, ◌&&◌}
use Rattle.std.specs.Prelude.{if◌then◌else◌}
use mathlib.Core.Bool.{true≢false}
use Rattle.cxx_tree.specs.Tree.{Tree, Trees, named, leaf, std_name, phrase, scoped, with_args, abi_tag, in_module, data_name, objc_protocol, listed, expansion, param, type_param, non_type_param, template_param, pack_param, qualified, pointer, reference, member_pointer, array, function, encoding, pack, no_trees, more_trees}
use Rattle.cxx_tree.specs.Measure.{Measure, measure, measure_each, counted, around, join}
use Rattle.cxx_tree.proofs.Replaced.{bind-none}
use Rattle.cxx_grammar.specs.Bases.{args_of, args_or}
use Rattle.cxx_grammar.specs.State.{State, LearnedName}
use Rattle.cxx_grammar.specs.Binds.{bind_args, bind_first, bind_all, binding_of, parse_closed}
use Rattle.cxx_reader.specs.Unbound.{IsUnbound}

-- within the limits, and without a template parameter
abbrev Free : Measure → Type 0
Free m = (m.params ≡ 0) × (m.fits ≡ true)

abbrev FreeArgs : Option Trees → Type 0
FreeArgs None = Unit {0}
FreeArgs (Some ts) = Free (measure_each ts)

counted-none : (n : ℕ) → counted n ≡ 0 → n ≡ 0
counted-none zero e = refl
counted-none (suc n) e = absurd (omega (arith, e))

both : (a b : Bool) → (a && b) ≡ true → (a ≡ true) × (b ≡ true)
both true true e = (refl, refl)
both true false e = (refl, e)
both false b e = absurd (true≢false (sym e))

-- the children of a tree
inner : (own : ℕ) (m : Measure) → Free (around own m) → Free m
inner own m f = (counted-none m.params f.0, (both m.fits _ f.1).0)

no_sum_left : (x y : ℕ) → x + y ≡ 0 → x ≡ 0
no_sum_left x y e = omega (arith, e)

no_sum_right : (x y : ℕ) → x + y ≡ 0 → y ≡ 0
no_sum_right x y e = omega (arith, e)

first : (m n : Measure) → Free (join m n) → Free m
first m n f = (no_sum_left m.params n.params f.0, (both m.fits n.fits f.1).0)

second : (m n : Measure) → Free (join m n) → Free n
second m n f = (no_sum_right m.params n.params f.0, (both m.fits n.fits f.1).1)

either : (x y : Option Trees) → FreeArgs x → FreeArgs y → FreeArgs (args_or x y)
either None y f g = g
either (Some ts) y f g = f

free-args : (t : Tree) → Free (measure t) → FreeArgs (args_of t)
unfolding measure args_of
free-args (with_args name args) f = second (measure name) (measure_each args) (inner 1 (join (measure name) (measure_each args)) f)
free-args (scoped friend scope name) f =
    let both_free = inner 1 (join (measure scope) (measure name)) f in
    either (args_of name) (args_of scope) (free-args name (second (measure scope) (measure name) both_free)) (free-args scope (first (measure scope) (measure name) both_free))
free-args (abi_tag name tag) f = free-args name (inner (1 + length tag) (measure name) f)
free-args (in_module name owner) f = free-args name (first (measure name) (measure owner) (inner 1 (join (measure name) (measure owner)) f))
free-args (named bytes) f = tt
free-args (leaf simple x y) f = tt
free-args (std_name std expanded) f = tt
free-args (phrase attributes ps) f = tt
free-args (data_name name) f = tt
free-args (objc_protocol t protocol) f = tt
free-args (listed ts) f = tt
free-args (expansion t) f = tt
free-args (param level index) f = tt
free-args (type_param constraint name) f = tt
free-args (non_type_param name t) f = tt
free-args (template_param name declarations rest) f = tt
free-args (pack_param declaration) f = tt
free-args (qualified t cv) f = tt
free-args (pointer t) f = tt
free-args (reference t lvalue) f = tt
free-args (member_pointer class member) f = tt
free-args (array element dimension) f = tt
free-args (function ret params cv ref exception) f = tt
free-args (encoding ret name params cv ref rest) f = tt
free-args (pack ts) f = tt

-- arguments without a template parameter stay
bound-free : (ts : Trees) (bound : List Tree) (s : State) → Free (measure_each ts) → (all : List Tree) × (bind_args false bound ts s ≡ Some (all, s))
unfolding measure bind_args
bound-free no_trees bound s f = (bound, refl)
bound-free (more_trees a others) bound s f =
    let one = first (measure a) (measure_each others) f in
    let all = bound-free others (bound ++ a ∷ []) s (second (measure a) (measure_each others) f) in
    (all.0, rw (bind-none (binding_of bound) a one.0) (rw one.1 all.1))

first-free : (o : Option Trees) (s : State) → FreeArgs o → (all : List Tree) × (bind_first None o s ≡ Some (all, s))
first-free None s f = ([], refl)
first-free (Some ts) s f = bound-free ts [] s f

no-inherited : (ends_with_args : Bool) (o : Option Trees) → o ≡ None → (if ends_with_args then None else o) ≡ None
no-inherited true o e = refl
no-inherited false o e = e

tree-free : (args : List Tree) (t : Tree) (s : State) → Free (measure t) → bind_all args t s ≡ Some (t, s)
unfolding parse_closed
tree-free args t s f = rw (bind-none (binding_of args) t f.0) (rw f.1 (rw f.0 refl))

pub unbound : (n : LearnedName) (t : Tree) → n.info.inherited ≡ None → (measure n.tree).params ≡ 0 → (measure n.tree).fits ≡ true → (measure t).params ≡ 0 → (measure t).fits ≡ true → IsUnbound n t
unfolding IsUnbound
unbound n t e p q x y = λ s.
    let all = first-free (args_of n.tree) s (free-args n.tree (p, q)) in
    rw (no-inherited n.info.ends_with_args n.info.inherited e) (rw all.1 (tree-free all.0 t s (x, y)))
