-- What the turns of the printer's loops append.
use Rattle.std.proofs.Common.{ℕ, ◌≡◌, ◌+◌, ◌-◌, ◌<◌, ◌≤◌, Bool, false, List, [], ◌∷◌, ◌++◌, length, drop, refl, sym, ap, ◌∙◌, arith, append_assoc, zero, suc, nat_eq}
use Rattle.std.proofs.Math.ListN.{get_or}
use Rattle.std.proofs.lemmas.List.{append-nil}
use Rattle.cxx_tree.specs.declared.node.Part.{Part}
use Rattle.cxx_tree.specs.declared.node.Part.TheVariants as part
use Rattle.cxx_tree.specs.Tree.{Tree}
use Rattle.cxx_tree.specs.Stored.{Held, tree_at, trees_at, parts_of}
use Rattle.cxx_printer.specs.declared.env.Env.{Env}
use Rattle.cxx_printer.specs.Words.{at}
use Rattle.cxx_printer.specs.Print.{Printed, Item, items_of, print, print_parts, whole, separator, item_behind, is_still_first, item_text, list_from, sequence, separated, repeated}
use Rattle.cxx_printer.specs.Asked.{item, text_of_part}

-- what is printed so far and what is left make the whole
pub so_far_step : (a b new all rest x more : List ℕ) → a ++ all ≡ b ++ rest → rest ≡ x ++ more → new ≡ b ++ x → a ++ all ≡ new ++ more
so_far_step a b new all rest x more h e k =
    h ∙ ap (λ (l : List ℕ). b ++ l) e ∙ sym (append_assoc b x more) ∙ ap (λ (l : List ℕ). l ++ more) (sym k)

pub so_far_end : (a new all rest : List ℕ) → a ++ all ≡ new ++ rest → rest ≡ [] → new ≡ a ++ all
so_far_end a new all rest h e = sym (h ∙ ap (λ (l : List ℕ). new ++ l) e ∙ append-nil new)

-- two texts in a turn
pub added_twice : (a b c x y : List ℕ) → b ≡ a ++ x → c ≡ b ++ y → c ≡ a ++ (x ++ y)
added_twice a b c x y h k = k ∙ ap (λ (l : List ℕ). l ++ y) h ∙ append_assoc a x y

pub list_step : (ts : List Tree) (is : List ℕ) (env : Env) (first : Bool) (k d : ℕ) → k < length is →
    list_from first env (items_of (trees_at ts (drop k is))) ≡ item_behind first (item_text env (item (tree_at ts (get_or is k d)))) ++ list_from (is_still_first first (item_text env (item (tree_at ts (get_or is k d))))) env (items_of (trees_at ts (drop (k + 1) is)))
unfolding print list_from
list_step ts [] env first k d h = absurd (omega arith)
list_step ts (i ∷ is) env first zero d h = refl
list_step ts (i ∷ is) env first (suc k) d h =
    let e : suc k + 1 ≡ suc (k + 1) = omega arith in
    let x = item_text env (item (tree_at ts (get_or is k d))) in
    list_step ts is env first k d (omega arith)
    ∙ ap (λ (j : ℕ). item_behind first x ++ list_from (is_still_first first x) env (items_of (trees_at ts (drop j (i ∷ is))))) (sym e)

pub list_end : (ts : List Tree) (is : List ℕ) (env : Env) (first : Bool) (k : ℕ) → length is ≤ k → list_from first env (items_of (trees_at ts (drop k is))) ≡ []
unfolding print list_from
list_end ts [] env first zero h = refl
list_end ts [] env first (suc k) h = refl
list_end ts (i ∷ is) env first zero h = absurd (omega arith)
list_end ts (i ∷ is) env first (suc k) h = list_end ts is env first k (omega arith)

pub sequence_step : (ts : List Tree) (is : List ℕ) (env : Env) (k d : ℕ) → k < length is →
    sequence env (items_of (trees_at ts (drop k is))) ≡ whole (print (tree_at ts (get_or is k d)) env) ++ sequence env (items_of (trees_at ts (drop (k + 1) is)))
unfolding print sequence
sequence_step ts [] env k d h = absurd (omega arith)
sequence_step ts (i ∷ is) env zero d h = refl
sequence_step ts (i ∷ is) env (suc k) d h =
    let e : suc k + 1 ≡ suc (k + 1) = omega arith in
    sequence_step ts is env k d (omega arith)
    ∙ ap (λ (j : ℕ). whole (print (tree_at ts (get_or is k d)) env) ++ sequence env (items_of (trees_at ts (drop j (i ∷ is))))) (sym e)

pub sequence_end : (ts : List Tree) (is : List ℕ) (env : Env) (k : ℕ) → length is ≤ k → sequence env (items_of (trees_at ts (drop k is))) ≡ []
unfolding print sequence
sequence_end ts [] env zero h = refl
sequence_end ts [] env (suc k) h = refl
sequence_end ts (i ∷ is) env zero h = absurd (omega arith)
sequence_end ts (i ∷ is) env (suc k) h = sequence_end ts is env k (omega arith)

pub separated_step : (f : Printed → List ℕ) (ts : List Tree) (is : List ℕ) (env : Env) (first : Bool) (k d : ℕ) → k < length is →
    separated f first env (items_of (trees_at ts (drop k is))) ≡ (separator first ++ f (print (tree_at ts (get_or is k d)) env)) ++ separated f false env (items_of (trees_at ts (drop (k + 1) is)))
unfolding print separated
separated_step f ts [] env first k d h = absurd (omega arith)
separated_step f ts (i ∷ is) env first zero d h = refl
separated_step f ts (i ∷ is) env first (suc k) d h =
    let e : suc k + 1 ≡ suc (k + 1) = omega arith in
    separated_step f ts is env first k d (omega arith)
    ∙ ap (λ (j : ℕ). (separator first ++ f (print (tree_at ts (get_or is k d)) env)) ++ separated f false env (items_of (trees_at ts (drop j (i ∷ is))))) (sym e)

pub separated_end : (f : Printed → List ℕ) (ts : List Tree) (is : List ℕ) (env : Env) (first : Bool) (k : ℕ) → length is ≤ k → separated f first env (items_of (trees_at ts (drop k is))) ≡ []
unfolding print separated
separated_end f ts [] env first zero h = refl
separated_end f ts [] env first (suc k) h = refl
separated_end f ts (i ∷ is) env first zero h = absurd (omega arith)
separated_end f ts (i ∷ is) env first (suc k) h = separated_end f ts is env first k (omega arith)

pub repeated_step : (n k : ℕ) (env : Env) (x : Item) → k < n → repeated (n - k) k env x ≡ (separator (nat_eq k 0) ++ whole (x.printed (at env k))) ++ repeated (n - (k + 1)) (k + 1) env x
unfolding repeated
repeated_step n k env x h =
    let e : n - k ≡ suc (n - (k + 1)) = omega arith in ap (λ (m : ℕ). repeated m k env x) e

pub repeated_end : (n k : ℕ) (env : Env) (x : Item) → n ≤ k → repeated (n - k) k env x ≡ []
unfolding repeated
repeated_end n k env x h =
    let e : n - k ≡ 0 = omega arith in ap (λ (m : ℕ). repeated m k env x) e

pub parts_step : (h : Held) (ts : List Tree) (ps : List Part) (env : Env) (k : ℕ) (d : Part) → k < length ps →
    (print_parts (parts_of h ts (drop k ps)) env).text ≡ text_of_part h ts env (get_or ps k d) ++ (print_parts (parts_of h ts (drop (k + 1) ps)) env).text
unfolding print text_of_part
parts_step h ts [] env k d b = absurd (omega arith)
parts_step h ts (part.Text x y ∷ ps) env zero d b = refl
parts_step h ts (part.Tree manner t ∷ ps) env zero d b = refl
parts_step h ts (part.Trees listing l ∷ ps) env zero d b = refl
parts_step h ts (p ∷ ps) env (suc k) d b =
    let e : suc k + 1 ≡ suc (k + 1) = omega arith in
    parts_step h ts ps env k d (omega arith)
    ∙ ap (λ (j : ℕ). text_of_part h ts env (get_or ps k d) ++ (print_parts (parts_of h ts (drop j (p ∷ ps))) env).text) (sym e)
