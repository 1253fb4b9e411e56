use Rattle.std.proofs.Common.{true, if◌then◌else◌, ℕ, ◌≡◌, Bool, List, [], ◌++◌, sym, ap, ◌∙◌, append_assoc, Result, Ok, Err, OnOk}
use Rattle.std.proofs.lemmas.List.{append-nil}
use Rattle.std.specs.declared.alloc.AllocError.{AllocError}
use Rattle.cxx_printer.specs.Prints.{Prints}

-- one text, and then another
pub prints_then : (r : Result (Unit {0}) AllocError) (a b c x y : List ℕ) → b ≡ a ++ x → Prints r b c y → Prints r a c (x ++ y)
prints_then (Ok u) a b c x y h k = k ∙ ap (λ (l : List ℕ). l ++ y) h ∙ append_assoc a x y
prints_then (Err e) a b c x y h k = tt

-- memory was refused
pub prints_refused : (e : AllocError) (a b : List ℕ) (x : List ℕ) → Prints (Err e) a b x
prints_refused e a b x = tt

-- nothing is appended
pub prints_nothing : (u : Unit {0}) (a x : List ℕ) → x ≡ [] → Prints (Ok u) a a x
prints_nothing u a x e = sym (append-nil a) ∙ ap (λ (l : List ℕ). a ++ l) (sym e)

-- a call that appends
pub prints_added : (r : Result (Unit {0}) AllocError) (a b x : List ℕ) → OnOk r (b ≡ a ++ x) → Prints r a b x
prints_added (Ok u) a b x h = h
prints_added (Err e) a b x h = tt

-- a call that appends if it can
pub prints_tried : (u : Unit {0}) (a b x : List ℕ) (done : Bool) → done ≡ true → b ≡ (if done then a ++ x else a) → Prints (Ok u) a b x
prints_tried u a b x done e h = h ∙ ap (λ (d : Bool). if d then a ++ x else a) e

pub ruleset prints = (prints_then, prints_refused, prints_nothing)
