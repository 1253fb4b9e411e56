-- What a symbol prints.
use Rattle.std.proofs.Common.{ℕ, zero, suc, ◌+◌, ◌<◌, ◌≤◌, Result, Ok, Err}
use Rattle.std.proofs.Common.{List, [], ◌∷◌, ◌++◌, codes, length, take, drop}
use Rattle.std.proofs.Common.{◌≡◌, refl, sym, ap, ◌∙◌, arith, append_assoc}
use Rattle.std.specs.declared.alloc.AllocError.{AllocError}
use Rattle.cxx_printer.specs.Prints.{Prints}
use Rattle.cxx_printer.proofs.Appended.{prints_then}
use Rattle.cxx_printer.specs.Symbol.{between, pieces_behind, pieces_text}

-- two texts, and then another
pub prints_three : (r : Result (Unit {0}) AllocError) (a b c d x y z : List ℕ) → b ≡ a ++ x → c ≡ b ++ y
    → Prints r c d z → Prints r a d (x ++ (y ++ z))
prints_three r a b c d x y z h k p = prints_then r a b d x (y ++ z) h (prints_then r b c d y z k p)

-- a byte, and what is left behind it
pub pieces_behind-step : (bs : List ℕ) (k : ℕ) → k < length bs
    → pieces_behind (drop k bs)
    ≡ (between (drop k bs) ++ take 1 (drop k bs)) ++ pieces_behind (drop (k + 1) bs)
unfolding pieces_behind
pieces_behind-step [] k h = absurd (omega arith)
pieces_behind-step (b ∷ bs) zero h = sym (append_assoc (between (b ∷ bs)) (b ∷ []) (pieces_behind bs))
pieces_behind-step (b ∷ bs) (suc k) h =
    let e : suc k + 1 ≡ suc (k + 1) = omega arith in
    pieces_behind-step bs k (omega arith)
    ∙ ap (λ (j : ℕ). (between (drop k bs) ++ take 1 (drop k bs)) ++ pieces_behind (drop j (b ∷ bs))) (sym e)

pub pieces_behind-end : (bs : List ℕ) (k : ℕ) → length bs ≤ k → pieces_behind (drop k bs) ≡ codes "]"
unfolding pieces_behind
pieces_behind-end [] zero h = refl
pieces_behind-end [] (suc k) h = refl
pieces_behind-end (b ∷ bs) zero h = absurd (omega arith)
pieces_behind-end (b ∷ bs) (suc k) h = pieces_behind-end bs k (omega arith)

pub pieces_text-some : (bs : List ℕ) → 1 ≤ length bs
    → codes " [clone " ++ (take 1 bs ++ pieces_behind (drop 1 bs)) ≡ pieces_text bs
unfolding pieces_text
pieces_text-some [] h = absurd (omega arith)
pieces_text-some (b ∷ bs) h = refl

-- what is appended so far, and what is left
pub so_far-end : (r : Result (Unit {0}) AllocError) (a b c all rest x : List ℕ) → a ++ all ≡ b ++ rest
    → rest ≡ x → Prints r b c x → Prints r a c all
so_far-end (Ok u) a b c all rest x h e k = k ∙ ap (λ (l : List ℕ). b ++ l) (sym e) ∙ sym h
so_far-end (Err e) a b c all rest x h f k = tt
