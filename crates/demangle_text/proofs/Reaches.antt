-- Bytes by which the first pieces of a list end.
use Rattle.std.proofs.Common.{◌≡◌, ℕ, ◌+◌, ◌-◌, ◌<◌, ◌≤◌, arith, List, ◌++◌, length, map, take, drop, set, get_or, sym, ap, ◌∙◌, subst, inl, inr}
use Rattle.std.specs.List.{AllWithin, HoldsAt}
use Rattle.std.proofs.lemmas.List.{get_or-take, get_or-drop, get_or-append_right, get_or-set_same, get_or-set_other, length-set, length-map, length-take, length-take-le, take-append-drop}
use Rattle.std.proofs.lemmas.Bool.{cases_eq, cases_lt}
use Rattle.std.proofs.lemmas.List.Elements.{AllWithin-more_set}
use Rattle.demangle_text.specs.declared.pieces.Piece.{Piece}
use Rattle.demangle_text.specs.Pieces.{EndsBy, IsApart, AreReached, carried}
use Rattle.demangle_text.proofs.Bounds.{carried-below}

within-length : {X : Type 0} (n : ℕ) (xs : List X) (k : ℕ) → k < length (take n xs) → k < n
within-length n xs k lt = omega (arith, lt, length-take n xs)

pub within-ends : (xs : List Piece) (a b n : ℕ) → a ≤ b → AllWithin (EndsBy a) xs 0 n → AllWithin (EndsBy b) xs 0 n
within-ends xs a b n le h k d low lt home = omega (arith, h k d low lt home, le)

-- what ends by the byte isn't reached by a move of what lies after it
pub within-apart : (xs : List Piece) (low from to n : ℕ) → AllWithin (EndsBy low) xs 0 n → AllWithin (IsApart low from to) xs 0 n
within-apart xs low from to n h k d a b home above = absurd (omega (arith, h k d a b home, above))

pub reached-fewer : (ps : List Piece) (rs : List ℕ) (c n : ℕ) → n ≤ c → AreReached ps rs c → AreReached ps rs n
reached-fewer ps rs c n le h = record {
  within = omega (arith, le, h.within);
  capacity = h.capacity;
  ends = λ i lt. h.ends i (omega (arith, lt, le));
}

-- what holds of the pieces before an index where another piece is put
within-set_kept : (P : Piece → Type 0) (ps : List Piece) (i n : ℕ) (p : Piece) → n ≤ i → AllWithin P ps 0 n → AllWithin P (set ps i p) 0 n
within-set_kept P ps i n p le h k d a b = subst P (sym (get_or-set_other ps i k p d (λ e. absurd (omega (arith, e, b, le))))) (h k d a b)

-- a piece after the first ones, with a byte by which it and all before it end
pub reached-set_kept : (ps : List Piece) (rs : List ℕ) (i : ℕ) (p : Piece) (end : ℕ) → AreReached ps rs i
    → i < length rs → AllWithin (EndsBy end) ps 0 i → EndsBy end p → AreReached (set ps i p) (set rs i end) (i + 1)
reached-set_kept ps rs i p end h capacity all last = record {
  within = omega (arith, capacity, length-set rs i end);
  capacity = omega (arith, h.capacity, length-set rs i end, length-set ps i p);
  ends = λ j lt. elim (cases_lt j i) [
    | inl below ↦
        subst (λ m. AllWithin (EndsBy m) (set ps i p) 0 (j + 1)) (sym (get_or-set_other rs i j end 0 (λ e. absurd (omega (arith, e, below)))))
        (within-set_kept (EndsBy (get_or rs j 0)) ps i (j + 1) p (omega (arith, below)) (h.ends j below))
    | inr above ↦
        let e : j ≡ i = omega (arith, lt, above) in
        let here = AllWithin-more_set ps i p (omega (arith, capacity, h.capacity)) (EndsBy end) all last in
        let is : get_or (set rs i end) j 0 ≡ end = ap (λ n. get_or (set rs i end) n 0) e ∙ get_or-set_same rs i end 0 capacity in
        subst (λ m. AllWithin (EndsBy m) (set ps i p) 0 (j + 1)) (sym is) (subst (λ n. AllWithin (EndsBy end) (set ps i p) 0 (n + 1)) (sym e) here)
  ];
}

-- lists that begin with the first pieces and their bytes
pub reached-front : (ps qs : List Piece) (rs ts : List ℕ) (n : ℕ) → take n qs ≡ take n ps → take n ts ≡ take n rs → n ≤ length ts → length ts ≤ length qs
    → AreReached ps rs n → AreReached qs ts n
reached-front ps qs rs ts n pieces reaches within capacity h = record {
  within = within;
  capacity = capacity;
  ends = λ i lt k d a b.
      let there : k < n = omega (arith, b, lt) in
      let piece = sym (get_or-take n ps k d there) ∙ ap (λ v. get_or v k d) (sym pieces) ∙ get_or-take n qs k d there in
      let reach = sym (get_or-take n rs i 0 lt) ∙ ap (λ v. get_or v i 0) (sym reaches) ∙ get_or-take n ts i 0 lt in
      subst (EndsBy (get_or ts i 0)) piece (subst (λ m. EndsBy m (get_or ps k d)) reach (h.ends i lt k d a b));
}

-- a piece in the place of one, that ends by each byte by which that one ends
pub reached-set : (ps : List Piece) (rs : List ℕ) (c i : ℕ) (p : Piece) → AreReached ps rs c → i < length ps → ((end : ℕ) → HoldsAt (EndsBy end) ps i → EndsBy end p) → AreReached (set ps i p) rs c
reached-set ps rs c i p h there ends = record {
  within = h.within;
  capacity = omega (arith, h.capacity, length-set ps i p);
  ends = λ j lt k d a b. elim (cases_eq k i) [
    | inl e ↦
        let is : get_or (set ps i p) k d ≡ p = ap (λ n. get_or (set ps i p) n d) e ∙ get_or-set_same ps i p d there in
        subst (EndsBy (get_or rs j 0)) (sym is) (ends (get_or rs j 0) (λ o. subst (λ n. EndsBy (get_or rs j 0) (get_or ps n o)) e (h.ends j lt k o a b)))
    | inr n ↦ subst (EndsBy (get_or rs j 0)) (sym (get_or-set_other ps i k p d n)) (h.ends j lt k d a b)
  ];
}

-- where a list is written over up to an index, the element there is the old one
pub over_at : (f : Piece → Piece) (xs ys : List Piece) (i : ℕ) (d : Piece) → i < length xs → ys ≡ map f (take i xs) ++ drop i xs → get_or ys i d ≡ get_or xs i d
over_at f xs ys i d lt e =
    let long : length (map f (take i xs)) ≡ i = length-map (take i xs) f ∙ length-take-le i xs (omega (arith, lt)) in
    ap (λ v. get_or v i d) e ∙ get_or-append_right (map f (take i xs)) (drop i xs) i i d long (omega arith) ∙ get_or-drop i xs (i - i) d ∙ ap (λ n. get_or xs n d) (omega arith)

-- the first pieces stay, since they end by the byte
pub over_start : (low from dest : ℕ) (xs : List Piece) (n : ℕ) → AllWithin (EndsBy low) xs 0 n → xs ≡ map (carried low from dest) (take n xs) ++ drop n xs
over_start low from dest xs n h =
    sym (take-append-drop n xs) ∙ ap
    (λ v. v ++ drop n xs) (carried-below low from dest (take n xs)
    (λ k d lt. subst (EndsBy low) (sym (get_or-take n xs k d (within-length n xs k lt)))
    (h k d (omega arith) (within-length n xs k lt))))
