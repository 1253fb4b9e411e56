-- Parts of a text that grows or is moved.
use Rattle.std.proofs.Common.{◌≡◌, ℕ, ◌+◌, ◌-◌, ◌≤◌, List, [], ◌∷◌, length, take, drop, slice_range, All, map, slice_get, IfSome, zero, suc, refl, sym, ap, ◌∙◌, arith}
use Rattle.std.proofs.lemmas.List.{drop-take, take-take, drop-drop, length-take-le, take-append-drop}
use Rattle.std.proofs.lemmas.List.Elements.{All-head, All-tail}
use Rattle.growing_text.proofs.Parts.{part-append}

-- a part of a part
pub part-part : (t : List ℕ) (from to a b : ℕ) → a ≤ b → from + b ≤ to → take (from + b - (from + a)) (drop (from + a) t) ≡ take (b - a) (drop a (take (to - from) (drop from t)))
part-part t from to a b ordered within =
    let m = to - from - a in
    let n : to - from ≡ a + m = omega arith in
    let k : from + b - (from + a) ≡ b - a = omega arith in
    let le : b - a ≤ m = omega arith in
    rw (n, drop-take a m (drop from t), take-take (b - a) m (drop a (drop from t)) le, drop-drop a from t, k) refl

-- a part that lies below a place by which two texts agree
pub part-below : (t u : List ℕ) (low a b : ℕ) → a ≤ b → b ≤ low → low ≤ length t → low ≤ length u → take low u ≡ take low t → slice_range u a b ≡ slice_range t a b
part-below t u low a b ordered within lt lu e =
    let n = length-take-le low t lt in
    let m = length-take-le low u lu in
    let one : slice_range u a b ≡ slice_range (take low u) a b =
    ap (λ (v : List ℕ). slice_range v a b) (sym (take-append-drop low u)) ∙ part-append (take low u) (drop low u) a b ordered (omega arith) in
    let two : slice_range t a b ≡ slice_range (take low t) a b =
    ap (λ (v : List ℕ). slice_range v a b) (sym (take-append-drop low t)) ∙ part-append (take low t) (drop low t) a b ordered (omega arith) in
    one ∙ ap (λ (v : List ℕ). slice_range v a b) e ∙ sym two

-- no byte before a place changes, nor one before an earlier place
pub front_below : (old new : List ℕ) (low from : ℕ) → low ≤ from → take from new ≡ take from old → take low new ≡ take low old
front_below old new low from below same = sym (take-take low from new below) ∙ ap (take low) same ∙ take-take low from old below

-- a block of a text lies elsewhere in another, which begins with the same bytes
pub record Moves (old new : List ℕ) (low from to dest : ℕ) : Type 0 where
  pub low_old : low ≤ length old
  pub low_new : low ≤ length new
  pub below : take low new ≡ take low old
  pub ordered : from ≤ to
  pub within_old : to ≤ length old
  pub within_new : dest + (to - from) ≤ length new
  pub block : slice_range new dest (dest + (to - from)) ≡ slice_range old from to

-- a part of the block
pub part-moved : (old new : List ℕ) (low from to dest a b : ℕ) → Moves old new low from to dest → a ≤ b → from ≤ a → b ≤ to
    → slice_range new (dest + (a - from)) (dest + (b - from)) ≡ slice_range old a b
part-moved old new low from to dest a b m ordered starts ends =
    let one = part-part new dest (dest + (to - from)) (a - from) (b - from) (omega arith) (omega arith) in
    let two = part-part old from to (a - from) (b - from) (omega arith) (omega arith) in
    let x : from + (a - from) ≡ a = omega arith in
    let y : from + (b - from) ≡ b = omega arith in
    one ∙ ap (λ (v : List ℕ). slice_range v (a - from) (b - from)) m.block ∙ sym two ∙ ap (λ (i : ℕ). take (from + (b - from) - i) (drop i old)) x ∙ ap (λ (j : ℕ). take (j - a) (drop a old)) y

-- functions that agree at each element
pub map_same : {X Y : Type 0} (P : X → Type 0) (f g : X → Y) → ((x : X) → P x → f x ≡ g x) → (xs : List X) → All P xs → map f xs ≡ map g xs
map_same P f g e [] h = refl
map_same P f g e (x ∷ xs) h = cc (e x (All-head P x xs h), map_same P f g e xs (All-tail P x xs h))

-- an element that is there has what all have
pub slice_get-All : {X : Type 0} (P : X → Type 0) (xs : List X) (i : ℕ) → All P xs → IfSome (slice_get xs i) P
slice_get-All P [] i h = tt
slice_get-All P (x ∷ xs) zero h = All-head P x xs h
slice_get-All P (x ∷ xs) (suc i) h = slice_get-All P xs i (All-tail P x xs h)
