-- The front of a vector that is longer than its text, when bytes are put into it.
use Rattle.std.proofs.Common.{◌≡◌, ℕ, ◌+◌, ◌-◌, ◌≤◌, List, ◌++◌, length, take, drop, slice_range, sym, ap, ◌∙◌, arith, append_assoc}
use Rattle.std.proofs.lemmas.List.{length-append, length-take-le, length-drop, take_at, drop_at, take-take, drop-take, drop-drop, take-append-le, take-append-drop, drop-append-le}
use Rattle.std.specs.List.{copy_within}
use Rattle.growing_text.proofs.Parts.{part-take}

module _ {X : Type 0} (ys : List X) (len from to at : ℕ) (ordered : from ≤ to) (within : to ≤ len) (fits : len ≤ length ys) where
  abbrev block : List X
  block = take (to - from) (drop from ys)

  length-block : length block ≡ to - from
  length-block = length-take-le (to - from) (drop from ys) (omega (arith, length-drop from ys))

  -- a block that was copied to a place, with what stands before it
  front-copied : at + (to - from) ≤ length ys → take (at + (to - from)) (copy_within ys from to at) ≡ take at ys ++ block
  front-copied capacity =
      let n = length-take-le at ys (omega arith) in
      let long : length (take at ys ++ block) ≡ at + (to - from) = omega (arith, length-append (take at ys) block, length-block) in
      take_at (take at ys ++ block) (drop (at + (to - from)) ys) (at + (to - from)) long

  -- a part of the front moved down
  pub front-kept : at ≤ from → take (at + (to - from)) (copy_within ys from to at) ≡ take at (take len ys) ++ slice_range (take len ys) from to
  front-kept before =
      let there : at + (to - from) ≤ length ys = omega arith in
      let same = part-take ys len from to ordered within in
      let low = take-take at len ys (omega arith) in
      front-copied there ∙ ap (λ (v : List X). v ++ block) (sym low) ∙ ap (λ (v : List X). take at (take len ys) ++ v) (sym same)

-- bytes at a place, when what lies after it was copied to where it goes
module _ {X : Type 0} (ys bs : List X) (len at n k : ℕ) (within : at ≤ len) (long : length bs ≡ n) (capacity : len + n ≤ length ys) where
  abbrev rest : List X
  rest = take (len - at) (drop at ys)

  abbrev zs : List X
  zs = copy_within ys at len (at + n)

  zs-is : zs ≡ take (at + n) ys ++ (rest ++ drop (at + n + (len - at)) ys)
  zs-is = append_assoc (take (at + n) ys) rest (drop (at + n + (len - at)) ys)

  front-before : take at zs ≡ take at ys
  front-before =
      let m = length-take-le (at + n) ys (omega arith) in
      ap (take at) zs-is ∙ take-append-le at (take (at + n) ys) (rest ++ drop (at + n + (len - at)) ys) (omega arith) ∙ take-take at (at + n) ys (omega arith)

  front-after : k ≡ n → drop k (drop at zs) ≡ rest ++ drop (at + n + (len - at)) ys
  front-after e =
      let m = length-take-le (at + n) ys (omega arith) in
      drop-drop k at zs ∙ ap (drop (at + k)) zs-is ∙ drop_at (take (at + n) ys) (rest ++ drop (at + n + (len - at)) ys) (at + k) (omega arith)

  pub front-inserted : k ≡ n → take (len + n) (take at zs ++ (bs ++ drop k (drop at zs))) ≡ take at (take len ys) ++ (bs ++ drop at (take len ys))
  front-inserted e =
      let more = drop (at + n + (len - at)) ys in
      let a = length-take-le at ys (omega arith) in
      let b = length-take-le (len - at) (drop at ys) (omega (arith, length-drop at ys)) in
      let c = length-append (take at ys) (bs ++ rest) in
      let d = length-append bs rest in
      let front : length (take at ys ++ (bs ++ rest)) ≡ len + n = omega arith in
      let whole : take at ys ++ (bs ++ (rest ++ more)) ≡ (take at ys ++ (bs ++ rest)) ++ more =
      ap (λ (v : List X). take at ys ++ v) (sym (append_assoc bs rest more)) ∙ sym (append_assoc (take at ys) (bs ++ rest) more) in
      let low = take-take at len ys within in
      let split : len ≡ at + (len - at) = omega arith in
      let high : drop at (take len ys) ≡ rest = ap (λ (i : ℕ). drop at (take i ys)) split ∙ drop-take at (len - at) ys in
      ap (λ (v : List X). take (len + n) (v ++ (bs ++ drop k (drop at zs)))) front-before
      ∙ ap (λ (v : List X). take (len + n) (take at ys ++ (bs ++ v))) (front-after e)
      ∙ ap (take (len + n)) whole ∙ take_at (take at ys ++ (bs ++ rest)) more (len + n) front
      ∙ ap (λ (v : List X). v ++ (bs ++ rest)) (sym low)
      ∙ ap (λ (v : List X). take at (take len ys) ++ (bs ++ v)) (sym high)

-- bytes over those that stand at a place
pub front-put : {X : Type 0} (ys bs : List X) (len at n : ℕ) → length bs ≡ n → at + n ≤ len → len ≤ length ys
    → take len (take at ys ++ (bs ++ drop n (drop at ys))) ≡ take at (take len ys) ++ (bs ++ drop (at + n) (take len ys))
front-put ys bs len at n long within fits =
    let l = take len ys in
    let r = drop len ys in
    let k : length l ≡ len = length-take-le len ys fits in
    let a = length-take-le at l (omega arith) in
    let b = length-drop (at + n) l in
    let low : take at ys ≡ take at l = sym (take-take at len ys (omega arith)) in
    let high : drop n (drop at ys) ≡ drop (at + n) l ++ r =
    drop-drop n at ys ∙ ap (drop (at + n)) (sym (take-append-drop len ys)) ∙ drop-append-le (at + n) l r (omega arith) in
    let whole : take at l ++ (bs ++ (drop (at + n) l ++ r)) ≡ (take at l ++ (bs ++ drop (at + n) l)) ++ r =
    ap (λ v. take at l ++ v) (sym (append_assoc bs (drop (at + n) l) r)) ∙ sym (append_assoc (take at l) (bs ++ drop (at + n) l) r) in
    let front : length (take at l ++ (bs ++ drop (at + n) l)) ≡ len = omega (arith, length-append (take at l) (bs ++ drop (at + n) l), length-append bs (drop (at + n) l)) in
    ap (λ v. take len (v ++ (bs ++ drop n (drop at ys)))) low ∙ ap (λ v. take len (take at l ++ (bs ++ v))) high
    ∙ ap (take len) whole ∙ take_at (take at l ++ (bs ++ drop (at + n) l)) r len front
