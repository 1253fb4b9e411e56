-- A text that is written by its first and its last lanes, which may overlap.
use Rattle.std.proofs.Common.{◌≡◌, ℕ, ◌+◌, ◌-◌, ◌≤◌, List, [], ◌++◌, length, take, drop, ap, ◌∙◌, arith}
use Rattle.std.proofs.lemmas.List.{length-take-le, length-drop, take_all, drop_all, take-append-le, take-take, take-append-drop, append-nil}
use Rattle.std.proofs.lemmas.Simd.{length-put_chunk, put_chunk_is}
use lib.Lanes.{put_chunk, chunk}

pub overlapping : (xs ys : List ℕ) (k : ℕ) → length xs ≡ length ys → k ≤ length ys → length ys ≤ k + k
    → put_chunk (length ys - k) (put_chunk 0 xs (chunk 0 k ys)) (chunk (length ys - k) k ys) ≡ ys
overlapping xs ys k same least most =
    let at = length ys - k in
    let head = take k ys in
    let one = put_chunk 0 xs head in
    let n : length head ≡ k = length-take-le k ys least in
    let tail : take k (drop at ys) ≡ drop at ys = take_all k (drop at ys) (omega (arith, length-drop at ys)) in
    let long : length (drop at ys) ≡ k = omega (arith, length-drop at ys) in
    let first : one ≡ head ++ drop (length head) xs = put_chunk_is 0 xs head (omega (arith, n)) in
    let low : take at one ≡ take at ys = ap (take at) first ∙ take-append-le at head (drop (length head) xs) (omega (arith, n)) ∙ take-take at k ys (omega arith) in
    let capacity = length-put_chunk 0 xs head in
    let none : drop (length (drop at ys)) (drop at one) ≡ [] = drop_all (length (drop at ys)) (drop at one) (omega (arith, length-drop at one, capacity, long)) in
    ap (put_chunk at one) tail ∙ put_chunk_is at one (drop at ys) (omega (arith, long, capacity))
    ∙ ap (λ (v : List ℕ). take at one ++ (drop at ys ++ v)) none ∙ ap (λ (v : List ℕ). take at one ++ v) (append-nil (drop at ys))
    ∙ ap (λ (v : List ℕ). v ++ drop at ys) low ∙ take-append-drop at ys
