-- Parts of a text that grows.
use Rattle.std.proofs.Common.{◌≡◌, ℕ, ◌+◌, ◌-◌, ◌≤◌, List, ◌++◌, length, take, drop, slice_range, refl, arith}
use Rattle.std.proofs.lemmas.List.{drop-take, take-take, drop-append-le, take-append-le, length-drop}

-- a part of a list that goes on
pub part-append : {X : Type 0} (xs ys : List X) (a b : ℕ) → a ≤ b → b ≤ length xs → slice_range (xs ++ ys) a b ≡ slice_range xs a b
part-append xs ys a b ordered within =
    let le : a ≤ length xs = omega arith in
    let more : b - a ≤ length (drop a xs) = omega (arith, length-drop a xs) in
    rw (drop-append-le a xs ys le, take-append-le (b - a) (drop a xs) ys more) refl

-- a part of the front of a list
pub part-take : {X : Type 0} (xs : List X) (n a b : ℕ) → a ≤ b → b ≤ n → slice_range (take n xs) a b ≡ slice_range xs a b
part-take xs n a b ordered within =
    let m : n ≡ a + (n - a) = omega arith in
    let le : b - a ≤ n - a = omega arith in
    rw (m, drop-take a (n - a) xs, take-take (b - a) (n - a) (drop a xs) le) refl
