-- Digits that are written from the last on.
use Rattle.std.proofs.Common.{◌≡◌, ◌<◌, ◌≤◌, ℕ, ◌+◌, ◌-◌, ◌/◌, ◌%◌, ◌^◌, List, [], ◌∷◌, ◌++◌, length, drop, slice_set, sym, ap, ◌∙◌, arith}
use Rattle.std.specs.Fmt.{decimal}
use Rattle.std.proofs.lemmas.Fmt.{decimal_by_steps_wide, decimal_step_wide, decimal_digit, length-decimal-le_wide}
use Rattle.std.proofs.lemmas.List.{drop-set, drop_all, append_assoc, append-nil, length-append}

pub most_digits : (n : ℕ) → n < 2 ^ 128 → length (decimal n) ≤ 39
most_digits n fits = length-decimal-le_wide 39 n (omega arith) (omega arith) (omega arith)

pub none_written : (n : ℕ) (spare : List ℕ) → decimal n ≡ decimal n ++ drop (length spare) spare
none_written n spare =
    sym (append-nil (decimal n))
    ∙ ap (λ (v : List ℕ). decimal n ++ v) (sym (drop_all (length spare) spare (omega arith)))

nonempty : (n : ℕ) → n < 10 ^ 64 → 0 < length (decimal n)
nonempty n fits = decimal_by_steps_wide (λ _ ds. 0 < length ds) (λ _ _. omega arith)
    (λ n ds _ _. omega (arith, length-append ds ((48 + n % 10) ∷ []))) n fits

pub some_digit : (n at : ℕ) → n < 10 ^ 64 → length (decimal n) ≤ at → 1 ≤ at
some_digit n at fits h = omega (arith, nonempty n fits)

pub one_written : (number n at : ℕ) (spare : List ℕ) → 10 ≤ n → n < 10 ^ 64 → 1 ≤ at
    → at ≤ length spare → decimal number ≡ decimal n ++ drop at spare
    → decimal number ≡ decimal (n / 10) ++ drop (at - 1) (slice_set spare (at - 1) (48 + n % 10))
one_written number n at spare ten fits some within so_far =
    let digit = 48 + n % 10 in
    let next : at - 1 + 1 ≡ at = omega arith in
    so_far ∙ ap (λ (v : List ℕ). v ++ drop at spare) (decimal_step_wide n ten fits)
    ∙ append_assoc (decimal (n / 10)) (digit ∷ []) (drop at spare)
    ∙ ap (λ (v : List ℕ). decimal (n / 10) ++ v)
    (sym (drop-set spare (at - 1) digit (omega arith) ∙ ap (λ k. digit ∷ drop k spare) next))

pub one_fewer : (n at : ℕ) → 10 ≤ n → n < 10 ^ 64 → length (decimal n) ≤ at
    → length (decimal (n / 10)) ≤ at - 1
one_fewer n at ten fits h =
    let longer : length (decimal n) ≡ length (decimal (n / 10)) + 1 =
    ap length (decimal_step_wide n ten fits) ∙ length-append (decimal (n / 10)) ((48 + n % 10) ∷ []) in
    omega (arith, longer)

pub all_written : (number n at : ℕ) (spare : List ℕ) → n < 10 → 1 ≤ at → at ≤ length spare
    → decimal number ≡ decimal n ++ drop at spare
    → drop (at - 1) (slice_set spare (at - 1) (48 + n)) ≡ decimal number
all_written number n at spare small some within so_far =
    let next : at - 1 + 1 ≡ at = omega arith in
    drop-set spare (at - 1) (48 + n) (omega arith) ∙ ap (λ k. (48 + n) ∷ drop k spare) next
    ∙ sym (so_far ∙ ap (λ (v : List ℕ). v ++ drop at spare) (decimal_digit n small))
