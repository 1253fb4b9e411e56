-- Identifiers after a length of one digit or two.
use Rattle.std.proofs.Common.{◌≡◌, ◌<◌, ℕ, ◌+◌, ◌*◌, List, [], ◌∷◌, length, drop, true, arith, ap, None, ◌∙◌}
use Rattle.std.proofs.lemmas.Grind.{common_steps}
use Rattle.abi_scalars.specs.declared.numerals.Radix.TheVariants.{Decimal}
use Rattle.abi_scalars.specs.Scalars.{front_digits, weighted, number, source_name}
use Rattle.abi_scalars.specs.Texts.{identifier, front, begins_source}
use Rattle.std.proofs.lemmas.List.{drop-drop}

-- the digits in front write the length
pub read : (bytes ds : List ℕ) (n : ℕ) → begins_source bytes ≡ true → front_digits Decimal bytes ≡ ds → weighted 10 ds ≡ n → 0 < length ds → n < 100 → 0 < n → identifier bytes ≡ front n (drop (length ds) bytes)
unfolding identifier source_name number
read bytes ds n b e w s m p = rw (b, e, w) (grind (arith, common_steps))

pub first : (bytes : List ℕ) (d : ℕ) (rest : List ℕ) → begins_source bytes ≡ true → front_digits Decimal bytes ≡ d ∷ rest → 0 < d
unfolding front_digits
first bytes d rest b e = grind (arith, common_steps)

pub none : (bytes : List ℕ) → begins_source bytes ≡ true → front_digits Decimal bytes ≡ [] → identifier bytes ≡ None
unfolding front_digits identifier
none bytes b e = grind (arith, common_steps)

pub after_one : (bytes rest : List ℕ) (d : ℕ) → begins_source bytes ≡ true → d < 10 → front_digits Decimal bytes ≡ d ∷ front_digits Decimal rest → rest ≡ drop 1 bytes → front_digits Decimal rest ≡ []
    → identifier bytes ≡ front d rest
unfolding weighted
after_one bytes rest d b s e r n =
    let is : front_digits Decimal bytes ≡ d ∷ [] = e ∙ ap (λ (ds : List ℕ). d ∷ ds) n in
    rw r (read bytes (d ∷ []) d b is (omega arith) (omega arith) (omega (arith, s)) (first bytes d [] b is))

pub after_two : (bytes rest after : List ℕ) (d f : ℕ) → begins_source bytes ≡ true → d < 10 → f < 10 → front_digits Decimal bytes ≡ d ∷ front_digits Decimal rest → rest ≡ drop 1 bytes
    → front_digits Decimal rest ≡ f ∷ front_digits Decimal after → after ≡ drop 1 rest → front_digits Decimal after ≡ [] → identifier bytes ≡ front (d * 10 + f) after
unfolding weighted
after_two bytes rest after d f b s t e r g q n =
    let is : front_digits Decimal bytes ≡ d ∷ f ∷ [] = e ∙ ap (λ (ds : List ℕ). d ∷ ds) (g ∙ ap (λ (ds : List ℕ). f ∷ ds) n) in
    let some : 0 < d = first bytes d (f ∷ []) b is in
    let end : after ≡ drop 2 bytes = q ∙ ap (drop 1) r ∙ drop-drop 1 1 bytes in
    rw end (read bytes (d ∷ f ∷ []) (d * 10 + f) b is (omega arith) (omega arith) (omega (arith, s, t)) (omega (arith, some)))

pub ruleset identifiers = (first, none, after_one, after_two)
