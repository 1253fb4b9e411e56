-- One insertion after another.
use Rattle.std.proofs.Common.{◌≡◌, ℕ, ◌+◌, ◌-◌, ◌<◌, ◌≤◌, List, [], ◌++◌, length, ap, ◌∙◌, refl, arith, append_assoc, Bool, None, Some}
use Rattle.std.proofs.lemmas.Bool.Decides.{nat_tests}
use Rattle.std.proofs.lemmas.List.{length-append}
use Rattle.demangle_text.specs.declared.pieces.Kind.TheVariants.{Array, Function}
use Rattle.demangle_text.specs.declared.pieces.Place.{Place}
use Rattle.demangle_text.specs.declared.pieces.Place.TheVariants.{Start, Close, Suffix, End}
use Rattle.demangle_text.specs.Shape.{Shape, Form, Plain, Declared, form_text, form_with, moved, grouped, appended, inserted, flattened, flagged, with_own, text, text_len}
use Rattle.demangle_text.specs.Calls.{joined, CanInsert}

-- the base name, when bytes are inserted at a place and then more of them after these
moved_twice : (at next n m all : ℕ) (own : ℕ × ℕ) → next ≡ at + n → all ≡ n + m → moved next m (moved at n own) ≡ moved at all own
moved_twice at next n m all (from, to) follows both = grind (arith, nat_tests)

-- a range of a text, when n bytes are put after the text: it moves on only from the end
pub moved_from_end : (len n k : ℕ) (own : ℕ × ℕ) → len ≤ own.0 → k ≡ n → (own.0 + k, own.1 + k) ≡ moved len n own
moved_from_end len n k (from, to) ends by = grind (arith, nat_tests)

pub moved_inside : (len n k : ℕ) (own : ℕ × ℕ) → own.0 < len → own.1 ≤ len → k ≡ 0 → (own.0 + k, own.1 + k) ≡ moved len n own
moved_inside len n k (from, to) begins within by = grind (arith, nat_tests)

module _ (a b : List ℕ) (own : ℕ × ℕ) (templ ctor : Bool) where
  abbrev of : Form → Shape
  of f = record { form = f; own = own; templ = templ; ctor = ctor }

  -- two insertions at a place, by the parts of the shape
  twice : (place : Place) (f : Form) → (place ≡ Start → ⊥) → CanInsert place f → inserted place b (inserted place a (of f)) ≡ inserted place (a ++ b) (of f)
  twice Start f follows fits = absurd (follows refl)
  twice End (Plain t) follows fits =
      λ j. record { form = Plain (append_assoc t a b j); own = moved_twice _ _ _ _ _ own (length-append t a) (length-append a b) j; templ = templ; ctor = ctor }
  twice End (Declared Array before group after) follows fits =
      let next : length (before ++ (grouped group ++ (after ++ a))) ≡ length (before ++ (grouped group ++ after)) + length a = omega (arith, length-append {A = ℕ}) in
      λ j. record { form = Declared Array before group (append_assoc after a b j); own = moved_twice _ _ _ _ _ own next (length-append a b) j; templ = templ; ctor = ctor }
  twice End (Declared Function before group after) follows fits =
      λ j. record { form = Declared Function before group (append_assoc after a b j); own = (0, length (before ++ (grouped group ++ append_assoc after a b j))); templ = templ; ctor = ctor }
  twice Close (Plain t) follows fits = absurd fits
  twice Close (Declared k before None after) follows fits = absurd fits
  twice Close (Declared Array before (Some group) after) follows fits =
      let next : length before + 1 + length (group ++ a) ≡ length before + 1 + length group + length a = omega (arith, length-append {A = ℕ}) in
      λ j. record { form = Declared Array before (Some (append_assoc group a b j)) after; own = moved_twice _ _ _ _ _ own next (length-append a b) j; templ = templ; ctor = ctor }
  twice Close (Declared Function before (Some group) after) follows fits =
      λ j. record {
        form = Declared Function before (Some (append_assoc group a b j)) after;
        own = (0, length (before ++ (grouped (Some (append_assoc group a b j)) ++ after)));
        templ = templ;
        ctor = ctor;
      }
  twice Suffix (Plain t) follows fits = absurd fits
  twice Suffix (Declared k before (Some group) after) follows fits = absurd fits
  twice Suffix (Declared Array before None after) follows fits =
      λ j. record { form = Declared Array (append_assoc before a b j) None after; own = moved_twice _ _ _ _ _ own (length-append before a) (length-append a b) j; templ = templ; ctor = ctor }
  twice Suffix (Declared Function before None after) follows fits =
      λ j. record { form = Declared Function (append_assoc before a b j) None after; own = (0, length (append_assoc before a b j ++ ([] ++ after))); templ = templ; ctor = ctor }

-- bytes and then more bytes at a place are both of them there
pub inserted_twice : (place : Place) (a b : List ℕ) (s : Shape) → (place ≡ Start → ⊥) → CanInsert place s.form → inserted place b (inserted place a s) ≡ inserted place (a ++ b) s
inserted_twice place a b s follows fits = twice a b s.own s.templ s.ctor place s.form follows fits

-- where bytes were inserted, more can be
pub can_again : (place : Place) (bytes : List ℕ) (f : Form) → CanInsert place f → CanInsert place (form_with place bytes f)
can_again Start bytes f fits = tt
can_again End bytes f fits = tt
can_again Close bytes (Plain t) fits = fits
can_again Close bytes (Declared k before None after) fits = fits
can_again Close bytes (Declared k before (Some group) after) fits = tt
can_again Suffix bytes (Plain t) fits = fits
can_again Suffix bytes (Declared k before None after) fits = tt
can_again Suffix bytes (Declared k before (Some group) after) fits = fits

-- the same of three
pub inserted_thrice : (place : Place) (a b c : List ℕ) (s : Shape) → (place ≡ Start → ⊥) → CanInsert place s.form
    → inserted place c (inserted place b (inserted place a s)) ≡ inserted place (a ++ (b ++ c)) s
inserted_thrice place a b c s follows fits =
    inserted_twice place b c (inserted place a s) follows (can_again place a s.form fits) ∙ inserted_twice place a (b ++ c) s follows fits

pub ruleset insertions = (inserted_twice, inserted_thrice, can_again)

-- a text after a plain text, whose base name and flags stay
pub piece_after : (first second whole named : Shape) (between : List ℕ) (before len : ℕ) (old own : ℕ × ℕ) (templ ctor : Bool)
    → whole ≡ joined first between second → before ≡ text_len first → len ≡ text_len whole → old ≡ first.own
    → own ≡ moved before (len - before) old → templ ≡ first.templ → ctor ≡ first.ctor → named ≡ with_own own.0 own.1 whole
    → flagged templ ctor named ≡ appended (between ++ text second) (flattened first)
piece_after first second whole named between before len old own templ ctor by_whole by_before by_len by_old by_own by_templ by_ctor by_named =
    let added = between ++ text second in
    let form_is : whole.form ≡ Plain (text first ++ added) =
    ap (λ (s : Shape). s.form) by_whole ∙ ap Plain (append_assoc (text first) between (text second)) in
    let whole_len : text_len whole ≡ text_len first + length added =
    ap (λ (f : Form). length (form_text f)) form_is ∙ length-append (text first) added in
    let added_is : len - before ≡ length added = omega arith in
    let own_is : own ≡ moved (text_len first) (length added) first.own =
    by_own ∙ ap (λ (k : ℕ). moved k (len - before) old) by_before ∙ ap (λ (k : ℕ). moved (text_len first) k old) added_is
    ∙ ap (moved (text_len first) (length added)) by_old in
    ap (flagged templ ctor) by_named ∙ (λ j. record { form = form_is j; own = own_is j; templ = by_templ j; ctor = by_ctor j })
