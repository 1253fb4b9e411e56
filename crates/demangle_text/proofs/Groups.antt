-- What a new group makes of a declarator's text and its outline.
use Rattle.std.proofs.Common.{◌≡◌, ℕ, ◌+◌, ◌-◌, ◌≤◌, List, [], ◌∷◌, ◌++◌, length, take, drop, Option, Some, None, refl, sym, ap, ◌∙◌, arith, append_assoc}
use Rattle.std.proofs.lemmas.List.{length-append, take_at, drop_at, append-nil}
use Rattle.demangle_text.specs.declared.pieces.Kind.{Kind}
use Rattle.demangle_text.specs.declared.pieces.Kind.TheVariants.{Array, Function}
use Rattle.demangle_text.specs.declared.pieces.Place.TheVariants.{Suffix}
use Rattle.demangle_text.specs.Pieces.{Layout}
use Rattle.demangle_text.specs.Pieces.{Flat, Cut}
use Rattle.demangle_text.specs.Pieces.{Outline}
use Rattle.demangle_text.specs.Shape.{Form, Plain, Declared, form_text, grouped, gap_after, own_in, moved, opened_form, opened_own, opened_group}
use Rattle.demangle_text.specs.Calls.{front_text, IsDeclared}
use Rattle.demangle_text.specs.Pieces.{form_of, shape_of, IsOutlined, IsLayout, layout_end, layout_by, layout_with, place_at, layout_opened, own_at}
use Rattle.demangle_text.proofs.Forms.{layout_for, layout_for-form_of, text-form_of}
use Rattle.demangle_text.proofs.Inserts.{outline_for, shape_of-outline_for, IsOutlined-outline_for, moved_ordered, moved_within, length-inserted}

-- what is inserted in front of `after`
abbrev pub group_text : List ℕ → List ℕ → List ℕ
group_text bytes front = gap_after front ++ grouped (Some bytes)

-- where it is inserted
abbrev pub after_place : Form → ℕ
after_place f = length (front_text f)

-- the place by the layout
place_for_after : (f : Form) (n : ℕ) → IsDeclared f → place_at Suffix (layout_for f) n ≡ after_place f
place_for_after (Plain t) n h = elim h [ ]
place_for_after (Declared k b None a) n h = omega (arith, length-append b [])
place_for_after (Declared k b (Some g) a) n h = omega (arith, length-append b (40 ∷ g ++ 41 ∷ []), length-append g (41 ∷ []))

-- a declarator's text is all text up to `after`, and then `after`
rest_text : Form → List ℕ
rest_text (Plain t) = []
rest_text (Declared k b g a) = a

front-rest : (f : Form) → form_text f ≡ front_text f ++ rest_text f
unfolding rest_text
front-rest (Plain t) = sym (append-nil t)
front-rest (Declared k b g a) = sym (append_assoc b (grouped g) a)

front_is : (f : Form) → take (after_place f) (form_text f) ≡ front_text f
front_is f = rw (front-rest f) (take_at (front_text f) (rest_text f) (after_place f) refl)

rest_is : (f : Form) → drop (after_place f) (form_text f) ≡ rest_text f
rest_is f = rw (front-rest f) (drop_at (front_text f) (rest_text f) (after_place f) refl)

-- the text of the form with the group
text-opened : (bytes : List ℕ) (f : Form) → IsDeclared f → front_text f ++ (group_text bytes (front_text f) ++ rest_text f) ≡ form_text (opened_form bytes f)
unfolding rest_text
text-opened bytes (Plain t) h = elim h [ ]
text-opened bytes (Declared k b g a) h =
    let front = b ++ grouped g in
    ap (λ (u : List ℕ). front ++ u) (append_assoc (gap_after front) (grouped (Some bytes)) a)
    ∙ sym (append_assoc front (gap_after front) (grouped (Some bytes) ++ a))

-- how long the inserted bytes are
length-grouped : (bytes : List ℕ) → length (grouped (Some bytes)) ≡ length bytes + 2
length-grouped bytes = omega (arith, length-append bytes (41 ∷ []))

length-group_text : (bytes front : List ℕ) → length (group_text bytes front) ≡ length (gap_after front) + (length bytes + 2)
length-group_text bytes front = omega (arith, length-append (gap_after front) (grouped (Some bytes)), length-grouped bytes)

-- the layout of the form with the group
layout-opened : (bytes : List ℕ) (f : Form) → IsDeclared f → layout_opened (length (group_text bytes (front_text f))) (length bytes + 2) (layout_for f) ≡ layout_for (opened_form bytes f)
layout-opened bytes (Plain t) h = elim h [ ]
layout-opened bytes (Declared k b None a) h = by_place (length b) (omega (arith, length-append b []))
  where
    by_place : (at : ℕ) → at ≡ length (b ++ []) → layout_opened (length (group_text bytes (b ++ []))) (length bytes + 2) (Cut k None at) ≡ layout_for (opened_form bytes (Declared k b None a))
    by_place at e =
        let n = length-group_text bytes (b ++ []) in
        let m = length-append (b ++ []) (gap_after (b ++ [])) in
        let opens : at + length (group_text bytes (b ++ [])) - (length bytes + 2) ≡ length ((b ++ []) ++ gap_after (b ++ [])) = omega arith in
        let ends : at + length (group_text bytes (b ++ [])) ≡ length ((b ++ []) ++ gap_after (b ++ [])) + length bytes + 2 = omega arith in
        cc
layout-opened bytes (Declared k b (Some g) a) h = by_place (length b + length g + 2) (omega (arith, length-append b (40 ∷ g ++ 41 ∷ []), length-append g (41 ∷ [])))
  where
    by_place : (at : ℕ) → at ≡ length (b ++ grouped (Some g))
        → layout_opened (length (group_text bytes (b ++ grouped (Some g)))) (length bytes + 2)
        (Cut k (Some (length b)) at) ≡ layout_for (opened_form bytes (Declared k b (Some g) a))
    by_place at e =
        let front = b ++ grouped (Some g) in
        let n = length-group_text bytes (b ++ grouped (Some g)) in
        let m = length-append (b ++ grouped (Some g)) (gap_after (b ++ grouped (Some g))) in
        let opens : at + length (group_text bytes (b ++ grouped (Some g))) - (length bytes + 2) ≡ length ((b ++ grouped (Some g)) ++ gap_after (b ++ grouped (Some g))) = omega arith in
        let ends : at + length (group_text bytes (b ++ grouped (Some g))) ≡ length ((b ++ grouped (Some g)) ++ gap_after (b ++ grouped (Some g))) + length bytes + 2 = omega arith in
        cc

-- the base name
own-opened : (bytes : List ℕ) (f : Form) (own : ℕ × ℕ) → IsDeclared f → opened_own bytes f own ≡ moved (after_place f) (length (group_text bytes (front_text f))) own
own-opened bytes (Plain t) own h = elim h [ ]
own-opened bytes (Declared k b g a) own h = refl

own_at-opened : (bytes : List ℕ) (f : Form) (own : ℕ × ℕ) → own_at (layout_for f) (length (form_text (opened_form bytes f))) own ≡ own_in (opened_form bytes f) own
own_at-opened bytes (Plain t) own = refl
own_at-opened bytes (Declared Array b None a) own = refl
own_at-opened bytes (Declared Array b (Some g) a) own = refl
own_at-opened bytes (Declared Function b None a) own = refl
own_at-opened bytes (Declared Function b (Some g) a) own = refl

-- how far the parts reach
pub layout_end_within : (t : List ℕ) (l : Layout) → IsLayout t l → layout_end l ≤ length t
layout_end_within t Flat h = omega arith
layout_end_within t (Cut k None at) h = omega arith
layout_end_within t (Cut k (Some g) at) h = omega arith

-- what a new group makes of a text and its outline
pub record Groups (bytes t u : List ℕ) (m w : Outline) (at : ℕ) : Type 0 where
  pub place : at ≡ place_at Suffix m.layout (length t)
  pub text : u ≡ take at t ++ (group_text bytes (take at t) ++ drop at t)
  pub layout : w.layout ≡ layout_opened (length (group_text bytes (take at t))) (length bytes + 2) m.layout
  pub own : w.own ≡ own_at m.layout (length u) (moved at (length (group_text bytes (take at t))) m.own)
  pub templ : w.templ ≡ m.templ
  pub ctor : w.ctor ≡ m.ctor

-- the text and its outline are those of the form with the group
module _ (bytes t u : List ℕ) (m w : Outline) (at : ℕ) (h : IsOutlined t m) (can : IsDeclared (form_of t m.layout)) (i : Groups bytes t u m w at) where
  abbrev f : Form
  f = form_of t m.layout

  abbrev n : ℕ
  n = length (group_text bytes (front_text f))

  place_is : at ≡ after_place f
  place_is =
      let l = layout_for-form_of t m.layout h.layout in
      i.place ∙ ap (λ (k : Layout). place_at Suffix k (length t)) (sym l) ∙ place_for_after f (length t) can

  front : take at t ≡ front_text f
  front = ap (λ (k : ℕ). take k t) place_is ∙ ap (take (after_place f)) (sym (text-form_of t m.layout h.layout)) ∙ front_is f

  rest : drop at t ≡ rest_text f
  rest = ap (λ (k : ℕ). drop k t) place_is ∙ ap (drop (after_place f)) (sym (text-form_of t m.layout h.layout)) ∙ rest_is f

  text_is : u ≡ form_text (opened_form bytes f)
  text_is =
      i.text ∙ ap (λ (v : List ℕ). v ++ (group_text bytes v ++ drop at t)) front
      ∙ ap (λ (v : List ℕ). front_text f ++ (group_text bytes (front_text f) ++ v)) rest
      ∙ text-opened bytes f can

  outline_is : w ≡ outline_for (opened_form bytes f) (opened_own bytes f m.own) m.templ m.ctor
  outline_is =
      let l = layout_for-form_of t m.layout h.layout in
      let grows : length (group_text bytes (take at t)) ≡ n = ap (λ (v : List ℕ). length (group_text bytes v)) front in
      let by_layout : w.layout ≡ layout_for (opened_form bytes f) =
      i.layout ∙ ap (λ (k : ℕ). layout_opened k (length bytes + 2) m.layout) grows ∙ ap (layout_opened n (length bytes + 2)) (sym l) ∙ layout-opened bytes f can in
      let by_own : w.own ≡ own_in (opened_form bytes f) (opened_own bytes f m.own) =
      i.own ∙ ap (λ (k : ℕ). own_at m.layout (length u) (moved k (length (group_text bytes (take at t))) m.own)) place_is
      ∙ ap (λ (k : ℕ). own_at m.layout (length u) (moved (after_place f) k m.own)) grows
      ∙ ap (own_at m.layout (length u)) (sym (own-opened bytes f m.own can))
      ∙ ap (λ (k : Layout). own_at k (length u) (opened_own bytes f m.own)) (sym l)
      ∙ ap (λ (v : List ℕ). own_at (layout_for f) (length v) (opened_own bytes f m.own)) text_is
      ∙ own_at-opened bytes f (opened_own bytes f m.own) in
      λ j. record { layout = by_layout j; own = by_own j; templ = i.templ j; ctor = i.ctor j }

  pub shape-opened : shape_of u w ≡ opened_group bytes (shape_of t m)
  shape-opened = rw (text_is, outline_is) (shape_of-outline_for (opened_form bytes f) (opened_own bytes f m.own) m.templ m.ctor)

  pub IsOutlined-opened : IsOutlined u w
  IsOutlined-opened =
      let grows : length (group_text bytes (take at t)) ≡ n = ap (λ (v : List ℕ). length (group_text bytes v)) front in
      let long : length u ≡ length t + n = ap length i.text ∙ length-inserted t (group_text bytes (take at t)) at ∙ ap (λ (k : ℕ). length t + k) grows in
      let own = own-opened bytes f m.own can in
      let ordered : (opened_own bytes f m.own).0 ≤ (opened_own bytes f m.own).1 = rw own (moved_ordered (after_place f) n m.own h.own_ordered) in
      let inside = moved_within (after_place f) n (length t) m.own h.own_within in
      let within : (opened_own bytes f m.own).1 ≤ length (form_text (opened_form bytes f)) = rw own (omega (arith, long, ap length text_is, inside)) in
      rw (text_is, outline_is) (IsOutlined-outline_for (opened_form bytes f) (opened_own bytes f m.own) m.templ m.ctor ordered within)

-- what is inserted in front of `after` and ends in the new group
pub layout_grouped : (kind : Option Kind) (group : Option ℕ) (at n m : ℕ) (t : List ℕ) (l : Layout) → IsDeclared (form_of t l) → layout_by kind group at ≡ layout_with Suffix n l
    → (n ≤ at) × (layout_by kind (Some (at - m)) at ≡ layout_opened n m l)
layout_grouped kind group at n m t Flat declared is = absurd declared
layout_grouped None group at n m t (Cut k g a) declared is = let no : ⊥ = cc in absurd no
layout_grouped (Some k') group at n m t (Cut k g a) declared is =
    let same : k' ≡ k = cc in
    let ends : at ≡ a + n = cc in
    (omega arith, λ j. Cut (same j) (Some (ends j - m)) (ends j))
