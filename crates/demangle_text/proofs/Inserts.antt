-- The outline of a form's text, and what an insertion makes of them.
use Rattle.std.proofs.Common.{◌≡◌, ℕ, ◌+◌, ◌≤◌, Bool, true, false, if◌then◌else◌, List, ◌∷◌, ◌++◌, length, take, drop, Some, None, refl, sym, ap, ◌∙◌, arith, append_assoc, add_comm, leb}
use Rattle.std.proofs.lemmas.Bool.Decides.{nat_tests}
use Rattle.std.proofs.lemmas.List.{length-append, take_at, drop_at, append-nil, take_all, drop_all, take-append-drop}
use Rattle.demangle_text.specs.declared.pieces.Kind.TheVariants.{Array, Function}
use Rattle.demangle_text.specs.declared.pieces.Place.{Place}
use Rattle.demangle_text.specs.declared.pieces.Place.TheVariants.{Start, Close, Suffix, End}
use Rattle.demangle_text.specs.Pieces.{Layout}
use Rattle.demangle_text.specs.Pieces.{Cut}
use Rattle.demangle_text.specs.Pieces.{Outline}
use Rattle.demangle_text.specs.Shape.{Form, Plain, Declared, Shape, form_text, grouped, own_in, moved, form_with, place_in, inserted, appended}
use Rattle.demangle_text.specs.Calls.{CanInsert}
use Rattle.demangle_text.specs.Pieces.{form_of, shape_of, IsOwn, IsOutlined, place_at, layout_with, own_at}
use Rattle.demangle_text.proofs.Forms.{layout_for, form_of-layout_for, IsLayout-layout_for, layout_for-form_of, text-form_of, parts, closed_parts}

-- the outline of a form's text
abbrev pub outline_for : Form → ℕ × ℕ → Bool → Bool → Outline
outline_for f own templ ctor = record { layout = layout_for f; own = own_in f own; templ = templ; ctor = ctor }

abbrev pub shape_for : Form → ℕ × ℕ → Bool → Bool → Shape
shape_for f own templ ctor = record { form = f; own = own_in f own; templ = templ; ctor = ctor }

pub shape_of-outline_for : (f : Form) (own : ℕ × ℕ) (templ ctor : Bool) → shape_of (form_text f) (outline_for f own templ ctor) ≡ shape_for f own templ ctor
shape_of-outline_for f own templ ctor = ap (λ (g : Form). let s : Shape = record { form = g; own = own_in f own; templ = templ; ctor = ctor } in s) (form_of-layout_for f)

own_ordered : (f : Form) (own : ℕ × ℕ) → own.0 ≤ own.1 → (own_in f own).0 ≤ (own_in f own).1
own_ordered (Plain t) own h = h
own_ordered (Declared Array b g a) own h = h
own_ordered (Declared Function b g a) own h = omega arith

own_within : (f : Form) (own : ℕ × ℕ) → own.1 ≤ length (form_text f) → (own_in f own).1 ≤ length (form_text f)
own_within (Plain t) own h = h
own_within (Declared Array b g a) own h = h
own_within (Declared Function b g a) own h = omega arith

own_whole : (f : Form) (own : ℕ × ℕ) → IsOwn (form_text f) (layout_for f) (own_in f own)
own_whole (Plain t) own = tt
own_whole (Declared Array b None a) own = tt
own_whole (Declared Array b (Some g) a) own = tt
own_whole (Declared Function b None a) own = refl
own_whole (Declared Function b (Some g) a) own = refl

pub IsOutlined-outline_for : (f : Form) (own : ℕ × ℕ) (templ ctor : Bool) → own.0 ≤ own.1 → own.1 ≤ length (form_text f) → IsOutlined (form_text f) (outline_for f own templ ctor)
IsOutlined-outline_for f own templ ctor ordered within = record {
  layout = IsLayout-layout_for f;
  own_ordered = own_ordered f own ordered;
  own_within = own_within f own within;
  own_whole = own_whole f own;
}

-- a range stays a range
pub moved_ordered : (at n : ℕ) (own : ℕ × ℕ) → own.0 ≤ own.1 → (moved at n own).0 ≤ (moved at n own).1
moved_ordered at n own h =
    elim (leb at own.0) as
    (λ b. (if b then (own.0 + n, own.1 + n) else (if leb own.1 at then own else (own.0, own.1 + n))).0 ≤
    (if b then (own.0 + n, own.1 + n) else (if leb own.1 at then own else (own.0, own.1 + n))).1)
    [ true ↦ omega arith | false ↦ elim (leb own.1 at) as (λ b. (if b then own else (own.0, own.1 + n)).0 ≤ (if b then own else (own.0, own.1 + n)).1) [ true ↦ h | false ↦ omega arith ] ]

pub moved_within : (at n len : ℕ) (own : ℕ × ℕ) → own.1 ≤ len → (moved at n own).1 ≤ len + n
moved_within at n len own h =
    elim (leb at own.0) as (λ b. (if b then (own.0 + n, own.1 + n) else (if leb own.1 at then own else (own.0, own.1 + n))).1 ≤ len + n)
    [ true ↦ omega arith | false ↦ elim (leb own.1 at) as (λ b. (if b then own else (own.0, own.1 + n)).1 ≤ len + n) [ true ↦ omega arith | false ↦ omega arith ] ]

-- the place in the text, by the layout
place_for : (place : Place) (f : Form) → CanInsert place f → place_at place (layout_for f) (length (form_text f)) ≡ place_in place f
place_for Start f h = refl
place_for End f h = refl
place_for Close (Plain t) h = elim h [ ]
place_for Close (Declared k b None a) h = elim h [ ]
place_for Close (Declared k b (Some g) a) h = omega arith
place_for Suffix (Plain t) h = elim h [ ]
place_for Suffix (Declared k b None a) h = refl
place_for Suffix (Declared k b (Some g) a) h = elim h [ ]

-- the layout of the form with the bytes
layout_with-layout_for : (place : Place) (bytes : List ℕ) (f : Form) → CanInsert place f → layout_with place (length bytes) (layout_for f) ≡ layout_for (form_with place bytes f)
layout_with-layout_for Start bytes (Plain t) h = refl
layout_with-layout_for Start bytes (Declared k b None a) h = ap (λ (n : ℕ). Cut k None n) (add_comm (length b) (length bytes) ∙ sym (length-append bytes b))
layout_with-layout_for Start bytes (Declared k b (Some g) a) h =
    let n : length b + length bytes ≡ length (bytes ++ b) = omega (arith, length-append bytes b) in
    let m : length b + length g + 2 + length bytes ≡ length (bytes ++ b) + length g + 2 = omega arith in
    cc
layout_with-layout_for End bytes (Plain t) h = refl
layout_with-layout_for End bytes (Declared k b None a) h = refl
layout_with-layout_for End bytes (Declared k b (Some g) a) h = refl
layout_with-layout_for Close bytes (Plain t) h = elim h [ ]
layout_with-layout_for Close bytes (Declared k b None a) h = elim h [ ]
layout_with-layout_for Close bytes (Declared k b (Some g) a) h =
    let m : length b + length g + 2 + length bytes ≡ length b + length (g ++ bytes) + 2 = omega (arith, length-append g bytes) in
    cc
layout_with-layout_for Suffix bytes (Plain t) h = elim h [ ]
layout_with-layout_for Suffix bytes (Declared k b None a) h = ap (λ (n : ℕ). Cut k None n) (sym (length-append b bytes))
layout_with-layout_for Suffix bytes (Declared k b (Some g) a) h = elim h [ ]

-- bytes where a text is split
at_split : (p q bytes : List ℕ) (n : ℕ) → length p ≡ n → take n (p ++ q) ++ (bytes ++ drop n (p ++ q)) ≡ p ++ (bytes ++ q)
at_split p q bytes n e = rw (take_at p q n e, drop_at p q n e) refl

-- the text of the form with the bytes
pub text-form_with : (place : Place) (bytes : List ℕ) (f : Form) → CanInsert place f
    → take (place_in place f) (form_text f) ++ (bytes ++ drop (place_in place f) (form_text f)) ≡ form_text
    (form_with place bytes f)
text-form_with Start bytes (Plain t) h = refl
text-form_with Start bytes (Declared k b g a) h = sym (append_assoc bytes b (grouped g ++ a))
text-form_with End bytes (Plain t) h = rw (take_all (length t) t (omega arith), drop_all (length t) t (omega arith)) (ap (λ (u : List ℕ). t ++ u) (append-nil bytes))
text-form_with End bytes (Declared k b g a) h =
    let t = b ++ (grouped g ++ a) in
    rw (take_all (length t) t (omega arith), drop_all (length t) t (omega arith), append-nil bytes)
    (append_assoc b (grouped g ++ a) bytes ∙ ap (λ (u : List ℕ). b ++ u) (append_assoc (grouped g) a bytes))
text-form_with Close bytes (Plain t) h = elim h [ ]
text-form_with Close bytes (Declared k b None a) h = elim h [ ]
text-form_with Close bytes (Declared k b (Some g) a) h =
    let n : length (b ++ 40 ∷ g) ≡ length b + 1 + length g = omega (arith, length-append b (40 ∷ g)) in
    rw (parts b g a, parts b (g ++ bytes) a, closed_parts b g a, closed_parts b (g ++ bytes) a)
    (at_split (b ++ 40 ∷ g) (41 ∷ a) bytes _ n ∙ append_assoc b (40 ∷ g) (bytes ++ 41 ∷ a) ∙ ap
    (λ (u : List ℕ). b ++ 40 ∷ u) (sym (append_assoc g bytes (41 ∷ a)))
    ∙ sym (append_assoc b (40 ∷ (g ++ bytes)) (41 ∷ a)))
text-form_with Suffix bytes (Plain t) h = elim h [ ]
text-form_with Suffix bytes (Declared k b None a) h = at_split b a bytes (length b) refl ∙ sym (append_assoc b bytes a)
text-form_with Suffix bytes (Declared k b (Some g) a) h = elim h [ ]

-- the base name of the form with the bytes
pub own_at-form_with : (place : Place) (bytes : List ℕ) (f : Form) (own : ℕ × ℕ) → CanInsert place f
    → own_at (layout_for f) (length (form_text (form_with place bytes f))) own ≡ own_in (form_with place bytes f) own
own_at-form_with Start bytes (Plain t) own h = refl
own_at-form_with Start bytes (Declared Array b None a) own h = refl
own_at-form_with Start bytes (Declared Array b (Some g) a) own h = refl
own_at-form_with Start bytes (Declared Function b None a) own h = refl
own_at-form_with Start bytes (Declared Function b (Some g) a) own h = refl
own_at-form_with End bytes (Plain t) own h = refl
own_at-form_with End bytes (Declared Array b None a) own h = refl
own_at-form_with End bytes (Declared Array b (Some g) a) own h = refl
own_at-form_with End bytes (Declared Function b None a) own h = refl
own_at-form_with End bytes (Declared Function b (Some g) a) own h = refl
own_at-form_with Close bytes (Plain t) own h = refl
own_at-form_with Close bytes (Declared k b None a) own h = elim h [ ]
own_at-form_with Close bytes (Declared Array b (Some g) a) own h = refl
own_at-form_with Close bytes (Declared Function b (Some g) a) own h = refl
own_at-form_with Suffix bytes (Plain t) own h = refl
own_at-form_with Suffix bytes (Declared Array b None a) own h = refl
own_at-form_with Suffix bytes (Declared Function b None a) own h = refl
own_at-form_with Suffix bytes (Declared k b (Some g) a) own h = elim h [ ]

-- how long a text is then
pub length-inserted : (t bytes : List ℕ) (n : ℕ) → length (take n t ++ (bytes ++ drop n t)) ≡ length t + length bytes
length-inserted t bytes n =
    omega (arith, length-append (take n t) (bytes ++ drop n t), length-append bytes (drop n t), length-append (take n t) (drop n t), ap length (take-append-drop n t))

-- what an insertion makes of a text and its outline
pub record Inserts (place : Place) (bytes t u : List ℕ) (m w : Outline) : Type 0 where
  pub text : u ≡ take (place_at place m.layout (length t)) t ++ (bytes ++ drop (place_at place m.layout (length t)) t)
  pub layout : w.layout ≡ layout_with place (length bytes) m.layout
  pub own : w.own ≡ own_at m.layout (length u) (moved (place_at place m.layout (length t)) (length bytes) m.own)
  pub templ : w.templ ≡ m.templ
  pub ctor : w.ctor ≡ m.ctor

-- the text and its outline are those of the form with the bytes
module _ (place : Place) (bytes t u : List ℕ) (m w : Outline) where
  form : Form
  form = form_of t m.layout

  abbrev range : ℕ × ℕ
  range = moved (place_in place (form_of t m.layout)) (length bytes) m.own

  place_is : IsOutlined t m → CanInsert place (form_of t m.layout) → place_at place m.layout (length t) ≡ place_in place (form_of t m.layout)
  place_is h can =
      let l = layout_for-form_of t m.layout h.layout in
      let e = text-form_of t m.layout h.layout in
      let p = place_for place (form_of t m.layout) can in
      ap (λ (k : Layout). place_at place k (length t)) (sym l) ∙ ap (λ (v : List ℕ). place_at place (layout_for (form_of t m.layout)) (length v)) (sym e) ∙ p

  text_is : IsOutlined t m → CanInsert place (form_of t m.layout) → Inserts place bytes t u m w → u ≡ form_text (form_with place bytes (form_of t m.layout))
  text_is h can i =
      let at = place_is h can in
      let e = text-form_of t m.layout h.layout in
      i.text ∙ ap (λ (n : ℕ). take n t ++ (bytes ++ drop n t)) at
      ∙ ap (λ (v : List ℕ). take (place_in place (form_of t m.layout)) v ++ (bytes ++ drop (place_in place (form_of t m.layout)) v)) (sym e)
      ∙ text-form_with place bytes (form_of t m.layout) can

  outline_is : IsOutlined t m → CanInsert place (form_of t m.layout) → Inserts place bytes t u m w → w ≡ outline_for (form_with place bytes (form_of t m.layout)) range m.templ m.ctor
  outline_is h can i =
      let l = layout_for-form_of t m.layout h.layout in
      let by_layout : w.layout ≡ layout_for (form_with place bytes (form_of t m.layout)) = i.layout
      ∙ ap (layout_with place (length bytes)) (sym l)
      ∙ layout_with-layout_for place bytes (form_of t m.layout) can in
      let own1 : w.own ≡ own_at m.layout (length u) range = i.own ∙ ap (λ (n : ℕ). own_at m.layout (length u) (moved n (length bytes) m.own)) (place_is h can) in
      let own2 : own_at m.layout (length u) range ≡ own_at (layout_for (form_of t m.layout)) (length (form_text (form_with place bytes (form_of t m.layout)))) range =
      ap (λ (k : Layout). own_at k (length u) range) (sym l) ∙ ap (λ (v : List ℕ). own_at (layout_for (form_of t m.layout)) (length v) range) (text_is h can i) in
      let by_own : w.own ≡ own_in (form_with place bytes (form_of t m.layout)) range = own1 ∙ own2 ∙ own_at-form_with place bytes (form_of t m.layout) range can in
      λ j. record { layout = by_layout j; own = by_own j; templ = i.templ j; ctor = i.ctor j }

  pub shape-inserted : IsOutlined t m → CanInsert place (form_of t m.layout) → Inserts place bytes t u m w → shape_of u w ≡ inserted place bytes (shape_of t m)
  shape-inserted h can i =
      let e = text_is h can i in
      let k = outline_is h can i in
      rw (e, k) (shape_of-outline_for (form_with place bytes (form_of t m.layout)) range m.templ m.ctor)

  pub IsOutlined-inserted : IsOutlined t m → CanInsert place (form_of t m.layout) → Inserts place bytes t u m w → IsOutlined u w
  IsOutlined-inserted h can i =
      let e = text_is h can i in
      let k = outline_is h can i in
      let n : length u ≡ length t + length bytes = ap length i.text ∙ length-inserted t bytes (place_at place m.layout (length t)) in
      let within = moved_within (place_in place (form_of t m.layout)) (length bytes) (length t) m.own h.own_within in
      let fits : range.1 ≤ length (form_text (form_with place bytes (form_of t m.layout))) = omega (arith, n, ap length e, within) in
      rw (e, k) (IsOutlined-outline_for (form_with place bytes (form_of t m.layout)) range m.templ m.ctor (moved_ordered (place_in place (form_of t m.layout)) (length bytes) m.own h.own_ordered) fits)

-- the base name, when bytes are inserted at a place and then more of them after these
pub moved_twice : (at next n m all : ℕ) (own : ℕ × ℕ) → next ≡ at + n → all ≡ n + m → moved next m (moved at n own) ≡ moved at all own
moved_twice at next n m all (from, to) follows both = grind (arith, nat_tests)

-- bytes at the end and then more of them there
module _ (a b : List ℕ) (own : ℕ × ℕ) (templ ctor : Bool) where
  twice : (f : Form) → appended b (appended a (record { form = f; own = own; templ = templ; ctor = ctor })) ≡ appended (a ++ b) (record { form = f; own = own; templ = templ; ctor = ctor })
  twice (Plain t) =
      λ j. record { form = Plain (append_assoc t a b j); own = moved_twice _ _ _ _ _ own (length-append t a) (length-append a b) j; templ = templ; ctor = ctor }
  twice (Declared Array before group after) =
      let next : length (before ++ (grouped group ++ (after ++ a))) ≡ length (before ++ (grouped group ++ after)) + length a = omega (arith, length-append {A = ℕ}) in
      λ j. record { form = Declared Array before group (append_assoc after a b j); own = moved_twice _ _ _ _ _ own next (length-append a b) j; templ = templ; ctor = ctor }
  twice (Declared Function before group after) =
      λ j. record { form = Declared Function before group (append_assoc after a b j); own = (0, length (before ++ (grouped group ++ append_assoc after a b j))); templ = templ; ctor = ctor }

pub appended_twice : (a b : List ℕ) (s : Shape) → appended b (appended a s) ≡ appended (a ++ b) s
appended_twice a b s = twice a b s.own s.templ s.ctor s.form
