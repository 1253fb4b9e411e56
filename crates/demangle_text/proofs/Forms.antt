-- A form and its layout: where its parts lie in its text.
use Rattle.std.proofs.Common.{◌≡◌, ℕ, ◌+◌, ◌-◌, ◌<◌, List, [], ◌∷◌, ◌++◌, length, slice_range, take, drop, Some, None, refl, sym, ap, ◌∙◌, arith, append_assoc, add_comm}
use Rattle.std.proofs.lemmas.List.{length-append, take_at, drop_at, get_or_at, take-append-drop, drop_more, length-take-le, drop-drop}
use Rattle.std.proofs.lemmas.List.Edits.{length-between}
use Rattle.demangle_text.specs.Pieces.{Layout}
use Rattle.demangle_text.specs.Pieces.{Flat, Cut}
use Rattle.demangle_text.specs.Shape.{Form, Plain, Declared, form_text}
use Rattle.demangle_text.specs.Pieces.{form_of, IsLayout}

-- the layout of a form's text
abbrev pub layout_for : Form → Layout
layout_for (Plain t) = Flat
layout_for (Declared k before None after) = Cut k None (length before)
layout_for (Declared k before (Some group) after) = Cut k (Some (length before)) (length before + length group + 2)

-- a list cut one place after its first part
past_one : (p : List ℕ) (x : ℕ) (q : List ℕ) (n : ℕ) → n ≡ length p + 1 → drop n (p ++ x ∷ q) ≡ q
past_one p x q n e =
    let apart : p ++ x ∷ q ≡ (p ++ x ∷ []) ++ q = sym (append_assoc p (x ∷ []) q) in
    let front : length (p ++ x ∷ []) ≡ n = omega (arith, length-append p (x ∷ [])) in
    rw apart (drop_at (p ++ x ∷ []) q n front)

-- the text of a declarator with a group
pub parts : (before group after : List ℕ) → before ++ (40 ∷ (group ++ 41 ∷ []) ++ after) ≡ before ++ 40 ∷ (group ++ 41 ∷ after)
parts before group after = ap (λ (t : List ℕ). before ++ 40 ∷ t) (append_assoc group (41 ∷ []) after)

-- the same with the front up to the closing parenthesis
pub closed_parts : (before group after : List ℕ) → before ++ 40 ∷ (group ++ 41 ∷ after) ≡ (before ++ 40 ∷ group) ++ 41 ∷ after
closed_parts before group after = sym (append_assoc before (40 ∷ group) (41 ∷ after))

group_part : (before group after : List ℕ) → slice_range (before ++ 40 ∷ (group ++ 41 ∷ after)) (length before + 1) (length before + length group + 2 - 1) ≡ group
group_part before group after =
    let n : length before + length group + 2 - 1 - (length before + 1) ≡ length group = omega arith in
    rw (n, past_one before 40 (group ++ 41 ∷ after) _ refl) (take_at group (41 ∷ after) (length group) refl)

after_part : (before group after : List ℕ) → drop (length before + length group + 2) (before ++ 40 ∷ (group ++ 41 ∷ after)) ≡ after
after_part before group after =
    rw (closed_parts before group after) (past_one (before ++ 40 ∷ group) 41 after _ (omega (arith, length-append before (40 ∷ group))))

-- the text of a form, cut by its layout, is the form
pub form_of-layout_for : (f : Form) → form_of (form_text f) (layout_for f) ≡ f
form_of-layout_for (Plain t) = refl
form_of-layout_for (Declared k before None after) =
    cc (take_at before after (length before) refl, drop_at before after (length before) refl)
form_of-layout_for (Declared k before (Some group) after) =
    rw (parts before group after) (cc (take_at before (40 ∷ (group ++ 41 ∷ after)) (length before) refl, group_part before group after, after_part before group after))

pub IsLayout-layout_for : (f : Form) → IsLayout (form_text f) (layout_for f)
IsLayout-layout_for (Plain t) = tt
IsLayout-layout_for (Declared k before None after) =
    let n = length-append before after in omega arith
IsLayout-layout_for (Declared k before (Some group) after) =
    let a = length-append before (40 ∷ (group ++ 41 ∷ after)) in
    let b = length-append group (41 ∷ after) in
    let c = length-append before (40 ∷ group) in
    let m : length (before ++ 40 ∷ group) ≡ length before + length group + 2 - 1 = omega arith in
    rw (parts before group after) (
      omega arith,
      omega arith,
      get_or_at before 40 (group ++ 41 ∷ after) 0 (length before) refl,
      rw (closed_parts before group after) (get_or_at (before ++ 40 ∷ group) 41 after 0 _ m),
    )

-- a layout that fits a text is that of its form
pub layout_for-form_of : (t : List ℕ) (l : Layout) → IsLayout t l → layout_for (form_of t l) ≡ l
layout_for-form_of t Flat h = refl
layout_for-form_of t (Cut k None at) h = ap (λ (n : ℕ). Cut k None n) (length-take-le at t h)
layout_for-form_of t (Cut k (Some group) at) h =
    let g : length (take group t) ≡ group = length-take-le group t (omega arith) in
    let n : length (slice_range t (group + 1) (at - 1)) ≡ at - 1 - (group + 1) = length-between t (group + 1) (at - 1) (omega arith) in
    let a : length (take group t) + length (slice_range t (group + 1) (at - 1)) + 2 ≡ at = omega arith in
    cc

-- and the form has the whole text
pub text-form_of : (t : List ℕ) (l : Layout) → IsLayout t l → form_text (form_of t l) ≡ t
text-form_of t Flat h = refl
text-form_of t (Cut k None at) h = take-append-drop at t
text-form_of t (Cut k (Some group) at) h =
    let inner = drop (group + 1) t in
    let n : at - 1 - (group + 1) + (group + 1) ≡ at - 1 = omega arith in
    let in_open : group < length t = omega arith in
    let in_close : at - 1 < length t = omega arith in
    let opened : drop group t ≡ 40 ∷ inner = drop_more t group 0 in_open ∙ ap (λ (x : ℕ). x ∷ inner) h.2 in
    let closed : drop (at - 1) t ≡ 41 ∷ drop (at - 1 + 1) t = drop_more t (at - 1) 0 in_close ∙ ap (λ (x : ℕ). x ∷ drop (at - 1 + 1) t) h.3 in
    let last : at - 1 + 1 ≡ at = omega arith in
    let rest : drop (at - 1 - (group + 1)) inner ≡ 41 ∷ drop at t =
    drop-drop (at - 1 - (group + 1)) (group + 1) t ∙ ap (λ (m : ℕ). drop m t) (add_comm (group + 1) (at - 1 - (group + 1)) ∙ n) ∙ closed ∙ ap (λ (m : ℕ). 41 ∷ drop m t) last in
    let middle : take (at - 1 - (group + 1)) inner ++ 41 ∷ drop at t ≡ inner = ap (λ (u : List ℕ). take (at - 1 - (group + 1)) inner ++ u) (sym rest) ∙ take-append-drop (at - 1 - (group + 1)) inner in
    parts (take group t) (take (at - 1 - (group + 1)) inner) (drop at t)
    ∙ ap (λ (u : List ℕ). take group t ++ 40 ∷ u) middle
    ∙ ap (λ (u : List ℕ). take group t ++ u) (sym opened)
    ∙ take-append-drop group t
