-- What a shape's kind and group say of its form.
use Rattle.std.proofs.Common.{◌≡◌, Bool, true, false, ◌&&◌, Some, None, refl, sym, ap, ◌∙◌, List, ℕ, ◌-◌, ◌++◌, length, take, codes, append_assoc, if◌then◌else◌}
use Rattle.std.specs.Prelude.{nat_eq}
use Rattle.std.specs.List.{ends_with}
use Rattle.std.proofs.lemmas.Bool.{and_from}
use Rattle.std.proofs.lemmas.Bool.Decides.{Decides-eqb}
use Rattle.std.proofs.lemmas.Slice.Eq.{ends_is}
use Rattle.demangle_quals.specs.declared.quals.Pointer.{Pointer}
use Rattle.demangle_quals.specs.declared.quals.Pointer.TheVariants.{Star, Left, Right}
use Rattle.std.specs.Prelude.{is_some}
use Rattle.demangle_text.specs.declared.pieces.Kind.TheVariants.{Array, Function}
use Rattle.demangle_text.specs.declared.pieces.Place.TheVariants.{Close, Suffix, End}
use Rattle.demangle_text.specs.Shape.{Shape, Form, Plain, Declared, is_plain, text, shortened, appended, inserted, opened_group}
use Rattle.demangle_text.specs.Calls.{kind_of, group_of, CanInsert, IsPlain, IsDeclared}
use Rattle.demangle_edit.specs.Types.{pointed_in, cv_place, collapse_step}
use Rattle.demangle_edit.specs.Calls.{pointer_shortens}

pub plain_kind : (f : Form) → kind_of f ≡ None → is_plain f ≡ true
plain_kind (Plain t) e = refl
plain_kind (Declared k before group after) e = cc

pub plain_form : (f : Form) → kind_of f ≡ None → IsPlain f
plain_form (Plain t) e = tt
plain_form (Declared k before group after) e = cc

pub declared_kind : (f : Form) → is_some (kind_of f) ≡ true → is_plain f ≡ false
declared_kind (Plain t) e = cc
declared_kind (Declared k before group after) e = refl

pub declared_form : (f : Form) → is_some (kind_of f) ≡ true → IsDeclared f
declared_form (Plain t) e = cc
declared_form (Declared k before group after) e = tt

pub pointed_end : (f : Form) (token : List ℕ) (s : Shape) → kind_of f ≡ None → pointed_in f token s ≡ appended token s
pointed_end (Plain t) token s e = refl
pointed_end (Declared k before group after) token s e = cc

pub pointed_close : (f : Form) (token : List ℕ) (s : Shape) → is_some (group_of f) ≡ true → pointed_in f token s ≡ inserted Close token s
pointed_close (Plain t) token s e = cc
pointed_close (Declared k before None after) token s e = cc
pointed_close (Declared k before (Some group) after) token s e = refl

pub pointed_open : (f : Form) (token : List ℕ) (s : Shape) → is_some (kind_of f) ≡ true → is_some (group_of f) ≡ false → pointed_in f token s ≡ opened_group token s
pointed_open (Plain t) token s e g = cc
pointed_open (Declared k before None after) token s e g = refl
pointed_open (Declared k before (Some group) after) token s e g = cc

pub can_close : (f : Form) → is_some (group_of f) ≡ true → CanInsert Close f
can_close (Plain t) e = cc
can_close (Declared k before None after) e = cc
can_close (Declared k before (Some group) after) e = tt

pub can_word : (f : Form) → CanInsert (cv_place f) f
can_word (Plain t) = tt
can_word (Declared k before (Some group) after) = tt
can_word (Declared Array before None after) = tt
can_word (Declared Function before None after) = tt

pub words_end : (f : Form) → kind_of f ≡ None → cv_place f ≡ End
words_end (Plain t) e = refl
words_end (Declared k before group after) e = cc

pub words_close : (f : Form) → is_some (group_of f) ≡ true → cv_place f ≡ Close
words_close (Plain t) e = cc
words_close (Declared k before None after) e = cc
words_close (Declared k before (Some group) after) e = refl

pub words_suffix : (f : Form) → kind_of f ≡ Some Array → is_some (group_of f) ≡ false → cv_place f ≡ Suffix
words_suffix (Plain t) e g = cc
words_suffix (Declared Array before None after) e g = refl
words_suffix (Declared Function before None after) e g = cc
words_suffix (Declared k before (Some group) after) e g = cc

pub words_after : (f : Form) → kind_of f ≡ Some Function → is_some (group_of f) ≡ false → cv_place f ≡ End
words_after (Plain t) e g = cc
words_after (Declared Array before None after) e g = cc
words_after (Declared Function before None after) e g = refl
words_after (Declared k before (Some group) after) e g = cc

-- a text that ends in `&&` ends in `&`
ends_once : (t : List ℕ) → ends_with nat_eq t (codes "&&") ≡ true → ends_with nat_eq t (codes "&") ≡ true
ends_once t e =
    let front = take (length t - 2) t in
    let is = (ends_is Decides-eqb t (codes "&&") _ refl).0 e in
    (ends_is Decides-eqb t (codes "&") _ refl).1 (front ++ codes "&") (is ∙ sym (append_assoc front (codes "&") (codes "&")))

both : (x y : Bool) → (x && y) ≡ true → (x ≡ true) × (y ≡ true)
both true true h = (refl, refl)
both true false h = cc
both false y h = cc

-- where `&` takes a byte away there is a reference
pub cut_found : (kind : Pointer) (s : Shape) → pointer_shortens kind s ≡ true → None ≡ collapse_step false s → ⊥
cut_found Star s h none = cc
cut_found Right s h none = cc
cut_found Left s h none =
    let parts = both (is_plain s.form) (ends_with nat_eq (text s) (codes "&&")) h in
    let found = and_from (is_plain s.form) (ends_with nat_eq (text s) (codes "&")) parts.0 (ends_once (text s) parts.1) in
    let some = ap (λ (b : Bool). if b then Some (if ends_with nat_eq (text s) (codes "&&") then shortened 1 s else s) else None) found in
    let e = none ∙ some in cc

pub ruleset declarators = (
  plain_kind,
  plain_form,
  declared_kind,
  declared_form,
  pointed_end,
  pointed_close,
  pointed_open,
  can_close,
  can_word,
  words_end,
  words_close,
  words_suffix,
  words_after,
  cut_found,
)
