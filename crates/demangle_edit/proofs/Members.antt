-- A declarator, cut in two and put together again with a group.
use Rattle.std.proofs.Common.{◌≡◌, ℕ, ◌+◌, ◌-◌, ◌<◌, ◌≤◌, Bool, true, Option, Some, None, if◌then◌else◌, List, [], ◌∷◌, ◌++◌, length, take, drop, codes, sym, ap, ◌∙◌, refl, arith, append_assoc}
use Rattle.std.specs.Prelude.{slice_range, slice_index}
use Rattle.std.proofs.lemmas.List.{length-append, append-nil, get_or_at}
use Rattle.demangle_text.specs.declared.pieces.Kind.TheVariants.{Array, Function}
use Rattle.demangle_text.specs.Shape.{Form, Plain, Declared, Shape, form_text, text, text_len, plain_shape, appended, flattened, grouped, gap_after, flagged}
use Rattle.demangle_text.specs.declared.pieces.Piece.{Piece}
use Rattle.demangle_text.specs.declared.pieces.Mark.{Mark}
use Rattle.demangle_text.specs.declared.buffer.Buffer.{Buffer}
use Rattle.demangle_text.specs.State.{shape, IsLiving, IsEdit, Opens}
use Rattle.demangle_text.proofs.Laws.{Opens-edit}
use Rattle.demangle_text.specs.Calls.{joined, IsDeclared, IsPlain, front_text, kind_of, after_of, declared_group}
use Rattle.demangle_edit.specs.Types.{member_gap, may_be_member, member_pointer_shape}
use Rattle.demangle_edit.specs.Calls.{after_text, member_pointer_step}
use Rattle.demangle_text.specs.declared.pieces.Place.TheVariants.{End}
use Rattle.demangle_edit.proofs.Insertions.{inserted_twice}
use Rattle.demangle_edit.proofs.Cuts.{take_front, drop_front}

-- a pointer to a member of a plain type, put together step by step
pub member_pointer_after : (class member begun : Shape) (gap : List ℕ) → IsPlain member.form → gap ≡ member_gap (text member)
    → begun ≡ appended (gap ++ text class) (flattened member) → appended (codes "::*") begun ≡ member_pointer_shape class member
member_pointer_after class member begun gap flat by_gap by_begun =
    ap (appended (codes "::*")) by_begun ∙ inserted_twice End (gap ++ text class) (codes "::*") (flattened member) (λ e. cc) tt
    ∙ ap (λ (v : List ℕ). appended v (flattened member)) (append_assoc gap (text class) (codes "::*") ∙ ap (λ (v : List ℕ). v ++ (text class ++ codes "::*")) by_gap)
    ∙ in_form member.form flat
  where
    in_form : (f : Form) → IsPlain f
        → appended (member_gap (form_text f) ++ (text class ++ codes "::*")) (flattened (record member { form = f })) ≡ member_pointer_shape class (record member { form = f })
    in_form (Plain t) h = refl
    in_form (Declared k before group after) h = absurd h

after_at : (at : ℕ) (before : List ℕ) (group : Option (List ℕ)) → Some at ≡ Some (length (before ++ grouped group)) → at ≡ length (before ++ grouped group)
after_at at before group e = cc

-- which types have members' pointers
pub plain_member : (f : Form) → kind_of f ≡ None → may_be_member f ≡ true
plain_member (Plain t) h = refl
plain_member (Declared k before group after) h = cc

pub function_member : (f : Form) → kind_of f ≡ Some Function → may_be_member f ≡ true
function_member (Plain t) h = cc
function_member (Declared Function before group after) h = refl
function_member (Declared Array before group after) h = cc

pub member_found : (class member found : Shape) → may_be_member member.form ≡ true
    → found ≡ member_pointer_shape class member → member_pointer_step class member ≡ Some found
member_found class member found may e =
    ap (λ (b : Bool). if b then Some (member_pointer_shape class member) else None) may ∙ ap Some (sym e)

-- the text up to `after`
pub front_cut : (s : Shape) (at : ℕ) → IsDeclared s.form → Some at ≡ after_of s.form → slice_range (text s) 0 at ≡ front_text s.form
front_cut s at is e = cut s.form is e
  where
    cut : (f : Form) → IsDeclared f → Some at ≡ after_of f → slice_range (form_text f) 0 at ≡ front_text f
    cut (Plain t) h by = absurd h
    cut (Declared k before group after) h by =
        let at_is : at - 0 ≡ length (before ++ grouped group) = omega (arith, after_at at before group by) in
        take_front _ (before ++ grouped group) after (at - 0) (sym (append_assoc before (grouped group) after)) at_is

-- the text from there on
pub after_cut : (s : Shape) (at len : ℕ) → IsDeclared s.form → Some at ≡ after_of s.form → len ≡ text_len s → slice_range (text s) at len ≡ after_text s.form
after_cut s at len is e by_len = cut s.form is e by_len
  where
    cut : (f : Form) → IsDeclared f → Some at ≡ after_of f → len ≡ length (form_text f) → slice_range (form_text f) at len ≡ after_text f
    cut (Plain t) h by l = absurd h
    cut (Declared k before group after) h by l =
        let at_is : at ≡ length (before ++ grouped group) = after_at at before group by in
        let text_is : before ++ (grouped group ++ after) ≡ (before ++ grouped group) ++ after = sym (append_assoc before (grouped group) after) in
        let left : len - at ≡ length after = omega (arith, l, ap length text_is, length-append (before ++ grouped group) after) in
        ap (take (len - at)) (drop_front _ (before ++ grouped group) after at text_is at_is) ∙ take_front after after [] (len - at) (sym (append-nil after)) left

pub ruleset members = (front_cut, after_cut)

-- a text with a group in it, cut at the group's parentheses
module _ (front inner after : List ℕ) (from at : ℕ) where
  abbrev whole_text : List ℕ
  whole_text = front ++ (40 ∷ (inner ++ (41 ∷ after)))

  before_group : from ≡ length front → take from whole_text ≡ front
  before_group h = take_front _ front (40 ∷ (inner ++ (41 ∷ after))) from refl h

  in_group : from ≡ length front → at ≡ length front + length inner + 2 → slice_range whole_text (from + 1) (at - 1) ≡ inner
  in_group h l =
      let text_is : whole_text ≡ (front ++ (40 ∷ [])) ++ (inner ++ (41 ∷ after)) = sym (append_assoc front (40 ∷ []) (inner ++ (41 ∷ after))) in
      let from_is : from + 1 ≡ length (front ++ (40 ∷ [])) = omega (arith, length-append front (40 ∷ [])) in
      let n_is : at - 1 - (from + 1) ≡ length inner = omega arith in
      ap (take (at - 1 - (from + 1))) (drop_front _ (front ++ (40 ∷ [])) (inner ++ (41 ∷ after)) (from + 1) text_is from_is)
      ∙ take_front _ inner (41 ∷ after) _ refl n_is

  after_group : at ≡ length front + length inner + 2 → drop at whole_text ≡ after
  after_group l =
      let text_is : whole_text ≡ (front ++ (40 ∷ (inner ++ (41 ∷ [])))) ++ after = simp append_assoc in
      let at_is : at ≡ length (front ++ (40 ∷ (inner ++ (41 ∷ [])))) = omega (arith, length-append front (40 ∷ (inner ++ (41 ∷ []))), length-append inner (41 ∷ [])) in
      drop_front _ (front ++ (40 ∷ (inner ++ (41 ∷ [])))) after at text_is at_is

-- the parenthesis that closes the group stands right before the text that follows it
pub closes_at : (front class after all : List ℕ) (len n : ℕ) → all ≡ front ++ class ++ codes "::*)" ++ after → len ≡ length all → n ≡ length after
    → slice_index all (len - n - 1) ≡ 41
closes_at front class after all len n is by_len by_n =
    let text_is : all ≡ (front ++ class ++ codes "::*") ++ 41 ∷ after = is ∙ simp append_assoc in
    let long : length (front ++ class ++ codes "::*") ≡ len - n - 1 = omega (arith, by_len, by_n, ap length text_is, length-append (front ++ class ++ codes "::*") (41 ∷ after)) in
    ap (λ (v : List ℕ). slice_index v (len - n - 1)) text_is ∙ get_or_at (front ++ class ++ codes "::*") 41 after 0 (len - n - 1) long

-- and the one that opens it stands before the class
pub opens_at : (front gap class after all : List ℕ) (len n k : ℕ) → all ≡ front ++ (gap ++ codes "(") ++ class ++ codes "::*)" ++ after → len ≡ length all
    → n ≡ length after → k ≡ length class → slice_index all (len - n - 5 - k) ≡ 40
opens_at front gap class after all len n k is by_len by_n by_k =
    let rest = class ++ codes "::*)" ++ after in
    let text_is : all ≡ (front ++ gap) ++ 40 ∷ rest = is ∙ simp append_assoc in
    let ends : length rest ≡ k + 4 + n = omega (arith, by_n, by_k, length-append (class ++ codes "::*)") after, length-append class (codes "::*)")) in
    let long : length (front ++ gap) ≡ len - n - 5 - k = omega (arith, by_len, ends, ap length text_is, length-append (front ++ gap) (40 ∷ rest)) in
    ap (λ (v : List ℕ). slice_index v (len - n - 5 - k)) text_is ∙ get_or_at (front ++ gap) 40 rest 0 (len - n - 5 - k) long

-- and it is before the one that closes it
pub opens_before : (front gap class after all : List ℕ) (len n k : ℕ) → all ≡ front ++ (gap ++ codes "(") ++ class ++ codes "::*)" ++ after → len ≡ length all
    → n ≡ length after → k ≡ length class → len - n - 5 - k + 1 < len - n
opens_before front gap class after all len n k is by_len by_n by_k =
    omega (arith, by_len, by_n, by_k, ap length is, length-append {A = ℕ})

-- and the whole holds the group and the text that follows it
pub group_fits : (front gap class after all : List ℕ) (len n k : ℕ) → all ≡ front ++ (gap ++ codes "(") ++ class ++ codes "::*)" ++ after → len ≡ length all
    → n ≡ length after → k ≡ length class → k + 5 + n ≤ len
group_fits front gap class after all len n k is by_len by_n by_k =
    omega (arith, by_len, by_n, by_k, ap length is, length-append {A = ℕ})

-- so no difference of these lengths is negative
pub after_fits : (k n len : ℕ) → k + 5 + n ≤ len → n ≤ len
after_fits k n len h = omega (arith, h)

pub opening_fits : (k n len : ℕ) → k + 5 + n ≤ len → 5 ≤ len - n
opening_fits k n len h = omega (arith, h)

pub class_fits : (k n len : ℕ) → k + 5 + n ≤ len → k ≤ len - n - 5
class_fits k n len h = omega (arith, h)

-- the class joined to what stands before the group, and what stands after it joined to both
pub member_joined : (old mid one two : Buffer) (m : Mark) (front class after begun whole : Piece) (opening : List ℕ)
    → Opens old mid m → IsEdit mid one → IsLiving old front → IsLiving old class → IsLiving old after
    → opening ≡ gap_after (text (shape old front)) ++ codes "(" → shape one begun ≡ joined (shape mid front) opening (shape mid class)
    → shape two whole ≡ joined (shape one begun) (codes "::*)") (shape one after)
    → shape two whole ≡ plain_shape (text (shape old front) ++ (gap_after (text (shape old front)) ++ codes "(") ++ text (shape old class) ++ codes "::*)" ++ text (shape old after))
member_joined old mid one two m front class after begun whole opening opens edit f c a by is_begun is_whole =
    let of_front = ap text (opens.pieces front f).shape_is in
    let of_class = ap text (opens.pieces class c).shape_is in
    let of_after = ap text ((Opens-edit old mid one m opens edit).pieces after a).shape_is in
    is_whole ∙ ap (λ (s : Shape). joined s (codes "::*)") (shape one after)) is_begun
    ∙ (λ j. plain_shape (of_front j ++ by j ++ of_class j ++ codes "::*)" ++ of_after j))

-- a pointer to a member function, put together step by step
pub member_pointer_shape_is : (class member whole declared : Shape) (templ ctor : Bool) (class_len after_len from at : ℕ) → kind_of member.form ≡ Some Function
    → whole ≡ plain_shape (front_text member.form ++ (gap_after (front_text member.form) ++ codes "(") ++ text class ++ codes "::*)" ++ after_text member.form)
    → class_len ≡ text_len class → after_len ≡ length (after_text member.form) → at ≡ text_len whole - after_len → from ≡ at - 5 - class_len
    → declared ≡ declared_group Function from at whole → templ ≡ member.templ → ctor ≡ member.ctor → flagged templ ctor declared ≡ member_pointer_shape class member
member_pointer_shape_is class member whole declared templ ctor class_len after_len from at function by_whole by_class by_after by_at by_from by_declared by_templ by_ctor =
    ap (flagged templ ctor) by_declared ∙ opened member.form function (ap text by_whole) by_after
  where
    opened : (f : Form) → kind_of f ≡ Some Function
        → text whole ≡ front_text f ++ (gap_after (front_text f) ++ codes "(") ++ text class ++ codes "::*)" ++ after_text f → after_len ≡ length (after_text f)
        → flagged templ ctor (declared_group Function from at whole) ≡ member_pointer_shape class (record member { form = f })
    opened (Plain t) k e n = cc
    opened (Declared Array before group after) k e n = cc
    opened (Declared Function before group after) k e n =
        let front = before ++ grouped group in
        let wide = front ++ gap_after front in
        let inner = text class ++ codes "::*" in
        let text_is : text whole ≡ wide ++ (40 ∷ (inner ++ (41 ∷ after))) = e ∙ simp append_assoc in
        let len_is : text_len whole ≡ length wide + 1 + length inner + 1 + length after =
        ap length text_is ∙ omega (arith, length-append wide (40 ∷ (inner ++ (41 ∷ after))), length-append inner (41 ∷ after)) in
        let inner_len : length inner ≡ class_len + 3 = omega (arith, length-append (text class) (codes "::*")) in
        let at_is : at ≡ length wide + length inner + 2 = omega arith in
        let from_is : from ≡ length wide = omega arith in
        let before_is = ap (take from) text_is ∙ before_group wide inner after from at from_is in
        let inner_is = ap (λ (t : List ℕ). slice_range t (from + 1) (at - 1)) text_is ∙ in_group wide inner after from at from_is at_is in
        let after_is = ap (drop at) text_is ∙ after_group wide inner after from at at_is in
        λ j. record {
          form = Declared Function (before_is j) (Some (inner_is j)) (after_is j);
          own = (0, length (before_is j ++ (grouped (Some (inner_is j)) ++ after_is j)));
          templ = by_templ j;
          ctor = by_ctor j;
        }
