-- Lists that are built as they are read: one text after another gives the whole list.
use Rattle.std.proofs.Common.{◌≡◌, ℕ, ◌+◌, ◌-◌, ◌<◌, ◌==◌, Bool, true, false, List, [], ◌∷◌, ◌++◌, length, take, drop}
use Rattle.std.proofs.Common.{get_or, map, codes, sym, ap, ◌∙◌, refl, arith, append_assoc, if◌then◌else◌, nat_eq}
use Rattle.std.proofs.Common.{bytes_eq, subst, All}
use Rattle.std.specs.List.{ends_with}
use Rattle.std.proofs.Math.Seq.{drop-append-add}
use Rattle.std.proofs.lemmas.Bool.Decides.{nat_tests}
use Rattle.std.proofs.lemmas.List.{append-nil, length-append, length-map, length-take-le, map_more}
use Rattle.std.proofs.lemmas.List.Elements.{All-get_or}
use Rattle.demangle_quals.specs.declared.quals.Quals.{Quals}
use Rattle.demangle_quals.specs.Quals.{quals_text}
use Rattle.demangle_text.specs.declared.pieces.Piece.{Piece}
use Rattle.demangle_text.specs.declared.pieces.Mark.{Mark}
use Rattle.demangle_text.specs.declared.pieces.Place.TheVariants.{End}
use Rattle.demangle_text.specs.declared.buffer.Buffer.{Buffer}
use Rattle.demangle_text.specs.Shape.{Shape, Form, Plain, Declared, form_text, form_with, grouped, text, plain_shape, whole_shape, appended, flattened, flagged, moved}
use Rattle.demangle_text.specs.Calls.{IsPlain}
use Rattle.demangle_text.specs.State.{IsLiving, shape, Lives, Opens}
use Rattle.demangle_edit.specs.Lists.{listed, arguments_shape, pack_shape, lambda_shape}
use Rattle.demangle_edit.specs.Built.{arguments_closed}
use Rattle.demangle_edit.specs.Names.{angle_gap, attached, encoding_shape}
use Rattle.demangle_edit.specs.Built.{separator, is_first, listed_more, listed_each, arguments_opened, params_opened, params_closed, lambda_closed}
use Rattle.demangle_edit.proofs.Insertions.{inserted_twice}

-- the texts of a list, with what stands in front of each
abbrev listed_from : Bool → List (List ℕ) → List ℕ
listed_from first [] = []
listed_from first (t ∷ ts) = (separator first ++ t) ++ listed_from false ts

-- they are the list
from_listed : (ts : List (List ℕ)) → listed_from true ts ≡ listed ts
from_listed [] = refl
from_listed (t ∷ []) = append-nil t
from_listed (t ∷ next ∷ rest) =
    ap (λ (v : List ℕ). t ++ v) (append_assoc (codes ", ") next (listed_from false rest) ∙ ap (λ (v : List ℕ). codes ", " ++ v) (from_listed (next ∷ rest)))

-- the text with bytes at its end
pub appended_text : (bytes : List ℕ) (s : Shape) → text (appended bytes s) ≡ text s ++ bytes
appended_text bytes s = in_form s.form
  where
    in_form : (f : Form) → form_text (form_with End bytes f) ≡ form_text f ++ bytes
    in_form (Plain t) = refl
    in_form (Declared k before group after) =
        sym (append_assoc before (grouped group ++ after) bytes ∙ ap (λ (v : List ℕ). before ++ v) (append_assoc (grouped group) after bytes))

-- bytes at the end, and then more bytes
pub appended_twice : (a b : List ℕ) (s : Shape) → appended b (appended a s) ≡ appended (a ++ b) s
appended_twice a b s = inserted_twice End a b s (λ e. cc) tt

-- a text after a list and what stands between them
pub listed_as : (between : List ℕ) (first : Bool) (list next : Shape) → between ≡ separator first → appended (between ++ text next) (flattened list) ≡ listed_more first list next
listed_as between first list next by =
    ap (λ (v : List ℕ). appended (v ++ text next) (flattened list)) by ∙ sym (appended_twice (separator first) (text next) (flattened list))

-- a range stays where nothing is put
nothing_moved : (at : ℕ) (own : ℕ × ℕ) → moved at 0 own ≡ own
nothing_moved at (from, to) = grind (arith, nat_tests)

-- a plain shape, part by part
abbrev plain_of : List ℕ → ℕ × ℕ → Bool → Bool → Shape
plain_of t own templ ctor = record { form = Plain t; own = own; templ = templ; ctor = ctor }

-- nothing put at the end of a plain shape
nothing_appended : (t : List ℕ) (own : ℕ × ℕ) (templ ctor : Bool) → appended [] (plain_of t own templ ctor) ≡ plain_of t own templ ctor
nothing_appended t own templ ctor =
    λ j. record { form = Plain (append-nil t j); own = nothing_moved (length t) own j; templ = templ; ctor = ctor }

-- one text after another, from some place of a list on
each_from : (first : Bool) (t : List ℕ) (own : ℕ × ℕ) (templ ctor : Bool) (all : List Shape)
    → listed_each first (plain_of t own templ ctor) all ≡ appended (listed_from first (map text all)) (plain_of t own templ ctor)
each_from first t own templ ctor [] = sym (nothing_appended t own templ ctor)
each_from first t own templ ctor (next ∷ rest) =
    let added = separator first ++ text next in
    ap (λ (s : Shape). listed_each false s rest) (appended_twice (separator first) (text next) (plain_of t own templ ctor))
    ∙ each_from false (t ++ added) (moved (length t) (length added) own) templ ctor rest
    ∙ appended_twice added (listed_from false (map text rest)) (plain_of t own templ ctor)

-- one text after another is what is listed of all
pub each_listed : (s : Shape) (all : List Shape) → IsPlain s.form → listed_each true s all ≡ appended (listed (map text all)) s
each_listed s all flat = in_form s.form flat
  where
    in_form : (f : Form) → IsPlain f → listed_each true (record s { form = f }) all ≡ appended (listed (map text all)) (record s { form = f })
    in_form (Plain t) h =
        each_from true t s.own s.templ s.ctor all ∙ ap (λ (v : List ℕ). appended v (plain_of t s.own s.templ s.ctor)) (from_listed (map text all))
    in_form (Declared k before group after) h = absurd h

-- whether the text after these is the first
abbrev still_first : Bool → List Shape → Bool
still_first first [] = first
still_first first (s ∷ rest) = false

-- the same with one text more at the end
each_more_from : (first : Bool) (s : Shape) (all : List Shape) (next : Shape)
    → listed_each first s (all ++ next ∷ []) ≡ listed_more (still_first first all) (listed_each first s all) next
each_more_from first s [] next = refl
each_more_from first s (x ∷ []) next = refl
each_more_from first s (x ∷ y ∷ rest) next = each_more_from false (listed_more first s x) (y ∷ rest) next

-- from the front of a list on that is whether no text is there
at_first : (all : List Shape) → still_first true all ≡ is_first all
at_first [] = refl
at_first (s ∷ rest) = refl

-- a list of these texts, and then one text more
pub each_more : (s : Shape) (all : List Shape) (next : Shape)
    → listed_each true s (all ++ next ∷ []) ≡ listed_more (is_first all) (listed_each true s all) next
each_more s all next =
    each_more_from true s all next ∙ ap (λ (b : Bool). listed_more b (listed_each true s all) next) (at_first all)

-- the last byte of a text is that of its end
pub last_byte : (front t : List ℕ) → 0 < length t → ends_with nat_eq (front ++ t) (codes ">") ≡ ends_with nat_eq t (codes ">")
last_byte front t some =
    let whole = front ++ t in
    let last : length whole - 1 ≡ length front + (length t - 1) = omega (arith, length-append front t) in
    ap (bytes_eq (codes ">")) (ap (λ (k : ℕ). drop k whole) last ∙ drop-append-add front t (length t - 1))

-- a list of template arguments that isn't closed yet: `<` and what follows
abbrev pub begun_list : List ℕ → ℕ × ℕ → Bool → Bool → Shape
begun_list list own templ ctor = record { form = Plain (60 ∷ list); own = own; templ = templ; ctor = ctor }

-- a name with the text of its template arguments is the name with the list attached
pub closed_attached : (name : Shape) (list : List ℕ) (own : ℕ × ℕ) (templ ctor : Bool)
    → arguments_closed (appended list (arguments_opened name)) ≡ attached name (whole_shape (arguments_closed (begun_list list own templ ctor)))
closed_attached name list own templ ctor =
    let t = text name in
    let gap = angle_gap t in
    let begun = arguments_opened name in
    let end_at = λ (b : Bool). if b then codes " >" else codes ">" in
    let end = end_at (ends_with nat_eq (60 ∷ list) (codes ">")) in
    let text_is : text (appended list begun) ≡ (t ++ gap) ++ (60 ∷ list) = simp append_assoc in
    let test_is : ends_with nat_eq (text (appended list begun)) (codes ">") ≡ ends_with nat_eq (60 ∷ list) (codes ">") =
    ap (λ (v : List ℕ). ends_with nat_eq v (codes ">")) text_is ∙ last_byte (t ++ gap) (60 ∷ list) (omega arith) in
    ap (λ (b : Bool). appended (end_at b) (appended list begun)) test_is
    ∙ appended_twice list end begun ∙ ap (flagged true name.ctor) (appended_twice (gap ++ codes "<") (list ++ end) (flattened name))
    ∙ ap (λ (v : List ℕ). flagged true name.ctor (appended v (flattened name))) (append_assoc gap (codes "<") (list ++ end))

-- a list by itself
pub arguments_alone : (args : List Shape) → whole_shape (arguments_closed (listed_each true (plain_shape (codes "<")) args)) ≡ arguments_shape args
arguments_alone args = ap (λ (s : Shape). whole_shape (arguments_closed s)) (each_listed (plain_shape (codes "<")) args tt)

-- a name with its parameters, one after another
pub params_built : (name : Shape) (params : List Shape) (quals : Quals)
    → params_closed quals (listed_each true (params_opened name) params) ≡ encoding_shape name params quals
params_built name params quals =
    let all = listed (map text params) in
    let end = codes ")" ++ quals_text quals in
    ap (params_closed quals) (each_listed (params_opened name) params tt) ∙ appended_twice all end (params_opened name)
    ∙ ap (flagged false name.ctor) (appended_twice (codes "(") (all ++ end) (flattened name))

-- a pack
pub pack_built : (args : List Shape) → whole_shape (listed_each true (plain_shape []) args) ≡ pack_shape args
pack_built args = ap whole_shape (each_listed (plain_shape []) args tt)

-- a lambda
pub lambda_built : (params : List Shape) (number : ℕ) → lambda_closed number (listed_each true (plain_shape (codes "{lambda(")) params) ≡ lambda_shape params number
lambda_built params number = ap (lambda_closed number) (each_listed (plain_shape (codes "{lambda(")) params tt)

-- one more piece is put into the list
module _ (old mid new : Buffer) (m : Mark) (pieces : List Piece) (i : ℕ) (d list next : Piece) (first : Bool) (begun : Shape) where
  -- that no text is there, by their number
  first_at : (xs : List Shape) → first ≡ (length xs == 0) → first ≡ is_first xs
  first_at [] e = e ∙ refl
  first_at (x ∷ xs) e = e ∙ grind (arith, nat_tests)

  piece_more : Opens old mid m → All (IsLiving old) pieces → i < length pieces
      → Lives mid list (listed_each true begun (map (shape old) (take i pieces)))
      → Lives new next (listed_more first (shape mid list) (shape mid (get_or pieces i d)))
      → first ≡ (i == 0)
      → Lives new next (listed_each true begun (map (shape old) (take (i + 1) pieces)))
  piece_more run living there so_far joins by_first =
      let p = get_or pieces i d in
      let before = map (shape old) (take i pieces) in
      let n : length before ≡ i = length-map (take i pieces) (shape old) ∙ length-take-le i pieces (omega arith) in
      let first_is : first ≡ is_first before = first_at before (by_first ∙ ap (λ (k : ℕ). k == 0) (sym n)) in
      let this = (run.pieces p (All-get_or (IsLiving old) pieces i d there living)).shape_is in
      let is = ap (λ (s : Shape). listed_more first s (shape mid p)) so_far.shape_is ∙ ap (listed_more first (listed_each true begun before)) this
      ∙ ap (λ (b : Bool). listed_more b (listed_each true begun before) (shape old p)) first_is ∙ sym (each_more begun before (shape old p))
      ∙ ap (listed_each true begun) (sym (map_more (shape old) pieces i d there)) in
      subst (λ (s : Shape). Lives new next s) is joins

  -- the same of the call that puts it there, after these bytes
  pub piece_put : (between : List ℕ) → Opens old mid m → All (IsLiving old) pieces → i < length pieces
      → Lives mid list (listed_each true begun (map (shape old) (take i pieces)))
      → Lives new next (appended (between ++ text (shape mid (get_or pieces i d))) (flattened (shape mid list)))
      → first ≡ (i == 0) → between ≡ separator first
      → Lives new next (listed_each true begun (map (shape old) (take (i + 1) pieces)))
  piece_put between run living there so_far joins by_first by =
      piece_more run living there so_far (subst (λ (s : Shape). Lives new next s) (listed_as between first (shape mid list) (shape mid (get_or pieces i d)) by) joins) by_first
