-- Texts and their lengths.
use Rattle.std.proofs.Common.{◌≡◌, ◌<◌, ◌≤◌, ℕ, ◌+◌, ◌-◌, true, false, List, [], ◌∷◌, ◌++◌}
use Rattle.std.proofs.Common.{length, refl, sym, ◌∙◌, ap, append_assoc, arith}
use Rattle.std.proofs.Common.{codes, decimal}
use Rattle.std.specs.Prelude.{nat_lt}
use Rattle.std.proofs.lemmas.Bool.Decides.{nat_tests}
use Rattle.std.proofs.lemmas.List.{append-nil, length-append}
use Rattle.demangle_text.specs.declared.pieces.Place.TheVariants.{End}
use Rattle.demangle_text.specs.Shape.{Shape, Plain, plain_shape, text, text_len, moved, appended, whole_shape}
use Rattle.demangle_text.specs.Calls.{named}
use Rattle.demangle_edit.specs.Names.{angle_gap, qualified, tagged}
use Rattle.demangle_edit.specs.Built.{arguments_opened}
use Rattle.demangle_edit.proofs.Insertions.{inserted_twice, inserted_thrice}
use Rattle.itanium_syntax.specs.declared.offsets.Signed.{Signed}
use Rattle.itanium_syntax.specs.declared.offsets.CallOffset.TheVariants as Offset
use Rattle.itanium_grammar.specs.Answer.{max_text}
use Rattle.itanium_reader.specs.Parser.{is_too_wide}
use Rattle.itanium_grammar.specs.Tree.{offset_sign, offset_text, worded_shape}

-- a range moves in front of a place as it does after it
moved_in : (front len more : ℕ) (own : ℕ × ℕ) → moved (front + len) more (moved 0 front own) ≡ moved 0 front (moved len more own)
moved_in front len more (from, to) = grind (arith, nat_tests)

-- a tag after a name that is in a parent is a tag of the name
pub tagged_in : (parent name : Shape) (tag : List ℕ) → tagged (qualified parent name) tag ≡ qualified parent (tagged name tag)
tagged_in parent name tag = λ j. record {
  form = Plain (append_assoc front (text name) bytes j);
  own = (ap (λ n. moved n (length bytes) (moved 0 (length front) name.own)) (length-append front (text name))
      ∙ moved_in (length front) (text_len name) (length bytes) name.own) j;
  templ = name.templ;
  ctor = name.ctor;
}
  where
    front : List ℕ
    front = text parent ++ codes "::"

    bytes : List ℕ
    bytes = codes "[abi:" ++ (tag ++ codes "]")

-- the limit
pub max_text_is : max_text ≡ 1048576
unfolding max_text
max_text_is = refl

-- a length that is within the limit, and one that isn't
pub not_longer : {n : ℕ} → n ≤ max_text → nat_lt max_text n ≡ false
not_longer short = grind (arith, nat_tests)

pub longer : {n : ℕ} → max_text < n → nat_lt max_text n ≡ true
longer long = grind (arith, nat_tests)

pub not_wide : (t : Shape) → text_len t ≤ max_text → is_too_wide t ≡ false
not_wide t short = not_longer short

pub wide_by : (t : Shape) → max_text < text_len t → is_too_wide t ≡ true
wide_by t long = longer long

-- words, a text after them, and the words that close it
words_joined : (words t close : List ℕ) → plain_shape ((words ++ t) ++ close) ≡ plain_shape (words ++ (t ++ (close ++ [])))
words_joined words t close = ap plain_shape (append_assoc words t close ∙ ap (λ (c : List ℕ). words ++ (t ++ c)) (sym (append-nil close)))

-- plain words, what stands after them and the words that close it
pub words_taken : (words t : Shape) (after close : List ℕ) → words ≡ plain_shape (text words) → after ≡ text t
    → whole_shape (appended close (appended after words)) ≡ worded_shape (text words) t close
words_taken words t after close flat same =
    ap (λ (s : Shape). whole_shape (appended close (appended after s))) flat ∙ ap (λ (v : List ℕ). plain_shape ((text words ++ v) ++ close)) same
    ∙ words_joined (text words) (text t) close

-- a number with its sign, and the bytes after it
regrouped : (sign digits close after : List ℕ) → (sign ++ digits) ++ (close ++ after) ≡ (sign ++ (digits ++ close)) ++ after
regrouped sign digits close after =
    append_assoc sign digits (close ++ after) ∙ ap (λ (rest : List ℕ). sign ++ rest) (sym (append_assoc digits close after))
    ∙ sym (append_assoc sign (digits ++ close) after)

-- the parts of an offset, one after another
pub plain_printed : (n : Signed) (s : Shape) → appended (codes ")}, ") (appended (codes "{offset(" ++ (offset_sign n ++ decimal n.magnitude)) s)
    ≡ appended (offset_text (Offset.Plain n) ++ codes ", ") s
plain_printed n s =
    inserted_twice End (codes "{offset(" ++ (offset_sign n ++ decimal n.magnitude)) (codes ")}, ") s (λ e. cc) tt
    ∙ ap (λ (rest : List ℕ). appended (codes "{offset(" ++ rest) s) (regrouped (offset_sign n) (decimal n.magnitude) (codes ")}") (codes ", "))

pub virtual_printed : (n m : Signed) (s : Shape)
    → appended (codes ")}, ") (appended (codes ", " ++ (offset_sign m ++ decimal m.magnitude)) (appended (codes "{virtual offset(" ++ (offset_sign n ++ decimal n.magnitude)) s))
    ≡ appended (offset_text (Offset.Virtual n m) ++ codes ", ") s
virtual_printed n m s =
    let second = codes ", " ++ (offset_sign m ++ (decimal m.magnitude ++ codes ")}")) in
    let inner = regrouped (offset_sign m) (decimal m.magnitude) (codes ")}") (codes ", ") in
    inserted_thrice End (codes "{virtual offset(" ++ (offset_sign n ++ decimal n.magnitude)) (codes ", " ++ (offset_sign m ++ decimal m.magnitude)) (codes ")}, ") s (λ e. cc) tt
    ∙ ap (λ (rest : List ℕ). appended (codes "{virtual offset(" ++ rest) s)
    (ap (λ (rest : List ℕ). (offset_sign n ++ decimal n.magnitude) ++ (codes ", " ++ rest)) inner ∙ regrouped (offset_sign n) (decimal n.magnitude) second (codes ", "))

-- bytes, a sign and digits, one after another
pub signed_printed : (bytes sign digits : List ℕ) (s : Shape) → appended digits (appended sign (appended bytes s)) ≡ appended (bytes ++ (sign ++ digits)) s
signed_printed bytes sign digits s = inserted_thrice End bytes sign digits s (λ e. cc) tt

-- how many bytes stand in front of a list after a name
abbrev pub front_len : Shape → ℕ
front_len name = text_len name + length (angle_gap (text name))

-- the front of a list that has begun
pub begun_front : (name found : Shape) {len : ℕ} → found ≡ arguments_opened name → len ≡ text_len found → len - 1 ≡ front_len name
begun_front name found built long =
    let gap = angle_gap (text name) in
    let all : text_len found ≡ length (text name ++ (gap ++ (60 ∷ []))) = ap text_len built in
    omega (arith, long, all, length-append (text name) (gap ++ (60 ∷ [])), length-append gap (60 ∷ []))

-- a name after its parent and `::` is the name in the parent
pub named_is : (s : Shape) (t : List ℕ) → named (codes "::") t s ≡ qualified s (plain_shape t)
named_is s t =
    let before = text s ++ codes "::" in
    let own : (length before, length (before ++ t)) ≡ moved 0 (length before) (0, length t) = grind (arith, nat_tests, length-append before t) in
    λ j. record { form = Plain (before ++ t); own = own j; templ = false; ctor = false }
