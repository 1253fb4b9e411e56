-- Texts that are put together, and then cut where a declarator's parts meet.
use Rattle.std.proofs.Common.{◌≡◌, ℕ, ◌+◌, Bool, true, false, Some, None, List, [], ◌++◌, length, take, drop, map, codes, sym, ap, ◌∙◌, refl, arith, append_assoc, is_some, if◌then◌else◌}
use Rattle.std.proofs.Math.Seq.{take-append_seam, drop-append_seam}
use Rattle.std.proofs.lemmas.List.{length-append}
use Rattle.demangle_text.specs.declared.pieces.Kind.TheVariants.{Function}
use Rattle.demangle_text.specs.declared.pieces.Place.TheVariants.{End}
use Rattle.demangle_text.specs.Shape.{Form, Plain, Declared, Shape, form_text, form_with, text, text_len, plain_shape, appended, declared_at, is_plain}
use Rattle.demangle_text.specs.Calls.{joined, kind_of}
use Rattle.demangle_quals.specs.declared.quals.Quals.{Quals}
use Rattle.demangle_edit.specs.Lists.{listed, params_text}
use Rattle.demangle_quals.specs.Quals.{words_text, reference_text, quals_text}
use Rattle.demangle_edit.specs.Types.{function_shape}
use Rattle.demangle_edit.specs.Built.{listed_each, function_opened, function_closed}
use Rattle.demangle_edit.proofs.Built.{each_listed}
use Rattle.demangle_edit.specs.Calls.{function_step}

pub take_front : (t front back : List ℕ) (n : ℕ) → t ≡ front ++ back → n ≡ length front → take n t ≡ front
take_front t front back n e h = rw (e, h) (take-append_seam front back)

pub drop_front : (t front back : List ℕ) (n : ℕ) → t ≡ front ++ back → n ≡ length front → drop n t ≡ back
drop_front t front back n e h = rw (e, h) (drop-append_seam front back)

-- a plain text with bytes after it
pub plain_appended : (s t : Shape) (v bytes : List ℕ) → s.form ≡ Plain v → t ≡ appended bytes s → t.form ≡ Plain (v ++ bytes)
plain_appended s t v bytes e by = ap (λ (x : Shape). x.form) by ∙ ap (form_with End bytes) e

regrouped : (ret list words reference : List ℕ)
    → ret ++ codes " (" ++ list ++ codes ")" ++ words ++ reference ≡ (ret ++ codes " ") ++ (codes "(" ++ (list ++ (codes ")" ++ (words ++ reference))))
regrouped ret list words reference = simp append_assoc

-- the function type, put together step by step
pub function_shape_is : (ret list begun closed worded whole declared : Shape) (params : List Shape) (quals : Quals) (words reference : List ℕ) (n : ℕ)
    → list ≡ plain_shape (listed (map text params)) → begun ≡ joined ret (codes " (") list → closed ≡ appended (codes ")") begun
    → worded ≡ appended words closed → whole ≡ appended reference worded → declared ≡ declared_at Function (n + 1) whole
    → words ≡ words_text quals → reference ≡ reference_text quals.reference → n ≡ text_len ret
    → declared ≡ function_shape ret params quals
function_shape_is ret list begun closed worded whole declared params quals words reference n by_list by_begun by_closed by_worded by_whole by_declared by_words by_reference by_n =
    let r = text ret in
    let front = r ++ codes " " in
    let f1 : begun.form ≡ Plain (r ++ codes " (" ++ listed (map text params)) =
    ap (λ (s : Shape). s.form) by_begun ∙ ap (λ (s : Shape). Plain (r ++ codes " (" ++ text s)) by_list in
    let f2 = plain_appended _ _ _ _ f1 by_closed in
    let f3 = plain_appended _ _ _ _ f2 by_worded in
    let f4 = plain_appended _ _ _ _ f3 by_whole in
    let text_is : text whole ≡ front ++ params_text params quals =
    ap form_text f4 ∙ regrouped r (listed (map text params)) words reference
    ∙ ap (λ (w : List ℕ). front ++ (codes "(" ++ (listed (map text params) ++ (codes ")" ++ (w ++ reference))))) by_words
    ∙ ap (λ (w : List ℕ). front ++ (codes "(" ++ (listed (map text params) ++ (codes ")" ++ (words_text quals ++ w))))) by_reference in
    let n_is : n + 1 ≡ length front = omega (arith, length-append r (codes " ")) in
    let before_is = take_front _ _ _ _ text_is n_is in
    let after_is = drop_front _ _ _ _ text_is n_is in
    let templ_is : whole.templ ≡ false =
    ap (λ (s : Shape). s.templ) by_whole ∙ ap (λ (s : Shape). s.templ) by_worded ∙ ap (λ (s : Shape). s.templ) by_closed ∙ ap (λ (s : Shape). s.templ) by_begun in
    let ctor_is : whole.ctor ≡ false =
    ap (λ (s : Shape). s.ctor) by_whole ∙ ap (λ (s : Shape). s.ctor) by_worded ∙ ap (λ (s : Shape). s.ctor) by_closed ∙ ap (λ (s : Shape). s.ctor) by_begun in
    by_declared ∙ (λ j. record {
      form = Declared Function (before_is j) None (after_is j);
      own = (0, length (before_is j ++ ([] ++ after_is j)));
      templ = templ_is j;
      ctor = ctor_is j;
    })

-- what is no declarator may be returned by a function
pub function_found : (ret found : Shape) (params : List Shape) (quals : Quals) → is_some (kind_of ret.form) ≡ false
    → found ≡ function_shape ret params quals → function_step ret params quals ≡ Some found
function_found ret found params quals flat e =
    ap (λ (b : Bool). if b then Some (function_shape ret params quals) else None) (plain_form ret.form flat) ∙ ap Some (sym e)
  where
    plain_form : (f : Form) → is_some (kind_of f) ≡ false → is_plain f ≡ true
    plain_form (Plain t) h = refl
    plain_form (Declared k before group after) h = cc

-- the texts of a function type that is built as it is read
opened_regrouped : (ret list back : List ℕ) → ((ret ++ codes " (") ++ list) ++ back ≡ (ret ++ codes " ") ++ (codes "(" ++ (list ++ back))
opened_regrouped ret list back = simp append_assoc

-- a function type, one parameter after another
pub function_built : (ret : Shape) (params : List Shape) (quals : Quals)
    → function_closed (text_len ret) quals (listed_each true (function_opened ret) params) ≡ function_shape ret params quals
function_built ret params quals =
    let r = text ret in
    let list = listed (map text params) in
    let whole = ((r ++ codes " (") ++ list) ++ (codes ")" ++ quals_text quals) in
    let text_is : whole ≡ (r ++ codes " ") ++ params_text params quals = opened_regrouped r list (codes ")" ++ quals_text quals) in
    let front_is : text_len ret + 1 ≡ length (r ++ codes " ") = omega (arith, length-append r (codes " ")) in
    let before_is = take_front _ _ _ _ text_is front_is in
    let after_is = drop_front _ _ _ _ text_is front_is in
    ap (function_closed (text_len ret) quals) (each_listed (function_opened ret) params tt) ∙ (λ j. record {
      form = Declared Function (before_is j) None (after_is j);
      own = (0, length (before_is j ++ ([] ++ after_is j)));
      templ = false;
      ctor = false;
    })
