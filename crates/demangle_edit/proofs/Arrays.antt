-- Arrays, put together step by step.
use Rattle.std.proofs.Common.{◌≡◌, ℕ, ◌+◌, ◌-◌, min, Bool, true, false, if◌then◌else◌, Option, Some, None, List, [], ◌++◌, length, take, drop, sym, ap, ◌∙◌, refl, arith, append_assoc, is_some}
use Rattle.std.proofs.lemmas.List.{length-append, length-take, take-append-drop, append-nil}
use Rattle.demangle_text.specs.declared.pieces.Kind.TheVariants.{Array, Function}
use Rattle.demangle_text.specs.declared.pieces.Place.TheVariants.{Suffix}
use Rattle.demangle_text.specs.Shape.{Form, Plain, Declared, Shape, form_text, inserted, declared_at, flattened, text_len, moved}
use Rattle.demangle_text.specs.Calls.{kind_of, group_of, after_of}
use Rattle.demangle_edit.specs.Types.{dimension_text, array_shape, may_be_element}
use Rattle.demangle_edit.specs.Calls.{array_step}
use Rattle.demangle_edit.proofs.Cuts.{take_front, drop_front}

-- an array without group that gets an outer dimension
module _ (elem flat cut longer whole : Shape) (dimension : Option ℕ) (at len past : ℕ) where
  abbrev outer : Form → Shape
  outer f = flattened (inserted Suffix (dimension_text dimension) (declared_at Array past (flattened (record elem { form = f }))))

  outer_is : flat ≡ flattened elem → cut ≡ declared_at Array past flat → longer ≡ inserted Suffix (dimension_text dimension) cut
      → whole ≡ flattened longer → whole ≡ outer elem.form
  outer_is by_flat by_cut by_longer by_whole =
      by_whole ∙ ap flattened (by_longer ∙ ap (inserted Suffix (dimension_text dimension)) (by_cut ∙ ap (declared_at Array past) by_flat))

  -- the text before the new dimension, and the text after it
  module _ (before after : List ℕ) (by_at : Some at ≡ Some (length (before ++ []))) (by_len : len ≡ length (before ++ after)) (by_past : past ≡ at + min (len - at) 1) where
    at_is : at ≡ length before
    at_is =
        let all : at ≡ length (before ++ []) = cc in
        all ∙ ap length (append-nil before)

    parts : before ++ after ≡ (before ++ take 1 after) ++ drop 1 after
    parts =
        ap (λ (v : List ℕ). before ++ v) (sym (take-append-drop 1 after)) ∙ sym (append_assoc before (take 1 after) (drop 1 after))

    past_is : past ≡ length (before ++ take 1 after)
    past_is =
        omega (arith, at_is, length-append before after, length-append before (take 1 after), length-take 1 after)

    first : take past (before ++ after) ≡ before ++ take 1 after
    first = take_front _ _ _ past parts past_is

    text_is : (take past (before ++ after) ++ dimension_text dimension) ++ ([] ++ drop past (before ++ after)) ≡ before ++ (take 1 after ++ (dimension_text dimension ++ drop 1 after))
    text_is =
        ap (λ (v : List ℕ). v ++ dimension_text dimension ++ drop past (before ++ after)) first
        ∙ ap (λ (v : List ℕ). before ++ take 1 after ++ dimension_text dimension ++ v) (drop_front _ _ _ past parts past_is) ∙ simp append_assoc

    array_is : declared_at Array at (outer (Declared Array before None after)) ≡ array_shape dimension (record elem { form = Declared Array before None after })
    array_is =
        λ j. record {
          form = Declared Array (take_front _ before _ at text_is at_is j) None (drop_front _ before _ at text_is at_is j);
          own = moved (length (first j)) (length (dimension_text dimension)) elem.own;
          templ = elem.templ;
          ctor = elem.ctor;
        }

  array_in : (f : Form) → kind_of f ≡ Some Array → is_some (group_of f) ≡ false → Some at ≡ after_of f → len ≡ length (form_text f)
      → past ≡ at + min (len - at) 1 → declared_at Array at (outer f) ≡ array_shape dimension (record elem { form = f })
  array_in (Plain t) k g e l b = cc
  array_in (Declared Function before None after) k g e l b = cc
  array_in (Declared kind before (Some group) after) k g e l b = cc
  array_in (Declared Array before None after) k g e l b = array_is before after e l b

  pub outer_shape : (array : Shape) → kind_of elem.form ≡ Some Array → is_some (group_of elem.form) ≡ false → Some at ≡ after_of elem.form → len ≡ text_len elem
      → past ≡ at + min (len - at) 1 → flat ≡ flattened elem → cut ≡ declared_at Array past flat
      → longer ≡ inserted Suffix (dimension_text dimension) cut → whole ≡ flattened longer → array ≡ declared_at Array at whole → array ≡ array_shape dimension elem
  outer_shape array k g e l b by_flat by_cut by_longer by_whole by_array =
      by_array ∙ ap (declared_at Array at) (outer_is by_flat by_cut by_longer by_whole) ∙ array_in elem.form k g e l b

-- which types have arrays
pub outer_found : (elem found : Shape) (dimension : Option ℕ) → kind_of elem.form ≡ Some Array
    → found ≡ array_shape dimension elem → array_step dimension elem ≡ Some found
outer_found elem found dimension kind e =
    ap (λ (b : Bool). if b then Some (array_shape dimension elem) else None) (may elem.form kind) ∙ ap Some (sym e)
  where
    may : (f : Form) → kind_of f ≡ Some Array → may_be_element f ≡ true
    may (Plain t) h = cc
    may (Declared k before (Some group) after) h = refl
    may (Declared Array before None after) h = refl
    may (Declared Function before None after) h = cc
