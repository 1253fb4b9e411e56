-- The own qualifiers of a name, which wait: what is left where they do, and that the whole is the same afterwards.
use Rattle.std.proofs.Common.{◌≡◌, ℕ, ◌+◌, Bool, true, false, List, [], ◌++◌, length, drop, refl, ap, ap₂, ◌∙◌, sym, codes, if◌then◌else◌, arith, Option, Some, None}
use Rattle.std.proofs.lemmas.List.{append_assoc, length-append}
use Rattle.std.proofs.lemmas.Bool.Decides.{nat_tests}
use Rattle.demangle_text.specs.declared.pieces.Place.TheVariants.{Start}
use Rattle.demangle_text.specs.Shape.{Shape, Plain, text, flattened, inserted, appended, moved}
use Rattle.demangle_quals.specs.declared.quals.Quals.{Quals}
use Rattle.demangle_quals.specs.Quals.{no_quals, has_quals, words_text, reference_text}
use Rattle.demangle_edit.specs.Built.{default_arg_opened}
use Rattle.demangle_edit.specs.Names.{qualified, default_arg_shape, with_name_qualifiers}
use Rattle.itanium_syntax.specs.declared.context.Context.{Context}
use Rattle.itanium_syntax.specs.Names.{name_case}
use Rattle.itanium_syntax.specs.Encodings.{return_case}
use Rattle.itanium_reader.specs.Parser.{shows_words}
use Rattle.itanium_grammar.specs.Tree.{Tree, shape_of, bare_shape, own_quals, local_in, nested_of, string_literal_of, default_argument_of}
use Rattle.itanium_grammar.specs.Grammar.{Position, Cost, TaggedAs, OrdinaryAs, UnqualifiedAs, Unqualified, UnscopedAs}
use Rattle.itanium_grammar.specs.Grammar.{AttachedAs, Name, NameAs, EntityAs, no_tag, next_tag, ordinary_source}
use Rattle.itanium_grammar.specs.Grammar.{ordinary_unnamed_type, ordinary_lambda, ordinary_conversion, ordinary_literal_operator}
use Rattle.itanium_grammar.specs.Grammar.{ordinary_operator, constructor_unqualified, destructor_unqualified}
use Rattle.itanium_grammar.specs.Grammar.{ordinary_unqualified, unqualified, std_name, substitution_name, plain_name}
use Rattle.itanium_grammar.specs.Grammar.{none_attached, args_attached, name, nested_name, local_name, unscoped_name}
use Rattle.itanium_grammar.specs.Grammar.{nested, local, string_literal_entity, default_argument_entity, name_entity}
use Rattle.itanium_grammar.specs.Cases.{NameCase, NestedName, LocalName, UnscopedName, TagCase, OrdinaryCase, UnqualifiedCase, UnscopedCase, AttachedCase, EntityCase}

-- a name without own qualifiers
pub record HasNoOwn (t : Tree) : Type 0 where
  pub quals : own_quals t ≡ no_quals
  pub bare : bare_shape t ≡ shape_of t

tagged_none : {case : TagCase} {t u : Tree} {p q : Position} → TaggedAs case t p u q → HasNoOwn t → HasNoOwn u
unfolding shape_of
tagged_none no_tag none = none
tagged_none (next_tag found tags) none = tagged_none tags (record { quals = refl; bare = refl })

ordinary_none : {case : OrdinaryCase} {x : Context} {p q : Position} {t : Tree} {c : Cost} → OrdinaryAs case x p t q c → HasNoOwn t
unfolding shape_of
ordinary_none (ordinary_source found) = record { quals = refl; bare = refl }
ordinary_none (ordinary_unnamed_type found) = record { quals = refl; bare = refl }
ordinary_none (ordinary_lambda a found) = record { quals = refl; bare = refl }
ordinary_none (ordinary_conversion a) = record { quals = refl; bare = refl }
ordinary_none (ordinary_literal_operator found) = record { quals = refl; bare = refl }
ordinary_none (ordinary_operator found) = record { quals = refl; bare = refl }

unqualified_as_none : {case : UnqualifiedCase} {x : Context} {parent : Option Tree} {p q : Position} {t : Tree} {c : Cost} → UnqualifiedAs case x parent p t q c → HasNoOwn t
unfolding shape_of
unqualified_as_none (constructor_unqualified tags) = tagged_none tags (record { quals = refl; bare = refl })
unqualified_as_none (destructor_unqualified tags) = tagged_none tags (record { quals = refl; bare = refl })
unqualified_as_none (ordinary_unqualified {parent = None} a tags) = tagged_none tags (ordinary_none a)
unqualified_as_none (ordinary_unqualified {parent = Some parent} a tags) = record { quals = refl; bare = refl }

unqualified_none : {x : Context} {parent : Option Tree} {p q : Position} {t : Tree} {c : Cost} → Unqualified x parent p t q c → HasNoOwn t
unqualified_none (unqualified a) = unqualified_as_none a

attached_none : {case : AttachedCase} {x : Context} {t u : Tree} {p q : Position} {c : Cost} → AttachedAs case x t p u q c → HasNoOwn t → HasNoOwn u
unfolding shape_of
attached_none none_attached none = none
attached_none (args_attached a) none = record { quals = refl; bare = refl }

pub unscoped_none : {case : UnscopedCase} {x : Context} {p q : Position} {t : Tree} {c : Cost} → UnscopedAs case x p t q c → HasNoOwn t
unfolding shape_of
unscoped_none (std_name a b) = attached_none b (unqualified_none a)
unscoped_none (substitution_name a case b) = record { quals = refl; bare = refl }
unscoped_none (plain_name a b) = attached_none b (unqualified_none a)

pub bare-nested_of : (t : Tree) (quals : Quals) (shown : Bool) → bare_shape (nested_of t quals shown) ≡ shape_of t
unfolding shape_of
bare-nested_of t quals shown = refl

pub bare-string_literal_of : (encoding : Tree)
    → ◌≡◌ {A = Shape × Quals} (appended (codes "::string literal") (shape_of encoding), no_quals)
    (bare_shape (string_literal_of encoding), own_quals (string_literal_of encoding))
unfolding shape_of
bare-string_literal_of encoding = refl

pub bare-default_argument_of : (encoding : Tree) (number : ℕ) (entity : Tree)
    → bare_shape (default_argument_of encoding number entity) ≡ default_arg_shape (shape_of encoding) number
    (bare_shape entity)
unfolding shape_of
bare-default_argument_of encoding number entity = refl

pub bare-local_in : (encoding entity : Tree) → bare_shape (local_in encoding entity) ≡ qualified (shape_of encoding) (bare_shape entity)
unfolding shape_of
bare-local_in encoding entity = refl

-- an entity as a plain text, with a text in front
abbrev put_in_front : List ℕ → Shape → Shape
put_in_front front entity = inserted Start front (flattened entity)

-- the qualifiers of an entity before or after a text is put in front
moved_both : (n at k : ℕ) (own : ℕ × ℕ) → moved 0 n (moved at k own) ≡ moved (n + at) k (moved 0 n own)
moved_both n at k (from, to) = grind (arith, nat_tests)

entity_words : (front : List ℕ) (entity : Shape) (words : List ℕ) → put_in_front front (appended words (flattened entity)) ≡ appended words (flattened (put_in_front front entity))
entity_words front entity words =
    λ j. record {
      form = Plain (sym (append_assoc front (text entity) words) j);
      own = (moved_both (length front) (length (text entity)) (length words) entity.own
          ∙ ap (λ n. moved n (length words) (moved 0 (length front) entity.own))
          (sym (length-append front (text entity)))) j;
      templ = entity.templ;
      ctor = entity.ctor;
    }

entity_quals : (front : List ℕ) (entity : Shape) (quals : Quals)
    → put_in_front front (with_name_qualifiers entity quals true) ≡ with_name_qualifiers (put_in_front front entity) quals true
entity_quals front entity quals = go (has_quals quals)
  where
    go : (b : Bool) → put_in_front front (if b then appended (words_text quals ++ reference_text quals.reference) (flattened entity) else entity)
        ≡ (if b then appended (words_text quals ++ reference_text quals.reference) (flattened (put_in_front front entity)) else put_in_front front entity)
    go true = entity_words front entity (words_text quals ++ reference_text quals.reference)
    go false = refl

shown_inside : (case : NameCase) → shows_words case true ≡ true
shown_inside NestedName = refl
shown_inside LocalName = refl
shown_inside UnscopedName = refl

-- a name's own qualifiers, applied to what is left without them, give the whole
mutual
  unfolding shape_of

  pub whole_name : {bare : Bool} {x : Context} {p q : Position} {t : Tree} {c : Cost} → Name bare x p t q c
      → with_name_qualifiers (bare_shape t) (own_quals t) (shows_words (name_case p.rest) x.words_shown) ≡ shape_of t
  whole_name (name a) = whole_name_as a

  whole_name_as : {case : NameCase} {bare : Bool} {x : Context} {p q : Position} {t : Tree} {c : Cost} → NameAs case bare x p t q c
      → with_name_qualifiers (bare_shape t) (own_quals t) (shows_words case x.words_shown) ≡ shape_of t
  whole_name_as (nested_name (nested a b)) = refl
  whole_name_as (local_name (local a b)) = whole_entity b refl
  whole_name_as (unscoped_name a) = let none = unscoped_none a in rw (none.quals, none.bare) refl

  whole_entity : {case : EntityCase} {bare : Bool} {x : Context} {t u : Tree} {p q : Position} {c : Cost} → EntityAs case bare x t p u q c → x.words_shown ≡ true
      → with_name_qualifiers (bare_shape u) (own_quals u) true ≡ shape_of u
  whole_entity string_literal_entity on = refl
  whole_entity (default_argument_entity {t = t} {u = u} {number = k} {rest = r} found a) on =
      sym (entity_quals (text (default_arg_opened (shape_of t) k)) (bare_shape u) (own_quals u))
      ∙ ap (λ (b : Bool). default_arg_shape (shape_of t) k (with_name_qualifiers (bare_shape u) (own_quals u) b)) (sym (ap (shows_words (name_case r)) on ∙ shown_inside (name_case r)))
      ∙ ap (default_arg_shape (shape_of t) k) (whole_name a)
  whole_entity (name_entity {p = p} {t = t} {u = u} a) on =
      sym (entity_quals (text (shape_of t) ++ codes "::") (bare_shape u) (own_quals u))
      ∙ ap (λ (b : Bool). qualified (shape_of t) (with_name_qualifiers (bare_shape u) (own_quals u) b))
      (sym (ap (shows_words (name_case (drop 1 p.rest))) on ∙ shown_inside (name_case (drop 1 p.rest))))
      ∙ ap (qualified (shape_of t)) (whole_name a)

-- qualifiers change no flag
quals_flags : (bare : Shape) (quals : Quals) (shown : Bool)
    → ((with_name_qualifiers bare quals shown).templ ≡ bare.templ) × ((with_name_qualifiers bare quals shown).ctor ≡ bare.ctor)
quals_flags bare quals shown = go (has_quals quals)
  where
    go : (b : Bool) → ((if b then appended ((if shown then words_text quals else []) ++ reference_text quals.reference) (flattened bare) else bare).templ ≡ bare.templ)
        × ((if b then appended ((if shown then words_text quals else []) ++ reference_text quals.reference) (flattened bare) else bare).ctor ≡ bare.ctor)
    go true = (refl, refl)
    go false = (refl, refl)

-- so the same return type follows a name with and without its own qualifiers
pub same_return : {bare : Bool} {x : Context} {p q : Position} {t : Tree} {c : Cost} → Name bare x p t q c → (bytes : List ℕ)
    → return_case (bare_shape t).templ (bare_shape t).ctor bytes ≡ return_case (shape_of t).templ (shape_of t).ctor bytes
same_return {x = x} {p = p} {t = t} a bytes =
    let flags = quals_flags (bare_shape t) (own_quals t) (shows_words (name_case p.rest) x.words_shown) in
    ap₂ (λ templ ctor. return_case templ ctor bytes)
    (sym flags.0 ∙ ap (λ (s : Shape). s.templ) (whole_name a))
    (sym flags.1 ∙ ap (λ (s : Shape). s.ctor) (whole_name a))
