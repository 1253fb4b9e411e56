-- Source names that are read together with their scope.
use Rattle.std.proofs.Common.{ℕ, ◌≡◌, List, [], ◌∷◌, refl, arith, Option, Some, None, true, false, Bool}
use Rattle.std.proofs.lemmas.Grind.{common_steps}
use Rattle.std.specs.Prelude.{◌||◌, codes}
use Rattle.abi_scalars.specs.Bytes.{begins}
use Rattle.abi_scalars.specs.Texts.{identifier, begins_source}
use Rattle.abi_scalars.specs.Scalars.{source_text}
use Rattle.cxx_tree.specs.Tree.{Tree, named}
use Rattle.cxx_tree.specs.Measure.{measure}
use Rattle.cxx_tree.proofs.InScope.{name-limit}
use Rattle.cxx_grammar.specs.declared.cases.BaseCase.TheVariants as base
use Rattle.cxx_grammar.specs.declared.cases.ComponentCase.TheVariants as component
use Rattle.cxx_grammar.specs.State.{State, Info, LearnedName}
use Rattle.cxx_grammar.specs.Parses.{Parses, ◌>>=◌, and_then, pure, with_rest, past_word_if}
use Rattle.cxx_grammar.specs.Cases.{case_of_component, case_of_base}
use Rattle.cxx_grammar.specs.Leaves.{parse_abi_tag, parse_abi_tags, is_tags_end}
use Rattle.cxx_grammar.specs.Modules.{parse_subnames, next_subname, is_subnames_end}
use Rattle.cxx_grammar.specs.Names.{Place, parse_friend, parse_front, parse_unqualified_name, part_as, base_as, make_in_scope}
use Rattle.cxx_grammar.specs.Productions.{Productions}
use Rattle.cxx_reader.specs.Sources.{parse_source_at}
use Rattle.cxx_reader.proofs.Turns.{steps_start, steps_end}

no_mark : (s : State) → begins_source s.rest ≡ true → past_word_if (codes "L") s ≡ Some (false, s)
unfolding past_word_if
no_mark s e = go s.rest e
  where
    go : (bytes : List ℕ) → begins_source bytes ≡ true → past_word_if (codes "L") (with_rest bytes s) ≡ Some (false, with_rest bytes s)
    go [] f = absurd (let g = f in cc)
    go (b ∷ bytes) f = grind (arith, common_steps)

no_f : (s : State) → begins_source s.rest ≡ true → past_word_if (codes "F") s ≡ Some (false, s)
unfolding past_word_if
no_f s e = go s.rest e
  where
    go : (bytes : List ℕ) → begins_source bytes ≡ true → past_word_if (codes "F") (with_rest bytes s) ≡ Some (false, with_rest bytes s)
    go [] f = absurd (let g = f in cc)
    go (b ∷ bytes) f = grind (arith, common_steps)

no_friend : (scope : Option Tree) (s : State) → begins_source s.rest ≡ true → parse_friend scope s ≡ Some (false, s)
no_friend None s e = refl
no_friend (Some scope) s e = no_f s e

no_subname : (bytes : List ℕ) → begins_source bytes ≡ true → is_subnames_end bytes ≡ true
no_subname [] e = refl
no_subname (b ∷ bytes) e = grind (arith, common_steps)

no_module : (s : State) → begins_source s.rest ≡ true → parse_subnames None s ≡ Some (None, s)
unfolding parse_subnames
no_module s e = steps_end (steps_start is_subnames_end next_subname None s) (no_subname s.rest e)

unqualified : (bytes : List ℕ) → begins_source bytes ≡ true → case_of_component bytes ≡ component.Unqualified
unqualified [] e = refl
unqualified (b ∷ bytes) e = grind (arith, common_steps)

source : (bytes : List ℕ) → begins_source bytes ≡ true → case_of_base bytes ≡ base.Source
source bytes e = rw e refl

abbrev at : Option Tree → Bool → Bool → Info → Place
at scope is_friend is_nested info = record { scope = scope; owner = None; is_friend = is_friend; is_nested = is_nested; info = info }

-- in front of a source name in no module
front : (scope : Option Tree) (is_friend is_nested : Bool) (info : Info) (s : State) → begins_source s.rest ≡ true
    → parse_front (at scope is_friend is_nested info) s ≡ Some (at scope false is_nested info, s)
unfolding parse_front
front scope is_friend is_nested info s e = rw (no_module s e, no_friend scope s e, no_mark s e) refl

or_false : (b : Bool) → (b || false) ≡ b
or_false true = refl
or_false false = refl

-- behind a name without tags
no_tags : (t : Tree) (s : State) → begins (codes "B") s.rest ≡ false → parse_abi_tags t s ≡ Some (t, s)
unfolding parse_abi_tags
no_tags t s e = steps_end (steps_start is_tags_end parse_abi_tag t s) (rw e refl)

source_at : (p : Productions) (scope : Option Tree) (is_friend is_nested : Bool) (info : Info) (s : State) → begins_source s.rest ≡ true
    → (o : Option (List ℕ × List ℕ)) → identifier s.rest ≡ o → parse_unqualified_name p (at scope is_friend is_nested info) s ≡ parse_source_at (at scope is_friend is_nested info) s
unfolding parse_unqualified_name part_as base_as
source_at p scope is_friend is_nested info s e None f = rw (front scope is_friend is_nested info s e, unqualified s.rest e, source s.rest e, f) refl
source_at p scope is_friend is_nested info s e (Some n) f = go (measure (named (source_text n.0))).fits (begins (codes "B") n.1) scope refl refl
  where
    after : State
    after = with_rest n.1 s

    named_by : Tree → Parses LearnedName
    named_by t = pure (record { tree = t; info = info })

    tagged_same : (scope : Option Tree) (o : Option (Tree × State))
        → and_then o (λ tagged. make_in_scope false scope tagged >>= named_by) ≡ and_then (and_then o (λ tagged. make_in_scope false scope tagged)) named_by
    tagged_same scope None = refl
    tagged_same scope (Some t) = refl

    go : (fits is_tagged : Bool) (scope : Option Tree) → (measure (named (source_text n.0))).fits ≡ fits → begins (codes "B") n.1 ≡ is_tagged
        → parse_unqualified_name p (at scope is_friend is_nested info) s ≡ parse_source_at (at scope is_friend is_nested info) s
    go true true scope g h = rw (front scope is_friend is_nested info s e, unqualified s.rest e, source s.rest e, f, g, h, or_false info.no_return) (tagged_same scope (parse_abi_tags (named (source_text n.0)) after))
    go false true scope g h = rw (front scope is_friend is_nested info s e, unqualified s.rest e, source s.rest e, f, g, h) refl
    go true false None g h = rw (front None is_friend is_nested info s e, unqualified s.rest e, source s.rest e, f, g, h, no_tags (named (source_text n.0)) after h, or_false info.no_return) refl
    go true false (Some scope) g h = rw (front (Some scope) is_friend is_nested info s e, unqualified s.rest e, source s.rest e, f, g, h, no_tags (named (source_text n.0)) after h, or_false info.no_return) refl
    go false false None g h = rw (front None is_friend is_nested info s e, unqualified s.rest e, source s.rest e, f, g, h) refl
    go false false (Some scope) g h = rw (front (Some scope) is_friend is_nested info s e, unqualified s.rest e, source s.rest e, f, g, h, name-limit scope (named (source_text n.0)) g) refl

unowned : (p : Productions) (scope owner : Option Tree) (is_friend is_nested : Bool) (info : Info) (s : State) → owner ≡ None → begins_source s.rest ≡ true
    → let place : Place = record { scope = scope; owner = owner; is_friend = is_friend; is_nested = is_nested; info = info } in parse_unqualified_name p place s ≡ parse_source_at place s
unowned p scope None is_friend is_nested info s o e = source_at p scope is_friend is_nested info s e (identifier s.rest) refl
unowned p scope (Some owner) is_friend is_nested info s o e = absurd (let g = o in cc)

-- an <unqualified-name> that is a source name in no module
pub source_named : (p : Productions) (place : Place) (s : State) → place.owner ≡ None → begins_source s.rest ≡ true → parse_unqualified_name p place s ≡ parse_source_at place s
source_named p place s o e = unowned p place.scope place.owner place.is_friend place.is_nested place.info s o e
