-- Substitutions that are written out: both symbols are read as the same.
use Rattle.std.proofs.Common.{ℕ, ◌≡◌, ◌+◌, ◌-◌, ◌<◌, List, [], ◌∷◌, ◌++◌, length, map, refl, sym, ap, subst, ◌∙◌, arith, zero, suc, Option, Some, None, option_map, true, false, Bool, ◌&&◌, if◌then◌else◌, nat_lt, nat_le, nat_eq, length-append, append_assoc, codes, is_some}
use Rattle.std.proofs.lemmas.Grind.{common_steps}
use Rattle.std.proofs.lemmas.Bool.{ne_eqb}
use Rattle.std.proofs.lemmas.List.{map-append}
use Rattle.std.proofs.lemmas.Option.{slice_get-map}
use Rattle.std.specs.Prelude.{◌≢◌, ◌==◌, slice_get}
use mathlib.Core.Bool.{true≢false}
use Rattle.abi_scalars.specs.declared.numerals.Radix.TheVariants.{Base36}
use Rattle.abi_scalars.specs.Bytes.{begins}
use Rattle.abi_scalars.specs.Scalars.{front_digits, source_text, source_name, index_of}
use Rattle.abi_scalars.specs.Texts.{identifier, begins_source}
use Rattle.cxx_tree.specs.declared.kinds.RefQual.TheVariants as refqual
use Rattle.cxx_tree.specs.declared.kinds.Cv.{Cv}
use Rattle.cxx_tree.specs.Tree.{Tree, data_name, named, scoped, pointer, reference, qualified}
use Rattle.cxx_tree.specs.Measure.{measure}
use Rattle.cxx_tree.specs.Stored.{trees_from_list}
use Rattle.cxx_grammar.specs.declared.cases.TypeCase.{TypeCase}
use Rattle.cxx_grammar.specs.declared.cases.TypeCase.TheVariants as type_case
use Rattle.cxx_grammar.specs.declared.cases.NameCase.{NameCase}
use Rattle.cxx_grammar.specs.declared.cases.NameCase.TheVariants as name_case
use Rattle.cxx_grammar.specs.declared.cases.FirstCase.{FirstCase}
use Rattle.cxx_grammar.specs.declared.cases.FirstCase.TheVariants as first
use Rattle.cxx_grammar.specs.declared.cases.BaseCase.TheVariants as base
use Rattle.cxx_grammar.specs.declared.cases.ComponentCase.TheVariants as component
use Rattle.cxx_grammar.specs.State.{State, Invented, start, LearnedName, no_info, no_cv, plain}
use Rattle.cxx_grammar.specs.Parses.{Parses, by, at_level, item_more, and_then, expect, ◌>>=◌, ◌>>◌, pure, past_word_if, skip, make, saved, is_e, repeat_at_most}
use Rattle.cxx_grammar.specs.Words.{builtin_of, std_of}
use Rattle.cxx_grammar.specs.Cases.{is_params_end, case_of_encoding, case_of_type, case_of_name, case_of_first, case_of_component, case_of_base, begins_function, is_encoding_end}
use Rattle.cxx_grammar.specs.Leaves.{parse_builtin, parse_source_name, parse_cv, parse_ref, parse_substitution, parse_abi_tags, is_tags_end, parse_abi_tag}
use Rattle.cxx_grammar.specs.Names.{parse_front, parse_friend, Place, Part, parse_part_end, parse_unqualified_name, part_as, base_as, name_as, parse_in_place, parse_info, parse_first, first_as, parse_components, parse_next, parse_component, make_in_scope}
use Rattle.cxx_grammar.specs.declared.rows.End.TheVariants as end
use Rattle.cxx_grammar.specs.declared.rows.Item.TheVariants as item
use Rattle.cxx_grammar.specs.Rows.{ends, tree_as, parse_params, parse_some_params}
use Rattle.cxx_grammar.specs.Types.{type_as, parse_around}
use Rattle.cxx_tree.specs.Phrases.{function_encoding}
use Rattle.cxx_tree.specs.Bind.{bind}
use Rattle.cxx_grammar.specs.declared.cases.EncodingCase.{EncodingCase}
use Rattle.cxx_grammar.specs.declared.cases.EncodingCase.TheVariants as encoding
use Rattle.cxx_grammar.specs.Bases.{args_of, is_module}
use Rattle.cxx_grammar.specs.Binds.{count_replaced, binding_of, parse_closed, bind_encoding}
use Rattle.cxx_grammar.specs.Encodings.{parse_enable_if, parse_named_encoding, parse_function, parse_signature, encoding_as, level_behind}
use Rattle.cxx_grammar.specs.Modules.{parse_subnames, is_subnames_end, next_subname}
use Rattle.cxx_grammar.specs.Constraints.{parse_constraint}
use Rattle.cxx_grammar.specs.Productions.{Productions, name_tree}
use Rattle.cxx_grammar.specs.Symbol.{Reading, found_of, symbol_as, parse_mangled_name, max_depth, suffix_of, parse_rest, is_dot_or_end, productions, parse_symbol}
use Rattle.cxx_grammar.specs.WrittenOut.{SourceName, SeqId, Letter, Path, outermost, in_saved, inside, Spelling, builtin, class, constant, pointer_to, lvalue, rvalue, substitution, Function, spelled_path, spelled_name, spelled, spelled_each, symbol_of, in_scope, in_candidate, and_save, write_path, write_type, write_next, in_front, write_each, write_params, write_out, is_plain_path, is_plain, are_plain, SubstitutionsCanBeWrittenOut}
use Rattle.cxx_grammar.proofs.Bytes.{source-front, index-front}

both : (a b : Bool) → (a && b) ≡ true → (a ≡ true) × (b ≡ true)
both true true e = (refl, refl)
both true false e = (refl, e)
both false b e = absurd (true≢false (sym e))

-- What a parser reads, if it reads anything.

abbrev none-invented : Invented
none-invented = record { types = 0; values = 0; templates = 0 }

abbrev st : List ℕ → List Tree → ℕ → ℕ → State
st rest saved replaced level = record { rest = rest; saved = saved; replaced = replaced; invented = none-invented; level = level }

abbrev read_if : {A : Type 0} → Bool → A → State → Option (A × State)
read_if ok a s = if ok then Some (a, s) else None

abbrev Only : {A : Type 0} → Option (A × State) → A → State → Type 0
Only o a s = (ok : Bool) × (o ≡ read_if ok a s)

none : {A : Type 0} {o : Option (A × State)} {a : A} {s : State} → o ≡ None → Only o a s
none e = (false, e)

some : {A : Type 0} {o : Option (A × State)} {a : A} {s : State} → o ≡ Some (a, s) → Only o a s
some e = (true, e)

only-then : {A B : Type 0} {o : Option (A × State)} {a : A} {s : State} {b : B} {t : State} (next : A → Parses B)
    → Only o a s → Only (next a s) b t → Only (and_then o next) b t
only-then {o = o} {a = a} {s = s} {b = b} {t = t} next f g = go f.0 f.1
  where
    go : (ok : Bool) → o ≡ read_if ok a s → Only (and_then o next) b t
    go true e = (g.0, rw e g.1)
    go false e = (false, rw e refl)

make-only : (t : Tree) (s : State) → Only (make t s) t s
make-only t s = go (measure t).fits refl
  where
    go : (b : Bool) → (measure t).fits ≡ b → Only (make t s) t s
    go true e = (true, rw e refl)
    go false e = (false, rw e refl)

abbrev saving : Tree → State → State
saving t s = record s { saved = s.saved ++ t ∷ [] }

saved-only : (parser : Parses Tree) (s : State) {t : Tree} {after : State} → Only (parser s) t after → Only (saved parser s) t (saving t after)
saved-only parser s f = only-then _ f (true, refl)

around-only : (around : Tree → Tree) (parser : Parses Tree) (s : State) {t : Tree} {after : State} → Only (parser (skip 1 s)) t after → Only (parse_around 1 around parser s) (around t) after
around-only around parser s {t} {after} f = only-then _ f (make-only (around t) after)

-- First bytes.

-- what isn't a letter of builtin types
not-letter : (b c : ℕ) → is_some (builtin_of (b ∷ [])) ≡ true → is_some (builtin_of (c ∷ [])) ≡ false → b ≢ c
not-letter b c e f g = true≢false (sym e ∙ ap (λ (x : ℕ). is_some (builtin_of (x ∷ []))) g ∙ f)

source-first : (xs : List ℕ) {name : List ℕ} → identifier xs ≡ Some (name, []) → (b : ℕ) × (bs : List ℕ) × (xs ≡ b ∷ bs) × (48 < b) × (b < 58)
unfolding identifier
source-first [] e = absurd cc
source-first (b ∷ bs) {name} e = go (begins_source (b ∷ bs)) refl e
  where
    go : (ok : Bool) → begins_source (b ∷ bs) ≡ ok → (if ok then source_name (b ∷ bs) else None) ≡ Some (name, []) → (c : ℕ) × (cs : List ℕ) × ((b ∷ bs) ≡ c ∷ cs) × (48 < c) × (c < 58)
    go true f e = (b, bs, refl, grind (arith, common_steps), grind (arith, common_steps))
    go false f e = absurd cc

id-first : (xs : List ℕ) {k : ℕ} → index_of Base36 xs ≡ Some (k, []) → (b : ℕ) × (bs : List ℕ) × (xs ≡ b ∷ bs) × (b < 97)
unfolding index_of front_digits
id-first [] e = absurd cc
id-first (b ∷ bs) e = go (nat_lt b 97) refl
  where
    go : (ok : Bool) → nat_lt b 97 ≡ ok → (b' : ℕ) × (bs' : List ℕ) × ((b ∷ bs) ≡ b' ∷ bs') × (b' < 97)
    go true f = (b, bs, refl, grind (arith, common_steps))
    go false f = absurd (grind (arith, common_steps))

-- a byte that begins a type of these: it is none of `B D E F G I Q T U . _`
record Opens (c : ℕ) : Type 0 where
  b : (c == 66) ≡ false
  d : (c == 68) ≡ false
  e : (c == 69) ≡ false
  f : (c == 70) ≡ false
  g : (c == 71) ≡ false
  i : (c == 73) ≡ false
  q : (c == 81) ≡ false
  t : (c == 84) ≡ false
  u : (c == 85) ≡ false
  dot : (c == 46) ≡ false
  underscore : (c == 95) ≡ false

-- a byte that begins a name behind its `N`: it is none of `r V K O R M H`
record Begins (c : ℕ) : Type 0 where
  r : (c == 114) ≡ false
  v : (c == 86) ≡ false
  k : (c == 75) ≡ false
  o : (c == 79) ≡ false
  l : (c == 82) ≡ false
  h : (c == 72) ≡ false

digit-not : (b c : ℕ) → b < 58 → 57 < c → (b == c) ≡ false
digit-not b c f g = ne_eqb b c (λ e. omega (arith, f, g, e))

digit-under : (b c : ℕ) → 48 < b → c < 49 → (b == c) ≡ false
digit-under b c f g = ne_eqb b c (λ e. omega (arith, f, g, e))

digit-opens : (b : ℕ) → 48 < b → b < 58 → Opens b
digit-opens b f g = record {
  b = digit-not b 66 g (omega arith);
  d = digit-not b 68 g (omega arith);
  e = digit-not b 69 g (omega arith);
  f = digit-not b 70 g (omega arith);
  g = digit-not b 71 g (omega arith);
  i = digit-not b 73 g (omega arith);
  q = digit-not b 81 g (omega arith);
  t = digit-not b 84 g (omega arith);
  u = digit-not b 85 g (omega arith);
  dot = digit-under b 46 f (omega arith);
  underscore = digit-not b 95 g (omega arith);
}

digit-begins : (b : ℕ) → b < 58 → Begins b
digit-begins b g = record {
  r = digit-not b 114 g (omega arith);
  v = digit-not b 86 g (omega arith);
  k = digit-not b 75 g (omega arith);
  o = digit-not b 79 g (omega arith);
  l = digit-not b 82 g (omega arith);
  h = digit-not b 72 g (omega arith);
}

letter-opens : (b : Letter) → Opens b.byte
unfolding builtin_of
letter-opens b = record {
  b = no 66 refl;
  d = no 68 refl;
  e = no 69 refl;
  f = no 70 refl;
  g = no 71 refl;
  i = no 73 refl;
  q = no 81 refl;
  t = no 84 refl;
  u = no 85 refl;
  dot = no 46 refl;
  underscore = no 95 refl;
}
  where
    no : (c : ℕ) → is_some (builtin_of (c ∷ [])) ≡ false → (b.byte == c) ≡ false
    no c e = ne_eqb b.byte c (not-letter b.byte c b.is_known e)

-- a text that begins so
abbrev BeginsSo : (ℕ → Type 0) → List ℕ → Type 0
BeginsSo P bytes = (c : ℕ) × (rest : List ℕ) × (bytes ≡ c ∷ rest) × P c

source-begins : (n : SourceName) (rest : List ℕ) → BeginsSo (λ c. (48 < c) × (c < 58)) (n.written ++ rest)
source-begins n rest =
    let f = source-first n.written n.is_read in
    (f.0, f.1 ++ rest, ap (λ (bytes : List ℕ). bytes ++ rest) f.2, (f.3, f.4))

path-begins : (q : Path) (rest : List ℕ) → BeginsSo Begins (spelled_path q rest)
unfolding spelled_path
path-begins (outermost n) rest = let f = source-begins n rest in (f.0, f.1, f.2, digit-begins f.0 f.3.1)
path-begins (in_saved id n) rest = (83, id.written ++ (n.written ++ rest), refl, record { r = refl; v = refl; k = refl; o = refl; l = refl; h = refl })
path-begins (inside scope n) rest = path-begins scope (n.written ++ rest)

fixed : {c : ℕ} → Opens c → (rest : List ℕ) → BeginsSo Opens (c ∷ rest)
fixed {c} f rest = (c, rest, refl, f)

name-begins : (q : Path) (rest : List ℕ) → BeginsSo Opens (spelled_name q rest)
unfolding spelled_name
name-begins (outermost n) rest = let f = source-begins n rest in (f.0, f.1, f.2, digit-opens f.0 f.3.0 f.3.1)
name-begins (in_saved id n) rest = fixed (record { b = refl; d = refl; e = refl; f = refl; g = refl; i = refl; q = refl; t = refl; u = refl; dot = refl; underscore = refl }) _
name-begins (inside scope n) rest = fixed (record { b = refl; d = refl; e = refl; f = refl; g = refl; i = refl; q = refl; t = refl; u = refl; dot = refl; underscore = refl }) _

type-begins : (t : Spelling) (rest : List ℕ) → BeginsSo Opens (spelled t rest)
unfolding spelled
type-begins (builtin b) rest = fixed (letter-opens b) rest
type-begins (class q) rest = name-begins q rest
type-begins (constant t) rest = fixed (record { b = refl; d = refl; e = refl; f = refl; g = refl; i = refl; q = refl; t = refl; u = refl; dot = refl; underscore = refl }) _
type-begins (pointer_to t) rest = fixed (record { b = refl; d = refl; e = refl; f = refl; g = refl; i = refl; q = refl; t = refl; u = refl; dot = refl; underscore = refl }) _
type-begins (lvalue t) rest = fixed (record { b = refl; d = refl; e = refl; f = refl; g = refl; i = refl; q = refl; t = refl; u = refl; dot = refl; underscore = refl }) _
type-begins (rvalue t) rest = fixed (record { b = refl; d = refl; e = refl; f = refl; g = refl; i = refl; q = refl; t = refl; u = refl; dot = refl; underscore = refl }) _
type-begins (substitution id) rest = fixed (record { b = refl; d = refl; e = refl; f = refl; g = refl; i = refl; q = refl; t = refl; u = refl; dot = refl; underscore = refl }) _

-- what follows a type or a name: neither arguments nor a tag
record Follows (rest : List ℕ) : Type 0 where
  tag : begins (codes "B") rest ≡ false
  args : begins (codes "I") rest ≡ false

each-follows : (ts : List Spelling) → Follows (spelled_each ts)
unfolding spelled_each
each-follows [] = record { tag = refl; args = refl }
each-follows (t ∷ ts) =
    let f = type-begins t (spelled_each ts) in
    record { tag = rw f.2 (rw f.3.b refl); args = rw f.2 (rw f.3.i refl) }

-- Types.

as-type : (d : ℕ) (s : State) (c : TypeCase) {t : Tree} {after : State} → case_of_type s.rest ≡ c → Only (type_as (productions d) false c s) t after
    → Only ((productions (suc d)).type false s) t after
unfolding productions
as-type d s c {t} {after} e f = subst (λ (x : TypeCase). Only (type_as (productions d) false x s) t after) (sym e) f

type-pointer : (d : ℕ) (bytes : List ℕ) (ts : List Tree) (x l : ℕ) {t : Tree} {after : State} → ((k : ℕ) → Only ((productions k).type false (st bytes ts x l)) t after)
    → Only ((productions d).type false (st (80 ∷ bytes) ts x l)) (pointer t) (saving (pointer t) after)
unfolding productions type_as builtin_of
type-pointer zero bytes ts x l f = (false, refl)
type-pointer (suc d) bytes ts x l f =
    saved-only (parse_around 1 pointer ((productions d).type false)) (st (80 ∷ bytes) ts x l) (around-only pointer ((productions d).type false) (st (80 ∷ bytes) ts x l) (f d))

type-lvalue : (d : ℕ) (bytes : List ℕ) (ts : List Tree) (x l : ℕ) {t : Tree} {after : State} → ((k : ℕ) → Only ((productions k).type false (st bytes ts x l)) t after)
    → Only ((productions d).type false (st (82 ∷ bytes) ts x l)) (reference t true) (saving (reference t true) after)
unfolding productions type_as builtin_of
type-lvalue zero bytes ts x l f = (false, refl)
type-lvalue (suc d) bytes ts x l f =
    let around = λ (t : Tree). reference t true in
    saved-only (parse_around 1 around ((productions d).type false)) (st (82 ∷ bytes) ts x l) (around-only around ((productions d).type false) (st (82 ∷ bytes) ts x l) (f d))

type-rvalue : (d : ℕ) (bytes : List ℕ) (ts : List Tree) (x l : ℕ) {t : Tree} {after : State} → ((k : ℕ) → Only ((productions k).type false (st bytes ts x l)) t after)
    → Only ((productions d).type false (st (79 ∷ bytes) ts x l)) (reference t false) (saving (reference t false) after)
unfolding productions type_as builtin_of
type-rvalue zero bytes ts x l f = (false, refl)
type-rvalue (suc d) bytes ts x l f =
    let around = λ (t : Tree). reference t false in
    saved-only (parse_around 1 around ((productions d).type false)) (st (79 ∷ bytes) ts x l) (around-only around ((productions d).type false) (st (79 ∷ bytes) ts x l) (f d))

const_cv : Cv
const_cv = record { is_const = true; is_volatile = false; is_restrict = false }

constant-case : (bytes : List ℕ) → begins_function bytes ≡ false → case_of_type (75 ∷ bytes) ≡ type_case.Qualified
unfolding builtin_of
constant-case bytes e = rw e refl

constant-only : (k : ℕ) (bytes : List ℕ) (ts : List Tree) (x l : ℕ) {t : Tree} {after : State} → ((k : ℕ) → Only ((productions k).type false (st bytes ts x l)) t after)
    → Only ((productions k).qualified_type false (st (75 ∷ bytes) ts x l)) (qualified t const_cv) after
unfolding productions parse_cv past_word_if const_cv
constant-only zero bytes ts x l f = (false, refl)
constant-only (suc k) bytes ts x l {t} {after} f = only-then _ (f k) (make-only (qualified t const_cv) after)

type-constant : (d : ℕ) (bytes : List ℕ) (ts : List Tree) (x l : ℕ) {t : Tree} {after : State} → begins_function bytes ≡ false → ((k : ℕ) → Only ((productions k).type false (st bytes ts x l)) t after)
    → Only ((productions d).type false (st (75 ∷ bytes) ts x l)) (qualified t const_cv) (saving (qualified t const_cv) after)
unfolding productions type_as
type-constant zero bytes ts x l e f = (false, refl)
type-constant (suc d) bytes ts x l e f =
    as-type d (st (75 ∷ bytes) ts x l) type_case.Qualified (constant-case bytes e)
    (saved-only ((productions d).qualified_type false) (st (75 ∷ bytes) ts x l) (constant-only d bytes ts x l f))

-- Builtin types.

word-of : Option (List ℕ) → List ℕ
word-of None = []
word-of (Some w) = w

builtin-case : (b : ℕ) (rest : List ℕ) → is_some (builtin_of (b ∷ [])) ≡ true → case_of_type (b ∷ rest) ≡ type_case.Builtin
unfolding builtin_of
builtin-case b rest e =
    rw (ne_eqb b 114 (not-letter b 114 e refl), ne_eqb b 86 (not-letter b 86 e refl), ne_eqb b 75 (not-letter b 75 e refl), ne_eqb b 70 (not-letter b 70 e refl), ne_eqb b 68 (not-letter b 68 e refl), e) refl

builtin-word : (b : ℕ) (rest : List ℕ) → builtin_of (b ∷ rest) ≡ builtin_of (b ∷ [])
unfolding builtin_of
builtin-word b rest = refl

builtin-only : (b : ℕ) (rest : List ℕ) (ts : List Tree) (x l : ℕ) (o : Option (List ℕ)) → (b == 68) ≡ false → builtin_of (b ∷ []) ≡ o → Only (parse_builtin (st (b ∷ rest) ts x l)) (named (word-of o)) (st rest ts x l)
unfolding parse_builtin past_word_if word-of
builtin-only b rest ts x l None e f = rw (e, builtin-word b rest, f) (false, refl)
builtin-only b rest ts x l (Some w) e f = rw (e, builtin-word b rest, f) (make-only (named w) (st rest ts x l))

type-builtin : (d : ℕ) (b : Letter) (rest : List ℕ) (ts : List Tree) (x l : ℕ)
    → Only ((productions d).type false (st (b.byte ∷ rest) ts x l)) (named (word-of (builtin_of (b.byte ∷ [])))) (st rest ts x l)
unfolding productions type_as
type-builtin zero b rest ts x l = (false, refl)
type-builtin (suc d) b rest ts x l =
    as-type d (st (b.byte ∷ rest) ts x l) type_case.Builtin (builtin-case b.byte rest b.is_known)
    (builtin-only b.byte rest ts x l (builtin_of (b.byte ∷ [])) (letter-opens b).d refl)

-- Names.

abbrev placed : Option Tree → Bool → Place
placed scope is_nested = record { scope = scope; owner = None; is_friend = false; is_nested = is_nested; info = no_info }

in-scope : Option Tree → Tree → Tree
in-scope None t = t
in-scope (Some scope) t = scoped false scope t

scope-only : (scope : Option Tree) (t : Tree) (s : State) → Only (make_in_scope false scope t s) (in-scope scope t) s
unfolding in-scope
scope-only None t s = (true, refl)
scope-only (Some scope) t s = make-only (scoped false scope t) s

repeat-opens : {A : Type 0} (is_end : List ℕ → Bool) (step : A → Parses A) (n : ℕ) (a : A) (s : State) → 0 < n
    → repeat_at_most n is_end step a s ≡ (if is_end s.rest then pure a else (step a >>= repeat_at_most (n - 1) is_end step)) s
unfolding repeat_at_most
repeat-opens is_end step zero a s h = absurd (omega arith)
repeat-opens is_end step (suc n) a s h = let less : suc n - 1 ≡ n = omega arith in rw less refl

no-tags : (t : Tree) (s : State) → begins (codes "B") s.rest ≡ false → parse_abi_tags t s ≡ Some (t, s)
unfolding parse_abi_tags
no-tags t s e = repeat-opens is_tags_end parse_abi_tag (length s.rest + 1) t s (omega arith) ∙ rw e refl

no-mark : (c : ℕ) (word : ℕ) (rest : List ℕ) (ts : List Tree) (x l : ℕ) → (c == word) ≡ false → past_word_if (word ∷ []) (st (c ∷ rest) ts x l) ≡ Some (false, st (c ∷ rest) ts x l)
unfolding past_word_if
no-mark c word rest ts x l e = rw e refl

component-case : (c : ℕ) (rest : List ℕ) → 48 < c → c < 58 → case_of_component (c ∷ rest) ≡ component.Unqualified
component-case c rest f g = rw (digit-not c 67 g (omega arith), digit-not c 68 g (omega arith)) refl

base-case : (c : ℕ) (rest : List ℕ) → 48 < c → c < 58 → case_of_base (c ∷ rest) ≡ base.Source
base-case c rest f g = grind (arith, common_steps)

source-only : (bytes rest name : List ℕ) (ts : List Tree) (x l : ℕ) → identifier bytes ≡ Some (name, rest) → Only (parse_source_name (st bytes ts x l)) (named (source_text name)) (st rest ts x l)
source-only bytes rest name ts x l e = rw e (make-only (named (source_text name)) (st rest ts x l))

abbrev part_of : Option Tree → Bool → Tree → Part
part_of scope is_nested t = record { tree = t; place = placed scope is_nested }

part-only : (p : Productions) (scope : Option Tree) (is_nested : Bool) (c : ℕ) (cs rest name : List ℕ) (ts : List Tree) (x l : ℕ) → 48 < c → c < 58 → identifier (c ∷ cs) ≡ Some (name, rest)
    → Only (part_as p (placed scope is_nested) (case_of_component (c ∷ cs)) (st (c ∷ cs) ts x l)) (part_of scope is_nested (named (source_text name))) (st rest ts x l)
unfolding part_as base_as
part-only p scope is_nested c cs rest name ts x l f g e = rw (component-case c cs f g, base-case c cs f g) (only-then _ (source-only (c ∷ cs) rest name ts x l e) (true, refl))

end-only : (scope : Option Tree) (is_nested : Bool) (t : Tree) (s : State) → begins (codes "B") s.rest ≡ false → Only (parse_part_end (part_of scope is_nested t) s) (plain (in-scope scope t)) s
end-only scope is_nested t s e = only-then _ (some (no-tags t s e)) (only-then _ (scope-only scope t s) (true, refl))

no-subname : (c : ℕ) (cs : List ℕ) (ts : List Tree) (x l : ℕ) → c < 58 → parse_subnames None (st (c ∷ cs) ts x l) ≡ Some (None, st (c ∷ cs) ts x l)
unfolding parse_subnames
no-subname c cs ts x l g = repeat-opens is_subnames_end next_subname (length (c ∷ cs) + 1) None (st (c ∷ cs) ts x l) (omega arith) ∙ rw (digit-not c 87 g (omega arith)) refl

no-friend : (scope : Option Tree) (c : ℕ) (cs : List ℕ) (ts : List Tree) (x l : ℕ) → c < 58 → parse_friend scope (st (c ∷ cs) ts x l) ≡ Some (false, st (c ∷ cs) ts x l)
no-friend None c cs ts x l g = refl
no-friend (Some scope) c cs ts x l g = no-mark c 70 cs ts x l (digit-not c 70 g (omega arith))

front-only : (scope : Option Tree) (is_nested : Bool) (c : ℕ) (cs : List ℕ) (ts : List Tree) (x l : ℕ) → c < 58
    → Only (parse_front (placed scope is_nested) (st (c ∷ cs) ts x l)) (placed scope is_nested) (st (c ∷ cs) ts x l)
unfolding parse_front
front-only scope is_nested c cs ts x l g =
    only-then _ (some (no-subname c cs ts x l g))
    (only-then _ (some (no-friend scope c cs ts x l g)) (only-then _ (some (no-mark c 76 cs ts x l (digit-not c 76 g (omega arith)))) (true, refl)))

named-only : (p : Productions) (scope : Option Tree) (is_nested : Bool) (c : ℕ) (cs rest name : List ℕ) (ts : List Tree) (x l : ℕ) → 48 < c → c < 58 → identifier (c ∷ cs) ≡ Some (name, rest)
    → begins (codes "B") rest ≡ false → Only (parse_unqualified_name p (placed scope is_nested) (st (c ∷ cs) ts x l)) (plain (in-scope scope (named (source_text name)))) (st rest ts x l)
unfolding parse_unqualified_name
named-only p scope is_nested c cs rest name ts x l f g e tag =
    only-then _ (front-only scope is_nested c cs ts x l g)
    (only-then _ (part-only p scope is_nested c cs rest name ts x l f g e) (end-only scope is_nested (named (source_text name)) (st rest ts x l) tag))

unqualified-only : (p : Productions) (scope : Option Tree) (is_nested : Bool) (n : SourceName) (rest : List ℕ) (ts : List Tree) (x l : ℕ) → begins (codes "B") rest ≡ false
    → Only (parse_unqualified_name p (placed scope is_nested) (st (n.written ++ rest) ts x l)) (plain (in-scope scope (named (source_text n.name)))) (st rest ts x l)
unqualified-only p scope is_nested n rest ts x l tag =
    let f = source-begins n rest in
    let e : identifier (f.0 ∷ f.1) ≡ Some (n.name, rest) = ap identifier (sym f.2) ∙ source-front n.written rest n.is_read in
    subst (λ (bytes : List ℕ). Only (parse_unqualified_name p (placed scope is_nested) (st bytes ts x l)) (plain (in-scope scope (named (source_text n.name)))) (st rest ts x l))
    (sym f.2) (named-only p scope is_nested f.0 f.1 rest n.name ts x l f.3.0 f.3.1 e tag)

-- a name without a scope
name-case : (c : ℕ) (rest : List ℕ) → c < 58 → case_of_name (c ∷ rest) ≡ name_case.Unqualified
name-case c rest g = rw (digit-not c 78 g (omega arith), digit-not c 90 g (omega arith), digit-not c 83 g (omega arith)) refl

as-name : (d : ℕ) (s : State) (c : NameCase) {n : LearnedName} {after : State} → case_of_name s.rest ≡ c → Only (name_as (productions d) c s) n after
    → Only ((productions (suc d)).name s) n after
unfolding productions
as-name d s c {n} {after} e f = subst (λ (x : NameCase). Only (name_as (productions d) x s) n after) (sym e) f

in-place-only : (p : Productions) (n : SourceName) (rest : List ℕ) (ts : List Tree) (x l : ℕ) → Follows rest
    → Only (parse_in_place p (placed None false) (st (n.written ++ rest) ts x l)) (plain (named (source_text n.name))) (st rest ts x l)
unfolding parse_in_place in-scope
in-place-only p n rest ts x l f = only-then _ (unqualified-only p None false n rest ts x l f.tag) (rw f.args (true, refl))

outermost-only : (d : ℕ) (n : SourceName) (rest : List ℕ) (ts : List Tree) (x l : ℕ) → Follows rest
    → Only ((productions d).name (st (n.written ++ rest) ts x l)) (plain (named (source_text n.name))) (st rest ts x l)
unfolding productions name_as
outermost-only zero n rest ts x l f = (false, refl)
outermost-only (suc d) n rest ts x l f =
    let b = source-begins n rest in
    as-name d (st (n.written ++ rest) ts x l) name_case.Unqualified (ap case_of_name b.2 ∙ name-case b.0 b.1 b.3.1) (in-place-only (productions d) n rest ts x l f)

-- Substitutions.

not-std : (c : ℕ) (rest : List ℕ) → c < 97 → std_of (c ∷ rest) ≡ None
unfolding std_of
not-std c rest f = rw (under 97 f, under 98 (omega (arith, f)), under 115 (omega (arith, f)), under 105 (omega (arith, f)), under 111 (omega (arith, f)), under 100 (omega (arith, f))) refl
  where
    under : (b : ℕ) → c < b → (c == b) ≡ false
    under b g = ne_eqb c b (λ e. omega (arith, g, e))

substitution-at : (c : ℕ) (cs rest : List ℕ) (k : ℕ) (ts : List Tree) (x l : ℕ) {t : Tree} → c < 97 → index_of Base36 (c ∷ cs) ≡ Some (k, rest) → slice_get ts k ≡ Some t
    → parse_substitution (st (83 ∷ c ∷ cs) ts x l) ≡ Some (t, st rest ts x l)
unfolding parse_substitution
substitution-at c cs rest k ts x l f e g = rw (not-std c cs f, e, g) refl

id-begins : (id : SeqId) (rest : List ℕ) → BeginsSo (λ c. c < 97) (id.written ++ rest)
id-begins id rest =
    let f = id-first id.written id.is_read in
    (f.0, f.1 ++ rest, ap (λ (bytes : List ℕ). bytes ++ rest) f.2, f.3)

substitution-some : (id : SeqId) (rest : List ℕ) (ts : List Tree) (x l : ℕ) {t : Tree} → slice_get ts id.index ≡ Some t
    → parse_substitution (st (83 ∷ (id.written ++ rest)) ts x l) ≡ Some (t, st rest ts x l)
substitution-some id rest ts x l {t} g =
    let f = id-begins id rest in
    let e : index_of Base36 (f.0 ∷ f.1) ≡ Some (id.index, rest) = ap (index_of Base36) (sym f.2) ∙ index-front Base36 id.written rest id.is_read in
    subst (λ (bytes : List ℕ). parse_substitution (st (83 ∷ bytes) ts x l) ≡ Some (t, st rest ts x l)) (sym f.2) (substitution-at f.0 f.1 rest id.index ts x l f.3 e g)

-- What is written out stands for these trees.

path-tree : Path → Tree
path-tree (outermost n) = named (source_text n.name)
path-tree (in_saved id n) = named []
path-tree (inside scope n) = scoped false (path-tree scope) (named (source_text n.name))

tree-of : Spelling → Tree
unfolding path-tree
tree-of (builtin b) = named (word-of (builtin_of (b.byte ∷ [])))
tree-of (class q) = path-tree q
tree-of (constant t) = qualified (tree-of t) const_cv
tree-of (pointer_to t) = pointer (tree-of t)
tree-of (lvalue t) = reference (tree-of t) true
tree-of (rvalue t) = reference (tree-of t) false
tree-of (substitution id) = named []

no-module-path : (q : Path) → is_module (path-tree q) ≡ false
unfolding is_module path-tree
no-module-path (outermost n) = refl
no-module-path (in_saved id n) = refl
no-module-path (inside scope n) = refl

no-module : (t : Spelling) → is_module (tree-of t) ≡ false
unfolding is_module tree-of
no-module (builtin b) = refl
no-module (class q) = no-module-path q
no-module (constant t) = refl
no-module (pointer_to t) = refl
no-module (lvalue t) = refl
no-module (rvalue t) = refl
no-module (substitution id) = refl

candidate-tree : (saved : List Spelling) (k : ℕ) {t : Spelling} → slice_get saved k ≡ Some t → slice_get (map tree-of saved) k ≡ Some (tree-of t)
candidate-tree saved k e = slice_get-map tree-of saved k ∙ ap (option_map tree-of) e

-- Nested names.

-- what follows a component
record Stops (rest : List ℕ) : Type 0 where
  tag : begins (codes "B") rest ≡ false
  mark : begins (codes "M") rest ≡ false

source-stops : (n : SourceName) (rest : List ℕ) → Stops (n.written ++ rest)
source-stops n rest =
    let f = source-begins n rest in
    record { tag = rw f.2 (rw (digit-not f.0 66 f.3.1 (omega arith)) refl); mark = rw f.2 (rw (digit-not f.0 77 f.3.1 (omega arith)) refl) }

no-word : (word : List ℕ) (s : State) → begins word s.rest ≡ false → past_word_if word s ≡ Some (false, s)
unfolding past_word_if
no-word word s e = rw e refl

abbrev loop : Productions → ℕ → LearnedName → State → Option (LearnedName × State)
loop p m n s = and_then (repeat_at_most m is_e (parse_next p) n s) (λ last. expect "E" >> pure last)

abbrev loop_if : Bool → Productions → ℕ → LearnedName → State → Option (LearnedName × State)
loop_if ok p m n s = if ok then loop p m n s else None

abbrev Loops : Productions → Option (LearnedName × State) → LearnedName → State → Type 0
Loops p o n s = (ok : Bool) × (m : ℕ) × (length s.rest < m) × (o ≡ loop_if ok p m n s)

components-loop : (p : Productions) (n : LearnedName) (s : State) → begins (codes "M") s.rest ≡ false → parse_components p n s ≡ loop p (length s.rest + 1) n s
unfolding parse_components
components-loop p n s e = rw (no-word (codes "M") s e) refl

abbrev start_at : Productions → List ℕ → List Tree → ℕ → ℕ → Option (LearnedName × State)
start_at p bytes ts x l = and_then (parse_first p no_info (st bytes ts x l)) (parse_components p)

first-loops : (p : Productions) (bytes rest : List ℕ) (ts : List Tree) (x l : ℕ) {n : LearnedName} → Only (parse_first p no_info (st bytes ts x l)) n (st rest ts x l) → begins (codes "M") rest ≡ false
    → Loops p (start_at p bytes ts x l) n (st rest ts x l)
first-loops p bytes rest ts x l {n} f e = go f.0 f.1
  where
    go : (ok : Bool) → parse_first p no_info (st bytes ts x l) ≡ read_if ok n (st rest ts x l) → Loops p (start_at p bytes ts x l) n (st rest ts x l)
    go true g = (true, length rest + 1, omega arith, rw g (components-loop p n (st rest ts x l) e))
    go false g = (false, length rest + 1, omega arith, rw g refl)

first-case : (c : ℕ) (rest : List ℕ) → c < 58 → case_of_first (c ∷ rest) ≡ first.Unqualified
first-case c rest g = rw (digit-not c 83 g (omega arith), digit-not c 84 g (omega arith), digit-not c 68 g (omega arith)) refl

as-first : (p : Productions) (s : State) (c : FirstCase) {n : LearnedName} {after : State} → case_of_first s.rest ≡ c → Only (first_as p no_info c s) n after → Only (parse_first p no_info s) n after
as-first p s c {n} {after} e f = subst (λ (x : FirstCase). Only (first_as p no_info x s) n after) (sym e) f

first-only : (p : Productions) (n : SourceName) (rest : List ℕ) (ts : List Tree) (x l : ℕ) → begins (codes "B") rest ≡ false
    → Only (parse_first p no_info (st (n.written ++ rest) ts x l)) (plain (named (source_text n.name))) (st rest ts x l)
unfolding first_as in-scope
first-only p n rest ts x l e =
    let b = source-begins n rest in
    as-first p (st (n.written ++ rest) ts x l) first.Unqualified (ap case_of_first b.2 ∙ first-case b.0 b.1 b.3.1) (unqualified-only p None true n rest ts x l e)

component-only : (p : Productions) (t : Tree) (n : SourceName) (rest : List ℕ) (ts : List Tree) (x l : ℕ) → begins (codes "B") rest ≡ false
    → Only (parse_component p (plain t) (st (n.written ++ rest) ts x l)) (plain (scoped false t (named (source_text n.name)))) (st rest ts x l)
unfolding parse_component in-scope
component-only p t n rest ts x l e =
    let b = source-begins n rest in
    let no : begins (codes "I") (n.written ++ rest) ≡ false = rw b.2 (rw (digit-not b.0 73 b.3.1 (omega arith)) refl) in
    let no-module : begins (codes "S") (n.written ++ rest) ≡ false = rw b.2 (rw (digit-not b.0 83 b.3.1 (omega arith)) refl) in
    rw (no, no-module) (unqualified-only p (Some t) true n rest ts x l e)

second-case : (id : SeqId) (rest : List ℕ) → case_of_first (83 ∷ (id.written ++ rest)) ≡ first.Substitution
second-case id rest =
    let f = id-begins id rest in
    rw f.2 (rw (ne_eqb f.0 116 (λ e. omega (arith, f.3, e))) refl)

saved-first-only : (p : Productions) (id : SeqId) (n : SourceName) (rest : List ℕ) (ts : List Tree) (x l : ℕ) {t : Tree} → slice_get ts id.index ≡ Some t → is_module t ≡ false → begins (codes "B") rest ≡ false
    → Only (parse_first p no_info (st (83 ∷ (id.written ++ (n.written ++ rest))) ts x l)) (plain (scoped false t (named (source_text n.name)))) (st rest ts x l)
unfolding first_as
saved-first-only p id n rest ts x l {t} g m e =
    as-first p (st (83 ∷ (id.written ++ (n.written ++ rest))) ts x l) first.Substitution (second-case id (n.written ++ rest))
    (only-then _ (some (substitution-some id (n.written ++ rest) ts x l g)) (rw m (component-only p t n rest ts x l e)))

next-only : (p : Productions) (t : Tree) (n : SourceName) (rest : List ℕ) (ts : List Tree) (x l : ℕ) → Stops rest
    → Only (parse_next p (plain t) (st (n.written ++ rest) ts x l)) (plain (scoped false t (named (source_text n.name)))) (st rest (ts ++ t ∷ []) x l)
unfolding parse_next
next-only p t n rest ts x l f =
    only-then _ (component-only p t n rest (ts ++ t ∷ []) x l f.tag) (only-then _ (some (no-word (codes "M") (st rest (ts ++ t ∷ []) x l) f.mark)) (true, refl))

no-e : (n : SourceName) (rest : List ℕ) → is_e (n.written ++ rest) ≡ false
no-e n rest = let b = source-begins n rest in rw b.2 (rw (digit-not b.0 69 b.3.1 (omega arith)) refl)

source-longer : (n : SourceName) (rest : List ℕ) → length rest < length (n.written ++ rest)
source-longer n rest =
    let f = source-first n.written n.is_read in
    omega (arith, length-append n.written rest, ap (λ (bytes : List ℕ). length bytes) f.2)

loop-more : (p : Productions) (m : ℕ) (t : Tree) (n : SourceName) (rest : List ℕ) (ts : List Tree) (x l : ℕ) → 0 < m → Stops rest
    → (ok : Bool) × (loop p m (plain t) (st (n.written ++ rest) ts x l) ≡ loop_if ok p (m - 1) (plain (scoped false t (named (source_text n.name)))) (st rest (ts ++ t ∷ []) x l))
loop-more p m t n rest ts x l f stops = go (next-only p t n rest ts x l stops).0 (next-only p t n rest ts x l stops).1
  where
    opened : loop p m (plain t) (st (n.written ++ rest) ts x l) ≡ and_then (and_then (parse_next p (plain t) (st (n.written ++ rest) ts x l)) (repeat_at_most (m - 1) is_e (parse_next p))) (λ last. expect "E" >> pure last)
    opened = rw (repeat-opens is_e (parse_next p) m (plain t) (st (n.written ++ rest) ts x l) f, no-e n rest) refl

    go : (ok : Bool) → parse_next p (plain t) (st (n.written ++ rest) ts x l) ≡ read_if ok (plain (scoped false t (named (source_text n.name)))) (st rest (ts ++ t ∷ []) x l)
        → (ok : Bool) × (loop p m (plain t) (st (n.written ++ rest) ts x l) ≡ loop_if ok p (m - 1) (plain (scoped false t (named (source_text n.name)))) (st rest (ts ++ t ∷ []) x l))
    go true g = (true, opened ∙ rw g refl)
    go false g = (false, opened ∙ rw g refl)

-- What is written out, taken apart.

abbrev part-of : {A : Type 0} → A → Option (A × List Spelling) → A
part-of other None = other
part-of other (Some p) = p.0

abbrev or-else : {A : Type 0} → A → Option A → A
or-else other None = other
or-else other (Some a) = a

abbrev rest-of : {A : Type 0} → List Spelling → Option (A × List Spelling) → List Spelling
rest-of other None = other
rest-of other (Some p) = p.1

abbrev with_saved : Spelling → List Spelling → Spelling × List Spelling
with_saved t saved = (t, saved)

scope-some : (o : Option (Path × List Spelling)) (n : SourceName) {q : Path} {after : List Spelling} → in_scope o n ≡ Some (q, after)
    → (scope : Path) × (saved : List Spelling) × (o ≡ Some (scope, saved)) × (q ≡ inside scope n) × (after ≡ saved ++ class scope ∷ [])
scope-some None n e = absurd cc
scope-some (Some (scope, saved)) n {q} {after} e = (scope, saved, refl, sym (ap (part-of q) e), sym (ap (rest-of after) e))

candidate-some : (o : Option Spelling) (n : SourceName) (saved : List Spelling) {q : Path} {after : List Spelling} → in_candidate o n saved ≡ Some (q, after)
    → (scope : Path) × (o ≡ Some (class scope)) × (q ≡ inside scope n) × (after ≡ saved)
candidate-some None n saved e = absurd cc
candidate-some (Some (class scope)) n saved {q} {after} e = (scope, refl, sym (ap (part-of q) e), sym (ap (rest-of after) e))
candidate-some (Some (builtin b)) n saved e = absurd cc
candidate-some (Some (constant t)) n saved e = absurd cc
candidate-some (Some (pointer_to t)) n saved e = absurd cc
candidate-some (Some (lvalue t)) n saved e = absurd cc
candidate-some (Some (rvalue t)) n saved e = absurd cc
candidate-some (Some (substitution id)) n saved e = absurd cc

save-some : {A : Type 0} (around : A → Spelling) (o : Option (A × List Spelling)) {u : Spelling} {after : List Spelling} → and_save around o ≡ Some (u, after)
    → (part : A) × (saved : List Spelling) × (o ≡ Some (part, saved)) × (u ≡ around part) × (after ≡ saved ++ around part ∷ [])
save-some around None e = absurd cc
save-some around (Some (part, saved)) {u} {after} e = (part, saved, refl, sym (ap (part-of u) e), sym (ap (rest-of after) e))

found-some : (o : Option Spelling) (saved : List Spelling) {u : Spelling} {after : List Spelling} → option_map (λ (t : Spelling). with_saved t saved) o ≡ Some (u, after)
    → (o ≡ Some u) × (after ≡ saved)
found-some None saved e = absurd cc
found-some (Some t) saved {u} {after} e = (ap (λ (x : Spelling). Some x) (ap (part-of u) e), sym (ap (rest-of after) e))

-- Paths.

loops-same : (p : Productions) {o : Option (LearnedName × State)} (u v : Path) (after mid : List Spelling) (rest : List ℕ) (x l : ℕ) → u ≡ v → after ≡ mid
    → Loops p o (plain (path-tree v)) (st rest (map tree-of mid) x l) → Loops p o (plain (path-tree u)) (st rest (map tree-of after) x l)
loops-same p {o} u v after mid rest x l e f g = rw (e, f) g

inside-loops : (p : Productions) (v : Path) (mid : List Spelling) (n : SourceName) (rest : List ℕ) (x l : ℕ) {o : Option (LearnedName × State)} → Stops rest
    → Loops p o (plain (path-tree v)) (st (n.written ++ rest) (map tree-of mid) x l) → Loops p o (plain (path-tree (inside v n))) (st rest (map tree-of (mid ++ class v ∷ [])) x l)
unfolding path-tree tree-of
inside-loops p v mid n rest x l {o} stops g = go g.0 g.3
  where
    longer : length (n.written ++ rest) < g.1
    longer = g.2

    some-turns : 0 < g.1
    some-turns = omega (arith, longer)

    enough : length rest < g.1 - 1
    enough = omega (arith, longer, source-longer n rest)

    saved-tree : map tree-of (mid ++ class v ∷ []) ≡ map tree-of mid ++ path-tree v ∷ []
    saved-tree = map-append tree-of mid (class v ∷ [])

    more : (ok : Bool) × (loop p g.1 (plain (path-tree v)) (st (n.written ++ rest) (map tree-of mid) x l)
        ≡ loop_if ok p (g.1 - 1) (plain (scoped false (path-tree v) (named (source_text n.name)))) (st rest (map tree-of mid ++ path-tree v ∷ []) x l))
    more = loop-more p g.1 (path-tree v) n rest (map tree-of mid) x l some-turns stops

    go : (ok : Bool) → o ≡ loop_if ok p g.1 (plain (path-tree v)) (st (n.written ++ rest) (map tree-of mid) x l) → Loops p o (plain (path-tree (inside v n))) (st rest (map tree-of (mid ++ class v ∷ [])) x l)
    go true e = (more.0, g.1 - 1, enough, rw saved-tree (e ∙ more.1))
    go false e = (false, g.1 - 1, enough, e)

path-loops : (p : Productions) (q : Path) (old : List Spelling) {u : Path} {after : List Spelling} (rest : List ℕ) (x l : ℕ) → write_path q old ≡ Some (u, after) → Stops rest
    → Loops p (start_at p (spelled_path q rest) (map tree-of old) x l) (plain (path-tree u)) (st rest (map tree-of after) x l)
unfolding spelled_path write_path path-tree tree-of
path-loops p (outermost n) old {u} {after} rest x l e stops =
    loops-same p u (outermost n) after old rest x l (sym (ap (part-of u) e)) (sym (ap (rest-of after) e))
    (first-loops p (n.written ++ rest) rest (map tree-of old) x l (first-only p n rest (map tree-of old) x l stops.tag) stops.mark)
path-loops p (in_saved id n) old {u} {after} rest x l e stops =
    let f = candidate-some (slice_get old id.index) n old e in
    loops-same p u (inside f.0 n) after old rest x l f.2 f.3 (first-loops p (83 ∷ (id.written ++ (n.written ++ rest))) rest (map tree-of old) x l
    (saved-first-only p id n rest (map tree-of old) x l (candidate-tree old id.index f.1) (no-module-path f.0) stops.tag) stops.mark)
path-loops p (inside scope n) old {u} {after} rest x l e stops =
    let f = scope-some (write_path scope old) n e in
    loops-same p u (inside f.0 n) after (f.1 ++ class f.0 ∷ []) rest x l f.3 f.4
    (inside-loops p f.0 f.1 n rest x l stops (path-loops p scope old (n.written ++ rest) x l f.2 (source-stops n rest)))

loop-end : (p : Productions) (m : ℕ) (n : LearnedName) (rest : List ℕ) (ts : List Tree) (x l : ℕ) → 0 < m → loop p m n (st (69 ∷ rest) ts x l) ≡ Some (n, st rest ts x l)
loop-end p m n rest ts x l f = rw (repeat-opens is_e (parse_next p) m n (st (69 ∷ rest) ts x l) f) refl

end-stops : (rest : List ℕ) → Stops (69 ∷ rest)
end-stops rest = record { tag = refl; mark = refl }

info-only : (c : ℕ) (rest : List ℕ) (ts : List Tree) (x l : ℕ) → Begins c → Only (parse_info (st (c ∷ rest) ts x l)) no_info (st (c ∷ rest) ts x l)
unfolding parse_info parse_cv parse_ref past_word_if
info-only c rest ts x l f = rw (f.h, f.r, f.v, f.k, f.o, f.l) (true, refl)

info-before : (q : Path) (rest : List ℕ) (ts : List Tree) (x l : ℕ) → Only (parse_info (st (spelled_path q rest) ts x l)) no_info (st (spelled_path q rest) ts x l)
info-before q rest ts x l =
    let b = path-begins q rest in
    subst (λ (bytes : List ℕ). Only (parse_info (st bytes ts x l)) no_info (st bytes ts x l)) (sym b.2) (info-only b.0 b.1 ts x l b.3)

nested-only : (d : ℕ) (q : Path) (old : List Spelling) {u : Path} {after : List Spelling} (rest : List ℕ) (x l : ℕ) → write_path q old ≡ Some (u, after)
    → Only ((productions d).name (st (78 ∷ spelled_path q (69 ∷ rest)) (map tree-of old) x l)) (plain (path-tree u)) (st rest (map tree-of after) x l)
unfolding productions name_as
nested-only zero q old rest x l e = (false, refl)
nested-only (suc d) q old {u} {after} rest x l e =
    only-then _ (info-before q (69 ∷ rest) (map tree-of old) x l) (ended (path-loops (productions d) q old (69 ∷ rest) x l e (end-stops rest)))
  where
    ended : {o : Option (LearnedName × State)} → Loops (productions d) o (plain (path-tree u)) (st (69 ∷ rest) (map tree-of after) x l) → Only o (plain (path-tree u)) (st rest (map tree-of after) x l)
    ended {o} g = go g.0 g.3
      where
        turns : 0 < g.1
        turns = omega (arith, g.2)

        go : (ok : Bool) → o ≡ loop_if ok (productions d) g.1 (plain (path-tree u)) (st (69 ∷ rest) (map tree-of after) x l) → Only o (plain (path-tree u)) (st rest (map tree-of after) x l)
        go true e = (true, e ∙ loop-end (productions d) g.1 (plain (path-tree u)) rest (map tree-of after) x l turns)
        go false e = (false, e)

path-only : (d : ℕ) (q : Path) (old : List Spelling) {u : Path} {after : List Spelling} (rest : List ℕ) (x l : ℕ) → write_path q old ≡ Some (u, after) → Follows rest
    → Only ((productions d).name (st (spelled_name q rest) (map tree-of old) x l)) (plain (path-tree u)) (st rest (map tree-of after) x l)
unfolding spelled_name spelled_path write_path path-tree
path-only d (outermost n) old {u} {after} rest x l e f =
    name-same u (outermost n) after old (sym (ap (part-of u) e)) (sym (ap (rest-of after) e)) (outermost-only d n rest (map tree-of old) x l f)
  where
    name-same : {o : Option (LearnedName × State)} (u v : Path) (after mid : List Spelling) → u ≡ v → after ≡ mid → Only o (plain (path-tree v)) (st rest (map tree-of mid) x l)
        → Only o (plain (path-tree u)) (st rest (map tree-of after) x l)
    name-same u v after mid e f g = rw (e, f) g
path-only d (in_saved id n) old rest x l e f = nested-only d (in_saved id n) old rest x l e
path-only d (inside scope n) old rest x l e f = nested-only d (inside scope n) old rest x l e

-- Types that are names, and substitutions.

digit-case : (c : ℕ) (rest : List ℕ) → 48 < c → c < 58 → case_of_type (c ∷ rest) ≡ type_case.Class
unfolding builtin_of
digit-case c rest f g = rw (above 56, above 28, above 17, above 12, above 10, above 60, above 61, above 40, above 41, above 39, above 46, above 57, above 58, above 47, above 48, above 50, above 51, above 62, above 63, above 52, above 53, above 44, above 42, above 43, above 45, above 64, above 27, above 59, above 7, above 26, above 22, above 24, above 21, above 9, above 13, above 19, above 25) refl
  where
    -- no letter is a digit
    above : (k : ℕ) → (c == 58 + k) ≡ false
    above k = digit-not c (58 + k) g (omega arith)

name-class : (q : Path) (rest : List ℕ) → case_of_type (spelled_name q rest) ≡ type_case.Class
unfolding spelled_name builtin_of
name-class (outermost n) rest = let b = source-begins n rest in ap case_of_type b.2 ∙ digit-case b.0 b.1 b.3.0 b.3.1
name-class (in_saved id n) rest = refl
name-class (inside scope n) rest = refl

type-class : (d : ℕ) (q : Path) (old : List Spelling) {u : Path} {after : List Spelling} (rest : List ℕ) (x l : ℕ) → write_path q old ≡ Some (u, after) → Follows rest
    → Only ((productions d).type false (st (spelled_name q rest) (map tree-of old) x l)) (path-tree u) (st rest (map tree-of after ++ path-tree u ∷ []) x l)
unfolding productions type_as
type-class zero q old rest x l e f = (false, refl)
type-class (suc d) q old {u} {after} rest x l e f =
    as-type d (st (spelled_name q rest) (map tree-of old) x l) type_case.Class (name-class q rest)
    (saved-only (name_tree (productions d)) (st (spelled_name q rest) (map tree-of old) x l) (only-then _ (path-only d q old rest x l e f) (true, refl)))

saved-class : (id : SeqId) (rest : List ℕ) → case_of_type (83 ∷ (id.written ++ rest)) ≡ type_case.Substitution
unfolding builtin_of
saved-class id rest =
    let f = id-begins id rest in
    rw f.2 (rw (ne_eqb f.0 116 (λ e. omega (arith, f.3, e))) refl)

type-saved : (d : ℕ) (id : SeqId) (old : List Spelling) {u : Spelling} (rest : List ℕ) (x l : ℕ) → slice_get old id.index ≡ Some u → Follows rest
    → Only ((productions d).type false (st (83 ∷ (id.written ++ rest)) (map tree-of old) x l)) (tree-of u) (st rest (map tree-of old) x l)
unfolding productions type_as
type-saved zero id old rest x l e f = (false, refl)
type-saved (suc d) id old {u} rest x l e f =
    as-type d (st (83 ∷ (id.written ++ rest)) (map tree-of old) x l) type_case.Substitution (saved-class id rest)
    (only-then _ (some (substitution-some id rest (map tree-of old) x l (candidate-tree old id.index e))) (rw (no-module u) (rw f.args (true, refl))))

-- Types.

type-same : {o : Option (Tree × State)} (rest : List ℕ) (x l : ℕ) (u v : Spelling) (after mid : List Spelling) (ts : List Tree) → u ≡ v → after ≡ mid → ts ≡ map tree-of mid
    → Only o (tree-of v) (st rest ts x l) → Only o (tree-of u) (st rest (map tree-of after) x l)
type-same rest x l u v after mid ts e f g h = rw (e, f, ← g) h

pushed : (mid : List Spelling) (v : Spelling) → map tree-of mid ++ tree-of v ∷ [] ≡ map tree-of (mid ++ v ∷ [])
pushed mid v = sym (map-append tree-of mid (v ∷ []))

no-function : (t : Spelling) (rest : List ℕ) → begins_function (spelled t rest) ≡ false
no-function t rest = let b = type-begins t rest in rw b.2 (rw (b.3.f, b.3.d) refl)

type-only : (t : Spelling) (d : ℕ) (old : List Spelling) {u : Spelling} {after : List Spelling} (rest : List ℕ) (x l : ℕ) → write_type t old ≡ Some (u, after) → Follows rest
    → Only ((productions d).type false (st (spelled t rest) (map tree-of old) x l)) (tree-of u) (st rest (map tree-of after) x l)
unfolding spelled write_type tree-of
type-only (builtin b) d old {u} {after} rest x l e f =
    type-same rest x l u (builtin b) after old (map tree-of old) (sym (ap (part-of u) e)) (sym (ap (rest-of after) e)) refl (type-builtin d b rest (map tree-of old) x l)
type-only (class q) d old {u} {after} rest x l e f =
    let g = save-some class (write_path q old) e in
    type-same rest x l u (class g.0) after (g.1 ++ class g.0 ∷ []) (map tree-of g.1 ++ path-tree g.0 ∷ []) g.3 g.4 (pushed g.1 (class g.0)) (type-class d q old rest x l g.2 f)
type-only (constant t) d old {u} {after} rest x l e f =
    let g = save-some constant (write_type t old) e in
    type-same rest x l u (constant g.0) after (g.1 ++ constant g.0 ∷ []) (map tree-of g.1 ++ tree-of (constant g.0) ∷ []) g.3 g.4 (pushed g.1 (constant g.0))
    (type-constant d (spelled t rest) (map tree-of old) x l (no-function t rest) (λ k. type-only t k old rest x l g.2 f))
type-only (pointer_to t) d old {u} {after} rest x l e f =
    let g = save-some pointer_to (write_type t old) e in
    type-same rest x l u (pointer_to g.0) after (g.1 ++ pointer_to g.0 ∷ []) (map tree-of g.1 ++ tree-of (pointer_to g.0) ∷ []) g.3 g.4 (pushed g.1 (pointer_to g.0))
    (type-pointer d (spelled t rest) (map tree-of old) x l (λ k. type-only t k old rest x l g.2 f))
type-only (lvalue t) d old {u} {after} rest x l e f =
    let g = save-some lvalue (write_type t old) e in
    type-same rest x l u (lvalue g.0) after (g.1 ++ lvalue g.0 ∷ []) (map tree-of g.1 ++ tree-of (lvalue g.0) ∷ []) g.3 g.4 (pushed g.1 (lvalue g.0))
    (type-lvalue d (spelled t rest) (map tree-of old) x l (λ k. type-only t k old rest x l g.2 f))
type-only (rvalue t) d old {u} {after} rest x l e f =
    let g = save-some rvalue (write_type t old) e in
    type-same rest x l u (rvalue g.0) after (g.1 ++ rvalue g.0 ∷ []) (map tree-of g.1 ++ tree-of (rvalue g.0) ∷ []) g.3 g.4 (pushed g.1 (rvalue g.0))
    (type-rvalue d (spelled t rest) (map tree-of old) x l (λ k. type-only t k old rest x l g.2 f))
type-only (substitution id) d old {u} {after} rest x l e f =
    let g = found-some (slice_get old id.index) old e in
    type-same rest x l u u after old (map tree-of old) refl g.1 refl (type-saved d id old rest x l g.0 f)

-- Parameters.

path-longer : (q : Path) (rest : List ℕ) → length rest < length (spelled_path q rest)
unfolding spelled_path
path-longer (outermost n) rest = source-longer n rest
path-longer (in_saved id n) rest = omega (arith, length-append id.written (n.written ++ rest), source-longer n rest)
path-longer (inside scope n) rest = omega (arith, path-longer scope (n.written ++ rest), source-longer n rest)

name-longer : (q : Path) (rest : List ℕ) → length rest < length (spelled_name q rest)
unfolding spelled_name
name-longer (outermost n) rest = source-longer n rest
name-longer (in_saved id n) rest = omega (arith, path-longer (in_saved id n) (69 ∷ rest))
name-longer (inside scope n) rest = omega (arith, path-longer (inside scope n) (69 ∷ rest))

some-same : {A : Type 0} {a b : A} → Some a ≡ Some b → b ≡ a
some-same {a = a} e = sym (ap (or-else a) e)

type-longer : (t : Spelling) (rest : List ℕ) → length rest < length (spelled t rest)
unfolding spelled spelled_name spelled_path
type-longer (builtin b) rest = omega arith
type-longer (class q) rest = name-longer q rest
type-longer (constant t) rest = omega (arith, type-longer t rest)
type-longer (pointer_to t) rest = omega (arith, type-longer t rest)
type-longer (lvalue t) rest = omega (arith, type-longer t rest)
type-longer (rvalue t) rest = omega (arith, type-longer t rest)
type-longer (substitution id) rest = omega (arith, length-append id.written rest)

next-some : (o : Option (Spelling × List Spelling)) (others : List Spelling → Option (List Spelling)) {us : List Spelling} → write_next o others ≡ Some us
    → (u : Spelling) × (mid : List Spelling) × (vs : List Spelling) × (o ≡ Some (u, mid)) × (others mid ≡ Some vs) × (us ≡ u ∷ vs)
next-some None others e = absurd cc
next-some (Some (u, mid)) others {us} e = go (others mid) refl e
  where
    go : (p : Option (List Spelling)) → others mid ≡ p → in_front u p ≡ Some us → (w : Spelling) × (end : List Spelling) × (vs : List Spelling) × (Some (with_saved u mid) ≡ Some (w, end)) × (others end ≡ Some vs) × (us ≡ w ∷ vs)
    go None f g = absurd cc
    go (Some vs) f g = (u, mid, vs, refl, f, some-same g)

goes-on : (t : Spelling) (rest : List ℕ) → is_encoding_end (spelled t rest) ≡ false
goes-on t rest = let b = type-begins t rest in rw b.2 (rw (b.3.e, b.3.dot, b.3.underscore) refl)

params-go-on : (t : Spelling) (rest : List ℕ) → is_params_end (spelled t rest) ≡ false
params-go-on t rest = let b = type-begins t rest in rw b.2 (rw (b.3.e, b.3.dot, b.3.underscore, b.3.q) refl)

abbrev more_params : ℕ → ℕ → List Tree → Parses (List Tree)
more_params d m = repeat_at_most m (ends end.Encoding) (item_more (tree_as (productions d) item.Type))

append-none : (ts : List Tree) → ts ++ [] ≡ ts
append-none [] = refl
append-none (t ∷ ts) = ap (λ (us : List Tree). t ∷ us) (append-none ts)

append-one : (ts us : List Tree) (t : Tree) → (ts ++ t ∷ []) ++ us ≡ ts ++ t ∷ us
append-one ts us t = append_assoc ts (t ∷ []) us

end-loop : (d m : ℕ) (acc : List Tree) (zs : List Tree) (x l : ℕ) → 0 < m → more_params d m acc (st [] zs x l) ≡ Some (acc, st [] zs x l)
unfolding ends tree_as
end-loop d m acc zs x l f = repeat-opens (ends end.Encoding) (item_more (tree_as (productions d) item.Type)) m acc (st [] zs x l) f

more-loop : (d m : ℕ) (t : Spelling) (u : Spelling) (old mid : List Spelling) (rest : List ℕ) (acc : List Tree) (x l : ℕ) → write_type t old ≡ Some (u, mid) → Follows rest → 0 < m
    → (ok : Bool) × (more_params d m acc (st (spelled t rest) (map tree-of old) x l) ≡ (if ok then more_params d (m - 1) (acc ++ tree-of u ∷ []) (st rest (map tree-of mid) x l) else None))
unfolding ends tree_as
more-loop d m t u old mid rest acc x l e f g = go (type-only t d old rest x l e f).0 (type-only t d old rest x l e f).1
  where
    opened : more_params d m acc (st (spelled t rest) (map tree-of old) x l)
        ≡ and_then (item_more ((productions d).type false) acc (st (spelled t rest) (map tree-of old) x l)) (more_params d (m - 1))
    opened = repeat-opens (ends end.Encoding) (item_more (tree_as (productions d) item.Type)) m acc (st (spelled t rest) (map tree-of old) x l) g ∙ rw (params-go-on t rest) refl

    go : (ok : Bool) → (productions d).type false (st (spelled t rest) (map tree-of old) x l) ≡ read_if ok (tree-of u) (st rest (map tree-of mid) x l)
        → (ok : Bool) × (more_params d m acc (st (spelled t rest) (map tree-of old) x l) ≡ (if ok then more_params d (m - 1) (acc ++ tree-of u ∷ []) (st rest (map tree-of mid) x l) else None))
    go true h = (true, opened ∙ rw h refl)
    go false h = (false, opened ∙ rw h refl)

params-loop : (ts : List Spelling) (d m : ℕ) (old : List Spelling) {us : List Spelling} (acc : List Tree) (x l : ℕ) → write_each ts old ≡ Some us → length (spelled_each ts) < m
    → (zs : List Tree) × Only (more_params d m acc (st (spelled_each ts) (map tree-of old) x l)) (acc ++ map tree-of us) (st [] zs x l)
unfolding write_each spelled_each
params-loop [] d m old {us} acc x l e f =
    let none-left : us ≡ [] = some-same e in
    (map tree-of old, (true, rw (none-left, append-none acc) (end-loop d m acc (map tree-of old) x l (omega (arith, f)))))
params-loop (t ∷ ts) d m old {us} acc x l e f = taken (next-some (write_type t old) (write_each ts) e) (λ v mid vs g. params-loop ts d (m - 1) mid {us = vs} (acc ++ tree-of v ∷ []) x l g shorter)
  where
    shorter : length (spelled_each ts) < m - 1
    shorter = omega (arith, f, type-longer t (spelled_each ts))

    taken : (u : Spelling) × (mid : List Spelling) × (vs : List Spelling) × (write_type t old ≡ Some (u, mid)) × (write_each ts mid ≡ Some vs) × (us ≡ u ∷ vs)
        → ((v : Spelling) (mid vs : List Spelling) → write_each ts mid ≡ Some vs → (zs : List Tree) × Only (more_params d (m - 1) (acc ++ tree-of v ∷ []) (st (spelled_each ts) (map tree-of mid) x l)) ((acc ++ tree-of v ∷ []) ++ map tree-of vs) (st [] zs x l))
        → (zs : List Tree) × Only (more_params d m acc (st (spelled t (spelled_each ts)) (map tree-of old) x l)) (acc ++ map tree-of us) (st [] zs x l)
    taken g h = (others.0, chained one.0 one.1)
      where
        others : (zs : List Tree) × Only (more_params d (m - 1) (acc ++ tree-of g.0 ∷ []) (st (spelled_each ts) (map tree-of g.1) x l)) ((acc ++ tree-of g.0 ∷ []) ++ map tree-of g.2) (st [] zs x l)
        others = h g.0 g.1 g.2 g.4

        one : (ok : Bool) × (more_params d m acc (st (spelled t (spelled_each ts)) (map tree-of old) x l) ≡ (if ok then more_params d (m - 1) (acc ++ tree-of g.0 ∷ []) (st (spelled_each ts) (map tree-of g.1) x l) else None))
        one = more-loop d m t g.0 old g.1 (spelled_each ts) acc x l g.3 (each-follows ts) (omega (arith, f))

        whole : (acc ++ tree-of g.0 ∷ []) ++ map tree-of g.2 ≡ acc ++ map tree-of us
        whole = append-one acc (map tree-of g.2) (tree-of g.0) ∙ ap (λ (ws : List Spelling). acc ++ map tree-of ws) (sym g.5)

        chained : (ok : Bool) → more_params d m acc (st (spelled t (spelled_each ts)) (map tree-of old) x l) ≡ (if ok then more_params d (m - 1) (acc ++ tree-of g.0 ∷ []) (st (spelled_each ts) (map tree-of g.1) x l) else None)
            → Only (more_params d m acc (st (spelled t (spelled_each ts)) (map tree-of old) x l)) (acc ++ map tree-of us) (st [] others.0 x l)
        chained true k = (others.1.0, k ∙ others.1.1 ∙ ap (λ (ws : List Tree). read_if others.1.0 ws (st [] others.0 x l)) whole)
        chained false k = (false, k)

-- the first parameter is `void`: there are none
unfoldable is-void : Spelling → Bool
is-void (builtin b) = b.byte == 118
is-void (class q) = false
is-void (constant t) = false
is-void (pointer_to t) = false
is-void (lvalue t) = false
is-void (rvalue t) = false
is-void (substitution id) = false

void-first : (t : Spelling) (rest : List ℕ) → begins (codes "v") (spelled t rest) ≡ is-void t
unfolding is-void spelled spelled_name
void-first (builtin b) rest = and-true (b.byte == 118)
  where
    and-true : (ok : Bool) → (ok && true) ≡ ok
    and-true true = refl
    and-true false = refl
void-first (class (outermost n)) rest = let b = source-begins n rest in rw b.2 (rw (digit-not b.0 118 b.3.1 (omega arith)) refl)
void-first (class (in_saved id n)) rest = refl
void-first (class (inside scope n)) rest = refl
void-first (constant t) rest = refl
void-first (pointer_to t) rest = refl
void-first (lvalue t) rest = refl
void-first (rvalue t) rest = refl
void-first (substitution id) rest = refl

-- what is left after the parameters is no suffix
record Quiet (rest : List ℕ) : Type 0 where
  ends : is_dot_or_end rest ≡ true → rest ≡ []
  constraint : begins (codes "Q") rest ≡ false

quiet-end : Quiet []
quiet-end = record { ends = λ e. refl; constraint = refl }

each-quiet : (ts : List Spelling) → Quiet (spelled_each ts)
unfolding spelled_each
each-quiet [] = quiet-end
each-quiet (t ∷ ts) =
    let b = type-begins t (spelled_each ts) in
    rw b.2 (record { ends = λ e. absurd (true≢false (sym e ∙ rw b.3.dot refl)); constraint = rw b.3.q refl })

params-of : Bool → List Spelling → List Tree
params-of true us = []
params-of false us = map tree-of us

void-only : (p : Productions) (t : Spelling) (ts : List Spelling) (zs : List Tree) (x l : ℕ) → is-void t ≡ true
    → parse_params p item.Type end.Encoding (st (spelled_each (t ∷ ts)) zs x l) ≡ Some ([], st (spelled_each ts) zs x l)
unfolding parse_params past_word_if spelled_each spelled is-void
void-only p (builtin b) ts zs x l e = rw e refl
void-only p (class q) ts zs x l e = absurd (true≢false (sym e))
void-only p (constant t) ts zs x l e = absurd (true≢false (sym e))
void-only p (pointer_to t) ts zs x l e = absurd (true≢false (sym e))
void-only p (lvalue t) ts zs x l e = absurd (true≢false (sym e))
void-only p (rvalue t) ts zs x l e = absurd (true≢false (sym e))
void-only p (substitution id) ts zs x l e = absurd (true≢false (sym e))

abbrev some_params : ℕ → State → Option (List Tree × State)
some_params d s = parse_some_params (productions d) item.Type end.Encoding s

no-void : (d : ℕ) (t : Spelling) (rest : List ℕ) (zs : List Tree) (x l : ℕ) → is-void t ≡ false → parse_params (productions d) item.Type end.Encoding (st (spelled t rest) zs x l) ≡ some_params d (st (spelled t rest) zs x l)
unfolding parse_params past_word_if
no-void d t rest zs x l e = rw (void-first t rest, e) refl

some-only : (d : ℕ) (t : Spelling) (ts : List Spelling) (old : List Spelling) (u : Spelling) (mid vs : List Spelling) (x l : ℕ) → write_type t old ≡ Some (u, mid) → write_each ts mid ≡ Some vs
    → (zs : List Tree) × Only (some_params d (st (spelled t (spelled_each ts)) (map tree-of old) x l)) (map tree-of (u ∷ vs)) (st [] zs x l)
unfolding tree_as
some-only d t ts old u mid vs x l e f =
    let more = params-loop ts d (length (spelled_each ts) + 1) mid (tree-of u ∷ []) x l f (omega arith) in
    (more.0, only-then _ (type-only t d old (spelled_each ts) x l e (each-follows ts)) more.1)

params-same : (v : Bool) (us ws : List Spelling) → v ≡ false → us ≡ ws → map tree-of ws ≡ params-of v us
unfolding params-of
params-same v us ws e f = rw (e, f) refl

params-only : (d : ℕ) (t : Spelling) (ts : List Spelling) (old : List Spelling) {us : List Spelling} (x l : ℕ) → write_each (t ∷ ts) old ≡ Some us
    → (rest : List ℕ) × (zs : List Tree) × Quiet rest × Only (parse_params (productions d) item.Type end.Encoding (st (spelled_each (t ∷ ts)) (map tree-of old) x l)) (params-of (is-void t) us) (st rest zs x l)
unfolding write_each spelled_each params-of
params-only d t ts old {us} x l e = go (is-void t) refl
  where
    g : (u : Spelling) × (mid : List Spelling) × (vs : List Spelling) × (write_type t old ≡ Some (u, mid)) × (write_each ts mid ≡ Some vs) × (us ≡ u ∷ vs)
    g = next-some (write_type t old) (write_each ts) e

    more : (zs : List Tree) × Only (some_params d (st (spelled t (spelled_each ts)) (map tree-of old) x l)) (map tree-of (g.0 ∷ g.2)) (st [] zs x l)
    more = some-only d t ts old g.0 g.1 g.2 x l g.3 g.4

    go : (v : Bool) → is-void t ≡ v → (rest : List ℕ) × (zs : List Tree) × Quiet rest × Only (parse_params (productions d) item.Type end.Encoding (st (spelled_each (t ∷ ts)) (map tree-of old) x l)) (params-of (is-void t) us) (st rest zs x l)
    go true f = (spelled_each ts, map tree-of old, each-quiet ts, (true, rw f (void-only (productions d) t ts (map tree-of old) x l f)))
    go false f = ([], more.0, quiet-end, (more.1.0, no-void d t (spelled_each ts) (map tree-of old) x l f ∙ more.1.1 ∙ ap (λ (ws : List Tree). read_if more.1.0 ws (st [] more.0 x l)) (params-same (is-void t) us (g.0 ∷ g.2) f g.5)))

-- Encodings.

-- the tree of an encoding, before its template parameters are bound
signed : Bool → Path → List Spelling → Tree
signed v q [] = data_name (path-tree q)
signed v q (u ∷ us) = function_encoding None (path-tree q) (trees_from_list (params-of v (u ∷ us))) None None no_cv refqual.None

void-of : List Spelling → Bool
void-of [] = false
void-of (t ∷ ts) = is-void t

no-conditions : (d : ℕ) (t : Spelling) (rest : List ℕ) (zs : List Tree) (x l : ℕ) → Only (parse_enable_if (productions d) (st (spelled t rest) zs x l)) None (st (spelled t rest) zs x l)
unfolding parse_enable_if
no-conditions d t rest zs x l = let b = type-begins t rest in rw b.2 (rw b.3.u (true, refl))

no-constraint : (d : ℕ) (rest : List ℕ) (zs : List Tree) (x l : ℕ) → begins (codes "Q") rest ≡ false → Only (parse_constraint (productions d) (st rest zs x l)) None (st rest zs x l)
unfolding past_word_if
no-constraint d rest zs x l e = rw e (true, refl)

function-only : (d : ℕ) (q : Path) (t : Spelling) (ts : List Spelling) (old : List Spelling) {us : List Spelling} (x l : ℕ) → write_each (t ∷ ts) old ≡ Some us
    → (rest : List ℕ) × (zs : List Tree) × Quiet rest × Only (parse_function (productions d) (plain (path-tree q)) (st (spelled_each (t ∷ ts)) (map tree-of old) x l))
    (function_encoding None (path-tree q) (trees_from_list (params-of (is-void t) us)) None None no_cv refqual.None) (st rest zs x l)
unfolding parse_enable_if spelled_each
function-only d q t ts old {us} x l e =
    let f = params-only d t ts old x l e in (
      f.0,
      f.1,
      f.2,
      only-then _ (no-conditions d t (spelled_each ts) (map tree-of old) x l)
          (only-then _ f.3 (only-then _ (no-constraint d f.0 f.1 x l f.2.constraint) (make-only _ (st f.0 f.1 x l)))),
    )

some-written : (t : Spelling) (ts old : List Spelling) {us : List Spelling} → write_each (t ∷ ts) old ≡ Some us → (u : Spelling) × (vs : List Spelling) × (us ≡ u ∷ vs)
unfolding write_each
some-written t ts old e = let g = next-some (write_type t old) (write_each ts) e in (g.0, g.2, g.5)

signed-same : (v : Bool) (q : Path) (us : List Spelling) (u : Spelling) (vs : List Spelling) → us ≡ u ∷ vs
    → function_encoding None (path-tree q) (trees_from_list (params-of v us)) None None no_cv refqual.None ≡ signed v q us
unfolding signed
signed-same v q us u vs e = rw e refl

signature-only : (d : ℕ) (q : Path) (ts : List Spelling) (old : List Spelling) {us : List Spelling} (x l : ℕ) → write_each ts old ≡ Some us
    → (rest : List ℕ) × (zs : List Tree) × Quiet rest × Only (parse_signature (productions d) (plain (path-tree q)) (st (spelled_each ts) (map tree-of old) x l)) (signed (void-of ts) q us) (st rest zs x l)
unfolding parse_signature void-of write_each spelled_each signed
signature-only d q [] old {us} x l e = ([], map tree-of old, quiet-end, no-params us (some-same e))
  where
    no-params : (vs : List Spelling) → vs ≡ [] → Only (make (data_name (path-tree q)) (st [] (map tree-of old) x l)) (signed false q vs) (st [] (map tree-of old) x l)
    no-params vs f = rw f (make-only (data_name (path-tree q)) (st [] (map tree-of old) x l))
signature-only d q (t ∷ ts) old {us} x l e =
    let f = function-only d q t ts old x l e in
    let g = some-written t ts old e in
    let same : Only (parse_function (productions d) (plain (path-tree q)) (st (spelled_each (t ∷ ts)) (map tree-of old) x l)) (signed (is-void t) q us) (st f.0 f.1 x l) =
    subst (λ (w : Tree). Only (parse_function (productions d) (plain (path-tree q)) (st (spelled_each (t ∷ ts)) (map tree-of old) x l)) w (st f.0 f.1 x l)) (signed-same (is-void t) q us g.0 g.1 g.2) f.3 in
    (f.0, f.1, f.2, rw (goes-on t (spelled_each ts)) same)

no-args : (q : Path) → args_of (path-tree q) ≡ None
unfolding args_of path-tree
no-args (outermost n) = refl
no-args (in_saved id n) = refl
no-args (inside scope n) = no-args scope

closed-only : (t : Tree) (s : State) → Only (parse_closed t s) t s
unfolding parse_closed
closed-only t s = go (nat_eq (measure t).params 0) refl
  where
    go : (ok : Bool) → nat_eq (measure t).params 0 ≡ ok → Only (parse_closed t s) t s
    go true e = (true, rw e refl)
    go false e = (false, rw e refl)

abbrev counting : Tree → State → State
counting t s = record s { replaced = s.replaced + (measure t).params }

count-only : (t : Tree) (s : State) → Only (count_replaced t s) tt (counting t s)
count-only t s = go (nat_le (s.replaced + (measure t).params) 65536) refl
  where
    go : (ok : Bool) → nat_le (s.replaced + (measure t).params) 65536 ≡ ok → Only (count_replaced t s) tt (counting t s)
    go true e = (true, rw e refl)
    go false e = (false, rw e refl)

-- the tree of an encoding whose name has no arguments
bound : Tree → Tree
bound t = bind (binding_of []) t

bind-only : (q : Path) (t : Tree) (s : State) → Only (bind_encoding (plain (path-tree q)) t s) (bound t) (counting t s)
unfolding bind_encoding bound
bind-only q t s = only-then _ (count-only t s) (rw (no-args q) (only-then _ (make-only (bind (binding_of []) t) (counting t s)) (closed-only (bind (binding_of []) t) (counting t s))))

encoding-case : (q : Path) (rest : List ℕ) → case_of_encoding (spelled_name q rest) ≡ encoding.Name
encoding-case q rest = let b = name-begins q rest in ap case_of_encoding b.2 ∙ rw (b.3.g, b.3.t) refl

-- an encoding, and what is left after it
abbrev Encodes : Option (Tree × State) → Tree → Type 0
Encodes o t = (s : State) × Quiet s.rest × Only o t s

level-only : {A : Type 0} (n : ℕ) (parser : Parses A) (s : State) {a : A} {rest : List ℕ} {zs : List Tree} {x l : ℕ} → Only (parser (record s { level = n })) a (st rest zs x l) → Only (at_level n parser s) a (st rest zs x s.level)
level-only n parser s f = only-then _ f (true, refl)

as-encoding : (d : ℕ) (s : State) (c : EncodingCase) {t : Tree} {after : State} → case_of_encoding s.rest ≡ c → Only (encoding_as (productions d) c s) t after
    → Only (by case_of_encoding (encoding_as (productions d)) s) t after
as-encoding d s c {t} {after} e f = subst (λ (x : EncodingCase). Only (encoding_as (productions d) x s) t after) (sym e) f

named-encoding : (d : ℕ) (q u : Path) (ts : List Spelling) (mid us : List Spelling) (rest : List ℕ) (zs : List Tree) → write_path q [] ≡ Some (u, mid)
    → Only (parse_signature (productions d) (plain (path-tree u)) (st (spelled_each ts) (map tree-of mid) 0 (level_behind (plain (path-tree u))))) (signed (void-of ts) u us)
    (st rest zs 0 (level_behind (plain (path-tree u))))
    → Only (parse_named_encoding (productions d) (st (spelled_name q (spelled_each ts)) [] 0 0)) (bound (signed (void-of ts) u us)) (counting (signed (void-of ts) u us) (st rest zs 0 0))
named-encoding d q u ts mid us rest zs e f =
    only-then _ (path-only d q [] (spelled_each ts) 0 0 e (each-follows ts))
    (only-then _ (level-only (level_behind (plain (path-tree u))) (parse_signature (productions d) (plain (path-tree u))) (st (spelled_each ts) (map tree-of mid) 0 0) f)
    (bind-only u (signed (void-of ts) u us) (st rest zs 0 0)))

encoding-only : (d : ℕ) (q u : Path) (ts : List Spelling) (mid us : List Spelling) → write_path q [] ≡ Some (u, mid) → write_each ts mid ≡ Some us
    → Encodes ((productions d).encoding (st (spelled_name q (spelled_each ts)) [] 0 0)) (bound (signed (void-of ts) u us))
unfolding productions encoding_as
encoding-only zero q u ts mid us e f = (st [] [] 0 0, quiet-end, (false, refl))
encoding-only (suc d) q u ts mid us e f =
    let sig = signature-only d u ts mid 0 (level_behind (plain (path-tree u))) f in
    let t = signed (void-of ts) u us in (
      counting t (st sig.0 sig.1 0 0),
      sig.2,
      level-only 0 (by case_of_encoding (encoding_as (productions d))) (st (spelled_name q (spelled_each ts)) [] 0 0)
          (as-encoding d (st (spelled_name q (spelled_each ts)) [] 0 0) encoding.Name (encoding-case q (spelled_each ts)) (named-encoding d q u ts mid us sig.0 sig.1 e sig.3)),
    )

-- Symbols.

reading-of : Tree → Reading
reading-of t = record { tree = t; is_block = false; suffix = None }

rest-only : (t : Tree) (s : State) → Quiet s.rest → Only ((parse_rest >>= λ rest. pure (record { tree = t; is_block = false; suffix = suffix_of rest })) s) (reading-of t) (record s { rest = [] })
unfolding reading-of
rest-only t s quiet = go (is_dot_or_end s.rest) refl
  where
    go : (ok : Bool) → is_dot_or_end s.rest ≡ ok → Only ((parse_rest >>= λ rest. pure (record { tree = t; is_block = false; suffix = suffix_of rest })) s) (reading-of t) (record s { rest = [] })
    go true e = (true, rw e (rw (quiet.ends e) refl))
    go false e = (false, rw e refl)

read_of : Bool → Tree → Option Reading
read_of ok t = if ok then Some (reading-of t) else None

found-is : (o : Option (Reading × State)) (ok : Bool) (t : Tree) (s : State) → o ≡ read_if ok (reading-of t) s → found_of o ≡ read_of ok t
unfolding read_of
found-is o true t s e = rw e refl
found-is o false t s e = rw e refl

mangled-only : (d : ℕ) (f : Function) (u : Path) (mid us : List Spelling) → write_path f.name [] ≡ Some (u, mid) → write_each f.params mid ≡ Some us
    → (s : State) × Only (parse_mangled_name (productions d) (start (symbol_of f))) (reading-of (bound (signed (void-of f.params) u us))) s
unfolding symbol_as
mangled-only d f u mid us e g =
    let t = bound (signed (void-of f.params) u us) in
    let inner = encoding-only d f.name u f.params mid us e g in
    (record inner.0 { rest = [] }, only-then _ inner.2 (rest-only t inner.0 inner.1))

symbol-only : (f : Function) (u : Path) (mid us : List Spelling) → write_path f.name [] ≡ Some (u, mid) → write_each f.params mid ≡ Some us
    → (ok : Bool) × (parse_symbol (symbol_of f) ≡ read_of ok (bound (signed (void-of f.params) u us)))
symbol-only f u mid us e g =
    let m = mangled-only max_depth f u mid us e g in
    (m.1.0, found-is (parse_mangled_name (productions max_depth) (start (symbol_of f))) m.1.0 (bound (signed (void-of f.params) u us)) m.0 m.1.1)

-- What is written out has no substitution, and stays when it is written out again.

plain-more : (ts : List Spelling) (t : Spelling) → are_plain ts ≡ true → is_plain t ≡ true → are_plain (ts ++ t ∷ []) ≡ true
unfolding are_plain
plain-more [] t e f = rw f refl
plain-more (u ∷ us) t e f = let g = both (is_plain u) (are_plain us) e in rw (g.0, plain-more us t g.1 f) refl

plain-at : (ts : List Spelling) (k : ℕ) {t : Spelling} → are_plain ts ≡ true → slice_get ts k ≡ Some t → is_plain t ≡ true
unfolding are_plain
plain-at [] k e f = absurd cc
plain-at (u ∷ us) zero {t} e f = subst (λ (x : Spelling). is_plain x ≡ true) (ap (or-else u) f) (both (is_plain u) (are_plain us) e).0
plain-at (u ∷ us) (suc k) e f = plain-at us k (both (is_plain u) (are_plain us) e).1 f

path-plain : (q : Path) (old : List Spelling) {u : Path} {after : List Spelling} → write_path q old ≡ Some (u, after) → are_plain old ≡ true → (is_plain_path u ≡ true) × (are_plain after ≡ true)
unfolding write_path is_plain_path is_plain
path-plain (outermost n) old {u} {after} e f =
    (ap is_plain_path (sym (ap (part-of u) e)), subst (λ (ts : List Spelling). are_plain ts ≡ true) (ap (rest-of after) e) f)
path-plain (in_saved id n) old {u} {after} e f =
    let g = candidate-some (slice_get old id.index) n old e in
    (ap is_plain_path g.2 ∙ plain-at old id.index f g.1, subst (λ (ts : List Spelling). are_plain ts ≡ true) (sym g.3) f)
path-plain (inside scope n) old {u} {after} e f =
    let g = scope-some (write_path scope old) n e in
    let h = path-plain scope old g.2 f in
    (ap is_plain_path g.3 ∙ h.0, subst (λ (ts : List Spelling). are_plain ts ≡ true) (sym g.4) (plain-more g.1 (class g.0) h.1 h.0))

-- after something is saved
saved-plain : (u v : Spelling) (after mid : List Spelling) → u ≡ v → after ≡ mid ++ v ∷ [] → are_plain mid ≡ true → is_plain v ≡ true → (is_plain u ≡ true) × (are_plain after ≡ true)
saved-plain u v after mid e f g h = (ap is_plain e ∙ h, subst (λ (ts : List Spelling). are_plain ts ≡ true) (sym f) (plain-more mid v g h))

type-plain : (t : Spelling) (old : List Spelling) {u : Spelling} {after : List Spelling} → write_type t old ≡ Some (u, after) → are_plain old ≡ true → (is_plain u ≡ true) × (are_plain after ≡ true)
unfolding write_type is_plain
type-plain (builtin b) old {u} {after} e f =
    (ap is_plain (sym (ap (part-of u) e)), subst (λ (ts : List Spelling). are_plain ts ≡ true) (ap (rest-of after) e) f)
type-plain (class q) old {u} {after} e f =
    let g = save-some class (write_path q old) e in
    let h = path-plain q old g.2 f in
    saved-plain u (class g.0) after g.1 g.3 g.4 h.1 h.0
type-plain (constant t) old {u} {after} e f =
    let g = save-some constant (write_type t old) e in
    let h = type-plain t old g.2 f in
    saved-plain u (constant g.0) after g.1 g.3 g.4 h.1 h.0
type-plain (pointer_to t) old {u} {after} e f =
    let g = save-some pointer_to (write_type t old) e in
    let h = type-plain t old g.2 f in
    saved-plain u (pointer_to g.0) after g.1 g.3 g.4 h.1 h.0
type-plain (lvalue t) old {u} {after} e f =
    let g = save-some lvalue (write_type t old) e in
    let h = type-plain t old g.2 f in
    saved-plain u (lvalue g.0) after g.1 g.3 g.4 h.1 h.0
type-plain (rvalue t) old {u} {after} e f =
    let g = save-some rvalue (write_type t old) e in
    let h = type-plain t old g.2 f in
    saved-plain u (rvalue g.0) after g.1 g.3 g.4 h.1 h.0
type-plain (substitution id) old {u} {after} e f =
    let g = found-some (slice_get old id.index) old e in
    (plain-at old id.index f g.0, subst (λ (ts : List Spelling). are_plain ts ≡ true) (sym g.1) f)

each-plain : (ts : List Spelling) (old : List Spelling) {us : List Spelling} → write_each ts old ≡ Some us → are_plain old ≡ true → are_plain us ≡ true
unfolding write_each are_plain
each-plain [] old {us} e f = ap are_plain (some-same e)
each-plain (t ∷ ts) old {us} e f =
    let g = next-some (write_type t old) (write_each ts) e in
    let h = type-plain t old g.3 f in
    ap are_plain g.5 ∙ rw (h.0, each-plain ts g.1 g.4 h.1) refl

path-again : (q : Path) (old : List Spelling) → is_plain_path q ≡ true → (after : List Spelling) × (write_path q old ≡ Some (q, after))
unfolding write_path is_plain_path
path-again (outermost n) old e = (old, refl)
path-again (in_saved id n) old e = absurd (true≢false (sym e))
path-again (inside scope n) old e = let f = path-again scope old e in (f.0 ++ class scope ∷ [], rw f.1 refl)

type-again : (t : Spelling) (old : List Spelling) → is_plain t ≡ true → (after : List Spelling) × (write_type t old ≡ Some (t, after))
unfolding write_type is_plain
type-again (builtin b) old e = (old, refl)
type-again (class q) old e = let f = path-again q old e in (f.0 ++ class q ∷ [], rw f.1 refl)
type-again (constant t) old e = let f = type-again t old e in (f.0 ++ constant t ∷ [], rw f.1 refl)
type-again (pointer_to t) old e = let f = type-again t old e in (f.0 ++ pointer_to t ∷ [], rw f.1 refl)
type-again (lvalue t) old e = let f = type-again t old e in (f.0 ++ lvalue t ∷ [], rw f.1 refl)
type-again (rvalue t) old e = let f = type-again t old e in (f.0 ++ rvalue t ∷ [], rw f.1 refl)
type-again (substitution id) old e = absurd (true≢false (sym e))

each-again : (ts : List Spelling) (old : List Spelling) → are_plain ts ≡ true → write_each ts old ≡ Some ts
unfolding write_each are_plain
each-again [] old e = refl
each-again (t ∷ ts) old e =
    let f = both (is_plain t) (are_plain ts) e in
    let g = type-again t old f.0 in
    rw (g.1, each-again ts g.0 f.1) refl

-- `void` stays `void`: a scope is a class.

classes : List Spelling → Bool
classes [] = true
classes (class q ∷ ts) = classes ts
classes (builtin b ∷ ts) = false
classes (constant t ∷ ts) = false
classes (pointer_to t ∷ ts) = false
classes (lvalue t ∷ ts) = false
classes (rvalue t ∷ ts) = false
classes (substitution id ∷ ts) = false

class-more : (ts : List Spelling) (q : Path) → classes ts ≡ true → classes (ts ++ class q ∷ []) ≡ true
unfolding classes
class-more [] q e = refl
class-more (class p ∷ ts) q e = class-more ts q e
class-more (builtin b ∷ ts) q e = e
class-more (constant t ∷ ts) q e = e
class-more (pointer_to t ∷ ts) q e = e
class-more (lvalue t ∷ ts) q e = e
class-more (rvalue t ∷ ts) q e = e
class-more (substitution id ∷ ts) q e = e

class-at : (ts : List Spelling) (k : ℕ) {u : Spelling} → classes ts ≡ true → slice_get ts k ≡ Some u → is-void u ≡ false
unfolding classes is-void
class-at [] k e f = absurd cc
class-at (class q ∷ ts) zero e f = sym (ap is-void (ap (or-else (class q)) f))
class-at (class q ∷ ts) (suc k) e f = class-at ts k e f
class-at (builtin b ∷ ts) k e f = absurd (true≢false (sym e))
class-at (constant t ∷ ts) k e f = absurd (true≢false (sym e))
class-at (pointer_to t ∷ ts) k e f = absurd (true≢false (sym e))
class-at (lvalue t ∷ ts) k e f = absurd (true≢false (sym e))
class-at (rvalue t ∷ ts) k e f = absurd (true≢false (sym e))
class-at (substitution id ∷ ts) k e f = absurd (true≢false (sym e))

path-classes : (q : Path) (old : List Spelling) {u : Path} {after : List Spelling} → write_path q old ≡ Some (u, after) → classes old ≡ true → classes after ≡ true
unfolding write_path
path-classes (outermost n) old {u} {after} e f = subst (λ (ts : List Spelling). classes ts ≡ true) (ap (rest-of after) e) f
path-classes (in_saved id n) old e f = let g = candidate-some (slice_get old id.index) n old e in subst (λ (ts : List Spelling). classes ts ≡ true) (sym g.3) f
path-classes (inside scope n) old e f =
    let g = scope-some (write_path scope old) n e in
    subst (λ (ts : List Spelling). classes ts ≡ true) (sym g.4) (class-more g.1 g.0 (path-classes scope old g.2 f))

void-same : (t : Spelling) (old : List Spelling) {u : Spelling} {after : List Spelling} → write_type t old ≡ Some (u, after) → classes old ≡ true → is-void u ≡ is-void t
unfolding write_type is-void
void-same (builtin b) old {u} e f = sym (ap is-void (ap (part-of u) e))
void-same (class q) old e f = let g = save-some class (write_path q old) e in ap is-void g.3
void-same (constant t) old e f = let g = save-some constant (write_type t old) e in ap is-void g.3
void-same (pointer_to t) old e f = let g = save-some pointer_to (write_type t old) e in ap is-void g.3
void-same (lvalue t) old e f = let g = save-some lvalue (write_type t old) e in ap is-void g.3
void-same (rvalue t) old e f = let g = save-some rvalue (write_type t old) e in ap is-void g.3
void-same (substitution id) old e f = let g = found-some (slice_get old id.index) old e in class-at old id.index f g.0

voids-same : (ts : List Spelling) (old : List Spelling) {us : List Spelling} → write_each ts old ≡ Some us → classes old ≡ true → void-of us ≡ void-of ts
unfolding write_each void-of
voids-same [] old e f = ap void-of (some-same e)
voids-same (t ∷ ts) old e f = let g = next-some (write_type t old) (write_each ts) e in ap void-of g.5 ∙ void-same t old g.3 f

-- The law.

abbrev a-function : Path → List Spelling → Function
a-function name params = record { name = name; params = params }

abbrev in-front-of : Path → List Spelling → Path × List Spelling
in-front-of q saved = (q, saved)

out-some : (f g : Function) → write_out f ≡ Some g → (mid : List Spelling) × (write_path f.name [] ≡ Some (g.name, mid)) × (write_each f.params mid ≡ Some g.params)
out-some f g e = go (write_path f.name []) refl e
  where
    go : (o : Option (Path × List Spelling)) → write_path f.name [] ≡ o → write_params o f.params ≡ Some g
        → (mid : List Spelling) × (write_path f.name [] ≡ Some (g.name, mid)) × (write_each f.params mid ≡ Some g.params)
    go None h e = absurd cc
    go (Some (name, mid)) h e = in-params (write_each f.params mid) refl e
      where
        in-params : (o : Option (List Spelling)) → write_each f.params mid ≡ o → option_map (λ (params : List Spelling). a-function name params) o ≡ Some g
            → (mid : List Spelling) × (write_path f.name [] ≡ Some (g.name, mid)) × (write_each f.params mid ≡ Some g.params)
        in-params None k e = absurd cc
        in-params (Some params) k e =
            (mid, h ∙ ap (λ (x : Function). Some (in-front-of x.name mid)) (ap (or-else g) e), k ∙ ap (λ (x : Function). Some x.params) (ap (or-else g) e))

none-left : (f g : Function) → write_out f ≡ Some g → (is_plain_path g.name && are_plain g.params) ≡ true
unfolding are_plain
none-left f g e =
    let h = out-some f g e in
    let n = path-plain f.name [] h.1 refl in
    rw (n.0, each-plain f.params h.0 h.2 n.1) refl

read-some : (ok : Bool) (t : Tree) (r : Reading) → read_of ok t ≡ Some r → r ≡ reading-of t
unfolding read_of
read-some true t r e = some-same e
read-some false t r e = absurd cc

same-reading : (f g : Function) → write_out f ≡ Some g → (r s : Reading) → parse_symbol (symbol_of f) ≡ Some r → parse_symbol (symbol_of g) ≡ Some s → r ≡ s
unfolding classes
same-reading f g e r s of-f of-g =
    let h = out-some f g e in
    let plain-g = both (is_plain_path g.name) (are_plain g.params) (none-left f g e) in
    let again = path-again g.name [] plain-g.0 in
    let one = symbol-only f g.name h.0 g.params h.1 h.2 in
    let two = symbol-only g g.name again.0 g.params again.1 (each-again g.params again.0 plain-g.1) in
    let void = voids-same f.params h.0 h.2 (path-classes f.name [] h.1 refl) in
    read-some one.0 _ r (sym one.1 ∙ of-f) ∙ ap (λ (v : Bool). reading-of (bound (signed v g.name g.params))) (sym void) ∙ sym (read-some two.0 _ s (sym two.1 ∙ of-g))

pub substitutions : SubstitutionsCanBeWrittenOut
substitutions = record { none_left = none-left; same = same-reading }
