-- One level of the parser's functions.
use Rattle.std.proofs.Common.{◌≡◌, ◌<◌, ℕ, zero, suc, ◌-◌, Bool, true, false, List, [], ◌∷◌, ◌++◌, subst}
use Rattle.std.proofs.Common.{drop, refl, sym, ◌∙◌, ap, append_assoc, arith, Option, Some, None, Result}
use Rattle.std.proofs.Common.{codes}
use Rattle.std.proofs.Common.{Ok, Err}
use Rattle.std.specs.Prelude.{is_some, nat_le, ◌&&◌, ◌==◌, if◌then◌else◌}
use Rattle.std.proofs.lemmas.Bool.Decides.{nat_tests}
use Rattle.demangle_text.specs.Shape.{Shape, plain_shape, text}
use Rattle.demangle_edit.specs.Names.{qualified, tagged}
use Rattle.itanium_syntax.specs.declared.context.Context.{Context}
use Rattle.abi_scalars.specs.declared.numerals.Radix.TheVariants.{Decimal}
use Rattle.itanium_syntax.specs.declared.offsets.ThunkOffsets.{ThunkOffsets}
use Rattle.itanium_syntax.specs.declared.offsets.ThunkOffsets.TheVariants.{Single, Covariant}
use Rattle.itanium_syntax.specs.Offsets.{thunk_offsets}
use Rattle.abi_scalars.specs.Scalars.{index_of, source_name, source_text}
use Rattle.itanium_syntax.specs.Context.{opens_scope, inside_type, hiding_dots, inside_lambda, showing_words, inside_encoding}
use Rattle.itanium_syntax.specs.Names.{name_case, unqualified_case, tag_case}
use Rattle.demangle_quals.specs.Quals.{no_quals}
use Rattle.itanium_syntax.specs.Names.{ordinary_case, first_segment_case, substitution_case}
use Rattle.abi_scalars.specs.Texts.{begins_source}
use Rattle.itanium_syntax.specs.Names.{past_internal, past_name_quals, name_quals, first_segment_is_candidate}
use Rattle.itanium_syntax.specs.Expressions.{expression_case}
use Rattle.itanium_syntax.specs.Encodings.{entity_case, begins_special, encoding_case}
use Rattle.itanium_syntax.specs.Types.{type_case}
use Rattle.itanium_reader.specs.declared.reader.Reader.{Reader}
use Rattle.itanium_reader.specs.declared.stop.Stop.{Stop}
use Rattle.itanium_reader.specs.declared.stop.Stop.TheVariants.{Unreadable, Memory}
use Rattle.itanium_reader.specs.Outcome.{state, Gives, ChecksWidth}
use Rattle.demangle_text.specs.State.{IsLiving, shape}
use Rattle.std.specs.Prelude.{OnOk}
use Rattle.itanium_grammar.specs.Cases.{UnqualifiedCase, OrdinaryName, ConstructorName, DestructorName, SourceName, TagCase, NoTag, NextTag}
use Rattle.itanium_grammar.specs.Cases.{NameFirst, EncodingEnd, AfterName, AtE, SpecialEncoding, NameEncoding}
use Rattle.itanium_reader.specs.Parser.{ParserState, Turn, Parses, ParsesName, ParsesBareName, ◌>>=◌, is_too_wide, fitting}
use Rattle.itanium_grammar.specs.Tree.{offset_text, thunk_shape, worded_shape}
use Rattle.itanium_reader.specs.Parser.{fitting_bare, enter, with_rest, skip, save}
use Rattle.itanium_reader.specs.Parser.{past_initializer, substitution_as, parse_substitution}
use Rattle.itanium_reader.specs.Parser.{template_param_as, parse_template_param, tag_turn, unqualified_as, parse_unqualified}
use Rattle.itanium_reader.specs.Parser.{ordinary_as, untagged_as, in_parent, parse_tags, parse_source, parse_source_in}
use Rattle.itanium_reader.specs.Parser.{goes_on, first_as, loop, after_turn, tag_as}
use Rattle.itanium_reader.specs.Parser.{parse_segments, parse_all_segments, with_quals, parse_nested}
use Rattle.itanium_reader.specs.Parser.{name_as, qualified_by, parse_bare_name, parse_name, encoding_as, parse_encoding}
use Rattle.itanium_reader.specs.Parser.{entity_as, parse_local, primary_by, parse_primary, special_by, parse_special}
use Rattle.itanium_reader.specs.Parser.{thunk_words, thunk_front, thunk_by, parse_thunk, expression_as, parse_expression, parse_argument}
use Rattle.itanium_reader.specs.Parser.{argument_by, parse_list, parse_packed, parse_args}
use Rattle.itanium_reader.specs.Parser.{parse_pack, type_as, parse_type}
use Rattle.itanium_reader.proofs.Texts.{tagged_in}

pub bare_name_opens : (d : ℕ) (x : Context) (s : ParserState) → 0 < d → parse_bare_name d x s
    ≡ (name_as (name_case s.rest) (parse_unqualified (parse_type (d - 1) x) (parse_type (d - 1) (inside_lambda x))) (parse_args (d - 1) x true)
    (parse_local (parse_encoding (d - 1) AtE (inside_encoding x)) (parse_bare_name (d - 1) (showing_words x))) x (enter s) >>= fitting_bare)
unfolding parse_bare_name parse_encoding parse_special parse_name
bare_name_opens zero x s h = absurd (omega arith)
bare_name_opens (suc d) x s h = let less : suc d - 1 ≡ d = omega arith in rw less refl

pub no_bare_name : (x : Context) (s : ParserState) → parse_bare_name 0 x s ≡ None
unfolding parse_bare_name
no_bare_name x s = refl

pub name_opens : (d : ℕ) (x : Context) (s : ParserState) → parse_name d x s ≡ qualified_by (parse_bare_name d x) x s
unfolding parse_name
name_opens d x s = refl

pub expression_opens : (d : ℕ) (x : Context) (s : ParserState) → 0 < d → parse_expression d x s
    ≡ (expression_as (expression_case s.rest) (parse_expression (d - 1) x) (parse_primary (d - 1) x) x (enter s) >>= fitting)
unfolding parse_expression parse_primary parse_encoding parse_special parse_name
expression_opens zero x s h = absurd (omega arith)
expression_opens (suc d) x s h = let less : suc d - 1 ≡ d = omega arith in rw less refl

pub no_expression : (x : Context) (s : ParserState) → parse_expression 0 x s ≡ None
unfolding parse_expression
no_expression x s = refl

pub primary_opens : (d : ℕ) (x : Context) (s : ParserState) → parse_primary d x s ≡ primary_by (parse_type d x) (parse_encoding d AtE (inside_encoding x)) s
unfolding parse_primary
primary_opens d x s = refl

thunk_level : (x : Context) (s : ParserState) (d : ℕ) → 0 < d
    → parse_thunk d x s ≡ (thunk_by (parse_encoding (d - 1) AfterName x) (enter s) >>= fitting)
unfolding parse_thunk parse_encoding parse_special parse_name
thunk_level x s zero h = absurd (omega arith)
thunk_level x s (suc d) h = let less : suc d - 1 ≡ d = omega arith in rw less refl

-- a thunk is its words, what it stands for, and what closes it
thunk_worded : (o : ThunkOffsets) (t : Shape) → thunk_shape o t ≡ worded_shape (thunk_words o) t (codes ")}")
thunk_worded (Single o) t =
    ap (λ (rest : List ℕ). plain_shape (codes "{virtual override thunk(" ++ rest)) (sym (append_assoc (offset_text o) (codes ", ") (text t ++ codes ")}")))
thunk_worded (Covariant o p) t =
    let next = append_assoc (offset_text p) (codes ", ") (text t ++ codes ")}") in
    let first = append_assoc (offset_text o) (codes ", ") ((offset_text p ++ codes ", ") ++ (text t ++ codes ")}")) in
    let all = append_assoc (offset_text o ++ codes ", ") (offset_text p ++ codes ", ") (text t ++ codes ")}") in
    ap (λ (rest : List ℕ). plain_shape (codes "{virtual override thunk(" ++ rest))
    (sym (all ∙ first ∙ ap (λ (rest : List ℕ). offset_text o ++ (codes ", " ++ rest)) next))

-- what is read gets its end
abbrev pub with_end : (Shape → Shape) → Option (Shape × ParserState) → Option (Shape × ParserState)
with_end finish read = read >>= λ r. Some (finish r.0, r.1)

-- what is read after the words of a thunk
abbrev pub after_words : Parses Shape → Shape × ParserState → Option (Shape × ParserState)
after_words symbol front = symbol front.1 >>= λ t. Some (worded_shape (text front.0) t.0 (codes ")}"), t.1)

-- the words of a thunk are read first
thunk_by_words : (symbol : Parses Shape) (s : ParserState) → thunk_by symbol s ≡ (thunk_front s >>= after_words symbol)
unfolding thunk_front
thunk_by_words symbol s = by_offsets (thunk_offsets (drop 1 s.rest))
  where
    by_symbol : (o : ThunkOffsets) (read : Option (Shape × ParserState)) → with_end (thunk_shape o) read ≡ with_end (λ t. worded_shape (thunk_words o) t (codes ")}")) read
    by_symbol o None = refl
    by_symbol o (Some t) = ap (λ (w : Shape). Some (w, t.1)) (thunk_worded o t.0)

    front : ThunkOffsets × List ℕ → Option (Shape × ParserState)
    front f = Some (plain_shape (thunk_words f.0), with_rest f.1 s)

    by_offsets : (found : Option (ThunkOffsets × List ℕ)) → (found >>= λ f. with_end (thunk_shape f.0) (symbol (with_rest f.1 s))) ≡ ((found >>= front) >>= after_words symbol)
    by_offsets None = refl
    by_offsets (Some f) = by_symbol f.0 (symbol (with_rest f.1 s))

pub thunk_opens : (d : ℕ) (x : Context) (s : ParserState) → 0 < d
    → parse_thunk d x s ≡ ((thunk_front (enter s) >>= after_words (parse_encoding (d - 1) AfterName x)) >>= fitting)
thunk_opens d x s h =
    thunk_level x s d h ∙ ap (λ (read : Option (Shape × ParserState)). read >>= fitting) (thunk_by_words (parse_encoding (d - 1) AfterName x) (enter s))

-- a thunk is read, and isn't too long
pub thunk_read : (d : ℕ) (x : Context) (s : ParserState) {front t found : Shape} {mid after : ParserState} → 0 < d → thunk_front (enter s) ≡ Some (front, mid)
    → parse_encoding (d - 1) AfterName x mid ≡ Some (t, after) → found ≡ worded_shape (text front) t (codes ")}") → is_too_wide found ≡ false → parse_thunk d x s ≡ Some (found, after)
thunk_read d x s {front} {t} deep words read built fits =
    let narrow : is_too_wide (worded_shape (text front) t (codes ")}")) ≡ false = ap is_too_wide (sym built) ∙ fits in
    thunk_opens d x s deep ∙ rw (words, read, narrow, sym built) refl

-- one that is
pub thunk_wide : (d : ℕ) (x : Context) (s : ParserState) {front t found : Shape} {mid after : ParserState} → 0 < d → thunk_front (enter s) ≡ Some (front, mid)
    → parse_encoding (d - 1) AfterName x mid ≡ Some (t, after) → found ≡ worded_shape (text front) t (codes ")}") → is_too_wide found ≡ true → parse_thunk d x s ≡ None
thunk_wide d x s {front} {t} deep words read built wide =
    let long : is_too_wide (worded_shape (text front) t (codes ")}")) ≡ true = ap is_too_wide (sym built) ∙ wide in
    thunk_opens d x s deep ∙ rw (words, read, long) refl

pub no_thunk : (x : Context) (s : ParserState) → parse_thunk 0 x s ≡ None
unfolding parse_thunk
no_thunk x s = refl

pub special_opens : (d : ℕ) (x : Context) (s : ParserState) → parse_special d x s ≡ special_by (parse_type d x) (parse_name d x) (parse_thunk d x) s
unfolding parse_special
special_opens d x s = refl

pub argument_opens : (d : ℕ) (x : Context) (s : ParserState)
    → parse_argument d x s ≡ argument_by (parse_pack d x) (parse_type d x) (parse_expression d x) (parse_primary d x) s
unfolding parse_argument
argument_opens d x s = refl

pub encoding_opens : (d : ℕ) (end : EncodingEnd) (x : Context) (s : ParserState)
    → parse_encoding d end x s ≡ encoding_as (encoding_case end s.rest) (parse_special d x) (parse_name d x) (parse_bare_name d x) (parse_type d x) s
unfolding parse_encoding
encoding_opens d end x s = refl

pub local_opens : (encoding : Parses Shape) (bare : ParsesBareName) (s : ParserState)
    → parse_local encoding bare s ≡ (encoding s >>= λ found. entity_as (entity_case found.1.rest) bare found.0 found.1)
unfolding parse_local
local_opens encoding bare s = refl

pub args_opens : (d : ℕ) (x : Context) (of_name : Bool) (s : ParserState) → 0 < d
    → parse_args d x of_name s ≡ (parse_list (parse_argument (d - 1) x) (opens_scope of_name x) (enter s) >>= fitting)
unfolding parse_args parse_argument parse_primary parse_encoding parse_special parse_name
args_opens zero x of_name s h = absurd (omega arith)
args_opens (suc d) x of_name s h = let less : suc d - 1 ≡ d = omega arith in rw less refl

pub no_args : (x : Context) (of_name : Bool) (s : ParserState) → parse_args 0 x of_name s ≡ None
unfolding parse_args
no_args x of_name s = refl

pub pack_opens : (d : ℕ) (x : Context) (s : ParserState) → 0 < d
    → parse_pack d x s ≡ (parse_packed (parse_argument (d - 1) (hiding_dots x)) (enter s) >>= fitting)
unfolding parse_pack parse_argument parse_primary parse_encoding parse_special parse_name
pack_opens zero x s h = absurd (omega arith)
pack_opens (suc d) x s h = let less : suc d - 1 ≡ d = omega arith in rw less refl

pub no_pack : (x : Context) (s : ParserState) → parse_pack 0 x s ≡ None
unfolding parse_pack
no_pack x s = refl

pub type_opens : (d : ℕ) (x : Context) (s : ParserState) → 0 < d → parse_type d x s
    ≡ (type_as (type_case s.rest) (parse_type (d - 1) (inside_type x)) (parse_name (d - 1) (inside_type x)) (parse_args (d - 1) (inside_type x) false) (inside_type x) (enter s) >>= fitting)
unfolding parse_type parse_name
type_opens zero x s h = absurd (omega arith)
type_opens (suc d) x s h = let less : suc d - 1 ≡ d = omega arith in rw less refl

pub no_type : (x : Context) (s : ParserState) → parse_type 0 x s ≡ None
unfolding parse_type
no_type x s = refl

pub substitution_opens : (s : ParserState) → parse_substitution s ≡ substitution_as (substitution_case (drop 1 s.rest)) (skip 1 s)
unfolding parse_substitution
substitution_opens s = refl

pub parameter_opens : (x : Context) (s : ParserState)
    → parse_template_param x s ≡ (index_of Decimal (drop 1 s.rest) >>= λ found. template_param_as x.lambda found.0 s >>= λ t. Some (t, with_rest found.1 s))
unfolding parse_template_param
parameter_opens x s = refl

-- a name in its parent
abbrev placed : Option Shape → Shape × ParserState → Option (Shape × ParserState)
placed parent name = Some (in_parent parent name.0, name.1)

-- the turn of a tag that was read, and what follows a turn
abbrev next_tag : Shape → ParserState → List ℕ × List ℕ → Option (Turn Shape Shape × ParserState)
next_tag name s found = Some (goes_on (tagged name (source_text found.0)), with_rest found.1 s)

abbrev later_tags : ℕ → Turn Shape Shape × ParserState → Option (Shape × ParserState)
later_tags n turn = after_turn turn.0 (loop tag_turn n) turn.1

-- so are all tags
tags_in : (n : ℕ) (parent name : Shape) (s : ParserState) → loop tag_turn n (qualified parent name) s ≡ (loop tag_turn n name s >>= placed (Some parent))
unfolding loop tag_turn
tags_in zero parent name s = refl
tags_in (suc n) parent name s = turn (λ next after. tags_in n parent next after) (tag_case s.rest)
  where
    more : ((next : Shape) (after : ParserState) → loop tag_turn n (qualified parent next) after ≡ (loop tag_turn n next after >>= placed (Some parent)))
        → (found : Option (List ℕ × List ℕ))
        → ((found >>= next_tag (qualified parent name) s) >>= later_tags n) ≡ (((found >>= next_tag name s) >>= later_tags n) >>= placed (Some parent))
    more later None = refl
    more later (Some f) = rw (tagged_in parent name (source_text f.0)) (later (tagged name (source_text f.0)) (with_rest f.1 s))

    turn : ((next : Shape) (after : ParserState) → loop tag_turn n (qualified parent next) after ≡ (loop tag_turn n next after >>= placed (Some parent)))
        → (case : TagCase)
        → (tag_as case (qualified parent name) s >>= later_tags n) ≡ ((tag_as case name s >>= later_tags n) >>= placed (Some parent))
    turn later NoTag = refl
    turn later NextTag = more later (source_name (drop 1 s.rest))

-- a name is placed and then tagged, or tagged and then placed
tags_placed : (parent : Option Shape) (read : Option (Shape × ParserState))
    → ((read >>= λ name. parse_tags name.0 name.1) >>= placed parent) ≡ ((read >>= placed parent) >>= λ name. parse_tags name.0 name.1)
tags_placed parent None = refl
tags_placed None (Some name) = same (parse_tags name.0 name.1)
  where
    same : (found : Option (Shape × ParserState)) → (found >>= placed None) ≡ found
    same None = refl
    same (Some t) = refl
tags_placed (Some parent) (Some name) = sym (tags_in _ parent name.0 name.1)

-- the tags of an <unqualified-name> are read last
pub unqualified_opens : (type param : Parses Shape) (parent : Option Shape) (s : ParserState)
    → parse_unqualified type param parent s
    ≡ (untagged_as (unqualified_case (is_some parent) (past_internal s.rest)) type param parent (with_rest (past_internal s.rest) s)
    >>= λ name. parse_tags name.0 name.1)
unfolding parse_unqualified
unqualified_opens type param parent s = go (unqualified_case (is_some parent) (past_internal s.rest)) parent
  where
    inner : ParserState
    inner = with_rest (past_internal s.rest) s

    go : (case : UnqualifiedCase) (parent : Option Shape)
        → unqualified_as case type param parent inner ≡ (untagged_as case type param parent inner >>= λ name. parse_tags name.0 name.1)
    go ConstructorName None = refl
    go ConstructorName (Some p) = refl
    go DestructorName None = refl
    go DestructorName (Some p) = refl
    go OrdinaryName parent = tags_placed parent (ordinary_as (ordinary_case inner.rest) type param inner)

-- a <source-name> in its parent is read, and then its tags
pub source_in_read : (parent : Shape) (s : ParserState) {name rest : List ℕ} {found : Shape} {mid after : ParserState} → source_name s.rest ≡ Some (name, rest)
    → found ≡ qualified parent (plain_shape (source_text name)) → mid ≡ s → after ≡ with_rest rest mid → parse_source_in (Some parent) s ≡ parse_tags found after
source_in_read parent s {name} read built same left = tags_placed (Some parent) (parse_source s) ∙ rw (read, built, left, same) refl

-- what a call gives it gives of the same
pub gives_same : (result : Result (Unit {0}) Stop) (after : Reader) {one other : Option (Shape × ParserState)} → Gives result after one → other ≡ one → Gives result after other
gives_same result after gives same = subst (Gives result after) (sym same) gives

-- a digit from 1 to 9 is no letter
pub no_letter : (b letter : ℕ) → (nat_le 49 b && nat_le b 57) ≡ true → 57 < letter → (b == letter) ≡ false
no_letter b letter digit past = grind (arith, nat_tests)

-- where a source name is next, no letter stands in front of it, and it is no constructor or destructor
source_case : (in_parent : Bool) (bytes : List ℕ) → begins_source bytes ≡ true
    → (past_internal bytes ≡ bytes) × (unqualified_case in_parent bytes ≡ OrdinaryName) × (ordinary_case bytes ≡ SourceName)
source_case in_parent [] h = cc
source_case in_parent (b ∷ bytes) h = (
  rw (no_letter b 76 h (omega arith)) refl,
  rw (no_letter b 67 h (omega arith), no_letter b 68 h (omega arith)) (no_constructor in_parent),
  rw h refl,
)
  where
    no_constructor : (in_parent : Bool) → (if in_parent && false then ConstructorName else if in_parent && false then DestructorName else OrdinaryName) ≡ OrdinaryName
    no_constructor true = refl
    no_constructor false = refl

-- a source name, of an internal name too, is the whole of an <unqualified-name>
pub internal_source_opens : (type param : Parses Shape) (parent : Option Shape) (s : ParserState) → begins_source (past_internal s.rest) ≡ true
    → parse_unqualified type param parent s ≡ parse_source_in parent (with_rest (past_internal s.rest) s)
unfolding parse_unqualified
internal_source_opens type param parent s h =
    let case = source_case (is_some parent) (past_internal s.rest) h in
    rw (case.1, case.2) refl

pub source_opens : (type param : Parses Shape) (parent : Option Shape) (s : ParserState) → begins_source s.rest ≡ true
    → parse_unqualified type param parent s ≡ parse_source_in parent s
source_opens type param parent s h =
    let same = (source_case (is_some parent) s.rest h).0 in
    internal_source_opens type param parent s (rw same h) ∙ rw same refl

-- in no parent too
pub outer_source_opens : (type param : Parses Shape) (s : ParserState) → begins_source (past_internal s.rest) ≡ true
    → parse_unqualified type param None s ≡ (parse_source (with_rest (past_internal s.rest) s) >>= λ name. parse_tags name.0 name.1)
outer_source_opens type param s h =
    internal_source_opens type param None s h ∙ tags_placed None (parse_source (with_rest (past_internal s.rest) s)) ∙ placed_nowhere (parse_source (with_rest (past_internal s.rest) s))
  where
    placed_nowhere : (read : Option (Shape × ParserState)) → ((read >>= placed None) >>= λ name. parse_tags name.0 name.1) ≡ (read >>= λ name. parse_tags name.0 name.1)
    placed_nowhere None = refl
    placed_nowhere (Some name) = refl

-- it is the whole of the first segment of a <nested-name> too
pub first_named : (bytes : List ℕ) → begins_source bytes ≡ true → first_segment_case bytes ≡ NameFirst
first_named [] h = cc
first_named (b ∷ bytes) h = rw (no_letter b 84 h (omega arith), no_letter b 83 h (omega arith)) refl

pub first_source_opens : (type param : Parses Shape) (x : Context) (s : ParserState) → begins_source s.rest ≡ true
    → first_as (first_segment_case s.rest) (parse_unqualified type param) x s
    ≡ ((parse_source s >>= λ name. parse_tags name.0 name.1) >>= λ name. Some (name.0, save name.0 name.1))
first_source_opens type param x s h =
    let same = (source_case false s.rest h).0 in
    rw (first_named s.rest h) (ap (λ (read : Option (Shape × ParserState)). read >>= λ name. Some (name.0, save name.0 name.1)) (outer_source_opens type param s (rw same h) ∙ rw same refl))

-- what follows the prefix of a symbol
pub symbol_opens : (d : ℕ) (x : Context) (s : ParserState)
    → parse_encoding d AfterName x s ≡ (if begins_special s.rest then parse_special d x s else parse_name d x s)
unfolding parse_encoding
symbol_opens d x s = go (begins_special s.rest)
  where
    go : (special : Bool)
        → encoding_as (if special then SpecialEncoding else NameEncoding) (parse_special d x) (parse_name d x) (parse_bare_name d x) (parse_type d x) s
        ≡ (if special then parse_special d x s else parse_name d x s)
    go true = refl
    go false = refl

-- the qualifiers of a <nested-name> are read in front of the rest
pub nested_opens : (unqualified : ParsesName) (args : Parses Shape) (x : Context) (s : ParserState) → parse_nested unqualified args x s
    ≡ (parse_all_segments unqualified args x (with_rest (past_name_quals s.rest) s) >>= with_quals (name_quals s.rest))
unfolding parse_nested
nested_opens unqualified args x s = then_named (first_as (first_segment_case (past_name_quals s.rest)) unqualified x (with_rest (past_name_quals s.rest) s))
  where
    later : Shape × ParserState → Option (Shape × ParserState)
    later first = parse_segments unqualified args (first_segment_is_candidate (first_segment_case (past_name_quals s.rest))) first.0 (past_initializer first.1)

    then_named : (first : Option (Shape × ParserState)) → (first >>= λ f. later f >>= with_quals (name_quals s.rest)) ≡ ((first >>= later) >>= with_quals (name_quals s.rest))
    then_named None = refl
    then_named (Some f) = refl

-- where there are none, the rest is read at once
pub nested_plain : (unqualified : ParsesName) (args : Parses Shape) (x : Context) (s : ParserState) → past_name_quals s.rest ≡ s.rest → name_quals s.rest ≡ no_quals
    → parse_nested unqualified args x s ≡ (parse_all_segments unqualified args x s >>= with_quals no_quals)
nested_plain unqualified args x s rest quals =
    nested_opens unqualified args x s ∙ ap (λ bytes. parse_all_segments unqualified args x (with_rest bytes s) >>= with_quals (name_quals s.rest)) rest
    ∙ ap (λ q. parse_all_segments unqualified args x s >>= with_quals q) quals

-- a call that hands on why what it called has stopped: then the whole isn't parsed either
pub stops : (after : Reader) {inner whole : Option (Shape × ParserState)} (e : Stop) → Gives (Err e) after inner → (inner ≡ None → whole ≡ None) → Gives (Err e) after whole
stops after Unreadable none follows = follows none
stops after Memory gives follows = tt

-- a call that finds a text that is too long: then the whole isn't parsed
pub too_long : (after : Reader) (t : Shape) {whole : Option (Shape × ParserState)} (e : Stop) → ChecksWidth (Err e) t → (is_too_wide t ≡ true → whole ≡ None) → Gives (Err e) after whole
too_long after t e wide follows = rw wide.0 (follows wide.1)

-- a reader that ends with the check of the width
pub checked : (result : Result (Unit {0}) Stop) (after : Reader) {whole : Option (Shape × ParserState)} → ChecksWidth result (shape after.buffer.value after.found)
    → IsLiving after.buffer.value after.found
    → (is_too_wide (shape after.buffer.value after.found) ≡ false → whole ≡ Some (shape after.buffer.value after.found, state after))
    → (is_too_wide (shape after.buffer.value after.found) ≡ true → whole ≡ None) → Gives result after whole
checked (Ok u) after width living narrow wide = (living, narrow width)
checked (Err e) after width living narrow wide = too_long after (shape after.buffer.value after.found) e width wide

-- what is so in any case is so where the last call succeeds
pub in_any_case : {P : Type 0} (result : Result (Unit {0}) Stop) → P → OnOk result P
in_any_case (Ok u) p = p
in_any_case (Err e) p = tt

-- and what follows from what it then gives
pub on_success : {P Q : Type 0} (result : Result (Unit {0}) Stop) → (P → Q) → OnOk result P → OnOk result Q
on_success (Ok u) follows p = follows p
on_success (Err e) follows p = tt
