-- The turns of the parser's loops.
use Rattle.std.proofs.Common.{◌≡◌, ◌<◌, ◌≤◌, ℕ, ◌+◌, ◌-◌, Bool, true, false, List, [], ◌∷◌, ◌++◌}
use Rattle.std.proofs.Common.{length, drop, refl, sym, ◌∙◌, ap, arith, Option, Some, None}
use Rattle.std.proofs.lemmas.List.{length-append}
use Rattle.demangle_text.specs.Shape.{Shape, plain_shape, whole_shape, text, text_len, appended}
use Rattle.demangle_edit.specs.Names.{angle_gap, attached, tagged}
use Rattle.demangle_edit.specs.Built.{separator, listed_more, arguments_opened}
use Rattle.demangle_edit.specs.Built.{arguments_closed}
use Rattle.demangle_edit.proofs.Built.{begun_list, closed_attached}
use Rattle.itanium_syntax.specs.declared.context.Context.{Context}
use Rattle.abi_scalars.specs.Scalars.{source_name, source_text}
use Rattle.itanium_syntax.specs.Context.{opens_scope, hiding_dots}
use Rattle.itanium_syntax.specs.Names.{segment_case, tag_case}
use Rattle.itanium_syntax.specs.Names.{past_initializer_letter}
use Rattle.abi_scalars.specs.Texts.{begins_source}
use Rattle.itanium_syntax.specs.Args.{argument_list_case}
use Rattle.itanium_syntax.specs.Types.{type_list_case}
use Rattle.itanium_reader.specs.Outcome.{LoopSoFar}
use Rattle.itanium_reader.proofs.Loops.{loop_start, loop_end, loop_more, loop_fail, ListSoFar, list_start, list_end, list_more, list_fail}
use Rattle.itanium_grammar.specs.Cases.{NoTag, NextTag}
use Rattle.itanium_grammar.specs.Cases.{SegmentCase, EndOfSegments, ArgsSegment, NameSegment, EndOfArguments, NextArgument}
use Rattle.itanium_grammar.specs.Cases.{EndOfTypes, NextType}
use Rattle.itanium_grammar.specs.Answer.{max_text}
use Rattle.itanium_reader.specs.Parser.{ParserState, Parses, ParsesName, ◌>>=◌, is_too_wide, fitting}
use Rattle.itanium_reader.specs.Parser.{enter, with_rest, save, skip, open_scope_if, end_argument}
use Rattle.itanium_reader.specs.Parser.{add_nowhere, taken_back, past_initializer}
use Rattle.itanium_reader.specs.Parser.{tag_turn, parse_unqualified}
use Rattle.itanium_reader.specs.Parser.{parse_tags, parse_source_in}
use Rattle.itanium_reader.specs.Parser.{later_segment, segment_as, goes_on, attached_by}
use Rattle.itanium_reader.specs.Parser.{segment_turn}
use Rattle.itanium_reader.specs.Parser.{parse_argument}
use Rattle.itanium_reader.specs.Parser.{list_turn, typed_turn, parse_args}
use Rattle.itanium_reader.specs.Parser.{parse_pack}
use Rattle.itanium_reader.proofs.Texts.{not_wide, wide_by, front_len}
use Rattle.itanium_reader.proofs.Unfold.{source_opens, no_letter, args_opens, no_args, pack_opens, with_end}

-- a later segment is read, isn't too long, and is saved
turn_read : (case : SegmentCase) (unqualified : ParsesName) (args : Parses Shape) (candidate : Bool) (name : Shape) (s : ParserState) {next : Shape} {mid : ParserState} → (case ≡ EndOfSegments → ⊥)
    → later_segment case unqualified args name s ≡ Some (next, mid) → is_too_wide next ≡ false
    → segment_as case unqualified args (candidate, name) s ≡ Some (goes_on (true, next), past_initializer (save next mid))
turn_read EndOfSegments unqualified args candidate name s later read fits = absurd (later refl)
turn_read ArgsSegment unqualified args candidate name s later read fits = rw (read, fits) refl
turn_read NameSegment unqualified args candidate name s later read fits = rw (read, fits) refl

-- one that is too long
turn_wide : (case : SegmentCase) (unqualified : ParsesName) (args : Parses Shape) (candidate : Bool) (name : Shape) (s : ParserState) {next : Shape} {mid : ParserState} → (case ≡ EndOfSegments → ⊥)
    → later_segment case unqualified args name s ≡ Some (next, mid) → is_too_wide next ≡ true → segment_as case unqualified args (candidate, name) s ≡ None
turn_wide EndOfSegments unqualified args candidate name s later read wide = absurd (later refl)
turn_wide ArgsSegment unqualified args candidate name s later read wide = rw (read, wide) refl
turn_wide NameSegment unqualified args candidate name s later read wide = rw (read, wide) refl

-- none is read
turn_none : (case : SegmentCase) (unqualified : ParsesName) (args : Parses Shape) (candidate : Bool) (name : Shape) (s : ParserState) → (case ≡ EndOfSegments → ⊥)
    → later_segment case unqualified args name s ≡ None → segment_as case unqualified args (candidate, name) s ≡ None
turn_none EndOfSegments unqualified args candidate name s later none = absurd (later refl)
turn_none ArgsSegment unqualified args candidate name s later none = rw none refl
turn_none NameSegment unqualified args candidate name s later none = rw none refl

-- the turns of the segments of a nested name
module _ {whole : Option (Shape × ParserState)} (unqualified : ParsesName) (args : Parses Shape) {candidate : Bool} {name : Shape} {s : ParserState}
    (so_far : LoopSoFar whole (segment_turn unqualified args) (candidate, name) s) where
  pub segments_end : {found : Shape} {after : ParserState} → segment_case s.rest ≡ EndOfSegments → found ≡ name → after ≡ taken_back candidate (skip 1 s) → whole ≡ Some (found, after)
  unfolding segment_turn
  segments_end case same left = loop_end so_far (rw (case, same, left) refl)

  pub segments_read : {next : Shape} {mid after : ParserState} → (segment_case s.rest ≡ EndOfSegments → ⊥) → later_segment (segment_case s.rest) unqualified args name s ≡ Some (next, mid)
      → is_too_wide next ≡ false → length mid.rest < length s.rest → after ≡ past_initializer (save next mid) → length after.rest ≤ length mid.rest
      → LoopSoFar whole (segment_turn unqualified args) (true, next) after
  unfolding segment_turn
  segments_read {next} later found fits shorter left short = loop_more so_far (rw left (turn_read (segment_case s.rest) unqualified args candidate name s later found fits)) (omega arith)

  pub segments_wide : {next : Shape} {mid : ParserState} → (segment_case s.rest ≡ EndOfSegments → ⊥) → later_segment (segment_case s.rest) unqualified args name s ≡ Some (next, mid)
      → is_too_wide next ≡ true → whole ≡ None
  unfolding segment_turn
  segments_wide later found wide = loop_fail so_far (turn_wide (segment_case s.rest) unqualified args candidate name s later found wide)

  pub segments_none : (segment_case s.rest ≡ EndOfSegments → ⊥) → later_segment (segment_case s.rest) unqualified args name s ≡ None → whole ≡ None
  unfolding segment_turn
  segments_none later none = loop_fail so_far (turn_none (segment_case s.rest) unqualified args candidate name s later none)

-- a later segment by its case, of what was saved
pub later_is : (unqualified : ParsesName) (args : Parses Shape) (name : Shape) (s : ParserState) {case : SegmentCase} {found : Shape} {after : ParserState}
    → segment_case s.rest ≡ case → found ≡ name → after ≡ s → later_segment (segment_case s.rest) unqualified args name s ≡ later_segment case unqualified args found after
later_is unqualified args name s case same left = rw (case, same, left) refl

-- a source name as the next segment: no M stands in front of it
pub source_segment : (type param args : Parses Shape) (name : Shape) (s : ParserState) → begins_source s.rest ≡ true
    → (segment_case (past_initializer_letter s.rest) ≡ EndOfSegments → ⊥)
    × (later_segment (segment_case (past_initializer_letter s.rest)) (parse_unqualified type param) args name (past_initializer s) ≡ parse_source_in (Some name) s)
    × (past_initializer_letter s.rest ≡ s.rest)
source_segment type param args name s h =
    let case = source_segment_case s.rest h in (
      λ ended. cc (ended, case.0, case.1),
      rw (case.0, case.1) (source_opens type param (Some name) s h),
      case.0,
    )
  where
    source_segment_case : (bytes : List ℕ) → begins_source bytes ≡ true → (past_initializer_letter bytes ≡ bytes) × (segment_case bytes ≡ NameSegment)
    source_segment_case [] h = cc
    source_segment_case (b ∷ bytes) h = (
      rw (no_letter b 77 h (omega arith)) refl,
      rw (no_letter b 69 h (omega arith), no_letter b 73 h (omega arith)) refl,
    )

-- the turns of the tags of a name
module _ {whole : Option (Shape × ParserState)} {name : Shape} {s : ParserState} (so_far : LoopSoFar whole tag_turn name s) where
  pub tags_end : tag_case s.rest ≡ NoTag → whole ≡ Some (name, s)
  unfolding tag_turn
  tags_end case = loop_end so_far (rw case refl)

  pub tags_fail : tag_case s.rest ≡ NextTag → source_name (drop 1 s.rest) ≡ None → whole ≡ None
  unfolding tag_turn
  tags_fail case none = loop_fail so_far (rw (case, none) refl)

  pub tags_more : {text rest : List ℕ} {next : Shape} {after : ParserState} → tag_case s.rest ≡ NextTag → source_name (drop 1 s.rest) ≡ Some (text, rest)
      → next ≡ tagged name (source_text text) → after.rest ≡ rest → after.saved ≡ s.saved → after.scopes ≡ s.scopes → after.entered ≡ s.entered → after.most_saved ≡ s.most_saved
      → length rest < length s.rest → LoopSoFar whole tag_turn next after
  unfolding tag_turn
  tags_more {text} {rest} {next} {after} case found built left lists opened count most shorter =
      let same : record {
        rest = after.rest;
        saved = after.saved;
        scopes = after.scopes;
        entered = after.entered;
        most_saved = after.most_saved;
      } ≡ with_rest rest s = rw (left, lists, opened, count, most) refl in
      loop_more so_far (rw (case, found, built, sym same) refl) (rw left shorter)

-- no tag follows
pub no_tags : (name : Shape) (s : ParserState) → tag_case s.rest ≡ NoTag → parse_tags name s ≡ Some (name, s)
no_tags name s case = tags_end (loop_start refl) case

-- a list that is read whole gets its end, and isn't too long
ended_then : {A : Type 0} (read : Option (Shape × ParserState)) (finish : Shape → Shape) (k : Shape × ParserState → Option A)
    → ((read >>= λ r. Some (finish r.0, r.1)) >>= k) ≡ (read >>= λ r. k (finish r.0, r.1))
ended_then None finish k = refl
ended_then (Some r) finish k = refl

-- a pack that is read whole
abbrev pub pack_end : Shape × ParserState → Option (Shape × ParserState)
pack_end r = fitting (whole_shape r.0, r.1)

-- a pack begins
pub pack_start : (d : ℕ) (x : Context) (s : ParserState) {below : ℕ} {inside : Context} {list : Shape} {after : ParserState} → 0 < d → below ≡ d - 1
    → inside ≡ hiding_dots x → list ≡ plain_shape [] → after ≡ skip 1 (enter s)
    → ListSoFar (parse_pack d x s) (list_turn add_nowhere (parse_argument below inside)) pack_end (true, list) after
pack_start d x s deep less within built left = rw (less, left, within, built) (list_start (pack_opens d x s deep ∙ ended_then _ whole_shape fitting))

-- the turns of a list up to its E
module _ {whole : Option (Shape × ParserState)} (end_argument : Shape → ParserState → ParserState)
    (item : Parses Shape) (finish : Shape × ParserState → Option (Shape × ParserState)) {first : Bool} {list : Shape}
    {s : ParserState}
    (so_far : ListSoFar whole (list_turn end_argument item) finish (first, list) s) where
  pub items_end : {after : ParserState} → argument_list_case s.rest ≡ EndOfArguments → after ≡ skip 1 s → whole ≡ finish (list, after)
  unfolding list_turn
  items_end case left = rw left (list_end so_far (rw case refl))

  pub items_more : {next found : Shape} {mid after : ParserState} → argument_list_case s.rest ≡ NextArgument → item s ≡ Some (next, mid) → length mid.rest < length s.rest
      → found ≡ listed_more first list next → is_too_wide found ≡ false → after ≡ end_argument next mid → after.rest ≡ mid.rest → ListSoFar whole (list_turn end_argument item) finish (false, found) after
  unfolding list_turn
  items_more {next} {found} case read shorter built fits left same =
      let narrow : is_too_wide (listed_more first list next) ≡ false = ap is_too_wide (sym built) ∙ fits in
      list_more so_far (rw (case, read, narrow, built, left) refl) (rw same shorter)

  pub items_wide : {next found : Shape} {mid : ParserState} → argument_list_case s.rest ≡ NextArgument → item s ≡ Some (next, mid) → found ≡ listed_more first list next → is_too_wide found ≡ true → whole ≡ None
  unfolding list_turn
  items_wide {next} {found} case read built wide =
      let long : is_too_wide (listed_more first list next) ≡ true = ap is_too_wide (sym built) ∙ wide in
      list_fail so_far (rw (case, read, long) refl)

  pub items_fail : argument_list_case s.rest ≡ NextArgument → item s ≡ None → whole ≡ None
  unfolding list_turn
  items_fail case none = list_fail so_far (rw (case, none) refl)

-- a pack ends
pub pack_ends : {whole : Option (Shape × ParserState)} (item : Parses Shape) {first : Bool} {list found : Shape}
    {s after : ParserState} → ListSoFar whole (list_turn add_nowhere item) pack_end (first, list) s
    → argument_list_case s.rest ≡ EndOfArguments → found ≡ whole_shape list → is_too_wide found ≡ false → after ≡ skip 1 s → whole ≡ Some (found, after)
pack_ends item {list = list} {found = found} so_far case built fits left =
    let narrow : is_too_wide (whole_shape list) ≡ false = ap is_too_wide (sym built) ∙ fits in
    items_end add_nowhere item pack_end so_far case left ∙ rw (narrow, sym built) refl

pub pack_wide : {whole : Option (Shape × ParserState)} (item : Parses Shape) {first : Bool} {list found : Shape}
    {s : ParserState} → ListSoFar whole (list_turn add_nowhere item) pack_end (first, list) s
    → argument_list_case s.rest ≡ EndOfArguments → found ≡ whole_shape list → is_too_wide found ≡ true → whole ≡ None
pack_wide item {list = list} {found = found} so_far case built wide =
    let long : is_too_wide (whole_shape list) ≡ true = ap is_too_wide (sym built) ∙ wide in
    items_end add_nowhere item pack_end so_far case refl ∙ rw long refl

-- a list that is read whole is attached to a name
abbrev pub attached_to : Shape → Shape × ParserState → Option (Shape × ParserState)
attached_to name r = fitting (whole_shape (arguments_closed r.0), r.1) >>= λ list. Some (attached name list.0, list.1)

-- A list after a name has come this far: this text stands after its `<`.
pub record AttachedSoFar (whole : Option (Shape × ParserState)) (end_argument : Shape → ParserState → ParserState)
    (item : Parses Shape) (name : Shape) (first : Bool) (list : List ℕ) (s : ParserState) : Type 0 where
  pub own : ℕ × ℕ
  pub templ : Bool
  pub ctor : Bool
  pub so_far : ListSoFar whole (list_turn end_argument item) (attached_to name) (first, begun_list list own templ ctor) s

-- a list begins after a name
pub attached_start : (d : ℕ) (x : Context) (of_name : Bool) (s : ParserState) (name : Shape) {below : ℕ} {opens : Bool} {n : ℕ} {list : List ℕ} {after : ParserState} → 0 < d → below ≡ d - 1
    → opens ≡ opens_scope of_name x → list ≡ [] → after ≡ open_scope_if opens (skip 1 (enter s)) → n ≡ length after.scopes
    → AttachedSoFar (attached_by (parse_args d x of_name) name s) (end_argument opens n) (parse_argument below x) name true list after
attached_start d x of_name s name {below} {opens} {n} {list} {after} deep less opened none left scopes = record {
  own = (0, 1);
  templ = false;
  ctor = false;
  so_far = rw (less, scopes, left, opened, none) (list_start (ap (with_end (attached name)) (args_opens d x of_name s deep)
      ∙ ended_thrice _ (λ all. whole_shape (arguments_closed all)) (attached name)));
}
  where
    ended_thrice : (read : Option (Shape × ParserState)) (first second : Shape → Shape)
        → with_end second (with_end first read >>= fitting) ≡ (read >>= λ r. with_end second (fitting (first r.0, r.1)))
    ended_thrice None first second = refl
    ended_thrice (Some r) first second = refl

-- the turns of a list after a name
module _ {whole : Option (Shape × ParserState)} (end_argument : Shape → ParserState → ParserState) (item : Parses Shape) (name : Shape) {first : Bool} {list : List ℕ} {s : ParserState}
    (so_far : AttachedSoFar whole end_argument item name first list s) where
  -- the list so far, and the whole of it
  abbrev list_so_far : Shape
  list_so_far = begun_list list so_far.own so_far.templ so_far.ctor

  abbrev list_whole : Shape
  list_whole = whole_shape (arguments_closed list_so_far)

  -- the name with the list
  ended : {last : Shape} → last ≡ arguments_closed (appended list (arguments_opened name)) → last ≡ attached name list_whole
  ended built = built ∙ closed_attached name list so_far.own so_far.templ so_far.ctor

  -- its length
  ended_len : {last : Shape} → last ≡ arguments_closed (appended list (arguments_opened name)) → text_len last ≡ front_len name + text_len list_whole
  ended_len built =
      let gap = angle_gap (text name) in
      let long : text_len (attached name list_whole) ≡ length (text name ++ (gap ++ text list_whole)) = refl in
      omega (arith, ap text_len (ended built), long, length-append (text name) (gap ++ text list_whole), length-append gap (text list_whole))

  pub attached_end : {last : Shape} {after : ParserState} → argument_list_case s.rest ≡ EndOfArguments → last ≡ arguments_closed (appended list (arguments_opened name))
      → text_len last - front_len name ≤ max_text → after ≡ skip 1 s → whole ≡ Some (last, after)
  attached_end case built short left =
      let fits : is_too_wide list_whole ≡ false = not_wide list_whole (omega (arith, short, ended_len built)) in
      items_end end_argument item (attached_to name) so_far.so_far case left ∙ rw (fits, sym (ended built)) refl

  pub attached_wide : {last : Shape} → argument_list_case s.rest ≡ EndOfArguments → last ≡ arguments_closed (appended list (arguments_opened name))
      → max_text < text_len last - front_len name → whole ≡ None
  attached_wide case built long =
      let wide : is_too_wide list_whole ≡ true = wide_by list_whole (omega (arith, long, ended_len built)) in
      items_end end_argument item (attached_to name) so_far.so_far case refl ∙ rw wide refl

  -- with one text more
  more_len : (next : Shape) {more : List ℕ} {all : Shape} → more ≡ (list ++ separator first) ++ text next → all ≡ appended more (arguments_opened name)
      → text_len all ≡ front_len name + text_len (listed_more first list_so_far next)
  more_len next {more} {all} longer built =
      let gap = angle_gap (text name) in
      let begun = text name ++ (gap ++ (60 ∷ [])) in
      let whole_len : text_len (appended more (arguments_opened name)) ≡ length (begun ++ more) = refl in
      let list_len : text_len (listed_more first list_so_far next) ≡ length (60 ∷ ((list ++ separator first) ++ text next)) = refl in
      omega (arith, ap text_len built, whole_len, list_len, ap length longer, length-append begun more, length-append (text name) (gap ++ (60 ∷ [])), length-append gap (60 ∷ []))

  pub attached_more : {next all : Shape} {more : List ℕ} {mid after : ParserState} → argument_list_case s.rest ≡ NextArgument → item s ≡ Some (next, mid) → length mid.rest < length s.rest
      → more ≡ (list ++ separator first) ++ text next → all ≡ appended more (arguments_opened name) → text_len all - front_len name ≤ max_text
      → after ≡ end_argument next mid → after.rest ≡ mid.rest → AttachedSoFar whole end_argument item name false more after
  attached_more {next} {all} {more} {mid} {after} case read shorter longer built short left same =
      let listed = listed_more first list_so_far next in
      let fits : is_too_wide listed ≡ false = not_wide listed (omega (arith, short, more_len next longer built)) in record {
        own = listed.own;
        templ = so_far.templ;
        ctor = so_far.ctor;
        so_far = rw longer (items_more end_argument item (attached_to name) so_far.so_far case read shorter refl fits left same);
      }

  pub attached_more_wide : {next all : Shape} {more : List ℕ} {mid : ParserState} → argument_list_case s.rest ≡ NextArgument → item s ≡ Some (next, mid)
      → more ≡ (list ++ separator first) ++ text next → all ≡ appended more (arguments_opened name) → max_text < text_len all - front_len name → whole ≡ None
  attached_more_wide {next} case read longer built long =
      items_wide end_argument item (attached_to name) so_far.so_far case read refl (wide_by (listed_more first list_so_far next) (omega (arith, long, more_len next longer built)))

  pub attached_fail : argument_list_case s.rest ≡ NextArgument → item s ≡ None → whole ≡ None
  attached_fail case none = items_fail end_argument item (attached_to name) so_far.so_far case none

-- no list is read after a name where none may open
pub no_attached : (d : ℕ) (x : Context) (of_name : Bool) (name : Shape) (s : ParserState) → d ≡ 0 → attached_by (parse_args d x of_name) name s ≡ None
no_attached d x of_name name s none = rw (none, no_args x of_name s) refl

-- the turns of types that are put onto a list
module _ {whole : Option (Shape × ParserState)} (in_function_type : Bool) (type : Parses Shape) {first : Bool} {list : Shape} {s : ParserState}
    (so_far : LoopSoFar whole (typed_turn in_function_type type) (first, list) s) where
  pub typed_end : type_list_case in_function_type s.rest ≡ EndOfTypes → whole ≡ Some (list, s)
  unfolding typed_turn
  typed_end case = loop_end so_far (rw case refl)

  pub typed_more : {next found : Shape} {after : ParserState} → type_list_case in_function_type s.rest ≡ NextType → type s ≡ Some (next, after) → length after.rest < length s.rest
      → found ≡ listed_more first list next → is_too_wide found ≡ false → LoopSoFar whole (typed_turn in_function_type type) (false, found) after
  unfolding typed_turn
  typed_more {next} case read shorter built fits =
      let narrow : is_too_wide (listed_more first list next) ≡ false = ap is_too_wide (sym built) ∙ fits in
      loop_more so_far (rw (case, read, narrow, built) refl) shorter

  pub typed_wide : {next found : Shape} {after : ParserState} → type_list_case in_function_type s.rest ≡ NextType → type s ≡ Some (next, after)
      → found ≡ listed_more first list next → is_too_wide found ≡ true → whole ≡ None
  unfolding typed_turn
  typed_wide {next} case read built wide =
      let long : is_too_wide (listed_more first list next) ≡ true = ap is_too_wide (sym built) ∙ wide in
      loop_fail so_far (rw (case, read, long) refl)

  pub typed_fail : type_list_case in_function_type s.rest ≡ NextType → type s ≡ None → whole ≡ None
  unfolding typed_turn
  typed_fail case none = loop_fail so_far (rw (case, none) refl)
