use Rattle.itanium_reader.proofs.Rules.{argument_lists, arguments, encodings, expressions, local_names, packs, primaries, specials, thunks}
use Rattle.itanium_productions.proofs.OwnQualifiers.{names}
use Rattle.itanium_reader.proofs.Rules.{first_segments, nested_names, outer_names, unqualified_names}
use Rattle.itanium_reader.proofs.Rules.{words}
use Rattle.std.proofs.lemmas.Grind.{common_steps}
use Rattle.std.proofs.Common.{◌≡◌, ◌<◌, ◌+◌, ◌*◌, ◌^◌, ◌∙◌, ℕ, List, [], ◌∷◌, ◌++◌, length, drop, refl, rules, sym, ap, subst, arith, append_assoc, max, true, Option, Some}
use Rattle.std.proofs.Common.{codes}
use Rattle.std.proofs.lemmas.List.{append-nil, length-append, length-drop}
use Rattle.demangle_text.specs.declared.pieces.Piece.{Piece}
use Rattle.std.specs.declared.alloc.AllocError.{AllocError}
use Rattle.demangle_text.specs.State.{shape, Lives, SameFrame, KeepsAll, IsEdit, IsRun, Opens, main_bytes, saved, scopes}
use Rattle.demangle_text.specs.Shape.{Shape, plain_shape, text, text_len, appended}
use Rattle.demangle_text.specs.Calls.{joined, text_after}
use Rattle.demangle_text.specs.declared.buffer.Buffer.{Buffer}
use Rattle.demangle_edit.proofs.Built.{appended_text}
use Rattle.itanium_syntax.specs.Offsets.{past_base_offset}
use Rattle.demangle_text.proofs.Laws.{runs, IsRun-edit, IsRun-same, IsRun-trans, IsSince-opens, IsSince-run, SameFrame-closed, Lives-same, IsLast-stays, IsLast-push, IsInner-last, IsInner-same, text_after-follows}
use Rattle.demangle_text.proofs.Laws.{text_after-more, text_after-same, text_after-last}
use Rattle.demangle_edit.specs.Built.{arguments_opened, separator}
use Rattle.demangle_quals.specs.declared.quals.Quals.{Quals}
use Rattle.demangle_edit.specs.Names.{default_arg_shape, qualified}
use Rattle.demangle_edit.specs.Built.{default_arg_opened, parent_opened, enclosed}
use Rattle.itanium_syntax.specs.Numbers.{ordinal}
use Rattle.itanium_syntax.specs.Encodings.{entity_case}
use Rattle.itanium_grammar.specs.Cases.{DefaultArgumentEntity, NameEntity}
use Rattle.itanium_reader.specs.Outcome.{state, Gives, GivesCandidate, Bounds, CostBounds, Growth, SavedBounds}
use Rattle.itanium_reader.specs.declared.stop.Stop.{Stop}
use Rattle.itanium_reader.specs.declared.stop.Stop.TheVariants.{Unreadable, Memory}
use Rattle.itanium_reader.proofs.Unfold.{first_source_opens}
use Rattle.itanium_syntax.specs.Names.{first_segment_case}
use Rattle.abi_scalars.specs.Texts.{begins_source}
use Rattle.itanium_syntax.specs.declared.context.Context.{Context}
use Rattle.std.proofs.Common.{Ok, Err, None, Result}
use Rattle.std.specs.Prelude.{IfOk, OnOk, IsOkUnless}
use Rattle.itanium_reader.specs.declared.reader.Reader.{Reader}
use Rattle.itanium_reader.specs.Parser as spec
use Rattle.itanium_reader.proofs.Unfold.{stops, too_long, checked, in_any_case, on_success, thunk_read, thunk_wide}
use Rattle.itanium_reader.proofs.Texts.{begun_front}
use Rattle.itanium_reader.proofs.Turns.{source_segment, later_is, attached_start, attached_end, attached_more}
use Rattle.itanium_reader.proofs.Turns.{attached_fail, pack_start, segments_end}
use Rattle.itanium_reader.proofs.Turns.{segments_read, segments_none, items_more, items_fail, typed_end, typed_more}
use Rattle.itanium_reader.proofs.Turns.{typed_fail, attached_wide, attached_more_wide, segments_wide, pack_ends}
use Rattle.itanium_reader.proofs.Turns.{pack_wide, typed_wide, items_wide}
use Rattle.itanium_syntax.specs.Context.{inside_lambda}
use Rattle.itanium_grammar.specs.Cases.{SegmentCase, ArgsSegment, NameSegment, EndOfSegments}
use Rattle.itanium_syntax.specs.Names.{segment_case}
use Rattle.itanium_reader.proofs.Rules.{buffers, types}
use Rattle.itanium_grammar.specs.Tree.{worded_shape, construction_shape}
use Rattle.itanium_productions.proofs.+reader.Goals.{names::read_segments-in-ArgsSegment+in-Ok-save_if+in-Ok-read_template_args, names::read_segments-in-NameSegment+in-Ok-save_if-2+in-Ok-read_segment}
use Rattle.itanium_productions.proofs.+reader.Goals.{encodings::read_entity-in-DefaultArgumentEntity+in-Some, encodings::read_entity-in-NameEntity}
use Rattle.itanium_productions.proofs.+reader.Goals as goal

pub args::read_template_args-loop-reader-init : goal.args::read_template_args-loop-reader-init
args::read_template_args-loop-reader-init t c =
    let last = IsLast-stays _ _ _ _ (c.in-Ok-open_arguments.ensures {u = tt}).edit (c.in-Ok-open_arguments.ensures {u = tt}).in_place in record {
      below = grind arith;
      front = begun_front (shape c.args.reader.now.buffer.value c.args.reader.now.found) (shape c.open_arguments.new.buf c.in-Ok-open_arguments.value) (search rules) (search rules);
      widest = grind arith;
      reads = attached_start _ _ _ _ (shape c.args.reader.now.buffer.value c.args.reader.now.found) (search rules) (search rules) (search rules) (text_after-last _ _ last) (search rules) (search rules);
      begun = grind arith;
      inner = IsInner-last _ _ last;
      run = grind arith;
      scopes_stand = grind arith;
      scopes_kept = grind arith;
      opened = grind arith;
      taken = grind arith;
      counted = grind arith;
      list = grind arith;
      most = grind arith;
    }

pub args::read_template_args-returns-in-EndOfArguments-clause-reads : goal.args::read_template_args-returns-in-EndOfArguments-clause-reads
args::read_template_args-returns-in-EndOfArguments-clause-reads t c =
    (search rules, attached_end _ _ _ c.loop-reader.invariant.reads (sym c.in-EndOfArguments.ensures.case) (search rules) (search rules) (search rules))

pub args::read_template_args-returns-then-len-widest-clause-reads : goal.args::read_template_args-returns-then-len-widest-clause-reads
args::read_template_args-returns-then-len-widest-clause-reads t c =
    let last = shape c.close_arguments.new.buf c.in-Ok-close_arguments.value in
    let long : c.len.result ≡ text_len last = search rules in
    attached_wide _ _ _ c.loop-reader.invariant.reads {last = last} (sym c.in-EndOfArguments.ensures.case) (search rules)
    (omega (arith, c.if-len-widest.true, c.loop-reader.invariant.widest, long, c.loop-reader.invariant.front))

pub args::read_template_args-returns-then-len-widest-2-clause-reads : goal.args::read_template_args-returns-then-len-widest-2-clause-reads
args::read_template_args-returns-then-len-widest-2-clause-reads t c =
    let so_far = c.loop-reader.invariant in
    let list = c.in-Ok-open_arguments.value in
    let old = c.loop-reader.reader.buffer.value in
    let separated = c.separate.new.self.buffer.value in
    let framed = c.read_template_arg.new.reader in
    let new = c.end_argument.new.self.buffer.value in
    let next = shape framed.buffer.value framed.found in
    let kept = (c.in-Ok-separate.ensures {u = tt}).kept in
    let one = text_after-more old separated list (separator c.loop-reader.first) so_far.begun.living so_far.inner (c.in-Ok-separate.ensures {u = tt}).output in
    let two = text_after-more separated framed.buffer.value list (text next) (kept.pieces list so_far.begun.living).living
    (IsInner-same old separated list so_far.inner kept) (c.in-Ok-read_template_arg.ensures {u = tt}).output in
    let three = text_after-same framed.buffer.value new list (c.in-Ok-end_argument.ensures {u = tt}).output in
    let longer : text_after new list ≡ (text_after old list ++ separator c.loop-reader.first) ++ text next =
    three ∙ two ∙ ap (λ (v : List ℕ). v ++ text next) one in
    let begun = Lives-same _ _ _ _ (c.in-Ok-end_argument.ensures {u = tt}).kept
    (Lives-same _ _ _ _ (c.in-Ok-read_template_arg.ensures {u = tt}).kept (Lives-same _ _ _ _ kept so_far.begun)) in
    let whole = c.up_to_end-whole.result in
    let same : c.up_to_end-whole.new.self ≡ new = c.up_to_end-whole.ensures.same ∙ c.deref_mut-in-NextArgument.ensures.value in
    let all = shape new whole in
    let built : all ≡ appended (text_after new list) (arguments_opened (shape c.args.reader.now.buffer.value c.args.reader.now.found)) =
    subst (λ (b : Buffer). shape b whole ≡ appended (text_after new list) (shape new list)) same
    (subst (λ (b : Buffer). shape c.up_to_end-whole.new.self whole ≡ appended (text_after b list) (shape b list)) c.deref_mut-in-NextArgument.ensures.value c.up_to_end-whole.ensures.shape.shape_is)
    ∙ ap (appended (text_after new list)) begun.shape_is in
    let long : c.len-in-NextArgument.result ≡ text_len all =
    c.len-in-NextArgument.ensures.value ∙ ap (λ (b : Buffer). text_len (shape b whole)) (c.deref-in-NextArgument.ensures ∙ same) in
    attached_more_wide _ _ _ so_far.reads {next = next} {all = all} {mid = state framed}
    (sym c.in-NextArgument.ensures.case) (search rules) longer built
    (omega (arith, c.if-len-widest-2.true, so_far.widest, long, so_far.front))

pub args::read_template_args-returns-in-Err-read_template_arg-clause-reads : goal.args::read_template_args-returns-in-Err-read_template_arg-clause-reads
args::read_template_args-returns-in-Err-read_template_arg-clause-reads t c =
    let whole = spec.attached_by (spec.parse_args c.args.depth c.args.context c.args.of_name) (shape c.args.reader.now.buffer.value c.args.reader.now.found) (state c.args.reader.now) in
    stops _ {whole = whole} _ (c.in-Err-read_template_arg.ensures {u = tt}).reads
    (λ none. attached_fail {whole = whole} _ _ _ c.loop-reader.invariant.reads (sym c.in-NextArgument.ensures.case) (search rules))

pub args::read_template_args-loop-reader-preserved : goal.args::read_template_args-loop-reader-preserved
args::read_template_args-loop-reader-preserved t c =
    let so_far = c.loop-reader.invariant in
    let list = c.in-Ok-open_arguments.value in
    let old = c.loop-reader.reader.buffer.value in
    let separated = c.separate.new.self.buffer.value in
    let framed = c.read_template_arg.new.reader in
    let new = c.end_argument.new.self.buffer.value in
    let next = shape framed.buffer.value framed.found in
    let kept = (c.in-Ok-separate.ensures {u = tt}).kept in
    let one = text_after-more old separated list (separator c.loop-reader.first) so_far.begun.living so_far.inner (c.in-Ok-separate.ensures {u = tt}).output in
    let two = text_after-more separated framed.buffer.value list (text next) (kept.pieces list so_far.begun.living).living
    (IsInner-same old separated list so_far.inner kept) (c.in-Ok-read_template_arg.ensures {u = tt}).output in
    let three = text_after-same framed.buffer.value new list (c.in-Ok-end_argument.ensures {u = tt}).output in
    let longer : text_after new list ≡ (text_after old list ++ separator c.loop-reader.first) ++ text next =
    three ∙ two ∙ ap (λ (v : List ℕ). v ++ text next) one in
    let begun = Lives-same _ _ _ _ (c.in-Ok-end_argument.ensures {u = tt}).kept
    (Lives-same _ _ _ _ (c.in-Ok-read_template_arg.ensures {u = tt}).kept (Lives-same _ _ _ _ kept so_far.begun)) in
    let whole = c.up_to_end-whole.result in
    let same : c.up_to_end-whole.new.self ≡ new = c.up_to_end-whole.ensures.same ∙ c.deref_mut-in-NextArgument.ensures.value in
    let all = shape new whole in
    let built : all ≡ appended (text_after new list) (arguments_opened (shape c.args.reader.now.buffer.value c.args.reader.now.found)) =
    subst (λ (b : Buffer). shape b whole ≡ appended (text_after new list) (shape new list)) same
    (subst (λ (b : Buffer). shape c.up_to_end-whole.new.self whole ≡ appended (text_after b list) (shape b list)) c.deref_mut-in-NextArgument.ensures.value c.up_to_end-whole.ensures.shape.shape_is)
    ∙ ap (appended (text_after new list)) begun.shape_is in
    let long : c.len-in-NextArgument.result ≡ text_len all =
    c.len-in-NextArgument.ensures.value ∙ ap (λ (b : Buffer). text_len (shape b whole)) (c.deref-in-NextArgument.ensures ∙ same) in
    let name = shape c.args.reader.now.buffer.value c.args.reader.now.found in
    let made = c.up_to_end-whole.new.self in
    let reader = c.end_argument.new.self in
    let at : Buffer → spec.ParserState = λ b. record {
      rest = reader.rest.now;
      saved = saved b;
      scopes = scopes b;
      entered = reader.entered;
      most_saved = max reader.recorded_peak (length (saved b));
    } in
    let ended : at new ≡ spec.end_argument c.opens_scope-opens.result c.scopes-scopes.result next (state framed) = search rules in
    record {
      below = grind arith;
      front = c.loop-reader.invariant.front;
      widest = c.loop-reader.invariant.widest;
      reads = attached_more _ _ _ so_far.reads {next = next} {all = all} {more = text_after made list} {mid = state framed} {after = at made}
          (sym c.in-NextArgument.ensures.case) (search rules) (search rules) (ap (λ (b : Buffer). text_after b list) same ∙ longer)
          (built ∙ ap (λ (b : Buffer). appended (text_after b list) (arguments_opened name)) (sym same))
          (omega (arith, c.if-len-widest-2.false, so_far.widest, long, so_far.front)) (ap at same ∙ ended) (search rules);
      begun = subst (λ (b : Buffer). Lives b list (arguments_opened name)) (sym same) begun;
      inner = grind arith;
      run = search rules;
      scopes_stand = grind arith;
      scopes_kept = grind arith;
      opened = grind arith;
      taken = grind arith;
      counted = grind arith;
      list = grind arith;
      most = grind arith;
    }

pub args::read_argument_pack-loop-reader-init : goal.args::read_argument_pack-loop-reader-init
args::read_argument_pack-loop-reader-init t c = record {
  below = grind arith;
  reads = pack_start _ _ _ (search rules) (search rules) (search rules) (search rules) (search rules);
  living = grind arith;
  run = grind arith;
  cost = grind arith;
  growth = grind arith;
}

pub args::read_argument_pack-returns-in-EndOfArguments-clause-reads : goal.args::read_argument_pack-returns-in-EndOfArguments-clause-reads
args::read_argument_pack-returns-in-EndOfArguments-clause-reads t c =
    let list = shape c.skip-in-EndOfArguments.new.self.buffer.value c.whole-reader.result in
    checked c.check_width.result _ c.check_width.ensures.fits (search rules)
    (λ narrow. pack_ends _ {found = list} c.loop-reader.invariant.reads (sym c.in-EndOfArguments.ensures.case) (search rules) narrow (search rules))
    (λ wide. pack_wide _ {found = list} c.loop-reader.invariant.reads (sym c.in-EndOfArguments.ensures.case) (search rules) wide)

pub args::read_argument_pack-returns-in-Err-read_template_arg-clause-reads : goal.args::read_argument_pack-returns-in-Err-read_template_arg-clause-reads
args::read_argument_pack-returns-in-Err-read_template_arg-clause-reads t c =
    stops _ _ (c.in-Err-read_template_arg.ensures {u = tt}).reads
    (λ none. items_fail _ _ _ c.loop-reader.invariant.reads (sym c.in-NextArgument.ensures.case) (search rules))

pub args::read_argument_pack-loop-reader-preserved : goal.args::read_argument_pack-loop-reader-preserved
args::read_argument_pack-loop-reader-preserved t c = record {
  below = grind arith;
  reads = items_more _ _ _ c.loop-reader.invariant.reads {next = shape c.read_template_arg.new.reader.buffer.value c.read_template_arg.new.reader.found} {mid = state c.read_template_arg.new.reader}
      (sym c.in-NextArgument.ensures.case) (search rules) (search rules) (search rules) (search rules) (search rules) (search rules);
  living = grind arith;
  run = search rules;
  cost = grind arith;
  growth = grind arith;
}

pub types::read_params-returns-in-EndOfTypes-clause-reads : goal.types::read_params-returns-in-EndOfTypes-clause-reads
types::read_params-returns-in-EndOfTypes-clause-reads t c =
    (c.loop-list.invariant.living, typed_end _ _ c.loop-list.invariant.reads (sym c.in-EndOfTypes.ensures.case))

pub types::read_params-returns-in-Err-read_framed-clause-reads : goal.types::read_params-returns-in-Err-read_framed-clause-reads
types::read_params-returns-in-Err-read_framed-clause-reads t c =
    stops _ _ (c.in-Err-read_framed.ensures {u = tt}).reads
    (λ none. typed_fail _ _ c.loop-list.invariant.reads (sym c.in-NextType.ensures.case) (search rules))

pub types::read_params-returns-then-is_too_wide-clause-reads : goal.types::read_params-returns-then-is_too_wide-clause-reads
types::read_params-returns-then-is_too_wide-clause-reads t c =
    typed_wide _ _ c.loop-list.invariant.reads {next = shape c.read_framed.new.reader.buffer.value c.read_framed.new.reader.found}
    {found = shape c.append_piece.new.buf c.in-Ok-append_piece.value} {after = state c.read_framed.new.reader}
    (sym c.in-NextType.ensures.case) (search rules) (search rules) (search rules)

pub types::read_params-loop-list-preserved : goal.types::read_params-loop-list-preserved
types::read_params-loop-list-preserved t c = record {
  reads = typed_more _ _ c.loop-list.invariant.reads
      {next = shape c.read_framed.new.reader.buffer.value c.read_framed.new.reader.found}
      (sym c.in-NextType.ensures.case) (search rules) (search rules) (search rules) (search rules);
  living = grind arith;
  run = search rules;
  cost = grind arith;
  growth = grind arith;
}

pub args::read_argument_pack-returns-then-is_too_wide-clause-reads : goal.args::read_argument_pack-returns-then-is_too_wide-clause-reads
args::read_argument_pack-returns-then-is_too_wide-clause-reads t c =
    items_wide _ _ _ c.loop-reader.invariant.reads {next = shape c.read_template_arg.new.reader.buffer.value c.read_template_arg.new.reader.found}
    {found = shape c.append_piece.new.buf c.in-Ok-append_piece.value} {mid = state c.read_template_arg.new.reader}
    (sym c.in-NextArgument.ensures.case) (search rules) (search rules) (search rules)

-- an entity in a default argument is found
default_argument_found : (bare : spec.ParsesBareName) (encoding : Shape) (s : spec.ParserState) {number : ℕ} {rest : List ℕ} {entity found : Shape} {quals : Quals} {mid after : spec.ParserState}
    → entity_case s.rest ≡ DefaultArgumentEntity → ordinal (drop 2 s.rest) ≡ Some (number, rest) → bare (spec.with_rest rest s) ≡ Some ((entity, quals), mid)
    → found ≡ default_arg_shape encoding number entity → after ≡ mid → spec.entity_as (entity_case s.rest) bare encoding s ≡ Some ((found, quals), after)
default_argument_found bare encoding s case counted read built same = rw (case, counted, read, built, same) refl

-- another entity is found
named_entity_found : (bare : spec.ParsesBareName) (encoding : Shape) (s : spec.ParserState) {entity found : Shape} {quals : Quals} {mid after : spec.ParserState}
    → entity_case s.rest ≡ NameEntity → bare (spec.skip 1 s) ≡ Some ((entity, quals), mid)
    → found ≡ qualified encoding entity → after ≡ mid → spec.entity_as (entity_case s.rest) bare encoding s ≡ Some ((found, quals), after)
named_entity_found bare encoding s case read built same = rw (case, read, built, same) refl

-- what stands in front of an entity is opened, and the entity is read next
record EntityOpens (bare : spec.ParsesBareName) (encoding : Shape) (s : spec.ParserState) (m : Reader) (opened : Piece) : Type 0 where
  front : Shape
  lives : Lives m.buffer.value opened front
  gives : (entity found : Shape) (quals : Quals) (mid after : spec.ParserState) → bare (state m) ≡ Some ((entity, quals), mid) → found ≡ enclosed front entity → after ≡ mid
      → spec.entity_as (entity_case s.rest) bare encoding s ≡ Some ((found, quals), after)

-- a later segment is there, and this is read of it
record IsLater (unqualified : spec.ParsesName) (args : spec.Parses Shape) (name : Shape) (s : spec.ParserState) (read : Option (Shape × spec.ParserState)) : Type 0 where
  goes_on : segment_case s.rest ≡ EndOfSegments → ⊥
  gives : spec.later_segment (segment_case s.rest) unqualified args name s ≡ read

is_later : (unqualified : spec.ParsesName) (args : spec.Parses Shape) (name : Shape) (s : spec.ParserState) (case : SegmentCase) (r : Reader) {read : Option (Shape × spec.ParserState)}
    → spec.later_segment case unqualified args (shape r.buffer.value r.found) (state r) ≡ read → (case ≡ EndOfSegments → ⊥)
    → segment_case s.rest ≡ case → shape r.buffer.value r.found ≡ name → state r ≡ s → IsLater unqualified args name s read
is_later unqualified args name s case r gives goes_on there same left = record { goes_on = λ ended. goes_on (sym there ∙ ended); gives = later_is unqualified args name s there same left ∙ gives }

pub names::read_segments-returns-in-Err-read_source_segment-clause-reads : goal.names::read_segments-returns-in-Err-read_source_segment-clause-reads
names::read_segments-returns-in-Err-read_source_segment-clause-reads t c =
    let type = spec.parse_type c.args.depth c.args.context in
    let param = spec.parse_type c.args.depth (inside_lambda c.args.context) in
    let args = spec.parse_args c.args.depth c.args.context true in
    let r = c.loop-reader.reader in
    let name = shape r.buffer.value r.found in
    let case = source_segment type param args name (spec.save_if c.loop-reader.candidate name (state r)) (search rules) in
    stops _ _ (c.in-Err-read_source_segment.ensures {u = tt}).reads
    (λ none. segments_none _ _ c.loop-reader.invariant.reads case.0 (case.1 ∙ none))

pub names::read_segments-returns-in-Err-check_width-clause-reads : goal.names::read_segments-returns-in-Err-check_width-clause-reads
names::read_segments-returns-in-Err-check_width-clause-reads t c =
    let type = spec.parse_type c.args.depth c.args.context in
    let param = spec.parse_type c.args.depth (inside_lambda c.args.context) in
    let args = spec.parse_args c.args.depth c.args.context true in
    let r = c.loop-reader.reader in
    let name = shape r.buffer.value r.found in
    let case = source_segment type param args name (spec.save_if c.loop-reader.candidate name (state r)) (search rules) in
    let new = c.read_source_segment.new.self in
    let read = (c.in-Ok-read_source_segment.ensures {u = tt}) in
    too_long _ (shape new.buffer.value new.found) _ (c.in-Err-check_width.ensures {u = tt}).fits
    (λ wide. segments_wide _ _ c.loop-reader.invariant.reads {next = shape new.buffer.value new.found} {mid = state new} case.0 (case.1 ∙ read.reads.1) wide)

pub names::read_segments-loop-reader-preserved-then-begins_source : goal.names::read_segments-loop-reader-preserved-then-begins_source
names::read_segments-loop-reader-preserved-then-begins_source t c =
    let type = spec.parse_type c.args.depth c.args.context in
    let param = spec.parse_type c.args.depth (inside_lambda c.args.context) in
    let args = spec.parse_args c.args.depth c.args.context true in
    let r = c.loop-reader.reader in
    let name = shape r.buffer.value r.found in
    let case = source_segment type param args name (spec.save_if c.loop-reader.candidate name (state r)) (search rules) in
    let new = c.read_source_segment.new.self in
    let read = (c.in-Ok-read_source_segment.ensures {u = tt}) in
    let longer = length-append (saved new.buffer.value) (shape new.buffer.value new.found ∷ []) in
    record {
      reads = segments_read _ _ c.loop-reader.invariant.reads {next = shape new.buffer.value new.found} {mid = state new} case.0 (case.1 ∙ read.reads.1) (search rules)
          (rw case.2 (search rules)) refl (search rules);
      living = grind arith;
      last = grind arith;
      run = grind arith;
      cost = grind arith;
      list = omega (arith, longer, read.saved.list, c.loop-reader.invariant.list);
      most = omega (arith, longer, read.saved.list, read.saved.most, c.loop-reader.invariant.list, c.loop-reader.invariant.most);
    }

pub names::read_segments-returns-in-EndOfSegments-clause-reads : goal.names::read_segments-returns-in-EndOfSegments-clause-reads
names::read_segments-returns-in-EndOfSegments-clause-reads t c =
    (search rules, segments_end _ _ c.loop-reader.invariant.reads (search rules) (search rules) (search rules))

pub names::read_segments-returns-in-Err-read_template_args-clause-reads : goal.names::read_segments-returns-in-Err-read_template_args-clause-reads
names::read_segments-returns-in-Err-read_template_args-clause-reads t c =
    let type = spec.parse_type c.args.depth c.args.context in
    let param = spec.parse_type c.args.depth (inside_lambda c.args.context) in
    let args = spec.parse_args c.args.depth c.args.context true in
    let r = c.loop-reader.reader in
    let name = shape r.buffer.value r.found in
    let s = spec.past_initializer (spec.save_if c.loop-reader.candidate name (state r)) in
    stops _ _ (c.in-Err-read_template_args.ensures {u = tt}).reads
    (λ none. let later = is_later (spec.parse_unqualified type param) args name s ArgsSegment c.save_if.new.self none (λ ended. cc ended) (search rules) (search rules) (search rules) in
    segments_none _ _ c.loop-reader.invariant.reads later.goes_on later.gives)

pub names::read_segments-returns-in-Err-read_segment-clause-reads : goal.names::read_segments-returns-in-Err-read_segment-clause-reads
names::read_segments-returns-in-Err-read_segment-clause-reads t c =
    let type = spec.parse_type c.args.depth c.args.context in
    let param = spec.parse_type c.args.depth (inside_lambda c.args.context) in
    let args = spec.parse_args c.args.depth c.args.context true in
    let r = c.loop-reader.reader in
    let name = shape r.buffer.value r.found in
    let s = spec.past_initializer (spec.save_if c.loop-reader.candidate name (state r)) in
    stops _ _ (c.in-Err-read_segment.ensures {u = tt}).reads
    (λ none. let later = is_later (spec.parse_unqualified type param) args name s NameSegment c.save_if-in-NameSegment.new.self none (λ ended. cc ended) (search rules) (search rules) (search rules) in
    segments_none _ _ c.loop-reader.invariant.reads later.goes_on later.gives)

pub names::read_segments-returns-in-Err-check_width-2-clause-reads : goal.names::read_segments-returns-in-Err-check_width-2-clause-reads
names::read_segments-returns-in-Err-check_width-2-clause-reads t c =
    let type = spec.parse_type c.args.depth c.args.context in
    let param = spec.parse_type c.args.depth (inside_lambda c.args.context) in
    let args = spec.parse_args c.args.depth c.args.context true in
    let r = c.loop-reader.reader in
    let name = shape r.buffer.value r.found in
    let s = spec.past_initializer (spec.save_if c.loop-reader.candidate name (state r)) in
    let m = c.match-segment_case.reader in
    let later : IsLater (spec.parse_unqualified type param) args name s (Some (shape m.buffer.value m.found, state m)) = elim c.match-segment_case.branch [
      | names::read_segments-in-ArgsSegment+in-Ok-save_if+in-Ok-read_template_args w ↦
          rw w.reader-is (is_later _ args name s ArgsSegment w.save_if.new.self (w.in-Ok-read_template_args.ensures {u = tt}).reads.1 (λ ended. cc ended) (search rules) (search rules) (search rules))
      | names::read_segments-in-NameSegment+in-Ok-save_if-2+in-Ok-read_segment w ↦
          rw w.reader-is (is_later _ args name s NameSegment w.save_if-in-NameSegment.new.self (w.in-Ok-read_segment.ensures {u = tt}).reads.1 (λ ended. cc ended) (search rules) (search rules) (search rules))
    ] in
    too_long _ (shape m.buffer.value m.found) _ (c.in-Err-check_width-2.ensures {u = tt}).fits
    (λ wide. segments_wide _ _ c.loop-reader.invariant.reads {next = shape m.buffer.value m.found} {mid = state m} later.goes_on later.gives wide)

pub names::read_segments-loop-reader-preserved : goal.names::read_segments-loop-reader-preserved
names::read_segments-loop-reader-preserved t c =
    let type = spec.parse_type c.args.depth c.args.context in
    let param = spec.parse_type c.args.depth (inside_lambda c.args.context) in
    let args = spec.parse_args c.args.depth c.args.context true in
    let r = c.loop-reader.reader in
    let name = shape r.buffer.value r.found in
    let s = spec.past_initializer (spec.save_if c.loop-reader.candidate name (state r)) in
    let m = c.match-segment_case.reader in
    let later : IsLater (spec.parse_unqualified type param) args name s (Some (shape m.buffer.value m.found, state m)) = elim c.match-segment_case.branch [
      | names::read_segments-in-ArgsSegment+in-Ok-save_if+in-Ok-read_template_args w ↦
          rw w.reader-is (is_later _ args name s ArgsSegment w.save_if.new.self (w.in-Ok-read_template_args.ensures {u = tt}).reads.1 (λ ended. cc ended) (search rules) (search rules) (search rules))
      | names::read_segments-in-NameSegment+in-Ok-save_if-2+in-Ok-read_segment w ↦
          rw w.reader-is (is_later _ args name s NameSegment w.save_if-in-NameSegment.new.self (w.in-Ok-read_segment.ensures {u = tt}).reads.1 (λ ended. cc ended) (search rules) (search rules) (search rules))
    ] in
    let longer = length-append (saved m.buffer.value) (shape m.buffer.value m.found ∷ []) in
    record {
      reads = segments_read _ _ c.loop-reader.invariant.reads {next = shape m.buffer.value m.found} {mid = state m} later.goes_on later.gives (search rules) (search rules) refl (search rules);
      living = grind arith;
      last = grind arith;
      run = grind arith;
      cost = grind arith;
      list = search (rules, longer);
      most = search (rules, longer);
    }

pub names::read_segments-loop-reader-init : goal.names::read_segments-loop-reader-init
names::read_segments-loop-reader-init t c = grind (arith, common_steps)

-- a <source-name> is the first segment, and its tags aren't read
first_untagged : (type param : spec.Parses Shape) (x : Context) (s : spec.ParserState) {name : Shape} {mid : spec.ParserState} → begins_source s.rest ≡ true
    → spec.parse_source s ≡ Some (name, mid) → spec.parse_tags name mid ≡ None → spec.first_as (first_segment_case s.rest) (spec.parse_unqualified type param) x s ≡ None
first_untagged type param x s begins read none = first_source_opens type param x s begins ∙ rw (read, none) refl

-- a <source-name> with its tags is the first segment
first_tagged : (type param : spec.Parses Shape) (x : Context) (s : spec.ParserState) {name found : Shape} {mid after : spec.ParserState} → begins_source s.rest ≡ true
    → spec.parse_source s ≡ Some (name, mid) → spec.parse_tags name mid ≡ Some (found, after)
    → spec.first_as (first_segment_case s.rest) (spec.parse_unqualified type param) x s ≡ Some (found, spec.save_if true found after)
first_tagged type param x s begins read tags = first_source_opens type param x s begins ∙ rw (read, tags) refl

-- a first segment isn't read where what it calls isn't
first_stops : (after : Reader) {inner whole : Option (Shape × spec.ParserState)} (e : Stop) → Gives (Err e) after inner → (inner ≡ None → whole ≡ None) → GivesCandidate (Err e) after whole
first_stops after Unreadable none follows = follows none
first_stops after Memory gives follows = tt

pub names::read_first_segment-returns-in-Err-read_tags-clause-reads : goal.names::read_first_segment-returns-in-Err-read_tags-clause-reads
names::read_first_segment-returns-in-Err-read_tags-clause-reads t c =
    let named = c.read_source_name.new.self in
    first_stops _ _ (c.in-Err-read_tags.ensures {u = tt}).reads
    (λ none. first_untagged (spec.parse_type c.args.depth c.args.context) (spec.parse_type c.args.depth (inside_lambda c.args.context)) c.args.context (state c.args.reader.now)
    {name = shape named.buffer.value named.found} {mid = state named} (search rules) (search rules) none)

pub names::read_first_segment-returns-in-Err-clause-reads : goal.names::read_first_segment-returns-in-Err-clause-reads
names::read_first_segment-returns-in-Err-clause-reads t c = grind (arith, first_segments)

pub names::read_first_segment-returns-then-begins_source-clause-reads : goal.names::read_first_segment-returns-then-begins_source-clause-reads
names::read_first_segment-returns-then-begins_source-clause-reads t c =
    let named = c.read_source_name.new.self in (
      search rules,
      first_tagged (spec.parse_type c.args.depth c.args.context) (spec.parse_type c.args.depth (inside_lambda c.args.context)) c.args.context (state c.args.reader.now)
          {name = shape named.buffer.value named.found} {mid = state named} (search rules) (search rules) (search rules),
    )

pub names::read_name-returns-then-bare-clause-reads : goal.names::read_name-returns-then-bare-clause-reads
names::read_name-returns-then-bare-clause-reads t c = grind (arith, names)

pub names::read_name-returns-in-Ok-check_width-2-clause-reads : goal.names::read_name-returns-in-Ok-check_width-2-clause-reads
names::read_name-returns-in-Ok-check_width-2-clause-reads t c = grind (arith, names)

pub names::read_name-returns-in_default-clause-reads : goal.names::read_name-returns-in_default-clause-reads
names::read_name-returns-in_default-clause-reads t c = grind (arith, names)

pub names::read_name-returns-in-Err-clause-reads : goal.names::read_name-returns-in-Err-clause-reads
names::read_name-returns-in-Err-clause-reads t c = grind (arith, names)

pub names::read_name-returns-in-Err-read_nested_name-clause-reads : goal.names::read_name-returns-in-Err-read_nested_name-clause-reads
names::read_name-returns-in-Err-read_nested_name-clause-reads t c = grind (arith, names)

pub names::read_name-returns-in-Err-read_local_name-clause-reads : goal.names::read_name-returns-in-Err-read_local_name-clause-reads
names::read_name-returns-in-Err-read_local_name-clause-reads t c = grind (arith, names)

pub names::read_name-returns-in-Err-read_unscoped_name-clause-reads : goal.names::read_name-returns-in-Err-read_unscoped_name-clause-reads
names::read_name-returns-in-Err-read_unscoped_name-clause-reads t c = grind (arith, names)

pub names::read_name-returns-in-Err-check_width-clause-reads : goal.names::read_name-returns-in-Err-check_width-clause-reads
names::read_name-returns-in-Err-check_width-clause-reads t c = grind (arith, names)

pub names::read_name-returns-in-Err-check_width-2-clause-reads : goal.names::read_name-returns-in-Err-check_width-2-clause-reads
names::read_name-returns-in-Err-check_width-2-clause-reads t c = grind (arith, names)

pub specials::read_construction-read_framed-requires : goal.specials::read_construction-read_framed-requires
specials::read_construction-read_framed-requires t c =
    let left = ap (λ (s : spec.ParserState). length s.rest) c.skip.ensures.state in
    let entered = ap (λ (s : spec.ParserState). s.entered) c.skip.ensures.state in
    let two = length-drop 2 c.args.reader.now.rest.now in
    let class = (c.in-Ok.ensures {u = tt}).bounds in
    let enough : c.read_type.new.reader.entered + 2 * length c.in-Some.rest.now + 2 < 2 ^ 64 =
    omega (arith, left, entered, two, class.taken, class.counted, c.in-Some.ensures.shorter, c.requires.count_fits) in
    search rules

pub specials::read_construction-returns-clause-bounds : goal.specials::read_construction-returns-clause-bounds
specials::read_construction-returns-clause-bounds t c =
    let left = ap (λ (s : spec.ParserState). length s.rest) c.skip.ensures.state in
    let entered = ap (λ (s : spec.ParserState). s.entered) c.skip.ensures.state in
    let two = length-drop 2 c.args.reader.now.rest.now in
    let class = (c.in-Ok.ensures {u = tt}).bounds in
    let base = (c.in-Ok-read_framed.ensures {u = tt}).bounds in
    let before = ap (λ (s : spec.ParserState). length s.scopes) c.skip.ensures.state in
    let pushed : scopes c.push.new.self ≡ scopes c.read_type.new.reader.buffer.value = cc (c.in-Ok-push.ensures.kept.lists.scopes_same, c.deref_mut.ensures.value) in
    let joined : scopes c.join.new.self ≡ scopes c.read_framed.new.reader.buffer.value = cc (c.in-Ok-join.ensures.edit.lists.scopes_same, c.deref_mut-2.ensures.value) in
    record {
      taken = omega (arith, left, two, class.taken, base.taken, c.in-Some.ensures.shorter, c.requires.some);
      counted = omega (arith, left, entered, two, class.counted, base.counted, c.in-Some.ensures.shorter, c.requires.some);
      scopes_stand = omega (arith, before, class.scopes_stand, ap length pushed, base.scopes_stand, ap length joined);
    }

pub specials::read_construction-returns-clause-saved : goal.specials::read_construction-returns-clause-saved
specials::read_construction-returns-clause-saved t c =
    let left = ap (λ (s : spec.ParserState). length s.rest) c.skip.ensures.state in
    let two = length-drop 2 c.args.reader.now.rest.now in
    let class = (c.in-Ok.ensures {u = tt}).saved in
    let base = (c.in-Ok-read_framed.ensures {u = tt}).saved in
    let before = ap (λ (s : spec.ParserState). length s.saved) c.skip.ensures.state in
    let most = ap (λ (s : spec.ParserState). s.most_saved) c.skip.ensures.state in
    let pushed : saved c.push.new.self ≡ saved c.read_type.new.reader.buffer.value = cc (c.in-Ok-push.ensures.kept.lists.saved_same, c.deref_mut.ensures.value) in
    let joined : saved c.join.new.self ≡ saved c.read_framed.new.reader.buffer.value = cc (c.in-Ok-join.ensures.edit.lists.saved_same, c.deref_mut-2.ensures.value) in
    record {
      list = omega (arith, left, two, before, class.list, ap length pushed, base.list, ap length joined, c.in-Some.ensures.shorter, c.requires.some);
      most = omega (arith, left, two, before, most, class.list, class.most, ap length pushed, base.list, base.most, ap length joined, c.in-Some.ensures.shorter);
    }

pub specials::read_thunk-returns-clause-reads : goal.specials::read_thunk-returns-clause-reads
specials::read_thunk-returns-clause-reads t c =
    let opened = c.open_thunk.new.self in
    let symbol = c.close_found.new.self in
    let opens : Opens opened.buffer.value c.open-mark.new.self c.open-mark.result =
    subst (λ (b : Buffer). Opens b c.open-mark.new.self c.open-mark.result) c.deref_mut.ensures.value c.open-mark.ensures.opens in
    let since = IsSince-run _ _ _ _ (IsSince-opens _ _ _ opens) (c.in-Ok-read_encoding.ensures {u = tt}).run in
    let kept : SameFrame opened.buffer.value symbol.buffer.value = SameFrame-closed _ _ _ _ since (c.in-Ok-close_found.ensures {u = tt}).closed in
    let words = kept.pieces opened.found (c.in-Ok-open_thunk.ensures {u = tt}).reads.0 in
    let built = c.in-Ok-join_words.ensures.shape.shape_is
    ∙ ap (λ (s : Shape). worded_shape (text s) (shape symbol.buffer.value symbol.found) (codes ")}")) words.shape_is in
    checked c.check_width.result _ c.check_width.ensures.fits (search rules)
    (λ narrow. thunk_read c.args.depth c.args.context (state c.args.reader.now) {front = shape opened.buffer.value opened.found} {t = shape symbol.buffer.value symbol.found}
    {mid = state opened} {after = state c.join_words.new.self}
    (search rules) (search rules) (search (rules, buffers)) built narrow)
    (λ wide. thunk_wide c.args.depth c.args.context (state c.args.reader.now) {front = shape opened.buffer.value opened.found} {t = shape symbol.buffer.value symbol.found}
    {mid = state opened} {after = state symbol}
    (search rules) (search rules) (search (rules, buffers)) built wide)

pub specials::read_thunk-join_words-requires-clause-after : goal.specials::read_thunk-join_words-requires-clause-after
specials::read_thunk-join_words-requires-clause-after t c =
    let opened = c.open_thunk.new.self in
    let symbol = c.close_found.new.self in
    let output : main_bytes symbol.buffer.value ≡ main_bytes opened.buffer.value ++ text (shape symbol.buffer.value symbol.found) = search (rules, runs) in
    let words = c.in-Ok-open_thunk.ensures {u = tt} in
    text_after-follows opened.buffer.value symbol.buffer.value opened.found _ words.reads.0 words.last output

pub specials::read_thunk-returns-clause-run : goal.specials::read_thunk-returns-clause-run
specials::read_thunk-returns-clause-run t c =
    let opened = c.open_thunk.new.self in
    let symbol = c.close_found.new.self in
    let opens : Opens opened.buffer.value c.open-mark.new.self c.open-mark.result =
    subst (λ (b : Buffer). Opens b c.open-mark.new.self c.open-mark.result) c.deref_mut.ensures.value c.open-mark.ensures.opens in
    let since = IsSince-run _ _ _ _ (IsSince-opens _ _ _ opens) (c.in-Ok-read_encoding.ensures {u = tt}).run in
    let kept : SameFrame opened.buffer.value symbol.buffer.value = SameFrame-closed _ _ _ _ since (c.in-Ok-close_found.ensures {u = tt}).closed in
    let first : IsRun c.args.reader.now.buffer.value opened.buffer.value = search rules in
    in_any_case c.check_width.result (IsRun-trans _ _ _ first (IsRun-trans _ _ _ (IsRun-same _ _ kept) c.in-Ok-join_words.ensures.run))

-- a construction vtable, part by part
construction_read : (type : spec.Parses Shape) (s : spec.ParserState) {first second found : Shape} {mid after : spec.ParserState} {rest : List ℕ} → type (spec.skip 2 s) ≡ Some (first, mid)
    → past_base_offset mid.rest ≡ Some rest → type (spec.with_rest rest mid) ≡ Some (second, after) → found ≡ construction_shape second first → spec.parse_construction type s ≡ Some (found, after)
construction_read type s one base two built = rw (one, base, two, built) refl

pub specials::read_construction-returns-clause-reads : goal.specials::read_construction-returns-clause-reads
specials::read_construction-returns-clause-reads t c =
    let type = spec.parse_type c.args.depth c.args.context in
    let class_read = c.in-Ok.ensures {u = tt} in
    let push = c.in-Ok-push.ensures {u = tt} in
    let base_read = c.in-Ok-read_framed.ensures {u = tt} in
    let join = c.in-Ok-join.ensures {u = tt} in
    let one = c.read_type.new.reader in
    let two = c.read_framed.new.reader in
    let pushed = c.push.new.self in
    let joined_in = c.join.new.self in
    let b = two.buffer.value in
    let begun = c.in-Ok-push.value in
    let whole = c.up_to_end-whole.result in
    let class = shape one.buffer.value one.found in
    let base = shape b two.found in
    let word = codes "construction vtable for " in
    let kept : KeepsAll one.buffer.value pushed = subst (λ (s : Buffer). KeepsAll s pushed) c.deref_mut.ensures.value push.kept in
    let first_kept = kept.pieces one.found class_read.reads.0 in
    let class_is : shape b one.found ≡ class = (base_read.kept.pieces one.found first_kept.living).shape_is ∙ first_kept.shape_is in
    let words : shape b begun ≡ plain_shape word = (base_read.kept.pieces begun push.shape.living).shape_is ∙ push.shape.shape_is in
    let after : text_after b begun ≡ text base =
    text_after-follows pushed b begun _ push.shape.living (IsLast-push _ _ _ push.kept push.mark push.stands) base_read.output in
    let same : c.up_to_end-whole.new.self ≡ b = c.up_to_end-whole.ensures.same ∙ c.deref_mut-2.ensures.value in
    let taken : shape b whole ≡ appended (text_after b begun) (shape b begun) =
    subst (λ (s : Buffer). shape s whole ≡ appended (text_after b begun) (shape b begun)) same
    (subst (λ (s : Buffer). shape c.up_to_end-whole.new.self whole ≡ appended (text_after s begun) (shape s begun)) c.deref_mut-2.ensures.value c.up_to_end-whole.ensures.shape.shape_is) in
    let printed : text (shape b whole) ≡ word ++ text base =
    ap (λ (s : Shape). text s) taken ∙ appended_text (text_after b begun) (shape b begun)
    ∙ ap (λ (s : Shape). text s ++ text_after b begun) words ∙ ap (λ (v : List ℕ). word ++ v) after in
    let joins : shape joined_in c.in-Ok-join.value ≡ joined (shape b whole) (codes "-in-") (shape b one.found) =
    subst (λ (s : Buffer). shape joined_in c.in-Ok-join.value ≡ joined (shape s whole) (codes "-in-") (shape s one.found)) (c.deref_mut-3.ensures.value ∙ same) join.shape.shape_is in
    let built : shape joined_in c.in-Ok-join.value ≡ construction_shape base class =
    joins ∙ ap (λ (v : List ℕ). plain_shape ((v ++ codes "-in-") ++ text (shape b one.found))) printed
    ∙ ap (λ (s : Shape). plain_shape (((word ++ text base) ++ codes "-in-") ++ text s)) class_is
    ∙ ap plain_shape (append_assoc (word ++ text base) (codes "-in-") (text class) ∙ append_assoc word (text base) (codes "-in-" ++ text class))
    ∙ ap (λ (v : List ℕ). plain_shape (word ++ (text base ++ (codes "-in-" ++ v)))) (sym (append-nil (text class))) in
    let saved_as : saved pushed ≡ saved one.buffer.value = kept.lists.saved_same in
    let scopes_as : scopes pushed ≡ scopes one.buffer.value = kept.lists.scopes_same in
    let before : record {
      rest = c.in-Some.rest.now;
      saved = saved pushed;
      scopes = scopes pushed;
      entered = one.entered;
      most_saved = max one.recorded_peak (length (saved pushed));
    } ≡ spec.with_rest c.in-Some.rest.now (state one) = rw (saved_as, scopes_as) refl in
    let saved_end : saved joined_in ≡ saved b = cc (join.edit.lists.saved_same, c.deref_mut-3.ensures.value, same) in
    let scopes_end : scopes joined_in ≡ scopes b = cc (join.edit.lists.scopes_same, c.deref_mut-3.ensures.value, same) in
    let ended : record {
      rest = two.rest.now;
      saved = saved joined_in;
      scopes = scopes joined_in;
      entered = two.entered;
      most_saved = max two.recorded_peak (length (saved joined_in));
    } ≡ state two = rw (saved_end, scopes_end) refl in
    let offset : past_base_offset one.rest.now ≡ Some c.in-Some.rest.now = search rules in (
      join.shape.living,
      construction_read type (state c.args.reader.now) (ap type (sym c.skip.ensures.state) ∙ class_read.reads.1) offset (ap type (sym before) ∙ base_read.reads.1) built
          ∙ ap (λ (a : spec.ParserState). Some (shape joined_in c.in-Ok-join.value, a)) (sym ended),
    )

pub types::read_pointer-returns-clause-saved : goal.types::read_pointer-returns-clause-saved
types::read_pointer-returns-clause-saved t c = grind (arith, common_steps)

pub types::read_type-returns-in-Err-clause-reads : goal.types::read_type-returns-in-Err-clause-reads
types::read_type-returns-in-Err-clause-reads t c = grind (arith, types)

pub types::read_type-returns-in-Err-read_name-clause-reads : goal.types::read_type-returns-in-Err-read_name-clause-reads
types::read_type-returns-in-Err-read_name-clause-reads t c = grind (arith, types)

pub types::read_type-returns-in-NameType-clause-reads : goal.types::read_type-returns-in-NameType-clause-reads
types::read_type-returns-in-NameType-clause-reads t c = grind (arith, types)

pub types::read_type-returns-in-Err-read_substitution-clause-reads : goal.types::read_type-returns-in-Err-read_substitution-clause-reads
types::read_type-returns-in-Err-read_substitution-clause-reads t c = grind (arith, types)

pub types::read_type-returns-in-Err-read_template_param-clause-reads : goal.types::read_type-returns-in-Err-read_template_param-clause-reads
types::read_type-returns-in-Err-read_template_param-clause-reads t c = grind (arith, types)

pub types::read_type-returns-in-Err-read-clause-reads : goal.types::read_type-returns-in-Err-read-clause-reads
types::read_type-returns-in-Err-read-clause-reads t c = grind (arith, types)

pub types::read_type-returns-clause-reads : goal.types::read_type-returns-clause-reads
types::read_type-returns-clause-reads t c =
    checked c.check_width.result c.match-type_case.reader c.check_width.ensures.fits (search rules) (λ narrow. grind (arith, types)) (λ wide. grind (arith, types))

pub names::read_nested_name-returns-in-Err-clause-reads : goal.names::read_nested_name-returns-in-Err-clause-reads
names::read_nested_name-returns-in-Err-clause-reads t c = grind (arith, nested_names)

pub names::read_nested_name-returns-in-Err-read_segments-clause-reads : goal.names::read_nested_name-returns-in-Err-read_segments-clause-reads
names::read_nested_name-returns-in-Err-read_segments-clause-reads t c = grind (arith, nested_names)

pub names::read_nested_name-returns-in-Ok-clause-reads : goal.names::read_nested_name-returns-in-Ok-clause-reads
names::read_nested_name-returns-in-Ok-clause-reads t c = grind (arith, nested_names)

pub names::read_nested_name-returns-in-Ok-read_segments-clause-reads : goal.names::read_nested_name-returns-in-Ok-read_segments-clause-reads
names::read_nested_name-returns-in-Ok-read_segments-clause-reads t c = grind (arith, nested_names)

pub names::read_segment-returns-clause-reads : goal.names::read_segment-returns-clause-reads
names::read_segment-returns-clause-reads t c = grind (arith, unqualified_names)

pub names::read_ordinary_segment-returns-clause-run : goal.names::read_ordinary_segment-returns-clause-run
names::read_ordinary_segment-returns-clause-run t c =
    let parent = c.open_parent.new.buf in
    let last = c.append_leaf.new.buf in
    let opens : Opens parent c.open-mark.new.self c.open-mark.result =
    subst (λ (b : Buffer). Opens b c.open-mark.new.self c.open-mark.result) c.deref_mut-2.ensures.value c.open-mark.ensures.opens in
    let since = IsSince-run _ _ _ _ (IsSince-opens _ _ _ opens) (c.in-Ok-read_ordinary_name.ensures {u = tt}).run in
    let kept : SameFrame parent c.close_found.new.self.buffer.value = SameFrame-closed _ _ _ _ since (c.in-Ok-close_found.ensures {u = tt}).closed in
    let before : IsEdit c.args.reader.now.buffer.value parent =
    subst (λ (b : Buffer). IsEdit b parent) c.deref_mut.ensures.value (c.in-Ok.ensures {u = tt}).edit in
    let after : IsEdit c.close_found.new.self.buffer.value last =
    subst (λ (b : Buffer). IsEdit b last) c.deref_mut-3.ensures.value (c.in-Ok-append_leaf.ensures {u = tt}).edit in
    IsRun-trans _ _ _ (IsRun-edit _ _ before) (IsRun-trans _ _ _ (IsRun-same _ _ kept) (IsRun-edit _ _ after))

pub names::read_segment-returns-in-Err-clause-reads : goal.names::read_segment-returns-in-Err-clause-reads
names::read_segment-returns-in-Err-clause-reads t c = grind (arith, unqualified_names)

pub names::read_unqualified_name-returns-in-Err-clause-reads : goal.names::read_unqualified_name-returns-in-Err-clause-reads
names::read_unqualified_name-returns-in-Err-clause-reads t c = grind (arith, outer_names)

pub names::read_unqualified_name-returns-clause-reads : goal.names::read_unqualified_name-returns-clause-reads
names::read_unqualified_name-returns-clause-reads t c = grind (arith, outer_names)

pub args::read_template_arg-returns-clause-kept : goal.args::read_template_arg-returns-clause-kept
args::read_template_arg-returns-clause-kept t c = on_success c.close_found.result (λ closed. grind (arith, common_steps)) c.close_found.ensures.closed

pub args::read_argument_pack-returns-in-Err-clause-reads : goal.args::read_argument_pack-returns-in-Err-clause-reads
args::read_argument_pack-returns-in-Err-clause-reads t c = grind (arith, packs)

pub args::read_template_arg-returns-in-Err-clause-reads : goal.args::read_template_arg-returns-in-Err-clause-reads
args::read_template_arg-returns-in-Err-clause-reads t c = grind (arith, arguments)

pub args::read_template_args-returns-in-Err-clause-reads : goal.args::read_template_args-returns-in-Err-clause-reads
args::read_template_args-returns-in-Err-clause-reads t c = grind (arith, argument_lists)

pub args::read_template_args-overflow_sub-front : goal.args::read_template_args-overflow_sub-front
args::read_template_args-overflow_sub-front t c = grind (arith, common_steps)

pub encodings::read_encoding-returns-in-Err-clause-reads : goal.encodings::read_encoding-returns-in-Err-clause-reads
encodings::read_encoding-returns-in-Err-clause-reads t c = grind (arith, encodings)

pub encodings::read_local_name-returns-in-Err-clause-reads : goal.encodings::read_local_name-returns-in-Err-clause-reads
encodings::read_local_name-returns-in-Err-clause-reads t c = grind (arith, local_names)

pub encodings::read_local_name-returns-clause-reads : goal.encodings::read_local_name-returns-clause-reads
encodings::read_local_name-returns-clause-reads t c = grind (arith, local_names)

pub expressions::read_expr_primary-returns-in-Err-clause-reads : goal.expressions::read_expr_primary-returns-in-Err-clause-reads
expressions::read_expr_primary-returns-in-Err-clause-reads t c = grind (arith, primaries)

pub expressions::read_expr_primary-returns-in-Ok-clause-reads : goal.expressions::read_expr_primary-returns-in-Ok-clause-reads
expressions::read_expr_primary-returns-in-Ok-clause-reads t c = grind (arith, primaries)

pub expressions::read_expression-returns-in-Err-clause-reads : goal.expressions::read_expression-returns-in-Err-clause-reads
expressions::read_expression-returns-in-Err-clause-reads t c = grind (arith, expressions)

pub expressions::read_expression-returns-in-Err-read-clause-reads : goal.expressions::read_expression-returns-in-Err-read-clause-reads
expressions::read_expression-returns-in-Err-read-clause-reads t c = grind (arith, expressions)

pub expressions::read_expression-returns-clause-reads : goal.expressions::read_expression-returns-clause-reads
expressions::read_expression-returns-clause-reads t c =
    checked c.check_width.result c.match-expression_case.reader c.check_width.ensures.fits (search rules) (λ narrow. grind (arith, expressions)) (λ wide. grind (arith, expressions))

pub specials::read_thunk-returns-in-Err-clause-reads : goal.specials::read_thunk-returns-in-Err-clause-reads
specials::read_thunk-returns-in-Err-clause-reads t c = grind (arith, thunks)

pub specials::read_thunk-returns-in-Err-open_thunk-clause-reads : goal.specials::read_thunk-returns-in-Err-open_thunk-clause-reads
specials::read_thunk-returns-in-Err-open_thunk-clause-reads t c = grind (arith, thunks)

pub specials::read_thunk-returns-in-Err-read_encoding-clause-reads : goal.specials::read_thunk-returns-in-Err-read_encoding-clause-reads
specials::read_thunk-returns-in-Err-read_encoding-clause-reads t c = grind (arith, thunks)

pub args::read_template_arg-returns-clause-reads : goal.args::read_template_arg-returns-clause-reads
args::read_template_arg-returns-clause-reads t c = grind (arith, arguments)

pub encodings::read_encoding-returns-in-SpecialEncoding-clause-reads : goal.encodings::read_encoding-returns-in-SpecialEncoding-clause-reads
encodings::read_encoding-returns-in-SpecialEncoding-clause-reads t c = grind (arith, encodings)

pub encodings::read_encoding-returns-in-NameEncoding-clause-reads : goal.encodings::read_encoding-returns-in-NameEncoding-clause-reads
encodings::read_encoding-returns-in-NameEncoding-clause-reads t c = grind (arith, encodings)

pub encodings::read_encoding-returns-in-Ok-clause-reads : goal.encodings::read_encoding-returns-in-Ok-clause-reads
encodings::read_encoding-returns-in-Ok-clause-reads t c = grind (arith, encodings)

pub expressions::read_expr_primary-returns-in-Err-read_framed-clause-reads : goal.expressions::read_expr_primary-returns-in-Err-read_framed-clause-reads
expressions::read_expr_primary-returns-in-Err-read_framed-clause-reads t c = grind (arith, primaries)

pub expressions::read_expr_primary-returns-in_default-clause-reads : goal.expressions::read_expr_primary-returns-in_default-clause-reads
expressions::read_expr_primary-returns-in_default-clause-reads t c = grind (arith, primaries)

pub expressions::read_expr_primary-returns-in_default-literal-clause-reads : goal.expressions::read_expr_primary-returns-in_default-literal-clause-reads
expressions::read_expr_primary-returns-in_default-literal-clause-reads t c = grind (arith, primaries)

pub expressions::read_expr_primary-returns-in-Some-literal-clause-reads : goal.expressions::read_expr_primary-returns-in-Some-literal-clause-reads
expressions::read_expr_primary-returns-in-Some-literal-clause-reads t c = grind (arith, primaries)

pub expressions::read_conditional-returns-clause-reads : goal.expressions::read_conditional-returns-clause-reads
expressions::read_conditional-returns-clause-reads t c = grind (arith, common_steps)

pub args::read_template_arg-returns-in-Err-read-clause-reads : goal.args::read_template_arg-returns-in-Err-read-clause-reads
args::read_template_arg-returns-in-Err-read-clause-reads t c = grind (arith, arguments)

pub specials::read_special_name-returns-in-TemporarySpecial-clause-reads : goal.specials::read_special_name-returns-in-TemporarySpecial-clause-reads
specials::read_special_name-returns-in-TemporarySpecial-clause-reads t c = grind (arith, specials)

pub specials::read_special_name-returns-in-ConstructionSpecial-clause-reads : goal.specials::read_special_name-returns-in-ConstructionSpecial-clause-reads
specials::read_special_name-returns-in-ConstructionSpecial-clause-reads t c = grind (arith, specials)

pub specials::read_special_name-returns-in-ThunkSpecial-clause-reads : goal.specials::read_special_name-returns-in-ThunkSpecial-clause-reads
specials::read_special_name-returns-in-ThunkSpecial-clause-reads t c = grind (arith, specials)

pub specials::read_special_name-returns-in-UnreadableSpecial-clause-reads : goal.specials::read_special_name-returns-in-UnreadableSpecial-clause-reads
specials::read_special_name-returns-in-UnreadableSpecial-clause-reads t c = grind (arith, specials)

-- what an edit at the end leaves of the bounds: its only error is that of a failed allocation
edited_bounds : {least slack : ℕ} (more : ℕ) (result : Result (Unit {0}) Stop) {before mid : spec.ParserState} (after : spec.ParserState) → IsOkUnless result Memory
    → OnOk result (after ≡ mid) → CostBounds least slack before mid → Bounds least slack more result before after
edited_bounds {least} {slack} more (Ok u) {before} after memory same cost = subst (λ (s : spec.ParserState). CostBounds least slack before s) (sym same) cost
edited_bounds more (Err Unreadable) after memory same cost = absurd (cc memory)
edited_bounds more (Err Memory) after memory same cost = tt

pub expressions::read_conditional-returns-clause-bounds : goal.expressions::read_conditional-returns-clause-bounds
expressions::read_conditional-returns-clause-bounds t c =
    let left = ap (λ (s : spec.ParserState). length s.rest) c.skip.ensures.state in
    let entered = ap (λ (s : spec.ParserState). s.entered) c.skip.ensures.state in
    let before = ap (λ (s : spec.ParserState). length s.scopes) c.skip.ensures.state in
    let two = length-drop 2 c.args.reader.now.rest.now in
    let condition = (c.in-Ok.ensures {u = tt}).bounds in
    let first = (c.in-Ok-read_framed.ensures {u = tt}).bounds in
    let printed = (c.in-Ok-print_binary.ensures {u = tt}).state in
    let printed_left = ap (λ (s : spec.ParserState). length s.rest) printed in
    let printed_entered = ap (λ (s : spec.ParserState). s.entered) printed in
    let printed_scopes = ap (λ (s : spec.ParserState). length s.scopes) printed in
    let second = (c.in-Ok-read_framed-2.ensures {u = tt}).bounds in
    edited_bounds 0 c.print_binary-2.result _ c.print_binary-2.ensures.memory c.print_binary-2.ensures.state record {
      taken = omega (arith, left, two, condition.taken, first.taken, printed_left, second.taken);
      counted = omega (arith, left, entered, two, condition.counted, first.counted, printed_left, printed_entered, second.counted, c.requires.some);
      scopes_stand = omega (arith, before, condition.scopes_stand, first.scopes_stand, printed_scopes, second.scopes_stand);
    }

pub frames::read_framed-returns-clause-kept : goal.frames::read_framed-returns-clause-kept
frames::read_framed-returns-clause-kept t c = on_success c.close_found.result (λ closed. grind (arith, common_steps)) c.close_found.ensures.closed

pub frames::read_worded-join_words-requires-clause-after : goal.frames::read_worded-join_words-requires-clause-after
frames::read_worded-join_words-requires-clause-after t c =
    let begun = c.in-Ok.ensures {u = tt} in
    text_after-follows c.push.new.self c.read_framed.new.reader.buffer.value c.in-Ok.value _ begun.shape.living
    (IsLast-push _ _ _ begun.kept begun.mark begun.stands) (c.in-Ok-read_framed.ensures {u = tt}).output

-- the same of how the substitution table grows
edited_growth : (slack : ℕ) (result : Result (Unit {0}) Stop) {before mid : spec.ParserState} (after : spec.ParserState) → IsOkUnless result Memory
    → OnOk result (after ≡ mid) → Growth slack before mid → SavedBounds slack result before after
edited_growth slack (Ok u) {before} after memory same growth = subst (λ (s : spec.ParserState). Growth slack before s) (sym same) growth
edited_growth slack (Err Unreadable) after memory same growth = absurd (cc memory)
edited_growth slack (Err Memory) after memory same growth = tt

pub types::read_function_type-returns-in-Ok-close_function-clause-bounds : goal.types::read_function_type-returns-in-Ok-close_function-clause-bounds
types::read_function_type-returns-in-Ok-close_function-clause-bounds t c =
    let left = ap (λ (s : spec.ParserState). length s.rest) c.skip.ensures.state in
    let entered = ap (λ (s : spec.ParserState). s.entered) c.skip.ensures.state in
    let before = ap (λ (s : spec.ParserState). length s.scopes) c.skip.ensures.state in
    let one = length-drop 1 c.args.reader.now.rest.now in
    let first = (c.in-Ok.ensures {u = tt}).bounds in
    let params = (c.in-Ok-read_params.ensures {u = tt}).bounds in
    let opened : scopes c.open_function.new.buf ≡ scopes c.read_type.new.reader.buffer.value =
    cc ((c.in-Ok-open_function.ensures {u = tt}).edit.lists.scopes_same, c.deref_mut.ensures.value) in
    let closed : scopes c.close_function.new.buf ≡ scopes c.read_params.new.reader.buffer.value =
    cc ((c.in-Ok-close_function.ensures {u = tt}).edit.lists.scopes_same, c.deref_mut-in-PlainFunction.ensures.value) in
    let end_left = ap (λ (s : spec.ParserState). length s.rest) c.skip-in-PlainFunction.ensures.state in
    let end_entered = ap (λ (s : spec.ParserState). s.entered) c.skip-in-PlainFunction.ensures.state in
    let end_scopes = ap (λ (s : spec.ParserState). length s.scopes) c.skip-in-PlainFunction.ensures.state in
    let last = length-drop 1 c.ref_qualifier-reference.result.1.now in
    let within = c.ref_qualifier-reference.ensures.within in
    edited_bounds 0 c.save_found.result _ c.save_found.ensures.memory c.save_found.ensures.state record {
      taken = omega (arith, left, one, first.taken, params.taken, within, end_left, last, c.requires.some);
      counted = omega (arith, left, entered, one, first.counted, params.counted, within, end_left, end_entered, last, c.requires.some);
      scopes_stand = omega (arith, before, first.scopes_stand, ap length opened, params.scopes_stand, ap length closed, end_scopes);
    }

pub types::read_function_type-returns-in-Ok-close_function-clause-saved : goal.types::read_function_type-returns-in-Ok-close_function-clause-saved
types::read_function_type-returns-in-Ok-close_function-clause-saved t c =
    let left = ap (λ (s : spec.ParserState). length s.rest) c.skip.ensures.state in
    let before = ap (λ (s : spec.ParserState). length s.saved) c.skip.ensures.state in
    let most = ap (λ (s : spec.ParserState). s.most_saved) c.skip.ensures.state in
    let one = length-drop 1 c.args.reader.now.rest.now in
    let first = (c.in-Ok.ensures {u = tt}).saved in
    let params = (c.in-Ok-read_params.ensures {u = tt}).saved in
    let opened : saved c.open_function.new.buf ≡ saved c.read_type.new.reader.buffer.value =
    cc ((c.in-Ok-open_function.ensures {u = tt}).edit.lists.saved_same, c.deref_mut.ensures.value) in
    let closed : saved c.close_function.new.buf ≡ saved c.read_params.new.reader.buffer.value =
    cc ((c.in-Ok-close_function.ensures {u = tt}).edit.lists.saved_same, c.deref_mut-in-PlainFunction.ensures.value) in
    let end_left = ap (λ (s : spec.ParserState). length s.rest) c.skip-in-PlainFunction.ensures.state in
    let end_saved = ap (λ (s : spec.ParserState). length s.saved) c.skip-in-PlainFunction.ensures.state in
    let end_most = ap (λ (s : spec.ParserState). s.most_saved) c.skip-in-PlainFunction.ensures.state in
    let last = length-drop 1 c.ref_qualifier-reference.result.1.now in
    let within = c.ref_qualifier-reference.ensures.within in
    let kept = length-append (saved c.skip-in-PlainFunction.new.self.buffer.value) (shape c.skip-in-PlainFunction.new.self.buffer.value c.skip-in-PlainFunction.new.self.found ∷ []) in
    edited_growth 0 c.save_found.result _ c.save_found.ensures.memory c.save_found.ensures.state record {
      list = omega (arith, left, one, before, first.list, ap length opened, params.list, ap length closed, within, end_left, end_saved, last, kept, c.requires.some);
      most = omega (arith, left, one, before, most, first.list, first.most, ap length opened, params.list, params.most, ap length closed, end_saved, end_most, kept, c.requires.some);
    }

pub encodings::read_entity-returns-clause-run : goal.encodings::read_entity-returns-clause-run
encodings::read_entity-returns-clause-run t c =
    let m = c.match-entity_case.reader in
    let edit : IsEdit c.args.reader.now.buffer.value m.buffer.value = elim c.match-entity_case.branch [
      | encodings::read_entity-in-DefaultArgumentEntity+in-Some w ↦
          let ok = sym w.begun-is ∙ c.in-Ok-begun.is in
          let edits : IsEdit w.deref_mut-in-DefaultArgumentEntity.result.now w.open_default_arg-begun.new.buf =
          subst (λ (r : Result Piece AllocError). OnOk r (IsEdit w.deref_mut-in-DefaultArgumentEntity.result.now w.open_default_arg-begun.new.buf)) ok w.open_default_arg-begun.ensures.edit in
          rw w.reader-is (search rules)
      | encodings::read_entity-in-NameEntity w ↦
          let ok = sym w.begun-is ∙ c.in-Ok-begun.is in
          let edits : IsEdit w.deref_mut-in-NameEntity.result.now w.open_parent-begun.new.buf =
          subst (λ (r : Result Piece AllocError). OnOk r (IsEdit w.deref_mut-in-NameEntity.result.now w.open_parent-begun.new.buf)) ok w.open_parent-begun.ensures.edit in
          rw w.reader-is (search rules)
    ] in
    let closed = c.close_found.new.self in
    let opens : Opens m.buffer.value c.open-mark.new.self c.open-mark.result =
    subst (λ (b : Buffer). Opens b c.open-mark.new.self c.open-mark.result) c.deref_mut-2.ensures.value c.open-mark.ensures.opens in
    let since = IsSince-run _ _ _ _ (IsSince-opens _ _ _ opens) (c.in-Ok-read_name.ensures {u = tt}).run in
    let kept : SameFrame m.buffer.value closed.buffer.value = SameFrame-closed _ _ _ _ since (c.in-Ok-close_found.ensures {u = tt}).closed in
    let last : IsEdit closed.buffer.value c.append_leaf.new.buf =
    subst (λ (b : Buffer). IsEdit b c.append_leaf.new.buf) c.deref_mut-3.ensures.value (c.in-Ok-append_leaf.ensures {u = tt}).edit in
    IsRun-trans _ _ _ (IsRun-edit _ _ edit) (IsRun-trans _ _ _ (IsRun-same _ _ kept) (IsRun-edit _ _ last))

pub encodings::read_entity-returns-clause-reads : goal.encodings::read_entity-returns-clause-reads
encodings::read_entity-returns-clause-reads t c =
    let bare = spec.parse_bare_name c.args.depth c.args.context in
    let before = c.args.reader.now in
    let encoding = shape before.buffer.value c.args.encoding in
    let m = c.match-entity_case.reader in
    let opened : EntityOpens bare encoding (state before) m c.in-Ok-begun.value = elim c.match-entity_case.branch [
      | encodings::read_entity-in-DefaultArgumentEntity+in-Some w ↦
          let ok = sym w.begun-is ∙ c.in-Ok-begun.is in
          let edits : IsEdit w.deref_mut-in-DefaultArgumentEntity.result.now w.open_default_arg-begun.new.buf =
          subst (λ (r : Result Piece AllocError). OnOk r (IsEdit w.deref_mut-in-DefaultArgumentEntity.result.now w.open_default_arg-begun.new.buf)) ok w.open_default_arg-begun.ensures.edit in
          let lives : Lives w.open_default_arg-begun.new.buf c.in-Ok-begun.value (default_arg_opened (shape w.deref_mut-in-DefaultArgumentEntity.result.now c.args.encoding) w.in-Some.number) =
          subst (λ (r : Result Piece AllocError). IfOk r (λ p. Lives w.open_default_arg-begun.new.buf p (default_arg_opened (shape w.deref_mut-in-DefaultArgumentEntity.result.now c.args.encoding) w.in-Some.number)))
          ok w.open_default_arg-begun.ensures.shape in
          rw w.reader-is record {
            front = default_arg_opened encoding w.in-Some.number;
            lives = search rules;
            gives = λ entity found quals mid after read built same.
                default_argument_found bare encoding (state before) {number = w.in-Some.number} {rest = w.in-Some.rest.now} {entity = entity} {found = found} {quals = quals} {mid = mid}
                (search rules) (search rules) (ap bare (search rules) ∙ read) built same;
          }
      | encodings::read_entity-in-NameEntity w ↦
          let ok = sym w.begun-is ∙ c.in-Ok-begun.is in
          let edits : IsEdit w.deref_mut-in-NameEntity.result.now w.open_parent-begun.new.buf =
          subst (λ (r : Result Piece AllocError). OnOk r (IsEdit w.deref_mut-in-NameEntity.result.now w.open_parent-begun.new.buf)) ok w.open_parent-begun.ensures.edit in
          let lives : Lives w.open_parent-begun.new.buf c.in-Ok-begun.value (parent_opened (shape w.deref_mut-in-NameEntity.result.now c.args.encoding)) =
          subst (λ (r : Result Piece AllocError). IfOk r (λ p. Lives w.open_parent-begun.new.buf p (parent_opened (shape w.deref_mut-in-NameEntity.result.now c.args.encoding))))
          ok w.open_parent-begun.ensures.shape in
          rw w.reader-is record {
            front = parent_opened encoding;
            lives = search rules;
            gives = λ entity found quals mid after read built same.
                named_entity_found bare encoding (state before) {entity = entity} {found = found} {quals = quals} {mid = mid} (search rules) (ap bare (search rules) ∙ read) built same;
          }
    ] in
    let closed = c.close_found.new.self in
    let opens : Opens m.buffer.value c.open-mark.new.self c.open-mark.result =
    subst (λ (b : Buffer). Opens b c.open-mark.new.self c.open-mark.result) c.deref_mut-2.ensures.value c.open-mark.ensures.opens in
    let since = IsSince-run _ _ _ _ (IsSince-opens _ _ _ opens) (c.in-Ok-read_name.ensures {u = tt}).run in
    let kept : SameFrame m.buffer.value closed.buffer.value = SameFrame-closed _ _ _ _ since (c.in-Ok-close_found.ensures {u = tt}).closed in
    let front = kept.pieces c.in-Ok-begun.value opened.lives.living in
    let built = rw c.deref_mut-3.ensures.value at (c.in-Ok-append_leaf.ensures {u = tt}).shape.shape_is in (
      search rules,
      opened.gives (shape closed.buffer.value closed.found) _ _ (state closed) _ (search rules)
          (built ∙ ap (λ (f : Shape). enclosed f (shape closed.buffer.value closed.found)) (front.shape_is ∙ opened.lives.shape_is))
          (search rules),
    )

-- What follows only saves time: the check proves these goals without it, clause by clause.
pub args::read_argument_pack-returns-in-Err-push : goal.args::read_argument_pack-returns-in-Err-push
args::read_argument_pack-returns-in-Err-push t c = grind arith

pub args::read_argument_pack-returns-in-Err-separate_list : goal.args::read_argument_pack-returns-in-Err-separate_list
args::read_argument_pack-returns-in-Err-separate_list t c = grind arith

pub args::read_argument_pack-returns-in-Err-append_piece : goal.args::read_argument_pack-returns-in-Err-append_piece
args::read_argument_pack-returns-in-Err-append_piece t c = grind arith

pub args::read_template_args-returns-in-Err-open_scope_if : goal.args::read_template_args-returns-in-Err-open_scope_if
args::read_template_args-returns-in-Err-open_scope_if t c = grind arith

pub args::read_template_args-returns-in-Err-open_arguments : goal.args::read_template_args-returns-in-Err-open_arguments
args::read_template_args-returns-in-Err-open_arguments t c = grind arith

pub args::read_template_args-returns-in-Err-close_arguments : goal.args::read_template_args-returns-in-Err-close_arguments
args::read_template_args-returns-in-Err-close_arguments t c = grind arith

pub args::read_template_args-returns-in-Err-separate : goal.args::read_template_args-returns-in-Err-separate
args::read_template_args-returns-in-Err-separate t c = grind arith

pub args::read_template_args-returns-in-Err-end_argument : goal.args::read_template_args-returns-in-Err-end_argument
args::read_template_args-returns-in-Err-end_argument t c = grind arith

pub encodings::end_encoding-returns-in-Err : goal.encodings::end_encoding-returns-in-Err
encodings::end_encoding-returns-in-Err t c = grind arith

pub encodings::end_encoding-returns-in-Err-read_params : goal.encodings::end_encoding-returns-in-Err-read_params
encodings::end_encoding-returns-in-Err-read_params t c = grind arith

pub encodings::end_encoding-returns : goal.encodings::end_encoding-returns
encodings::end_encoding-returns t c = grind arith

pub encodings::read_entity-returns-in-StringLiteralEntity : goal.encodings::read_entity-returns-in-StringLiteralEntity
encodings::read_entity-returns-in-StringLiteralEntity t c = grind arith

pub encodings::read_entity-returns-in_default : goal.encodings::read_entity-returns-in_default
encodings::read_entity-returns-in_default t c = grind arith

pub encodings::read_entity-returns-in-UnreadableEntity : goal.encodings::read_entity-returns-in-UnreadableEntity
encodings::read_entity-returns-in-UnreadableEntity t c = grind arith

pub encodings::read_entity-returns-in-Err-read_name : goal.encodings::read_entity-returns-in-Err-read_name
encodings::read_entity-returns-in-Err-read_name t c = grind arith

pub encodings::read_entity-returns-in-Err-close_found : goal.encodings::read_entity-returns-in-Err-close_found
encodings::read_entity-returns-in-Err-close_found t c = grind arith

pub encodings::read_return-returns-in-Err : goal.encodings::read_return-returns-in-Err
encodings::read_return-returns-in-Err t c = grind arith

pub encodings::read_return-returns-in-NoReturnType : goal.encodings::read_return-returns-in-NoReturnType
encodings::read_return-returns-in-NoReturnType t c = grind arith

pub expressions::read_address-returns-in-Err : goal.expressions::read_address-returns-in-Err
expressions::read_address-returns-in-Err t c = grind arith

pub expressions::read_address-returns : goal.expressions::read_address-returns
expressions::read_address-returns t c = grind arith

pub expressions::read_binary-returns-in-Err : goal.expressions::read_binary-returns-in-Err
expressions::read_binary-returns-in-Err t c = grind arith

pub expressions::read_binary-returns-in-Err-read_framed : goal.expressions::read_binary-returns-in-Err-read_framed
expressions::read_binary-returns-in-Err-read_framed t c = grind arith

pub expressions::read_binary-returns : goal.expressions::read_binary-returns
expressions::read_binary-returns t c = grind arith

pub expressions::read_conditional-returns-in-Err : goal.expressions::read_conditional-returns-in-Err
expressions::read_conditional-returns-in-Err t c = grind arith

pub expressions::read_conditional-returns-in-Err-read_framed : goal.expressions::read_conditional-returns-in-Err-read_framed
expressions::read_conditional-returns-in-Err-read_framed t c = grind arith

pub expressions::read_conditional-returns-in-Err-print_binary : goal.expressions::read_conditional-returns-in-Err-print_binary
expressions::read_conditional-returns-in-Err-print_binary t c = grind arith

pub expressions::read_conditional-returns-in-Err-read_framed-2 : goal.expressions::read_conditional-returns-in-Err-read_framed-2
expressions::read_conditional-returns-in-Err-read_framed-2 t c = grind arith

pub expressions::read_greater-returns-in-Err : goal.expressions::read_greater-returns-in-Err
expressions::read_greater-returns-in-Err t c = grind arith

pub expressions::read_greater-returns-in-Err-read_framed : goal.expressions::read_greater-returns-in-Err-read_framed
expressions::read_greater-returns-in-Err-read_framed t c = grind arith

pub expressions::read_greater-returns : goal.expressions::read_greater-returns
expressions::read_greater-returns t c = grind arith

pub expressions::read_operand-returns-in-Err : goal.expressions::read_operand-returns-in-Err
expressions::read_operand-returns-in-Err t c = grind arith

pub expressions::read_operand-returns : goal.expressions::read_operand-returns
expressions::read_operand-returns t c = grind arith

pub expressions::read_post-returns-in-Err : goal.expressions::read_post-returns-in-Err
expressions::read_post-returns-in-Err t c = grind arith

pub expressions::read_post-returns : goal.expressions::read_post-returns
expressions::read_post-returns t c = grind arith

pub expressions::read_pre-returns : goal.expressions::read_pre-returns
expressions::read_pre-returns t c = grind arith

pub expressions::read_unary-returns : goal.expressions::read_unary-returns
expressions::read_unary-returns t c = grind arith

pub frames::read_framed-returns-in-Err : goal.frames::read_framed-returns-in-Err
frames::read_framed-returns-in-Err t c = grind arith

pub frames::read_worded-returns-in-Err-read_framed : goal.frames::read_worded-returns-in-Err-read_framed
frames::read_worded-returns-in-Err-read_framed t c = grind arith

pub frames::read_worded-returns : goal.frames::read_worded-returns
frames::read_worded-returns t c = grind arith

pub names::read_closure_type_name-returns-in-Err-read_params : goal.names::read_closure_type_name-returns-in-Err-read_params
names::read_closure_type_name-returns-in-Err-read_params t c = grind arith

pub names::read_closure_type_name-returns : goal.names::read_closure_type_name-returns
names::read_closure_type_name-returns t c = grind arith

pub names::read_first_segment-returns-in-Err-read_template_param : goal.names::read_first_segment-returns-in-Err-read_template_param
names::read_first_segment-returns-in-Err-read_template_param t c = grind arith

pub names::read_first_segment-returns-in-Err-copy_found_to_end : goal.names::read_first_segment-returns-in-Err-copy_found_to_end
names::read_first_segment-returns-in-Err-copy_found_to_end t c = grind arith

pub names::read_first_segment-returns-in-Err-read_std : goal.names::read_first_segment-returns-in-Err-read_std
names::read_first_segment-returns-in-Err-read_std t c = grind arith

pub names::read_first_segment-returns-in-Err-read_substitution : goal.names::read_first_segment-returns-in-Err-read_substitution
names::read_first_segment-returns-in-Err-read_substitution t c = grind arith

pub names::read_first_segment-returns-in-Err-copy_found_to_end-2 : goal.names::read_first_segment-returns-in-Err-copy_found_to_end-2
names::read_first_segment-returns-in-Err-copy_found_to_end-2 t c = grind arith

pub names::read_first_segment-returns-in-Err-read_unqualified_name : goal.names::read_first_segment-returns-in-Err-read_unqualified_name
names::read_first_segment-returns-in-Err-read_unqualified_name t c = grind arith

pub names::read_first_segment-returns-in-Ok-copy_found_to_end : goal.names::read_first_segment-returns-in-Ok-copy_found_to_end
names::read_first_segment-returns-in-Ok-copy_found_to_end t c = grind arith

pub names::read_first_segment-returns-in-Ok-read_std : goal.names::read_first_segment-returns-in-Ok-read_std
names::read_first_segment-returns-in-Ok-read_std t c = grind arith

pub names::read_first_segment-returns-in-Ok-copy_found_to_end-2 : goal.names::read_first_segment-returns-in-Ok-copy_found_to_end-2
names::read_first_segment-returns-in-Ok-copy_found_to_end-2 t c = grind arith

pub names::read_first_segment-returns-in-Ok-read_unqualified_name : goal.names::read_first_segment-returns-in-Ok-read_unqualified_name
names::read_first_segment-returns-in-Ok-read_unqualified_name t c = grind arith

pub names::read_name-returns-in-Err-print_quals : goal.names::read_name-returns-in-Err-print_quals
names::read_name-returns-in-Err-print_quals t c = grind arith

pub names::read_ordinary_name-returns-in-Err : goal.names::read_ordinary_name-returns-in-Err
names::read_ordinary_name-returns-in-Err t c = grind arith

pub names::read_ordinary_name-returns-in-SourceName : goal.names::read_ordinary_name-returns-in-SourceName
names::read_ordinary_name-returns-in-SourceName t c = grind arith

pub names::read_ordinary_name-returns-in-UnnamedTypeName : goal.names::read_ordinary_name-returns-in-UnnamedTypeName
names::read_ordinary_name-returns-in-UnnamedTypeName t c = grind arith

pub names::read_ordinary_name-returns-in-LambdaName : goal.names::read_ordinary_name-returns-in-LambdaName
names::read_ordinary_name-returns-in-LambdaName t c = grind arith

pub names::read_ordinary_name-returns-in-Ok : goal.names::read_ordinary_name-returns-in-Ok
names::read_ordinary_name-returns-in-Ok t c = grind arith

pub names::read_ordinary_name-returns-in-LiteralOperatorName : goal.names::read_ordinary_name-returns-in-LiteralOperatorName
names::read_ordinary_name-returns-in-LiteralOperatorName t c = grind arith

pub names::read_ordinary_name-returns-in-OperatorName : goal.names::read_ordinary_name-returns-in-OperatorName
names::read_ordinary_name-returns-in-OperatorName t c = grind arith

pub names::read_ordinary_name-returns-in-UnreadableName : goal.names::read_ordinary_name-returns-in-UnreadableName
names::read_ordinary_name-returns-in-UnreadableName t c = grind arith

pub names::read_ordinary_segment-returns-in-Err-read_ordinary_name : goal.names::read_ordinary_segment-returns-in-Err-read_ordinary_name
names::read_ordinary_segment-returns-in-Err-read_ordinary_name t c = grind arith

pub names::read_ordinary_segment-returns-in-Err-close_found : goal.names::read_ordinary_segment-returns-in-Err-close_found
names::read_ordinary_segment-returns-in-Err-close_found t c = grind arith

pub names::read_segments-returns-in-Err : goal.names::read_segments-returns-in-Err
names::read_segments-returns-in-Err t c = grind arith

pub names::read_segments-returns-in-Err-save_if : goal.names::read_segments-returns-in-Err-save_if
names::read_segments-returns-in-Err-save_if t c = grind arith

pub names::read_segments-returns-in-Err-save_if-2 : goal.names::read_segments-returns-in-Err-save_if-2
names::read_segments-returns-in-Err-save_if-2 t c = grind arith

pub names::read_unscoped_name-returns-in-Err : goal.names::read_unscoped_name-returns-in-Err
names::read_unscoped_name-returns-in-Err t c = grind arith

pub names::read_unscoped_name-returns-in-Err-read_substitution : goal.names::read_unscoped_name-returns-in-Err-read_substitution
names::read_unscoped_name-returns-in-Err-read_substitution t c = grind arith

pub names::read_unscoped_name-returns-in-NoneAttached : goal.names::read_unscoped_name-returns-in-NoneAttached
names::read_unscoped_name-returns-in-NoneAttached t c = grind arith

pub names::read_unscoped_name-returns-in-ArgsAttached : goal.names::read_unscoped_name-returns-in-ArgsAttached
names::read_unscoped_name-returns-in-ArgsAttached t c = grind arith

pub names::read_unscoped_name-returns-in-Err-read : goal.names::read_unscoped_name-returns-in-Err-read
names::read_unscoped_name-returns-in-Err-read t c = grind arith

pub names::read_unscoped_name-returns-in-Err-save_found : goal.names::read_unscoped_name-returns-in-Err-save_found
names::read_unscoped_name-returns-in-Err-save_found t c = grind arith

pub names::read_unscoped_name-returns-in-NoneAttached-attached_case : goal.names::read_unscoped_name-returns-in-NoneAttached-attached_case
names::read_unscoped_name-returns-in-NoneAttached-attached_case t c = grind arith

pub names::read_unscoped_name-returns-in-Ok-save_found : goal.names::read_unscoped_name-returns-in-Ok-save_found
names::read_unscoped_name-returns-in-Ok-save_found t c = grind arith

pub specials::read_construction-returns-in-Err : goal.specials::read_construction-returns-in-Err
specials::read_construction-returns-in-Err t c = grind arith

pub specials::read_construction-returns-in_default : goal.specials::read_construction-returns-in_default
specials::read_construction-returns-in_default t c = grind arith

pub specials::read_construction-returns-in-Err-read_framed : goal.specials::read_construction-returns-in-Err-read_framed
specials::read_construction-returns-in-Err-read_framed t c = grind arith

pub specials::read_temporary-returns-in-Err : goal.specials::read_temporary-returns-in-Err
specials::read_temporary-returns-in-Err t c = grind arith

pub specials::read_temporary-returns : goal.specials::read_temporary-returns
specials::read_temporary-returns t c = grind arith

pub specials::read_thunk-returns-in-Err-close_found : goal.specials::read_thunk-returns-in-Err-close_found
specials::read_thunk-returns-in-Err-close_found t c = grind arith

pub specials::read_thunk-returns-in-Err-join_words : goal.specials::read_thunk-returns-in-Err-join_words
specials::read_thunk-returns-in-Err-join_words t c = grind arith

pub types::read_array_type-returns-in_default : goal.types::read_array_type-returns-in_default
types::read_array_type-returns-in_default t c = grind arith

pub types::read_array_type-returns-in-Err : goal.types::read_array_type-returns-in-Err
types::read_array_type-returns-in-Err t c = grind arith

pub types::read_array_type-returns-in_default-2 : goal.types::read_array_type-returns-in_default-2
types::read_array_type-returns-in_default-2 t c = grind arith

pub types::read_array_type-returns : goal.types::read_array_type-returns
types::read_array_type-returns t c = grind arith

pub types::read_cv-returns-in-Err : goal.types::read_cv-returns-in-Err
types::read_cv-returns-in-Err t c = grind arith

pub types::read_cv-returns-in-CvFunction : goal.types::read_cv-returns-in-CvFunction
types::read_cv-returns-in-CvFunction t c = grind arith

pub types::read_cv-returns-in-Ok-wrap_cv : goal.types::read_cv-returns-in-Ok-wrap_cv
types::read_cv-returns-in-Ok-wrap_cv t c = grind arith

pub types::read_elaborated-returns-in-Err : goal.types::read_elaborated-returns-in-Err
types::read_elaborated-returns-in-Err t c = grind arith

pub types::read_expansion-returns-in-Err : goal.types::read_expansion-returns-in-Err
types::read_expansion-returns-in-Err t c = grind arith

pub types::read_expansion-returns : goal.types::read_expansion-returns
types::read_expansion-returns t c = grind arith

pub types::read_function_type-returns-in-Err : goal.types::read_function_type-returns-in-Err
types::read_function_type-returns-in-Err t c = grind arith

pub types::read_function_type-returns-in_default : goal.types::read_function_type-returns-in_default
types::read_function_type-returns-in_default t c = grind arith

pub types::read_function_type-returns-in-Err-read_params : goal.types::read_function_type-returns-in-Err-read_params
types::read_function_type-returns-in-Err-read_params t c = grind arith

pub types::read_function_type-returns-in-ExternFunction : goal.types::read_function_type-returns-in-ExternFunction
types::read_function_type-returns-in-ExternFunction t c = grind arith

pub types::read_params-returns-in-NoParams : goal.types::read_params-returns-in-NoParams
types::read_params-returns-in-NoParams t c = grind arith

pub types::read_pointer-returns-in-Err : goal.types::read_pointer-returns-in-Err
types::read_pointer-returns-in-Err t c = grind arith

pub types::read_pointer_to_member_type-returns-in-Err : goal.types::read_pointer_to_member_type-returns-in-Err
types::read_pointer_to_member_type-returns-in-Err t c = grind arith

pub types::read_pointer_to_member_type-returns-in-Err-read_framed : goal.types::read_pointer_to_member_type-returns-in-Err-read_framed
types::read_pointer_to_member_type-returns-in-Err-read_framed t c = grind arith

pub types::read_pointer_to_member_type-returns : goal.types::read_pointer_to_member_type-returns
types::read_pointer_to_member_type-returns t c = grind arith

pub types::read_type-returns-in-Err-save_found : goal.types::read_type-returns-in-Err-save_found
types::read_type-returns-in-Err-save_found t c = grind arith

pub types::read_type_attached-returns-in-Err : goal.types::read_type_attached-returns-in-Err
types::read_type_attached-returns-in-Err t c = grind arith

pub types::read_type_attached-returns-in-NoneAttached : goal.types::read_type_attached-returns-in-NoneAttached
types::read_type_attached-returns-in-NoneAttached t c = grind arith

pub types::read_type_attached-returns-in-Ok : goal.types::read_type_attached-returns-in-Ok
types::read_type_attached-returns-in-Ok t c = grind arith
