use Rattle.std.proofs.Common.{ℕ, ◌≡◌, ◌+◌, ◌*◌, ◌<◌, ◌≤◌, length, max, Bool, true}
use Rattle.demangle_text.specs.State.{IsLiving, Lives, IsRun, shape, saved, scopes}
use Rattle.demangle_text.specs.Calls.{IsInner, text_after}
use Rattle.demangle_edit.specs.Built.{arguments_opened}
use Rattle.demangle_text.specs.Calls.{IsLast}
use Rattle.itanium_reader.specs.Parser as spec
use Rattle.itanium_reader.specs.Outcome.{state, LoopSoFar, CostBounds, Growth}
use Rattle.itanium_syntax.specs.Types.{params_case}
use Rattle.itanium_grammar.specs.Answer.{max_text}
use Rattle.itanium_reader.proofs.Loops.{ListSoFar}
use Rattle.itanium_reader.proofs.Texts.{front_len}
use Rattle.itanium_reader.proofs.Turns.{AttachedSoFar, pack_end}
use Rattle.itanium_reader.specs.declared.reader.Reader.{Reader}
use Rattle.itanium_productions.proofs.+reader.Given as goal

-- The layers of the readers. A reader calls readers of lower layers with the same depth, and a counted production calls
-- all others with a lesser one.
-- a counted production
abbrev production : ℕ → ℕ
production d = 16 * d

-- one step around such a production
abbrev stepped : ℕ → ℕ
stepped d = 16 * d + 1

-- a list, or what is read in a frame
abbrev list : ℕ → ℕ
list d = 16 * d + 2

-- what a list is put after, or what reads something in a frame and does more
abbrev listed : ℕ → ℕ
listed d = 16 * d + 3

-- what a list or a name is ended by
abbrev ended : ℕ → ℕ
ended d = 16 * d + 4

-- an <unqualified-name> that asks for no parent
abbrev ordinary_name : ℕ → ℕ
ordinary_name d = 16 * d + 5

-- one with its tags, or in its parent
abbrev unqualified : ℕ → ℕ
unqualified d = 16 * d + 6

-- a segment of a <nested-name>, or what holds an encoding
abbrev segment : ℕ → ℕ
segment d = 16 * d + 7

-- a <template-arg>, or an <unscoped-name>
abbrev argument : ℕ → ℕ
argument d = 16 * d + 8

-- the segments of a <nested-name>
abbrev prefix : ℕ → ℕ
prefix d = 16 * d + 9

-- what is after its N
abbrev nested : ℕ → ℕ
nested d = 16 * d + 10

abbrev pub decreases-names::read_name : goal.decreases-names::read_name
decreases-names::read_name l = production l.depth

abbrev pub decreases-encodings::read_return : goal.decreases-encodings::read_return
decreases-encodings::read_return l = stepped l.depth

abbrev pub decreases-encodings::end_encoding : goal.decreases-encodings::end_encoding
decreases-encodings::end_encoding l = ended l.depth

abbrev pub decreases-encodings::read_encoding : goal.decreases-encodings::read_encoding
decreases-encodings::read_encoding l = unqualified l.depth

abbrev pub decreases-encodings::read_entity : goal.decreases-encodings::read_entity
decreases-encodings::read_entity l = list l.depth

abbrev pub decreases-encodings::read_local_name : goal.decreases-encodings::read_local_name
decreases-encodings::read_local_name l = segment l.depth

abbrev pub decreases-types::read_type : goal.decreases-types::read_type
decreases-types::read_type l = production l.depth

abbrev pub decreases-args::read_template_arg : goal.decreases-args::read_template_arg
decreases-args::read_template_arg l = argument l.depth

abbrev pub decreases-args::read_template_args : goal.decreases-args::read_template_args
decreases-args::read_template_args l = list l.depth

abbrev pub decreases-types::read_type_attached : goal.decreases-types::read_type_attached
decreases-types::read_type_attached l = listed l.depth

abbrev pub decreases-names::read_unscoped_name : goal.decreases-names::read_unscoped_name
decreases-names::read_unscoped_name l = argument l.depth

abbrev pub decreases-names::read_segments : goal.decreases-names::read_segments
decreases-names::read_segments l = prefix l.depth

-- What was found, and the state once it is saved, where it isn't saved yet.
abbrev saved_so_far : Bool → Reader → spec.ParserState
saved_so_far candidate r = spec.save_if candidate (shape r.buffer.value r.found) (state r)

abbrev pub invariant-names::read_segments-loop-reader : goal.invariant-names::read_segments-loop-reader
invariant-names::read_segments-loop-reader l = record {
  reads : LoopSoFar (spec.parse_all_segments (spec.unqualified_name l.depth l.context)
      (spec.parse_args l.depth l.context true) l.context (state l.fn.reader))
      (spec.segment_turn (spec.unqualified_name l.depth l.context) (spec.parse_args l.depth l.context true))
      (l.candidate, shape l.reader.buffer.value l.reader.found) (spec.past_initializer (saved_so_far l.candidate l.reader));
  living : IsLiving l.reader.buffer.value l.reader.found;
  last : IsLast l.reader.buffer.value l.reader.found;
  run : IsRun l.fn.reader.buffer.value l.reader.buffer.value;
  cost : CostBounds 1 1 (state l.fn.reader) (state l.reader);
  list : length (saved_so_far l.candidate l.reader).saved + length l.reader.rest.now ≤ length (saved l.fn.reader.buffer.value) + length l.fn.reader.rest.now;
  most : (saved_so_far l.candidate l.reader).most_saved ≤ max (state l.fn.reader).most_saved (length (saved l.fn.reader.buffer.value) + length l.fn.reader.rest.now);
}

abbrev pub decreases-names::read_segments-loop-reader : goal.decreases-names::read_segments-loop-reader
decreases-names::read_segments-loop-reader l = length l.reader.rest.now

abbrev pub decreases-names::read_nested_name : goal.decreases-names::read_nested_name
decreases-names::read_nested_name l = nested l.depth

abbrev pub invariant-args::read_template_args-loop-reader : goal.invariant-args::read_template_args-loop-reader
invariant-args::read_template_args-loop-reader l = record {
  below : l.depth < l.fn.depth;
  reads : AttachedSoFar (spec.attached_by (spec.parse_args l.fn.depth l.context l.of_name) (shape l.fn.reader.buffer.value l.fn.reader.found) (state l.fn.reader))
      (spec.end_argument l.opens l.scopes) (spec.parse_argument l.depth l.context) (shape l.fn.reader.buffer.value l.fn.reader.found) l.first
      (text_after l.reader.buffer.value l.list) (state l.reader);
  front : l.front ≡ front_len (shape l.fn.reader.buffer.value l.fn.reader.found);
  widest : l.widest ≡ l.front + max_text;
  begun : Lives l.reader.buffer.value l.list (arguments_opened (shape l.fn.reader.buffer.value l.fn.reader.found));
  inner : IsInner l.reader.buffer.value l.list;
  run : IsRun l.fn.reader.buffer.value l.reader.buffer.value;
  scopes_stand : length (scopes l.fn.reader.buffer.value) ≤ l.scopes;
  scopes_kept : l.scopes ≤ length (scopes l.reader.buffer.value);
  opened : l.opens ≡ true → 0 < l.scopes;
  taken : length l.reader.rest.now < length l.fn.reader.rest.now;
  counted : l.reader.entered + 2 * length l.reader.rest.now + 1 ≤ l.fn.reader.entered + 2 * length l.fn.reader.rest.now;
  list : length (saved l.reader.buffer.value) + length l.reader.rest.now + 1 ≤ length (saved l.fn.reader.buffer.value) + length l.fn.reader.rest.now;
  most : (state l.reader).most_saved + 1 ≤ max ((state l.fn.reader).most_saved + 1) (length (saved l.fn.reader.buffer.value) + length l.fn.reader.rest.now);
}

abbrev pub decreases-args::read_template_args-loop-reader : goal.decreases-args::read_template_args-loop-reader
decreases-args::read_template_args-loop-reader l = length l.reader.rest.now

abbrev pub decreases-types::read_function_type : goal.decreases-types::read_function_type
decreases-types::read_function_type l = ended l.depth

abbrev pub decreases-types::read_cv : goal.decreases-types::read_cv
decreases-types::read_cv l = ordinary_name l.depth

abbrev pub decreases-types::read_pointer_to_member_type : goal.decreases-types::read_pointer_to_member_type
decreases-types::read_pointer_to_member_type l = listed l.depth

abbrev pub decreases-types::read_array_type : goal.decreases-types::read_array_type
decreases-types::read_array_type l = stepped l.depth

abbrev pub decreases-types::read_pointer : goal.decreases-types::read_pointer
decreases-types::read_pointer l = stepped l.depth

abbrev pub decreases-types::read_elaborated : goal.decreases-types::read_elaborated
decreases-types::read_elaborated l = ended l.depth

abbrev pub decreases-types::read_params : goal.decreases-types::read_params
decreases-types::read_params l = listed l.depth

abbrev pub decreases-names::read_closure_type_name : goal.decreases-names::read_closure_type_name
decreases-names::read_closure_type_name l = ended l.depth

abbrev pub decreases-names::read_ordinary_name : goal.decreases-names::read_ordinary_name
decreases-names::read_ordinary_name l = ordinary_name l.depth

abbrev pub decreases-names::read_unqualified_name : goal.decreases-names::read_unqualified_name
decreases-names::read_unqualified_name l = unqualified l.depth

abbrev pub decreases-names::read_first_segment : goal.decreases-names::read_first_segment
decreases-names::read_first_segment l = segment l.depth

abbrev pub decreases-names::read_segment : goal.decreases-names::read_segment
decreases-names::read_segment l = segment l.depth

abbrev pub decreases-names::read_ordinary_segment : goal.decreases-names::read_ordinary_segment
decreases-names::read_ordinary_segment l = unqualified l.depth

abbrev pub decreases-types::read_expansion : goal.decreases-types::read_expansion
decreases-types::read_expansion l = stepped l.depth

abbrev pub decreases-args::read_argument_pack : goal.decreases-args::read_argument_pack
decreases-args::read_argument_pack l = production l.depth

abbrev pub invariant-args::read_argument_pack-loop-reader : goal.invariant-args::read_argument_pack-loop-reader
invariant-args::read_argument_pack-loop-reader l = record {
  below : l.depth < l.fn.depth;
  reads : ListSoFar (spec.parse_pack l.fn.depth l.fn.context (state l.fn.reader))
      (spec.list_turn spec.add_nowhere (spec.parse_argument l.depth l.inside))
      pack_end (l.first, shape l.reader.buffer.value l.list) (state l.reader);
  living : IsLiving l.reader.buffer.value l.list;
  run : IsRun l.fn.reader.buffer.value l.reader.buffer.value;
  cost : CostBounds 1 1 (state l.fn.reader) (state l.reader);
  growth : Growth 1 (state l.fn.reader) (state l.reader);
}

abbrev pub decreases-args::read_argument_pack-loop-reader : goal.decreases-args::read_argument_pack-loop-reader
decreases-args::read_argument_pack-loop-reader l = length l.reader.rest.now

abbrev pub invariant-types::read_params-loop-list : goal.invariant-types::read_params-loop-list
invariant-types::read_params-loop-list l = record {
  reads : LoopSoFar (spec.params_as (params_case l.fn.reader.rest.now) l.in_function_type (spec.parse_type l.depth l.context)
      (shape l.fn.reader.buffer.value l.fn.list) (state l.fn.reader))
      (spec.typed_turn l.in_function_type (spec.parse_type l.depth l.context)) (l.first, shape l.reader.buffer.value l.list) (state l.reader);
  living : IsLiving l.reader.buffer.value l.list;
  run : IsRun l.fn.reader.buffer.value l.reader.buffer.value;
  cost : CostBounds 0 0 (state l.fn.reader) (state l.reader);
  growth : Growth 0 (state l.fn.reader) (state l.reader);
}

abbrev pub decreases-types::read_params-loop-list : goal.decreases-types::read_params-loop-list
decreases-types::read_params-loop-list l = length l.reader.rest.now

abbrev pub decreases-expressions::read_expression : goal.decreases-expressions::read_expression
decreases-expressions::read_expression l = production l.depth

abbrev pub decreases-expressions::read_operand : goal.decreases-expressions::read_operand
decreases-expressions::read_operand l = stepped l.depth

abbrev pub decreases-expressions::read_address : goal.decreases-expressions::read_address
decreases-expressions::read_address l = stepped l.depth

abbrev pub decreases-expressions::read_post : goal.decreases-expressions::read_post
decreases-expressions::read_post l = listed l.depth

abbrev pub decreases-expressions::read_binary : goal.decreases-expressions::read_binary
decreases-expressions::read_binary l = listed l.depth

abbrev pub decreases-expressions::read_greater : goal.decreases-expressions::read_greater
decreases-expressions::read_greater l = listed l.depth

abbrev pub decreases-expressions::read_conditional : goal.decreases-expressions::read_conditional
decreases-expressions::read_conditional l = ended l.depth

abbrev pub decreases-expressions::read_expr_primary : goal.decreases-expressions::read_expr_primary
decreases-expressions::read_expr_primary l = segment l.depth

abbrev pub decreases-specials::read_temporary : goal.decreases-specials::read_temporary
decreases-specials::read_temporary l = ended l.depth

abbrev pub decreases-specials::read_construction : goal.decreases-specials::read_construction
decreases-specials::read_construction l = listed l.depth

abbrev pub decreases-specials::read_thunk : goal.decreases-specials::read_thunk
decreases-specials::read_thunk l = production l.depth

abbrev pub decreases-specials::read_special_name : goal.decreases-specials::read_special_name
decreases-specials::read_special_name l = ordinary_name l.depth

abbrev pub decreases-frames::read_framed : goal.decreases-frames::read_framed
decreases-frames::read_framed l = list l.depth

abbrev pub decreases-frames::read_worded : goal.decreases-frames::read_worded
decreases-frames::read_worded l = listed l.depth

abbrev pub decreases-expressions::read_pre : goal.decreases-expressions::read_pre
decreases-expressions::read_pre l = ended l.depth

abbrev pub decreases-expressions::read_unary : goal.decreases-expressions::read_unary
decreases-expressions::read_unary l = ended l.depth
