-- Answers by computation.
use Rattle.std.proofs.Common.{◌≡◌, ℕ, List, true, Option, Some, None, refl, sym, codes, length, ◌≤◌, arith}
use Rattle.std.specs.Prelude.{option_map}
use Rattle.std.specs.Str.{is_utf8, chars}
use Rattle.std.proofs.lemmas.Str.{IsUtf8-from_is_utf8}
use Rattle.abi_scalars.specs.Scalars.{front_digits, weighted, number, source_name, index_of}
use Rattle.abi_scalars.specs.Indices.{sequence_id, level_of}
use Rattle.abi_scalars.specs.Texts.{digits, number_text, optional_number_text, identifier}
use Rattle.cxx_tree.specs.Measure.{measure, count}
use Rattle.cxx_tree.specs.Bind.{bind, as_pack}
use Rattle.cxx_grammar.specs.Words.{builtin_of, d_builtin_of, integer_of, std_of, operator_of}
use Rattle.cxx_grammar.specs.Parses.{past_word_if, repeat_at_most}
use Rattle.cxx_grammar.specs.Bases.{base_name, args_of, is_with_args, is_module, is_param, is_param_class, expand, declared_name}
use Rattle.cxx_grammar.specs.Binds.{bind_args, bind_declared, parse_closed, bind_encoding, names_of, bind_constraint}
use Rattle.cxx_grammar.specs.Declarations.{invent_type, invent_value, invent_template, parse_declarations, declaration_as}
use Rattle.cxx_grammar.specs.Requirements.{parse_constrained_arg, requirement_as}
use Rattle.cxx_grammar.specs.Locals.{past_digits, past_discriminator, local_as}
use Rattle.cxx_grammar.specs.Ordinals.{more_of, without_zeros, ordinal_digits}
use Rattle.cxx_grammar.specs.Unnamed.{parse_closure, parse_lambda}
use Rattle.cxx_grammar.specs.Leaves.{parse_call_offset, parse_temporary_id, parse_substitution, parse_template_param, parse_cv, parse_ref, parse_builtin, parse_bool, parse_null, parse_integer, parse_abi_tags, parse_float_type, parse_function_param, parse_float, parse_param_level}
use Rattle.cxx_grammar.specs.Modules.{parse_subnames, parse_module, parse_module_substitution}
use Rattle.cxx_grammar.specs.Floats.{are_hex, hex_three, significant_len, doubled_text, single_size, single_fraction, float_text, float_digits}
use Rattle.cxx_grammar.specs.Args.{literal_as, arg_as}
use Rattle.cxx_grammar.specs.Names.{base_as, parse_class_of, part_as, parse_front, parse_unqualified_name, parse_named_args, parse_in_place, parse_info, parse_component, first_as, parse_next, parse_components, name_as}
use Rattle.cxx_grammar.specs.Types.{exception_as, parse_function_mark, parse_dimension, type_as}
use Rattle.cxx_grammar.specs.Rows.{parse_list, parse_params, t_special_of, g_special_of, type_row_of, parse_size, tree_as, item_as, parse_items, make_none, make_one, make_two, make_three, make_few, make_as, parse_row, ends}
use Rattle.cxx_grammar.specs.Operators.{fold_row_of, expression_row_of, braced_row_of}
use Rattle.cxx_grammar.specs.Unresolved.{unresolved_type_as, parse_args_if_any, operator_as, skip_on, base_name_as, parse_scope_list, unresolved_as, global_as}
use Rattle.cxx_grammar.specs.Expressions.{parse_to_underscore, parse_offset_end, parse_vendor_operands, expression_as}
use Rattle.cxx_grammar.specs.Encodings.{parse_enable_if, parse_signature, encoding_as}
use Rattle.cxx_grammar.specs.Symbol.{Reading, productions, parse_symbol, symbol_as, parse_block_mark}
use Rattle.cxx_printer.specs.Words.{ending, short_std_text, long_std_text, std_text, cv_text, ref_text, mark, opened, member_opened, closed}
use Rattle.cxx_printer.specs.Heads.{prec_of, rank, is_simple, has_args, is_designator, is_scoped, is_objc_object, protocol_of, count_item, count_items, count_of}
use Rattle.cxx_printer.specs.Print.{print, list_from, last_ends, sequence, separated, repeated}
use Rattle.cxx_printer.specs.Symbol.{mode_text, block_text, is_digit_first, is_piece, between, pieces_behind, pieces_text, in_parens, suffix_text, symbol_in}
use Rattle.cxx_demangle.specs.declared.demangler.Printing.{Printing}
use Rattle.cxx_demangle.specs.Answer.{text_of, IsAnswer}
use Rattle.cxx_demangle.specs.Examples.{WorkedSymbols, whole}
use Rattle.cxx_demangle.proofs.Whole.{has_answer, no_reading}

some_by : (printing : Printing) (symbol answer : List ℕ) → option_map (text_of printing) (parse_symbol symbol) ≡ Some answer
    → length answer ≤ 1048576 → is_utf8 answer ≡ true → IsAnswer printing symbol (Some answer)
some_by printing symbol answer is short utf8 = go (parse_symbol symbol) refl is
  where
    go : (o : Option Reading) → parse_symbol symbol ≡ o → option_map (text_of printing) o ≡ Some answer → IsAnswer printing symbol (Some answer)
    go None e f = absurd cc
    go (Some t) e f = has_answer printing (parse_symbol symbol) t answer e (let g = sym f in cc) (record { short = short; utf8 = IsUtf8-from_is_utf8 answer utf8 })

pub worked_symbols : WorkedSymbols
unfolding productions parse_subnames parse_module parse_module_substitution parse_front parse_unqualified_name parse_named_args parse_in_place parse_component parse_next parse_components
    parse_info parse_class_of part_as base_as first_as name_as parse_list literal_as arg_as type_as exception_as
    parse_function_mark parse_dimension parse_size parse_abi_tags parse_float_type parse_params bind_declared past_digits
    past_discriminator local_as more_of without_zeros ordinal_digits parse_closure is_param_class symbol_as parse_block_mark
    parse_enable_if parse_signature encoding_as t_special_of g_special_of type_row_of tree_as item_as parse_items
    make_none make_one make_two make_three make_few make_as parse_row ends fold_row_of expression_row_of braced_row_of
    unresolved_type_as parse_args_if_any operator_as skip_on base_name_as parse_scope_list unresolved_as global_as
    parse_to_underscore parse_offset_end parse_vendor_operands expression_as parse_lambda parse_function_param parse_float
    are_hex hex_three significant_len doubled_text single_size single_fraction float_text float_digits past_word_if repeat_at_most parse_call_offset parse_temporary_id parse_substitution
    parse_template_param parse_cv
    parse_ref parse_builtin parse_bool parse_null parse_integer builtin_of d_builtin_of integer_of std_of operator_of
    base_name args_of is_with_args is_module is_param expand bind_args parse_closed bind_encoding bind as_pack measure count
    declared_name names_of bind_constraint invent_type invent_value invent_template parse_declarations declaration_as
    parse_param_level parse_constrained_arg requirement_as sequence_id level_of
    front_digits weighted number source_name index_of digits number_text optional_number_text identifier
    print list_from last_ends sequence separated repeated ending short_std_text long_std_text std_text cv_text
    ref_text mark opened member_opened closed prec_of rank is_simple has_args is_designator is_scoped is_objc_object
    protocol_of count_item count_items count_of mode_text block_text is_digit_first is_piece between pieces_behind
    pieces_text in_parens suffix_text symbol_in is_utf8 chars lib.Utf8.encode
worked_symbols = record {
  function = some_by _ (codes "_Z1fv") (codes "f()") refl (omega arith) refl;
  member = some_by _ (codes "_ZNK1A1fEv") (codes "A::f() const") refl (omega arith) refl;
  substitution = some_by _ (codes "_Z1f1APS_") (codes "f(A, A*)") refl (omega arith) refl;
  parameter = some_by _ (codes "_Z1fIiEvT_") (codes "void f<int>(int)") refl (omega arith) refl;
  signature = some_by _ (codes "_Z1fIiEvT_") (codes "f<int>(int)") refl (omega arith) refl;
  vendor = some_by _ (codes "_Zv13negi") (codes "operator neg(int)") refl (omega arith) refl;
  pack = some_by _ (codes "_Z1fIJicEEvDpT_") (codes "void f<int, char>(int, char)") refl (omega arith) refl;
  no_argument = no_reading whole (parse_symbol (codes "_Z1fT_")) refl;
  rest = no_reading whole (parse_symbol (codes "_Z1fv,")) refl;
  suffix = some_by _ (codes "_Z1fv.part.0") (codes "f() (.part.0)") refl (omega arith) refl;
  block = some_by _ (codes "___Z1fv_block_invoke") (codes "invocation function for block in f()") refl (omega arith) refl;
  tag = some_by _ (codes "_Z1fB3tagv") (codes "f[abi:tag]()") refl (omega arith) refl;
  local = some_by _ (codes "_ZZ1fvE1x_0") (codes "f()::x") refl (omega arith) refl;
  closure = some_by _ (codes "_ZZ1fvENKUliE0_clEi") (codes "f()::'lambda0'(int)::operator()(int) const") refl (omega arith) refl;
  conversion = some_by _ (codes "_ZN1AcvPT_IiEEv") (codes "A::operator int*<int>()") refl (omega arith) refl;
  array = some_by _ (codes "_Z1fRA2_A3_i") (codes "f(int (&) [2][3])") refl (omega arith) refl;
  function_type = some_by _ (codes "_Z1fPFPFivEcE") (codes "f(int (* (*)(char))())") refl (omega arith) refl;
  expression = some_by _ (codes "_Z1fIiEDTplfp_Li1EET_") (codes "decltype(fp + 1) f<int>(int)") refl (omega arith) refl;
  scope = some_by _ (codes "_Z1fI1BEDTsr1AIT_EE1xES1_") (codes "decltype(A<B>::x) f<B>(B)") refl (omega arith) refl;
  fold = some_by _ (codes "_Z1fIJicEEDTfrplfp_EDpT_") (codes "decltype(((fp...) + ...)) f<int, char>(int, char)") refl (omega arith) refl;
  partition = some_by _ (codes "_ZW1MWP1N1fv") (codes "f@M:N()") refl (omega arith) refl;
  friend = some_by _ (codes "_ZN1AF1fEv") (codes "A::friend f()") refl (omega arith) refl;
  object = some_by _ (codes "_ZNH1A1fES_") (codes "A::f(this A)") refl (omega arith) refl;
  condition = some_by _ (codes "_Z1fUa9enable_ifILi1EEv") (codes "f() [enable_if:1]") refl (omega arith) refl;
}
