-- What trees print, by computation.
use Rattle.std.proofs.Common.{refl}
use Rattle.cxx_tree.specs.Measure.{measure, count}
use Rattle.cxx_printer.specs.Words.{ending, short_std_text, long_std_text, std_text, cv_text, ref_text, mark, opened, member_opened, closed}
use Rattle.cxx_printer.specs.Heads.{prec_of, rank, is_simple, has_args, is_designator, is_scoped, is_objc_object, protocol_of, count_item, count_items, count_of}
use Rattle.cxx_printer.specs.Print.{print, list_from, last_ends, sequence, separated, repeated}
use Rattle.cxx_printer.specs.Symbol.{mode_text, block_text, is_digit_first, is_piece, between, pieces_behind, pieces_text, in_parens, suffix_text, symbol_in}
use Rattle.cxx_printer.specs.Parts.{kind_of, has_qualifiers, is_some_cv, is_some_ref, named_of, split, colons, joined, parameters_text, return_type_text}
use Rattle.cxx_printer.specs.Examples.{WorkedNames, WorkedTypes, WorkedExpressions, WorkedParts}

pub worked_names : WorkedNames
unfolding print list_from last_ends sequence separated repeated ending short_std_text long_std_text std_text cv_text
    ref_text mark opened member_opened closed prec_of rank is_simple has_args is_designator is_scoped is_objc_object
    protocol_of count_item count_items count_of mode_text block_text is_digit_first is_piece between pieces_behind
    pieces_text in_parens suffix_text symbol_in measure count
worked_names = record {
  data_alone = refl;
  no_parameters = refl;
  nested_name = refl;
  member_qualifiers = refl;
  constructor = refl;
  destructor = refl;
  expanded_scope = refl;
  operator_name = refl;
  conversion = refl;
  conversion_of_arguments = refl;
  conversion_with_arguments = refl;
  conversion_to_reference = refl;
  literal_operator = refl;
  local_name = refl;
  string_of_a_function = refl;
  default_argument = (refl, refl);
  second_lambda = (refl, refl);
  unnamed_type = (refl, refl);
  unnamed_namespace = refl;
  tag = refl;
  constructor_of_tagged = refl;
  structured_binding = refl;
  vtable = refl;
  thunk = refl;
  virtual_thunk = refl;
  covariant_thunk = refl;
  construction_vtable = refl;
  guard_variable = refl;
  reference_temporary = refl;
  parameter_object = refl;
  transaction_clone = refl;
  block = refl;
  suffix = refl;
  explicit_object = refl;
  friend = refl;
  partition = refl;
  module_initializer = refl;
  declared_parameter = refl;
  less_operator = (refl, refl);
  abbreviation = (refl, refl);
  short_abbreviation = refl;
  thread_local_wrapper = (refl, refl);
  suffix_in_pieces = (refl, refl);
}

pub worked_types : WorkedTypes
unfolding print list_from last_ends sequence separated repeated ending short_std_text long_std_text std_text cv_text
    ref_text mark opened member_opened closed prec_of rank is_simple has_args is_designator is_scoped is_objc_object
    protocol_of count_item count_items count_of mode_text block_text is_digit_first is_piece between pieces_behind
    pieces_text in_parens suffix_text symbol_in measure count
worked_types = record {
  parameters = refl;
  argument = refl;
  empty_pack = refl;
  lvalue_wins = refl;
  rvalue_of_rvalue = refl;
  pointer_to_array = refl;
  array_of_arrays = refl;
  member_array = (refl, refl);
  pointer_to_function = refl;
  pointer_to_member_function = refl;
  function_that_returns_a_pointer = (refl, refl);
  plain_function = refl;
  returned_function = refl;
  returned_array = refl;
  exception_specification = refl;
  vector_type = refl;
  array_of_vectors = (refl, refl);
  complex = refl;
  sized_integers = refl;
  builtin_type = refl;
  vendor_qualifier = refl;
  objective_c = refl;
  vendor_type = refl;
  constrained_parameter = refl;
  constraint = refl;
  constraint_of_an_outer_level = refl;
  closing_brackets = (refl, refl);
  closing_brackets_with_a_pack = (refl, refl);
  null_pointer_type = (refl, refl);
}

pub worked_expressions : WorkedExpressions
unfolding print list_from last_ends sequence separated repeated ending short_std_text long_std_text std_text cv_text
    ref_text mark opened member_opened closed prec_of rank is_simple has_args is_designator is_scoped is_objc_object
    protocol_of count_item count_items count_of mode_text block_text is_digit_first is_piece between pieces_behind
    pieces_text in_parens suffix_text symbol_in measure count
worked_expressions = record {
  sum = (refl, refl);
  call_of_a_name = refl;
  member_access = refl;
  new = refl;
  double_literal = refl;
  float_literal = (refl, refl);
  extended_literal = refl;
  enumerator = refl;
  address = (refl, refl);
  address_of_a_member = (refl, refl);
  greater = (refl, refl);
  cast = (refl, refl);
}

pub worked_parts : WorkedParts
unfolding print list_from last_ends sequence separated repeated ending short_std_text long_std_text std_text cv_text
    ref_text mark opened member_opened closed prec_of rank is_simple has_args is_designator is_scoped is_objc_object
    protocol_of count_item count_items count_of measure count
    kind_of has_qualifiers is_some_cv is_some_ref named_of split colons joined parameters_text return_type_text
worked_parts = record {
  member_function = (refl, refl);
  reference_qualifier = (refl, refl);
  without_qualifiers = (refl, refl);
  member = (refl, refl);
  vtable = (refl, refl);
  of_function = record { base_name = refl; scopes = refl; parameters = refl; return_type = refl };
  of_return_type = record { base_name = refl; scopes = refl; parameters = refl; return_type = refl };
  of_data = record { base_name = refl; scopes = refl; parameters = refl; return_type = refl };
  of_vtable = record { base_name = refl; scopes = refl; parameters = refl; return_type = refl };
}
