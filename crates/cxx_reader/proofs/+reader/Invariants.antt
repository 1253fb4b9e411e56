use Rattle.std.proofs.Common.{◌+◌, ◌*◌, length, drop}
use Rattle.std.specs.List.{AllByRecursion}
use Rattle.cxx_grammar.specs.Parses.{item_more, is_e, repeat}
use Rattle.cxx_grammar.specs.Rows.{ends, tree_as, parse_items, list_after}
use Rattle.cxx_grammar.specs.Cases.{is_declarations_end}
use Rattle.cxx_grammar.specs.Declarations.{declarations_after, parse_numbered}
use Rattle.cxx_grammar.specs.Names.{parse_next}
use Rattle.cxx_grammar.specs.Unresolved.{parse_next_scope}
use Rattle.cxx_grammar.specs.Symbol.{productions}
use Rattle.cxx_tree.specs.Kept.{IsNode}
use Rattle.cxx_tree.specs.Stored.{stands}
use Rattle.cxx_reader.specs.Outcome.{state, trees_behind, IsNamed, named_at, Keeps, KeepsFront}
use Rattle.cxx_reader.proofs.Turns.{SoFar, ItemsSoFar}
use Rattle.cxx_reader.proofs.+reader.Given as goal

abbrev pub decreases-args::read_args : goal.decreases-args::read_args
decreases-args::read_args l = 32 * l.depth + 9

abbrev pub decreases-args::read_constrained_arg : goal.decreases-args::read_constrained_arg
decreases-args::read_constrained_arg l = 32 * l.depth + 2

abbrev pub decreases-args::read_args_constraint : goal.decreases-args::read_args_constraint
decreases-args::read_args_constraint l = 32 * l.depth + 1

abbrev pub decreases-args::read_arg : goal.decreases-args::read_arg
decreases-args::read_arg l = 32 * l.depth + 0

abbrev pub decreases-args::read_declared_arg : goal.decreases-args::read_declared_arg
decreases-args::read_declared_arg l = 32 * l.depth + 1

abbrev pub decreases-args::read_pack : goal.decreases-args::read_pack
decreases-args::read_pack l = 32 * l.depth + 9

abbrev pub decreases-args::read_literal : goal.decreases-args::read_literal
decreases-args::read_literal l = 32 * l.depth + 15

abbrev pub decreases-args::read_typed : goal.decreases-args::read_typed
decreases-args::read_typed l = 32 * l.depth + 1

abbrev pub decreases-args::read_string : goal.decreases-args::read_string
decreases-args::read_string l = 32 * l.depth + 1

abbrev pub decreases-args::read_lambda_literal : goal.decreases-args::read_lambda_literal
decreases-args::read_lambda_literal l = 32 * l.depth + 14

abbrev pub decreases-compounds::read_function_type : goal.decreases-compounds::read_function_type
decreases-compounds::read_function_type l = 32 * l.depth + 15

abbrev pub decreases-compounds::read_function_inside : goal.decreases-compounds::read_function_inside
decreases-compounds::read_function_inside l = 32 * l.depth + 9

abbrev pub decreases-compounds::read_exception : goal.decreases-compounds::read_exception
decreases-compounds::read_exception l = 32 * l.depth + 14

abbrev pub decreases-compounds::read_throw : goal.decreases-compounds::read_throw
decreases-compounds::read_throw l = 32 * l.depth + 9

abbrev pub decreases-compounds::read_function_params : goal.decreases-compounds::read_function_params
decreases-compounds::read_function_params l = 32 * l.depth + 8

abbrev pub decreases-compounds::read_array_type : goal.decreases-compounds::read_array_type
decreases-compounds::read_array_type l = 32 * l.depth + 4

abbrev pub decreases-compounds::read_vector_type : goal.decreases-compounds::read_vector_type
decreases-compounds::read_vector_type l = 32 * l.depth + 4

abbrev pub decreases-compounds::read_dimension : goal.decreases-compounds::read_dimension
decreases-compounds::read_dimension l = 32 * l.depth + 3

abbrev pub decreases-compounds::read_element : goal.decreases-compounds::read_element
decreases-compounds::read_element l = 32 * l.depth + 1

abbrev pub decreases-compounds::read_member_pointer : goal.decreases-compounds::read_member_pointer
decreases-compounds::read_member_pointer l = 32 * l.depth + 1

abbrev pub decreases-constraints::read_constraint : goal.decreases-constraints::read_constraint
decreases-constraints::read_constraint l = 32 * l.depth + 2

abbrev pub decreases-constraints::read_written : goal.decreases-constraints::read_written
decreases-constraints::read_written l = 32 * l.depth + 1

abbrev pub decreases-declarations::read_declarations : goal.decreases-declarations::read_declarations
decreases-declarations::read_declarations l = 32 * l.depth + 3

abbrev pub decreases-declarations::collect_declarations : goal.decreases-declarations::collect_declarations
decreases-declarations::collect_declarations l = 32 * l.depth + 2

abbrev pub decreases-declarations::collect_numbered : goal.decreases-declarations::collect_numbered
decreases-declarations::collect_numbered l = 32 * l.depth + 1

abbrev pub decreases-declarations::read_declaration : goal.decreases-declarations::read_declaration
decreases-declarations::read_declaration l = 32 * l.depth + 0

abbrev pub decreases-declarations::read_constrained_param : goal.decreases-declarations::read_constrained_param
decreases-declarations::read_constrained_param l = 32 * l.depth + 2

abbrev pub decreases-declarations::read_value_param : goal.decreases-declarations::read_value_param
decreases-declarations::read_value_param l = 32 * l.depth + 1

abbrev pub decreases-declarations::read_template : goal.decreases-declarations::read_template
decreases-declarations::read_template l = 32 * l.depth + 7

abbrev pub decreases-declarations::read_declared_at : goal.decreases-declarations::read_declared_at
decreases-declarations::read_declared_at l = 32 * l.depth + 6

abbrev pub decreases-declarations::read_declared : goal.decreases-declarations::read_declared
decreases-declarations::read_declared l = 32 * l.depth + 5

abbrev pub decreases-declarations::read_some_declared : goal.decreases-declarations::read_some_declared
decreases-declarations::read_some_declared l = 32 * l.depth + 4

abbrev pub decreases-declarations::read_pack_param : goal.decreases-declarations::read_pack_param
decreases-declarations::read_pack_param l = 32 * l.depth + 1

abbrev pub decreases-encodings::read_signature : goal.decreases-encodings::read_signature
decreases-encodings::read_signature l = 32 * l.depth + 11

abbrev pub decreases-encodings::read_function : goal.decreases-encodings::read_function
decreases-encodings::read_function l = 32 * l.depth + 10

abbrev pub decreases-encodings::read_enable_if : goal.decreases-encodings::read_enable_if
decreases-encodings::read_enable_if l = 32 * l.depth + 9

abbrev pub decreases-encodings::read_return_type : goal.decreases-encodings::read_return_type
decreases-encodings::read_return_type l = 32 * l.depth + 1

abbrev pub decreases-encodings::read_encoding : goal.decreases-encodings::read_encoding
decreases-encodings::read_encoding l = 32 * l.depth + 0

abbrev pub decreases-encodings::read_encoding_case : goal.decreases-encodings::read_encoding_case
decreases-encodings::read_encoding_case l = 32 * l.depth + 15

abbrev pub decreases-encodings::read_special : goal.decreases-encodings::read_special
decreases-encodings::read_special l = 32 * l.depth + 14

abbrev pub decreases-encodings::read_named : goal.decreases-encodings::read_named
decreases-encodings::read_named l = 32 * l.depth + 13

abbrev pub decreases-encodings::read_inside : goal.decreases-encodings::read_inside
decreases-encodings::read_inside l = 32 * l.depth + 12

abbrev pub decreases-expressions::read_expression : goal.decreases-expressions::read_expression
decreases-expressions::read_expression l = 32 * l.depth + 0

abbrev pub decreases-expressions::read_braced : goal.decreases-expressions::read_braced
decreases-expressions::read_braced l = 32 * l.depth + 0

abbrev pub decreases-expressions::read_other_expression : goal.decreases-expressions::read_other_expression
decreases-expressions::read_other_expression l = 32 * l.depth + 23

abbrev pub decreases-expressions::read_new : goal.decreases-expressions::read_new
decreases-expressions::read_new l = 32 * l.depth + 10

abbrev pub decreases-expressions::read_to_underscore : goal.decreases-expressions::read_to_underscore
decreases-expressions::read_to_underscore l = 32 * l.depth + 8

abbrev pub decreases-expressions::read_initializer : goal.decreases-expressions::read_initializer
decreases-expressions::read_initializer l = 32 * l.depth + 9

abbrev pub decreases-expressions::read_subobject : goal.decreases-expressions::read_subobject
decreases-expressions::read_subobject l = 32 * l.depth + 1

abbrev pub decreases-expressions::read_requires : goal.decreases-expressions::read_requires
decreases-expressions::read_requires l = 32 * l.depth + 10

abbrev pub decreases-expressions::read_requires_params : goal.decreases-expressions::read_requires_params
decreases-expressions::read_requires_params l = 32 * l.depth + 9

abbrev pub decreases-expressions::read_requirements : goal.decreases-expressions::read_requirements
decreases-expressions::read_requirements l = 32 * l.depth + 9

abbrev pub decreases-expressions::read_vendor_expression : goal.decreases-expressions::read_vendor_expression
decreases-expressions::read_vendor_expression l = 32 * l.depth + 10

abbrev pub decreases-expressions::read_vendor_operands : goal.decreases-expressions::read_vendor_operands
decreases-expressions::read_vendor_operands l = 32 * l.depth + 9

abbrev pub decreases-expressions::read_uuid_operand : goal.decreases-expressions::read_uuid_operand
decreases-expressions::read_uuid_operand l = 32 * l.depth + 2

abbrev pub decreases-expressions::read_uuid_tree : goal.decreases-expressions::read_uuid_tree
decreases-expressions::read_uuid_tree l = 32 * l.depth + 1

abbrev pub decreases-locals::read_local_name : goal.decreases-locals::read_local_name
decreases-locals::read_local_name l = 32 * l.depth + 4

abbrev pub decreases-locals::read_local : goal.decreases-locals::read_local
decreases-locals::read_local l = 32 * l.depth + 3

abbrev pub decreases-locals::read_entity : goal.decreases-locals::read_entity
decreases-locals::read_entity l = 32 * l.depth + 2

abbrev pub decreases-locals::read_default_arg : goal.decreases-locals::read_default_arg
decreases-locals::read_default_arg l = 32 * l.depth + 2

abbrev pub decreases-locals::read_entity_in : goal.decreases-locals::read_entity_in
decreases-locals::read_entity_in l = 32 * l.depth + 1

abbrev pub decreases-names::read_name : goal.decreases-names::read_name
decreases-names::read_name l = 32 * l.depth + 0

abbrev pub decreases-names::read_std_name : goal.decreases-names::read_std_name
decreases-names::read_std_name l = 32 * l.depth + 23

abbrev pub decreases-names::read_std_module : goal.decreases-names::read_std_module
decreases-names::read_std_module l = 32 * l.depth + 22

abbrev pub decreases-names::read_in_module : goal.decreases-names::read_in_module
decreases-names::read_in_module l = 32 * l.depth + 21

abbrev pub decreases-names::read_unscoped : goal.decreases-names::read_unscoped
decreases-names::read_unscoped l = 32 * l.depth + 21

abbrev pub decreases-names::read_substituted : goal.decreases-names::read_substituted
decreases-names::read_substituted l = 32 * l.depth + 22

abbrev pub decreases-names::read_in_place : goal.decreases-names::read_in_place
decreases-names::read_in_place l = 32 * l.depth + 20

abbrev pub decreases-names::read_named_args : goal.decreases-names::read_named_args
decreases-names::read_named_args l = 32 * l.depth + 10

abbrev pub decreases-names::read_unqualified_name : goal.decreases-names::read_unqualified_name
decreases-names::read_unqualified_name l = 32 * l.depth + 19

abbrev pub decreases-names::read_unowned_name : goal.decreases-names::read_unowned_name
decreases-names::read_unowned_name l = 32 * l.depth + 18

abbrev pub decreases-names::read_other_name : goal.decreases-names::read_other_name
decreases-names::read_other_name l = 32 * l.depth + 17

abbrev pub decreases-names::read_part : goal.decreases-names::read_part
decreases-names::read_part l = 32 * l.depth + 16

abbrev pub decreases-names::read_base_part : goal.decreases-names::read_base_part
decreases-names::read_base_part l = 32 * l.depth + 15

abbrev pub decreases-names::read_base : goal.decreases-names::read_base
decreases-names::read_base l = 32 * l.depth + 14

abbrev pub decreases-names::read_conversion : goal.decreases-names::read_conversion
decreases-names::read_conversion l = 32 * l.depth + 1

abbrev pub decreases-names::read_inherited_ctor : goal.decreases-names::read_inherited_ctor
decreases-names::read_inherited_ctor l = 32 * l.depth + 1

abbrev pub decreases-names::read_nested_name : goal.decreases-names::read_nested_name
decreases-names::read_nested_name l = 32 * l.depth + 24

abbrev pub decreases-names::read_first : goal.decreases-names::read_first
decreases-names::read_first l = 32 * l.depth + 23

abbrev pub decreases-names::read_first_std : goal.decreases-names::read_first_std
decreases-names::read_first_std l = 32 * l.depth + 22

abbrev pub decreases-names::read_first_decltype : goal.decreases-names::read_first_decltype
decreases-names::read_first_decltype l = 32 * l.depth + 14

abbrev pub decreases-names::read_first_substitution : goal.decreases-names::read_first_substitution
decreases-names::read_first_substitution l = 32 * l.depth + 22

abbrev pub decreases-names::read_components : goal.decreases-names::read_components
decreases-names::read_components l = 32 * l.depth + 23

abbrev pub decreases-names::read_next : goal.decreases-names::read_next
decreases-names::read_next l = 32 * l.depth + 22

abbrev pub decreases-names::read_component : goal.decreases-names::read_component
decreases-names::read_component l = 32 * l.depth + 21

abbrev pub decreases-names::read_module_component : goal.decreases-names::read_module_component
decreases-names::read_module_component l = 32 * l.depth + 20

abbrev pub decreases-names::read_more_args : goal.decreases-names::read_more_args
decreases-names::read_more_args l = 32 * l.depth + 11

abbrev pub decreases-requirements::read_requirement : goal.decreases-requirements::read_requirement
decreases-requirements::read_requirement l = 32 * l.depth + 4

abbrev pub decreases-requirements::read_simple_requirement : goal.decreases-requirements::read_simple_requirement
decreases-requirements::read_simple_requirement l = 32 * l.depth + 3

abbrev pub decreases-requirements::read_type_constraint : goal.decreases-requirements::read_type_constraint
decreases-requirements::read_type_constraint l = 32 * l.depth + 2

abbrev pub decreases-requirements::read_type_requirement : goal.decreases-requirements::read_type_requirement
decreases-requirements::read_type_requirement l = 32 * l.depth + 1

abbrev pub decreases-requirements::read_nested_requirement : goal.decreases-requirements::read_nested_requirement
decreases-requirements::read_nested_requirement l = 32 * l.depth + 1

abbrev pub decreases-rows::read_row : goal.decreases-rows::read_row
decreases-rows::read_row l = 32 * l.depth + 13

abbrev pub decreases-rows::read_row_items : goal.decreases-rows::read_row_items
decreases-rows::read_row_items l = 32 * l.depth + 12

abbrev pub decreases-rows::read_item : goal.decreases-rows::read_item
decreases-rows::read_item l = 32 * l.depth + 11

abbrev pub decreases-rows::read_rest : goal.decreases-rows::read_rest
decreases-rows::read_rest l = 32 * l.depth + 8

abbrev pub decreases-rows::read_operands : goal.decreases-rows::read_operands
decreases-rows::read_operands l = 32 * l.depth + 10

abbrev pub decreases-rows::read_operand_list : goal.decreases-rows::read_operand_list
decreases-rows::read_operand_list l = 32 * l.depth + 9

abbrev pub decreases-rows::read_items : goal.decreases-rows::read_items
decreases-rows::read_items l = 32 * l.depth + 7

abbrev pub decreases-rows::read_list : goal.decreases-rows::read_list
decreases-rows::read_list l = 32 * l.depth + 8

abbrev pub decreases-rows::read_params : goal.decreases-rows::read_params
decreases-rows::read_params l = 32 * l.depth + 9

abbrev pub decreases-rows::read_some_params : goal.decreases-rows::read_some_params
decreases-rows::read_some_params l = 32 * l.depth + 8

abbrev pub decreases-rows::collect : goal.decreases-rows::collect
decreases-rows::collect l = 32 * l.depth + 6

abbrev pub decreases-rows::read_tree : goal.decreases-rows::read_tree
decreases-rows::read_tree l = 32 * l.depth + 5

abbrev pub decreases-rows::read_param : goal.decreases-rows::read_param
decreases-rows::read_param l = 32 * l.depth + 1

abbrev pub decreases-rows::read_object : goal.decreases-rows::read_object
decreases-rows::read_object l = 32 * l.depth + 1

abbrev pub decreases-rows::read_size : goal.decreases-rows::read_size
decreases-rows::read_size l = 32 * l.depth + 2

abbrev pub decreases-rows::read_size_inside : goal.decreases-rows::read_size_inside
decreases-rows::read_size_inside l = 32 * l.depth + 1

abbrev pub decreases-rows::read_name_tree : goal.decreases-rows::read_name_tree
decreases-rows::read_name_tree l = 32 * l.depth + 1

abbrev pub decreases-types::read_type : goal.decreases-types::read_type
decreases-types::read_type l = 32 * l.depth + 0

abbrev pub decreases-types::read_saved_type : goal.decreases-types::read_saved_type
decreases-types::read_saved_type l = 32 * l.depth + 1

abbrev pub decreases-types::read_qualified_type : goal.decreases-types::read_qualified_type
decreases-types::read_qualified_type l = 32 * l.depth + 0

abbrev pub decreases-types::read_cv_qualified : goal.decreases-types::read_cv_qualified
decreases-types::read_cv_qualified l = 32 * l.depth + 1

abbrev pub decreases-types::read_expansion : goal.decreases-types::read_expansion
decreases-types::read_expansion l = 32 * l.depth + 1

abbrev pub decreases-types::read_pointer : goal.decreases-types::read_pointer
decreases-types::read_pointer l = 32 * l.depth + 1

abbrev pub decreases-types::read_reference : goal.decreases-types::read_reference
decreases-types::read_reference l = 32 * l.depth + 1

abbrev pub decreases-types::read_suffixed : goal.decreases-types::read_suffixed
decreases-types::read_suffixed l = 32 * l.depth + 1

abbrev pub decreases-types::read_type_row : goal.decreases-types::read_type_row
decreases-types::read_type_row l = 32 * l.depth + 14

abbrev pub decreases-types::read_saved_row : goal.decreases-types::read_saved_row
decreases-types::read_saved_row l = 32 * l.depth + 15

abbrev pub decreases-types::read_param_type : goal.decreases-types::read_param_type
decreases-types::read_param_type l = 32 * l.depth + 10

abbrev pub decreases-types::read_substituted_type : goal.decreases-types::read_substituted_type
decreases-types::read_substituted_type l = 32 * l.depth + 23

abbrev pub decreases-types::read_module_type : goal.decreases-types::read_module_type
decreases-types::read_module_type l = 32 * l.depth + 22

abbrev pub decreases-types::read_type_args : goal.decreases-types::read_type_args
decreases-types::read_type_args l = 32 * l.depth + 9

abbrev pub decreases-types::read_class : goal.decreases-types::read_class
decreases-types::read_class l = 32 * l.depth + 2

abbrev pub decreases-unnamed::read_closure : goal.decreases-unnamed::read_closure
decreases-unnamed::read_closure l = 32 * l.depth + 13

abbrev pub decreases-unnamed::read_lambda : goal.decreases-unnamed::read_lambda
decreases-unnamed::read_lambda l = 32 * l.depth + 13

abbrev pub decreases-unnamed::read_closure_sig : goal.decreases-unnamed::read_closure_sig
decreases-unnamed::read_closure_sig l = 32 * l.depth + 12

abbrev pub decreases-unnamed::read_lambda_sig : goal.decreases-unnamed::read_lambda_sig
decreases-unnamed::read_lambda_sig l = 32 * l.depth + 11

abbrev pub decreases-unnamed::read_lambda_params : goal.decreases-unnamed::read_lambda_params
decreases-unnamed::read_lambda_params l = 32 * l.depth + 10

abbrev pub decreases-unresolved::read_unresolved_name : goal.decreases-unresolved::read_unresolved_name
decreases-unresolved::read_unresolved_name l = 32 * l.depth + 22

abbrev pub decreases-unresolved::read_global_name : goal.decreases-unresolved::read_global_name
decreases-unresolved::read_global_name l = 32 * l.depth + 22

abbrev pub decreases-unresolved::read_global_base : goal.decreases-unresolved::read_global_base
decreases-unresolved::read_global_base l = 32 * l.depth + 19

abbrev pub decreases-unresolved::read_simple_scopes : goal.decreases-unresolved::read_simple_scopes
decreases-unresolved::read_simple_scopes l = 32 * l.depth + 21

abbrev pub decreases-unresolved::read_scopes : goal.decreases-unresolved::read_scopes
decreases-unresolved::read_scopes l = 32 * l.depth + 20

abbrev pub decreases-unresolved::read_scope_list : goal.decreases-unresolved::read_scope_list
decreases-unresolved::read_scope_list l = 32 * l.depth + 13

abbrev pub decreases-unresolved::read_next_scope : goal.decreases-unresolved::read_next_scope
decreases-unresolved::read_next_scope l = 32 * l.depth + 12

abbrev pub decreases-unresolved::read_base_in : goal.decreases-unresolved::read_base_in
decreases-unresolved::read_base_in l = 32 * l.depth + 19

abbrev pub decreases-unresolved::read_in_type : goal.decreases-unresolved::read_in_type
decreases-unresolved::read_in_type l = 32 * l.depth + 20

abbrev pub decreases-unresolved::read_in_nested : goal.decreases-unresolved::read_in_nested
decreases-unresolved::read_in_nested l = 32 * l.depth + 21

abbrev pub decreases-unresolved::read_in_unresolved : goal.decreases-unresolved::read_in_unresolved
decreases-unresolved::read_in_unresolved l = 32 * l.depth + 20

abbrev pub decreases-unresolved::read_scope_type : goal.decreases-unresolved::read_scope_type
decreases-unresolved::read_scope_type l = 32 * l.depth + 16

abbrev pub decreases-unresolved::read_unresolved_type : goal.decreases-unresolved::read_unresolved_type
decreases-unresolved::read_unresolved_type l = 32 * l.depth + 15

abbrev pub decreases-unresolved::read_saved_decltype : goal.decreases-unresolved::read_saved_decltype
decreases-unresolved::read_saved_decltype l = 32 * l.depth + 14

abbrev pub decreases-unresolved::read_args_if_any : goal.decreases-unresolved::read_args_if_any
decreases-unresolved::read_args_if_any l = 32 * l.depth + 10

abbrev pub decreases-unresolved::read_simple_id : goal.decreases-unresolved::read_simple_id
decreases-unresolved::read_simple_id l = 32 * l.depth + 11

abbrev pub decreases-unresolved::read_base_name : goal.decreases-unresolved::read_base_name
decreases-unresolved::read_base_name l = 32 * l.depth + 18

abbrev pub decreases-unresolved::read_destructor_name : goal.decreases-unresolved::read_destructor_name
decreases-unresolved::read_destructor_name l = 32 * l.depth + 17

abbrev pub decreases-unresolved::read_destroyed : goal.decreases-unresolved::read_destroyed
decreases-unresolved::read_destroyed l = 32 * l.depth + 16

abbrev pub decreases-unresolved::read_operator_id : goal.decreases-unresolved::read_operator_id
decreases-unresolved::read_operator_id l = 32 * l.depth + 16

abbrev pub decreases-unresolved::read_operator_name : goal.decreases-unresolved::read_operator_name
decreases-unresolved::read_operator_name l = 32 * l.depth + 15

abbrev pub decreases-vendors::read_vendor_type : goal.decreases-vendors::read_vendor_type
decreases-vendors::read_vendor_type l = 32 * l.depth + 2

abbrev pub decreases-vendors::read_vendor_inside : goal.decreases-vendors::read_vendor_inside
decreases-vendors::read_vendor_inside l = 32 * l.depth + 1

abbrev pub decreases-vendors::read_vendor_qualified : goal.decreases-vendors::read_vendor_qualified
decreases-vendors::read_vendor_qualified l = 32 * l.depth + 12

abbrev pub decreases-vendors::read_other_qualified : goal.decreases-vendors::read_other_qualified
decreases-vendors::read_other_qualified l = 32 * l.depth + 11

abbrev pub decreases-vendors::read_vendor_args : goal.decreases-vendors::read_vendor_args
decreases-vendors::read_vendor_args l = 32 * l.depth + 10

abbrev pub decreases-vendors::read_objc_qualified : goal.decreases-vendors::read_objc_qualified
decreases-vendors::read_objc_qualified l = 32 * l.depth + 1

abbrev pub invariant-rows::read_row_items-loop-item : goal.invariant-rows::read_row_items-loop-item
invariant-rows::read_row_items-loop-item l = record {
  reads : ItemsSoFar (parse_items (productions l.depth) (trees_behind l.from l.fn.reader.arena) l.items (state l.fn.reader))
      (productions l.depth) (trees_behind l.from l.reader.arena) (drop l.item-index l.items) (state l.reader);
  below : AllByRecursion (IsNode l.reader.arena) (drop l.from l.reader.arena.pending);
  keeps : KeepsFront l.from l.fn.reader l.reader;
}

abbrev pub invariant-rows::read_items-loop-item : goal.invariant-rows::read_items-loop-item
invariant-rows::read_items-loop-item l = record {
  reads : SoFar (list_after (productions l.depth) l.item l.end (trees_behind l.from l.fn.reader.arena) (state l.fn.reader))
      (ends l.end) (item_more (tree_as (productions l.depth) l.item)) (trees_behind l.from l.reader.arena) (state l.reader);
  below : AllByRecursion (IsNode l.reader.arena) (drop l.from l.reader.arena.pending);
  keeps : KeepsFront l.from l.fn.reader l.reader;
}

abbrev pub decreases-rows::read_items-loop-item : goal.decreases-rows::read_items-loop-item
decreases-rows::read_items-loop-item l = length l.reader.rest.now

abbrev pub invariant-names::read_components-loop-reader : goal.invariant-names::read_components-loop-reader
invariant-names::read_components-loop-reader l = record {
  reads : SoFar (repeat is_e (parse_next (productions l.depth)) (named_at l.initial.reader.arena l.initial.last) (state l.initial.reader))
      is_e (parse_next (productions l.depth)) (named_at l.reader.arena l.last) (state l.reader);
  named : IsNamed l.reader.arena l.last;
  keeps : Keeps l.fn.reader l.reader;
}

abbrev pub decreases-names::read_components-loop-reader : goal.decreases-names::read_components-loop-reader
decreases-names::read_components-loop-reader l = length l.reader.rest.now

abbrev pub invariant-unresolved::read_scope_list-loop-reader : goal.invariant-unresolved::read_scope_list-loop-reader
invariant-unresolved::read_scope_list-loop-reader l = record {
  reads : SoFar (repeat is_e (parse_next_scope (productions l.depth)) (stands l.fn.reader.arena l.outer) (state l.fn.reader))
      is_e (parse_next_scope (productions l.depth)) (stands l.reader.arena l.scope) (state l.reader);
  node : IsNode l.reader.arena l.scope;
  keeps : Keeps l.fn.reader l.reader;
}

abbrev pub decreases-unresolved::read_scope_list-loop-reader : goal.decreases-unresolved::read_scope_list-loop-reader
decreases-unresolved::read_scope_list-loop-reader l = length l.reader.rest.now

abbrev pub invariant-declarations::collect_declarations-loop-reader : goal.invariant-declarations::collect_declarations-loop-reader
invariant-declarations::collect_declarations-loop-reader l = record {
  reads : SoFar (declarations_after (productions l.depth) (trees_behind l.from l.fn.reader.arena) (state l.fn.reader))
      is_declarations_end (parse_numbered (productions l.depth)) (trees_behind l.from l.reader.arena) (state l.reader);
  below : AllByRecursion (IsNode l.reader.arena) (drop l.from l.reader.arena.pending);
  keeps : KeepsFront l.from l.fn.reader l.reader;
}

abbrev pub decreases-declarations::collect_declarations-loop-reader : goal.decreases-declarations::collect_declarations-loop-reader
decreases-declarations::collect_declarations-loop-reader l = length l.reader.rest.now
