use Rattle.std.proofs.Common.{◌≡◌, ◌+◌, ◌-◌, ◌*◌, ◌≤◌, ◌++◌, max, drop, true, length, nat_eq}
use Rattle.cxx_tree.specs.declared.node.Node.TheVariants as node
use Rattle.cxx_tree.specs.Stored.{forest, tree_at, trees_at, parts_of}
use Rattle.cxx_printer.specs.Asked.{item}
use Rattle.cxx_printer.specs.Words.{in_angle}
use Rattle.cxx_printer.specs.Print.{items_of, print_parts, list_from, sequence, separated, declared, head, repeated}
use Rattle.cxx_printer.proofs.Heights.{height_at, height_of, plain_height, declaration_height, option_height, items_height, list_height, part_height, parts_height}
use Rattle.cxx_printer.proofs.print.+printer.Given as goal

abbrev pub decreases-print : goal.decreases-print
decreases-print l = 64 * height_at l.arena.now l.i + 40

abbrev pub decreases-print_node : goal.decreases-print_node
decreases-print_node l = 64 * height_at l.arena.now l.i + 39

abbrev pub decreases-print_sides : goal.decreases-print_sides
decreases-print_sides l = 64 * height_at l.arena.now l.i + 34

abbrev pub decreases-print_left : goal.decreases-print_left
decreases-print_left l = 64 * height_at l.arena.now l.i + 30

abbrev pub decreases-print_right : goal.decreases-print_right
decreases-print_right l = 64 * height_at l.arena.now l.i + 30

abbrev pub decreases-print_scope : goal.decreases-print_scope
decreases-print_scope l = 64 * height_at l.arena.now l.i + 42

abbrev pub decreases-print_encoding : goal.decreases-print_encoding
decreases-print_encoding l = 64 * height_of l.arena.now (node.Encoding l.encoding.now) + 22

abbrev pub decreases-left_encoding : goal.decreases-left_encoding
decreases-left_encoding l = 64 * height_of l.arena.now (node.Encoding l.encoding.now) + 21

abbrev pub decreases-right_ret : goal.decreases-right_ret
decreases-right_ret l = 64 * option_height l.arena.now l.ret + 32

abbrev pub decreases-right_encoding : goal.decreases-right_encoding
decreases-right_encoding l = 64 * height_of l.arena.now (node.Encoding l.encoding.now) + 18

abbrev pub decreases-print_qualifiers : goal.decreases-print_qualifiers
decreases-print_qualifiers l = 64 * height_of l.arena.now (node.Encoding l.encoding.now) + 16

abbrev pub decreases-print_signature : goal.decreases-print_signature
decreases-print_signature l = 64 * height_of l.arena.now (node.Encoding l.encoding.now) + 25

abbrev pub decreases-print_plain : goal.decreases-print_plain
decreases-print_plain l = 64 * plain_height l.arena.now l.plain.now + 26

abbrev pub decreases-left_declaration : goal.decreases-left_declaration
decreases-left_declaration l = 64 * declaration_height l.arena.now l.declaration.now + 20

abbrev pub decreases-right_declaration : goal.decreases-right_declaration
decreases-right_declaration l = 64 * declaration_height l.arena.now l.declaration.now + 20

abbrev pub decreases-left_qualified : goal.decreases-left_qualified
decreases-left_qualified l = 64 * height_at l.arena.now l.t + 35

abbrev pub decreases-left_pointer : goal.decreases-left_pointer
decreases-left_pointer l = 64 * height_at l.arena.now l.t + 37

abbrev pub decreases-left_reference : goal.decreases-left_reference
decreases-left_reference l = 64 * height_at l.arena.now l.t + 37

abbrev pub decreases-left_member : goal.decreases-left_member
decreases-left_member l = 64 * max (height_at l.arena.now l.class) (height_at l.arena.now l.member) + 41

abbrev pub decreases-left_function : goal.decreases-left_function
decreases-left_function l = 64 * height_at l.arena.now l.ret + 31

abbrev pub decreases-right_pointer : goal.decreases-right_pointer
decreases-right_pointer l = 64 * height_at l.arena.now l.t + 32

abbrev pub decreases-right_behind : goal.decreases-right_behind
decreases-right_behind l = 64 * height_at l.arena.now l.t + 31

abbrev pub decreases-right_reference : goal.decreases-right_reference
decreases-right_reference l = 64 * height_at l.arena.now l.t + 32

abbrev pub decreases-right_array : goal.decreases-right_array
decreases-right_array l = 64 * max (height_at l.arena.now l.element) (parts_height l.arena.now l.dimension) + 57

abbrev pub decreases-right_function : goal.decreases-right_function
decreases-right_function l = 64 * height_of l.arena.now (node.Function l.function.now) + 18

abbrev pub decreases-print_phrase : goal.decreases-print_phrase
decreases-print_phrase l = 64 * parts_height l.arena.now l.parts + 57

abbrev pub decreases-print_parts : goal.decreases-print_parts
decreases-print_parts l = 64 * parts_height l.arena.now l.parts + 55

abbrev pub decreases-print_part : goal.decreases-print_part
decreases-print_part l = 64 * part_height l.arena.now l.part.now + 54

abbrev pub decreases-print_trees : goal.decreases-print_trees
decreases-print_trees l = 64 * list_height l.arena.now l.list + 53

abbrev pub decreases-print_declarations : goal.decreases-print_declarations
decreases-print_declarations l = 64 * list_height l.arena.now l.list + 52

abbrev pub decreases-print_parens : goal.decreases-print_parens
decreases-print_parens l = 64 * list_height l.arena.now l.list + 51

abbrev pub decreases-print_angles : goal.decreases-print_angles
decreases-print_angles l = 64 * list_height l.arena.now l.list + 51

abbrev pub decreases-print_template_head : goal.decreases-print_template_head
decreases-print_template_head l = 64 * items_height l.arena.now l.items.now + 49

abbrev pub decreases-print_sequence : goal.decreases-print_sequence
decreases-print_sequence l = 64 * items_height l.arena.now l.items.now + 49

abbrev pub decreases-print_scoped : goal.decreases-print_scoped
decreases-print_scoped l = 64 * max (height_at l.arena.now l.scope) (height_at l.arena.now l.name) + 46

abbrev pub decreases-print_with_args : goal.decreases-print_with_args
decreases-print_with_args l = 64 * max (height_at l.arena.now l.name) (list_height l.arena.now l.args) + 58

abbrev pub decreases-print_abi_tag : goal.decreases-print_abi_tag
decreases-print_abi_tag l = 64 * height_at l.arena.now l.name + 41

abbrev pub decreases-print_in_module : goal.decreases-print_in_module
decreases-print_in_module l = 64 * max (height_at l.arena.now l.name) (height_at l.arena.now l.owner) + 41

abbrev pub decreases-print_protocol : goal.decreases-print_protocol
decreases-print_protocol l = 64 * height_at l.arena.now l.t + 41

abbrev pub decreases-print_expansion : goal.decreases-print_expansion
decreases-print_expansion l = 64 * height_at l.arena.now l.t + 47

abbrev pub decreases-print_item : goal.decreases-print_item
decreases-print_item l = 64 * height_at l.arena.now l.t + 48

abbrev pub decreases-print_item_text : goal.decreases-print_item_text
decreases-print_item_text l = 64 * height_at l.arena.now l.t + 42

abbrev pub decreases-print_operand : goal.decreases-print_operand
decreases-print_operand l = 64 * height_at l.arena.now l.t + 42

abbrev pub decreases-print_enclosed : goal.decreases-print_enclosed
decreases-print_enclosed l = 64 * height_at l.arena.now l.t + 41

abbrev pub decreases-print_tree : goal.decreases-print_tree
decreases-print_tree l = 64 * height_at l.arena.now l.t + 50

abbrev pub decreases-print_callee : goal.decreases-print_callee
decreases-print_callee l = 64 * height_at l.arena.now l.t + 45

abbrev pub decreases-print_address : goal.decreases-print_address
decreases-print_address l = 64 * height_at l.arena.now l.t + 45

abbrev pub decreases-print_value : goal.decreases-print_value
decreases-print_value l = 64 * height_at l.arena.now l.t + 45

abbrev pub decreases-print_argument : goal.decreases-print_argument
decreases-print_argument l = 64 * height_at l.arena.now l.t + 45

abbrev pub decreases-print_count : goal.decreases-print_count
decreases-print_count l = 64 * height_at l.arena.now l.t + 46

abbrev pub decreases-print_folded : goal.decreases-print_folded
decreases-print_folded l = 64 * height_at l.arena.now l.t + 48

abbrev pub decreases-print_declared : goal.decreases-print_declared
decreases-print_declared l = 64 * height_at l.arena.now l.t + 46

abbrev pub decreases-print_head : goal.decreases-print_head
decreases-print_head l = 64 * height_at l.arena.now l.t + 45

abbrev pub decreases-print_declared_name : goal.decreases-print_declared_name
decreases-print_declared_name l = 64 * height_at l.arena.now l.t + 45

abbrev pub decreases-left_non_type : goal.decreases-left_non_type
decreases-left_non_type l = 64 * height_at l.arena.now l.t + 31

abbrev pub decreases-print_qualified : goal.decreases-print_qualified
decreases-print_qualified l = 64 * height_at l.arena.now l.i + 37

abbrev pub decreases-print_pointer : goal.decreases-print_pointer
decreases-print_pointer l = 64 * height_at l.arena.now l.i + 37

abbrev pub decreases-print_reference : goal.decreases-print_reference
decreases-print_reference l = 64 * height_at l.arena.now l.i + 37

abbrev pub decreases-print_gnu_scope : goal.decreases-print_gnu_scope
decreases-print_gnu_scope l = 64 * height_at l.arena.now l.i + 41

abbrev pub decreases-print_scoped_name : goal.decreases-print_scoped_name
decreases-print_scoped_name l = 64 * height_at l.arena.now l.scope + 46

abbrev pub decreases-print_list : goal.decreases-print_list
decreases-print_list l = 64 * items_height l.arena.now l.items.now + 49

abbrev pub decreases-print_any_item : goal.decreases-print_any_item
decreases-print_any_item l = 64 * height_at l.arena.now l.t + 44

abbrev pub invariant-print_expansion-loop-k : goal.invariant-print_expansion-loop-k
invariant-print_expansion-loop-k l =
    l.fn.out ++ repeated l.n 0 l.env (item (tree_at (forest l.arena) l.t))
    ≡ l.out ++ repeated (l.n - l.k) l.k l.env (item (tree_at (forest l.arena) l.t))

abbrev pub invariant-print_list-loop-t : goal.invariant-print_list-loop-t
invariant-print_list-loop-t l =
    (l.fn.out ++ list_from true l.env (items_of (trees_at (forest l.arena) l.items))
    ≡ l.out ++ list_from (nat_eq (length l.out) (length l.fn.out)) l.env (items_of (trees_at (forest l.arena) (drop l.t-index l.items))))
    × (length l.fn.out ≤ length l.out)

abbrev pub invariant-print_parts-loop-part : goal.invariant-print_parts-loop-part
invariant-print_parts-loop-part l =
    l.fn.out ++ (print_parts (parts_of l.arena.held (forest l.arena) l.list) l.env).text
    ≡ l.out ++ (print_parts (parts_of l.arena.held (forest l.arena) (drop l.part-index l.list)) l.env).text

abbrev pub invariant-print_sequence-loop-t : goal.invariant-print_sequence-loop-t
invariant-print_sequence-loop-t l =
    l.fn.out ++ sequence l.env (items_of (trees_at (forest l.arena) l.items))
    ≡ l.out ++ sequence l.env (items_of (trees_at (forest l.arena) (drop l.t-index l.items)))

abbrev pub invariant-print_declarations-loop-t : goal.invariant-print_declarations-loop-t
invariant-print_declarations-loop-t l =
    l.initial.out ++ separated declared true (in_angle l.env) (items_of (trees_at (forest l.arena) l.t-items))
    ≡ l.out ++ separated declared l.is_first (in_angle l.env) (items_of (trees_at (forest l.arena) (drop l.t-index l.t-items)))

abbrev pub invariant-print_template_head-loop-t : goal.invariant-print_template_head-loop-t
invariant-print_template_head-loop-t l =
    l.initial.out ++ separated head true l.env (items_of (trees_at (forest l.arena) l.items))
    ≡ l.out ++ separated head l.is_first l.env (items_of (trees_at (forest l.arena) (drop l.t-index l.items)))
