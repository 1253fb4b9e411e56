use Rattle.std.proofs.Common.{◌+◌, ◌*◌}
use Rattle.cxx_printer.proofs.Heights.{height_at, plain_height, items_height, part_height, phrase_height_of}
use Rattle.cxx_printer.proofs.shapes.+endings.Given as goal

abbrev pub decreases-ending_of : goal.decreases-ending_of
decreases-ending_of l = 64 * height_at l.arena.now l.i + 9

abbrev pub decreases-ending_of_plain : goal.decreases-ending_of_plain
decreases-ending_of_plain l = 64 * plain_height l.arena.now l.plain.now + 8

abbrev pub decreases-ending_of_phrase : goal.decreases-ending_of_phrase
decreases-ending_of_phrase l = 64 * phrase_height_of l.arena.now l.phrase l.parts + 57

abbrev pub decreases-ending_of_part : goal.decreases-ending_of_part
decreases-ending_of_part l = 64 * part_height l.arena.now l.part + 54

abbrev pub decreases-ending_of_list : goal.decreases-ending_of_list
decreases-ending_of_list l = 64 * items_height l.arena.now l.items.now + 10

abbrev pub decreases-ending_of_tree : goal.decreases-ending_of_tree
decreases-ending_of_tree l = 64 * height_at l.arena.now l.t + 13

abbrev pub decreases-ending_of_address : goal.decreases-ending_of_address
decreases-ending_of_address l = 64 * height_at l.arena.now l.t + 12

abbrev pub decreases-ending_of_operand : goal.decreases-ending_of_operand
decreases-ending_of_operand l = 64 * height_at l.arena.now l.t + 11

abbrev pub decreases-ending_of_expansion : goal.decreases-ending_of_expansion
decreases-ending_of_expansion l = 64 * height_at l.arena.now l.t + 10
