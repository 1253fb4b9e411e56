use Rattle.std.proofs.Common.{◌-◌, ◌<◌, length, sym, subst, ap, arith}
use Rattle.std.specs.List.{AllByRecursion}
use Rattle.cxx_tree.specs.Stored.{forest, parts_in, size, IsPartBelow}
use Rattle.cxx_printer.proofs.Heights.{run_height, item_height, part_falls, phrase_height}
use Rattle.cxx_printer.proofs.Packs.{below_at, in_parts}
use Rattle.cxx_printer.proofs.shapes.+endings.Goals as goal

pub ending_of_list-ending_of-requires : goal.ending_of_list-ending_of-requires
ending_of_list-ending_of-requires t c =
    let s = c.args.arena.now in
    let is = c.args.items.now in
    let last : length is - 1 < length is = omega arith in
    let lower = item_height s is (length is - 1) 0 last in
    (omega (arith, lower), below_at (size s) is (length is - 1) 0 c.requires.below last)

pub ending_of_phrase-ending_of_part-requires : goal.ending_of_phrase-ending_of_part-requires
ending_of_phrase-ending_of_part-requires t c =
    let s = c.args.arena.now in
    let ps = c.parts_of-list.result.now in
    let e = c.parts_of-list.ensures.value in
    let last : length ps - 1 < length ps = omega arith in
    let same = phrase_height c.args.phrase.is_reversed (parts_in s.held (forest s) c.args.parts) in
    let high = ap (run_height s) e in (
      part_falls s ps (length ps - 1) _ t last (omega (arith, same, high)),
      in_parts s.held (size s) ps (length ps - 1) _ (subst (AllByRecursion (IsPartBelow s.held (size s))) (sym e) c.requires.below.1) last,
    )
