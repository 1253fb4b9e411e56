use Rattle.cxx_tree.specs.Measure.{measure_each}
use Rattle.cxx_tree.specs.Stored.{forest, size, trees_in}
use Rattle.cxx_tree.proofs.Measured.{count-range}
use Rattle.cxx_tree.proofs.measuring.pack_of.Goals as goal

pub returns : goal.returns
returns c =
    let a = c.args.arena.now in
    let all = measure_each (trees_in a.held (forest a) c.args.items) in
    let count = count-range a.held (forest a) (size a) c.args.items c.requires.below in
    record { counts = rw count (c.packed.ensures.counts all c.of_list.ensures.counts) }
