use Rattle.std.proofs.Common.{◌∙◌, ap}
use Rattle.cxx_tree.specs.Stored.{forest, tree_of}
use Rattle.cxx_printer.proofs.Packs.{plain-one_sided}
use Rattle.cxx_printer.proofs.shapes.is_plain.Goals as goal

pub returns-in-Plain : goal.returns-in-Plain
unfolding tree_of
returns-in-Plain c =
    record { value = λ e. plain-one_sided c.args.arena.now.held (forest c.args.arena.now) c.in-Plain.field-0 _ (c.node.ensures.tree ∙ ap (tree_of c.args.arena.now.held (forest c.args.arena.now)) c.in-Plain.is) }
