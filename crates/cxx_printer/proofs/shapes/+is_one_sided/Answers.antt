use Rattle.std.proofs.Common.{◌∙◌, ap}
use Rattle.cxx_tree.specs.Stored.{forest, tree_of}
use Rattle.cxx_printer.proofs.Packs.{plain-one_sided, qualified-one_sided, pointer-one_sided, reference-one_sided}
use Rattle.cxx_printer.proofs.shapes.+is_one_sided.Goals as goal

pub returns-in-Plain : goal.returns-in-Plain
unfolding tree_of
returns-in-Plain t c =
    record { value = λ e. plain-one_sided c.args.arena.now.held (forest c.args.arena.now) c.in-Plain.field-0 _ (c.node.ensures.tree ∙ ap (tree_of c.args.arena.now.held (forest c.args.arena.now)) c.in-Plain.is) }

pub returns-in-Qualified : goal.returns-in-Qualified
unfolding tree_of
returns-in-Qualified t c =
    record { value = λ e. qualified-one_sided _ _ _ (c.node.ensures.tree ∙ ap (tree_of c.args.arena.now.held (forest c.args.arena.now)) c.in-Qualified.is) (c.is_one_sided.ensures.value e) }

pub returns-in-Pointer : goal.returns-in-Pointer
unfolding tree_of
returns-in-Pointer t c =
    record { value = λ e. pointer-one_sided _ _ (c.node.ensures.tree ∙ ap (tree_of c.args.arena.now.held (forest c.args.arena.now)) c.in-Pointer.is) (c.is_one_sided-in-Pointer.ensures.value e) }

pub returns-in-Reference : goal.returns-in-Reference
unfolding tree_of
returns-in-Reference t c =
    record { value = λ e. reference-one_sided _ _ _ (c.node.ensures.tree ∙ ap (tree_of c.args.arena.now.held (forest c.args.arena.now)) c.in-Reference.is) (c.is_one_sided-in-Reference.ensures.value e) }
