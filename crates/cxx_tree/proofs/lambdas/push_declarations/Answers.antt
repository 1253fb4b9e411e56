use Rattle.cxx_tree.specs.Stored.{trees_in}
use Rattle.cxx_tree.specs.Pieces.{declared_if}
use Rattle.cxx_tree.proofs.Putting.{adds, on_ok}
use Rattle.cxx_tree.proofs.lambdas.push_declarations.Goals as goal

pub returns-then-has_declarations-clause-adds : goal.returns-then-has_declarations-clause-adds
returns-then-has_declarations-clause-adds c =
    on_ok c.extend_from_slice.result _ _ _ _ c.extend_from_slice.ensures.items
    (λ e. adds _ _ _ (λ h ts. declared_if c.args.has_declarations (trees_in h ts c.args.declarations)) e (λ h ts behind. simp c.if-has_declarations.true))
