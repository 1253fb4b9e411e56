use Rattle.std.specs.Prelude.{option_map}
use Rattle.cxx_tree.specs.Stored.{tree_at}
use Rattle.cxx_tree.specs.Phrases.{constrained}
use Rattle.cxx_tree.proofs.Putting.{adds, on_ok}
use Rattle.cxx_tree.proofs.lambdas.push_constraint.Goals as goal

pub returns-in-Some-clause-adds : goal.returns-in-Some-clause-adds
returns-in-Some-clause-adds c =
    on_ok c.extend_from_slice.result _ _ _ _ c.extend_from_slice.ensures.items
    (λ e. adds _ _ _ (λ h ts. constrained (option_map (tree_at ts) c.args.constraint)) e (λ h ts behind. simp (c.in-Some.is, c.fixed.ensures.value, c.whole.ensures.value)))
