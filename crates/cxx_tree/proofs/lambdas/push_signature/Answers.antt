use Rattle.std.proofs.Common.{◌∙◌, refl}
use Rattle.std.specs.Prelude.{option_map}
use Rattle.cxx_tree.specs.Stored.{tree_at, trees_in}
use Rattle.cxx_tree.specs.Phrases.{constrained_before, constrained, parens}
use Rattle.cxx_tree.proofs.Putting.{adds, adds-below, ok_map}
use Rattle.cxx_tree.specs.Pieces.{IsSignatureBelow}
use Rattle.cxx_tree.proofs.lambdas.push_signature.Goals as goal

pub returns-clause-adds : goal.returns-clause-adds
returns-clause-adds c =
    ok_map c.push_constraint.result _ _ c.push_constraint.ensures.adds
    (λ last. λ h ts behind.
    let after = constrained (option_map (tree_at ts) c.args.behind) behind in
    let listed = parens (trees_in h ts c.args.params) after in
    let middle = constrained_before (option_map (tree_at ts) c.args.before) listed in
    last h ts behind
    ∙ adds _ _ _ (λ g us. parens (trees_in g us c.args.params)) c.in_ok-extend_from_slice.ensures.items (λ g us x. refl) h ts after
    ∙ c.in_ok-push_before.ensures.adds h ts listed
    ∙ c.in_ok-push_declarations.ensures.adds h ts middle)

pub returns-clause-below : goal.returns-clause-below
returns-clause-below c =
    ok_map c.push_constraint.result _ _ c.push_constraint.ensures.below
    (λ last. λ h n p old.
    last h n p.3
    (adds-below _ _ _ (λ g m. IsSignatureBelow g m c.args.declarations c.args.before c.args.params c.args.behind) c.in_ok-extend_from_slice.ensures.items (λ g m q. (q.2, tt)) h n p
    (c.in_ok-push_before.ensures.below h n p.1 (c.in_ok-push_declarations.ensures.below h n p.0 old))))
