use Rattle.std.proofs.Common.{ℕ, ◌==◌, length, ◌∙◌, ap, subst, List, [], ◌∷◌}
use Rattle.std.specs.Prelude.{not}
use Rattle.cxx_tree.specs.declared.node.Part.{Part}
use Rattle.cxx_tree.specs.Tree.{Parts, phrase}
use Rattle.cxx_tree.specs.Grows.{Makes}
use Rattle.cxx_tree.specs.Stored.{forest, parts_of}
use Rattle.cxx_tree.proofs.Putting.{signed}
use Rattle.cxx_tree.proofs.arena.Arena.make_lambda.Goals as goal

pub returns : goal.returns
returns c =
    let a = c.args.self.now in
    let f = forest a in
    let s = c.args.signature in
    let front : List Part = c.fixed.result ∷ [] in
    let back : List Part = c.fixed-2.result ∷ [] in
    let any = ap not (c.is_empty.ensures ∙ ap (λ (l : List ℕ). length l == 0) c.items.ensures.value) in
    let parts = ap (parts_of a.held f) c.deref.ensures.value
    ∙ signed a.held f c.new-parts.result.items front _ _ back _ (not c.is_empty.result) s.declarations s.params s.before s.behind c.new-parts.ensures.items c.in_ok-extend_from_slice.ensures.items (c.in_ok-push_signature.ensures.adds a.held f) c.in_ok-extend_from_slice-2.ensures.items any in
    let row = subst (λ (ps : Parts). Makes c.make_phrase.result a c.make_phrase.new.self (phrase c.primary.result ps)) parts c.make_phrase.ensures.makes in
    record { makes = simp (c.primary.ensures.value, c.fixed.ensures.value, c.fixed-2.ensures.value) at row }
