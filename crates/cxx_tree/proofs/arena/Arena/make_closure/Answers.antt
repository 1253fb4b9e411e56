use Rattle.std.proofs.Common.{ℕ, ◌==◌, length, ◌∙◌, ap, subst, List, [], ◌∷◌}
use Rattle.std.specs.Prelude.{not}
use Rattle.cxx_tree.specs.declared.node.Part.{Part}
use Rattle.cxx_tree.specs.declared.node.Part.TheVariants as part
use Rattle.cxx_tree.specs.declared.node.NodeText.TheVariants as text
use Rattle.cxx_tree.specs.Tree.{Parts, phrase}
use Rattle.cxx_tree.specs.Grows.{Makes}
use Rattle.cxx_tree.specs.Stored.{forest, parts_of}
use Rattle.cxx_tree.proofs.Putting.{signed}
use Rattle.cxx_tree.proofs.arena.Arena.make_closure.Goals as goal

pub returns : goal.returns
returns c =
    let a = c.args.self.now in
    let f = forest a in
    let s = c.args.signature in
    let front : List Part = c.styled.result ∷ part.Text c.args.count (text.Fixed _) ∷ c.styled-2.result ∷ [] in
    let back : List Part = c.styled-3.result ∷ part.Text (text.Fixed _) c.args.ordinal ∷ c.styled-4.result ∷ [] in
    let any = ap not (c.is_empty.ensures ∙ ap (λ (l : List ℕ). length l == 0) c.items.ensures.value) in
    let parts = ap (parts_of a.held f) c.deref.ensures.value
    ∙ signed a.held f c.new-parts.result.items front _ _ back _ (not c.is_empty.result) s.declarations s.params s.before s.behind c.new-parts.ensures.items c.in_ok-extend_from_slice.ensures.items (c.in_ok-push_signature.ensures.adds a.held f) c.in_ok-extend_from_slice-2.ensures.items any in
    let row = subst (λ (ps : Parts). Makes c.make_phrase.result a c.make_phrase.new.self (phrase c.primary-attributes.result ps)) parts c.make_phrase.ensures.makes in
    record { makes = simp (c.primary-attributes.ensures.value, c.text_len.ensures.value, c.styled.ensures.value, c.styled-2.ensures.value, c.styled-3.ensures.value, c.styled-4.ensures.value) at row }
