use Rattle.cxx_tree.proofs.arena.Arena.fold_between.Goals as goal

pub returns : goal.returns
returns c = record {
  makes = simp (c.styled-blank.ensures.value, c.fixed.ensures.value, c.held.ensures.value, c.styled.ensures.value, c.held-2.ensures.value, c.fixed-2.ensures.value) at c.make_phrase.ensures.makes;
}
