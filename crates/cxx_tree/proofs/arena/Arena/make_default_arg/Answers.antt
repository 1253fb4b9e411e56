use Rattle.cxx_tree.proofs.arena.Arena.make_default_arg.Goals as goal

pub returns : goal.returns
returns c = record {
  makes = simp (c.styled.ensures.value, c.styled-2.ensures.value, c.primary-attributes.ensures.value, c.text_len.ensures.value) at c.make_phrase.ensures.makes;
}
