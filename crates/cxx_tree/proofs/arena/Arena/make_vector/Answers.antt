use Rattle.cxx_tree.proofs.arena.Arena.make_vector.Goals as goal

pub returns-in-Some : goal.returns-in-Some
returns-in-Some c = record {
  makes = rw c.in-Some.is (simp (c.primary.ensures.value, c.styled-front.ensures.value, c.whole.ensures.value, c.whole-in-Some.ensures.value, c.styled.ensures.value) at c.make_phrase.ensures.makes);
}

pub returns-in-None : goal.returns-in-None
returns-in-None c = record {
  makes = rw c.in-None.is (simp (c.primary.ensures.value, c.styled-front.ensures.value, c.whole-in-None.ensures.value, c.styled-in-None.ensures.value) at c.make_phrase-in-None.ensures.makes);
}
