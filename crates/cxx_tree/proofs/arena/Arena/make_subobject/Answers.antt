use Rattle.cxx_tree.proofs.arena.Arena.make_subobject.Goals as goal

pub returns : goal.returns
returns c = record {
  makes = simp (c.text_len.ensures.value, c.open.ensures.value, c.offset_text-number.ensures.value, c.whole.ensures.value, c.fixed.ensures.value, c.whole-2.ensures.value, c.fixed-2.ensures.value, c.held.ensures.value, c.fixed-3.ensures.value) at c.make_phrase.ensures.makes;
}
