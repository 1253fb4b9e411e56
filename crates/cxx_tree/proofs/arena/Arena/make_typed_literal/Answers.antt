use Rattle.std.proofs.Common.{◌∙◌}
use Rattle.std.proofs.lemmas.List.{append-nil}
use Rattle.cxx_tree.specs.Texts.{number_printed}
use Rattle.cxx_tree.proofs.Grown.{Makes-after}
use Rattle.cxx_tree.proofs.arena.Arena.make_typed_literal.Goals as goal

pub returns : goal.returns
returns c =
    let a = c.args.self.now in
    let b = c.joined.new.self in
    let text = (c.in_ok-value.ensures {u = tt}).text ∙ append-nil (number_printed c.args.number.now) in
    let made = simp (c.primary-attributes.ensures.value, c.text_len.ensures.value, c.fixed.ensures.value, c.enclosed.ensures.value, c.fixed-2.ensures.value, c.held.ensures.value, c.joined.ensures.forest, text) at c.make_phrase.ensures.makes in
    record { makes = Makes-after c.make_phrase.result a b c.make_phrase.new.self _ c.joined.ensures.grows made }
