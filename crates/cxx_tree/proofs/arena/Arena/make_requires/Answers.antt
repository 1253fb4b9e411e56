use Rattle.cxx_tree.specs.Stored.{forest, trees_at, list_at}
use Rattle.cxx_tree.proofs.Choices.{requires-none, requires-some, emptiness}
use Rattle.cxx_tree.proofs.arena.Arena.make_requires.Goals as goal

pub returns-then-is_empty : goal.returns-then-is_empty
returns-then-is_empty c =
    let a = c.args.self.now in
    let made = simp (c.primary.ensures.value, c.fixed.ensures.value, c.fixed-then-is_empty.ensures.value) at c.make_phrase.ensures.makes in
    let row = requires-none (forest a) (list_at a.held c.args.params) (trees_at (forest a) (list_at a.held c.args.requirements)) (emptiness c.items.ensures.value c.is_empty.ensures c.if-is_empty.true) in
    record { makes = rw row made }

pub returns : goal.returns
returns c =
    let a = c.args.self.now in
    let made = simp (c.primary-2.ensures.value, c.fixed-2.ensures.value, c.fixed-3.ensures.value, c.fixed-4.ensures.value) at c.make_phrase-2.ensures.makes in
    let row = requires-some (forest a) (list_at a.held c.args.params) (trees_at (forest a) (list_at a.held c.args.requirements)) (emptiness c.items.ensures.value c.is_empty.ensures c.if-is_empty.false) in
    record { makes = rw row made }
