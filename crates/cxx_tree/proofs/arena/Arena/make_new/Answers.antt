use Rattle.cxx_tree.specs.Tree.{no_parts}
use Rattle.cxx_tree.specs.Stored.{forest, list_at}
use Rattle.cxx_tree.proofs.Choices.{placed-none, placed-some, parens-none, parens-some, new-made, emptiness}
use Rattle.cxx_tree.proofs.arena.Arena.make_new.Goals as goal

pub returns-then-is_empty : goal.returns-then-is_empty
returns-then-is_empty c =
    let a = c.args.self.now in
    let made = simp (c.styled-front.ensures.value, c.new_llvm.ensures.value, c.new_gnu.ensures.value, c.expression-attributes.ensures.value, c.styled-blank.ensures.value, c.whole-then-is_empty.ensures.value) at c.make_phrase-then-is_empty.ensures.makes in
    let values = parens-some (forest a) (list_at a.held c.args.inits) no_parts (emptiness c.items-then-is_empty.ensures.value c.is_empty-then-is_empty.ensures c.if-is_empty-2.false) in
    let all = placed-none (forest a) (list_at a.held c.args.placement) _ (emptiness c.items.ensures.value c.is_empty.ensures c.if-is_empty.true) in
    record { makes = new-made _ a _ c.args.placement c.args.t c.args.inits c.args.is_global c.args.is_array _ _ values all made }

pub returns-then-is_empty-3 : goal.returns-then-is_empty-3
returns-then-is_empty-3 c =
    let a = c.args.self.now in
    let made = simp (c.styled-front.ensures.value, c.new_llvm.ensures.value, c.new_gnu.ensures.value, c.expression-attributes.ensures.value, c.fixed-blank.ensures.value, c.whole-then-is_empty-3.ensures.value) at c.make_phrase-then-is_empty-3.ensures.makes in
    let values = parens-none (forest a) (list_at a.held c.args.inits) no_parts (emptiness c.items-2.ensures.value c.is_empty-2.ensures c.if-is_empty-3.true) in
    let all = placed-some (forest a) (list_at a.held c.args.placement) _ (emptiness c.items.ensures.value c.is_empty.ensures c.if-is_empty.false) in
    record { makes = new-made _ a _ c.args.placement c.args.t c.args.inits c.args.is_global c.args.is_array _ _ values all made }

pub returns : goal.returns
returns c =
    let a = c.args.self.now in
    let made = simp (c.styled-front.ensures.value, c.new_llvm.ensures.value, c.new_gnu.ensures.value, c.expression-attributes.ensures.value, c.fixed-blank.ensures.value, c.whole-2.ensures.value) at c.make_phrase-2.ensures.makes in
    let values = parens-some (forest a) (list_at a.held c.args.inits) no_parts (emptiness c.items-2.ensures.value c.is_empty-2.ensures c.if-is_empty-3.false) in
    let all = placed-some (forest a) (list_at a.held c.args.placement) _ (emptiness c.items.ensures.value c.is_empty.ensures c.if-is_empty.false) in
    record { makes = new-made _ a _ c.args.placement c.args.t c.args.inits c.args.is_global c.args.is_array _ _ values all made }
