use Rattle.std.proofs.Common.{ap, length, sym, subst, ◌∙◌}
use Rattle.cxx_tree.specs.Grows.{Makes}
use Rattle.cxx_tree.specs.Stored.{forest, tree_at, list_at}
use Rattle.cxx_tree.proofs.Choices.{conversion-others}
use Rattle.cxx_tree.proofs.arena.Arena.make_conversion.Goals as goal

pub returns : goal.returns
returns c =
    let a = c.args.self.now in
    let made = simp (c.fixed-2.ensures.value, c.enclosed-2.ensures.value, c.fixed-3.ensures.value, c.expression.ensures.value) at c.make_phrase-2.ensures.makes in
    record {
      makes = subst (Makes c.make_phrase-2.result a c.make_phrase-2.new.self) (sym (conversion-others (tree_at (forest a) c.args.t) (forest a) (list_at a.held c.args.es) c.args.prec (λ e. c.if-items-eq1.false (ap length c.items.ensures.value ∙ e)))) made;
    }
