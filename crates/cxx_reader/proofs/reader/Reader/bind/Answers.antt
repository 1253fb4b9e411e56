use Rattle.std.proofs.Common.{◌≡◌, Some, sym, subst}
use Rattle.cxx_tree.specs.Stored.{Store, stands}
use Rattle.cxx_tree.specs.Kept.{IsNode}
use Rattle.cxx_reader.specs.Outcome.{state, named_at}
use Rattle.cxx_grammar.specs.Binds.{bind_encoding, bind_counted}
use Rattle.cxx_reader.specs.Unbound.{IsUnbound}
use Rattle.cxx_reader.proofs.reader.Reader.bind.Goals as goal

pub returns-then-is_unbound-clause-reads : goal.returns-then-is_unbound-clause-reads
unfolding IsUnbound bind_encoding
returns-then-is_unbound-clause-reads c =
    let after = c.count_replaced.new.self in
    let same = c.count_replaced.ensures.arena in (
      subst (λ (a : Store). IsNode a c.args.i) (sym same) c.requires.node,
      rw c.in-Ok.ensures.reads (subst (λ (a : Store). bind_counted (named_at a c.args.name) (stands a c.args.i) (state after) ≡ Some (stands after.arena c.args.i, state after)) same (c.is_unbound.ensures.stays c.if-is_unbound.true (state after))),
    )
