use Rattle.std.proofs.Common.{ℕ, ◌≡◌, ◌+◌, List, [], ◌∷◌, ◌++◌, ◌∙◌, length, map, drop, take, sym, ap, subst, arith, Some, Ok, length-append}
use Rattle.cxx_tree.specs.Tree.{Tree}
use Rattle.cxx_tree.specs.Kept.{KeepsNodes}
use Rattle.cxx_tree.proofs.Forest.{same-forest}
use Rattle.cxx_tree.proofs.Grown.{nodes-trans, nodes-same, saved-same}
use Rattle.cxx_grammar.specs.State.{State}
use Rattle.cxx_grammar.specs.Bases.{declared_name}
use Rattle.cxx_grammar.specs.Binds.{names_of}
use Rattle.cxx_reader.specs.declared.reader.Reader.{Reader}
use Rattle.cxx_tree.specs.Stored.{stands}
use Rattle.cxx_reader.specs.Outcome.{invented_at, state, list_trees, trees_behind}
use Rattle.cxx_reader.proofs.Kept.{stands-same, IsNode-same}
use Rattle.cxx_reader.proofs.Lists.{take-push, one-more, one-more-below}
use Rattle.cxx_reader.proofs.Binders.{NamesSoFar, names_more, names_end}
use Rattle.cxx_reader.proofs.Bound.{listed, list_below-keeps, next_arg, no_arg}
use Rattle.cxx_reader.proofs.reader.Reader.add_names.Goals as goal

pub item-declaration-requires-clause-list : goal.item-declaration-requires-clause-list
item-declaration-requires-clause-list c = list_below-keeps c.args.self.now.arena c.loop-k.self.arena c.args.declarations c.loop-k.invariant.grows c.requires.declarations

pub loop-k-preserved : goal.loop-k-preserved
unfolding stands
loop-k-preserved c =
    let inv = c.loop-k.invariant in
    let r = c.loop-k.self in
    let a = r.arena in
    let b = c.add.new.self in
    let i = c.declared_name-name.result in
    let first = c.args.self.now.arena in
    let from = length first.pending in
    let kept = c.add.ensures in
    let pushed : b.pending ≡ a.pending ++ i ∷ [] = (c.in-Ok.ensures {u = tt}).pending in
    let grows : KeepsNodes a b = nodes-same a b kept.same in
    let same = stands-same a b i kept.same in
    let node = IsNode-same a b i kept.same c.declared_name-name.ensures.node in
    let name : stands b i ≡ declared_name (stands a c.item-declaration.result) = same ∙ c.declared_name-name.ensures.value in
    let next = next_arg first a inv.grows c.args.declarations c.requires.declarations c.loop-k.k c.item-declaration.result c.item-declaration.ensures.value in
    let whole = names_of (list_trees first c.args.declarations) in
    let so_far = subst (λ (ts : List Tree). NamesSoFar whole (trees_behind from a) ts) next inv.names in
    record {
      names = subst (λ (ts : List Tree). NamesSoFar whole ts (drop (c.loop-k.k + 1) (listed first c.args.declarations)))
          (sym (one-more a b from i grows inv.below inv.long pushed)) (names_more so_far name);
      state = ap (λ (l : List Tree). record { rest = r.rest.now; saved = l; replaced = r.replaced; invented = invented_at r.invented; level = r.level }) (saved-same a b (same-forest a b kept.same.nodes kept.same.held) kept.saved) ∙ inv.state;
      len = inv.len;
      long = omega (arith, inv.long, ap length pushed, length-append a.pending (i ∷ []));
      below = one-more-below a b from i grows inv.below inv.long pushed node;
      pending = ap (take from) pushed ∙ take-push from a.pending i inv.long ∙ inv.pending;
      grows = nodes-trans first a b inv.grows grows;
      rest = inv.rest;
    }

pub returns-clause-reads : goal.returns-clause-reads
returns-clause-reads c =
    let inv = c.loop-k.invariant in
    let r = c.loop-k.self in
    let first = c.args.self.now.arena in
    let from = length first.pending in
    let whole = names_of (list_trees first c.args.declarations) in
    let none = no_arg first c.args.declarations c.loop-k.k (omega (arith, inv.len, c.loop-k-test.false)) in
    let so_far = subst (λ (ts : List Tree). NamesSoFar whole (trees_behind from r.arena) ts) none inv.names in
    (inv.below, ap (λ (ts : List Tree). Some (ts, state c.args.self.now)) (names_end so_far) ∙ ap (λ (s : State). Some (trees_behind from r.arena, s)) (sym inv.state))
