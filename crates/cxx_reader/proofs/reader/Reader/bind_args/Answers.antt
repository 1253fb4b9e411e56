use Rattle.std.proofs.Common.{ℕ, ◌≡◌, ◌+◌, List, [], ◌∷◌, ◌++◌, ◌∙◌, length, map, drop, take, sym, ap, subst, arith, Some, Ok, length-append}
use Rattle.cxx_tree.specs.Tree.{Tree}
use Rattle.cxx_tree.specs.Kept.{KeepsNodes}
use Rattle.cxx_tree.proofs.Forest.{same-forest}
use Rattle.cxx_tree.proofs.Grown.{nodes-trans, nodes-same, saved-same}
use Rattle.cxx_grammar.specs.State.{State}
use Rattle.cxx_grammar.specs.Binds.{bind_arg, bind_args}
use Rattle.cxx_reader.specs.declared.reader.Reader.{Reader}
use Rattle.cxx_tree.specs.Stored.{stands}
use Rattle.cxx_reader.specs.Outcome.{invented_at, state, GivesFrom, list_trees}
use Rattle.cxx_reader.proofs.Kept.{stands-same, IsNode-same}
use Rattle.cxx_reader.proofs.Lists.{take-push, one-more, one-more-below}
use Rattle.cxx_reader.proofs.Bound.{BoundSoFar, listed, bound_end, bound_more, bound_stop, list_below-keeps, next_arg, no_arg}
use Rattle.cxx_reader.proofs.reader.Reader.bind_args.Goals as goal

pub item-arg-requires-clause-list : goal.item-arg-requires-clause-list
item-arg-requires-clause-list c = list_below-keeps c.args.self.now.arena c.loop-k.self.arena c.args.args c.loop-k.invariant.grows c.requires.args

pub returns-in-Err-clause-reads : goal.returns-in-Err-clause-reads
returns-in-Err-clause-reads c =
    let inv = c.loop-k.invariant in
    let r = c.loop-k.self in
    let a = c.args.self.now.arena in
    let bound = map (stands r.arena) (drop c.pending_len-from.result r.arena.pending) in
    let next = next_arg a r.arena inv.grows c.args.args c.requires.args c.loop-k.k c.item-arg.result c.item-arg.ensures.value in
    let so_far = subst (λ (ts : List Tree). BoundSoFar (bind_args c.args.is_inherited [] (list_trees a c.args.args) (state c.args.self.now)) c.args.is_inherited bound ts (state r)) next inv.reads in
    bound_stop c.in-Err.error (length a.pending) c.bind_arg.new.self so_far (c.in-Err.ensures {u = tt}).reads

pub loop-k-preserved : goal.loop-k-preserved
loop-k-preserved c =
    let inv = c.loop-k.invariant in
    let read = c.in-Ok.ensures {u = tt} in
    let r = c.loop-k.self in
    let a = r.arena in
    let mid = c.bind_arg.new.self in
    let b = c.add.new.self in
    let i = c.in-Ok.value in
    let from = c.pending_len-from.result in
    let first = c.args.self.now.arena in
    let kept = c.add.ensures in
    let pushed : b.pending ≡ a.pending ++ i ∷ [] = (c.in-Ok-add.ensures {u = tt}).pending ∙ ap (λ (l : List ℕ). l ++ i ∷ []) read.keeps.pending in
    let grows : KeepsNodes a b = nodes-trans a mid.arena b read.keeps.grows (nodes-same mid.arena b kept.same) in
    let same = stands-same mid.arena b i kept.same in
    let node = IsNode-same mid.arena b i kept.same read.reads.0 in
    let after : Reader = record { rest = mid.rest; arena = b; replaced = mid.replaced; invented = mid.invented; level = mid.level; alloc = mid.alloc } in
    let state-after : state mid ≡ state after = ap (λ (l : List Tree). record { rest = mid.rest.now; saved = l; replaced = mid.replaced; invented = invented_at mid.invented; level = mid.level }) (sym (saved-same mid.arena b (same-forest mid.arena b kept.same.nodes kept.same.held) kept.saved)) in
    let bound = map (stands a) (drop from a.pending) in
    let arg = stands a c.item-arg.result in
    let parsed : bind_arg c.args.is_inherited bound arg (state r) ≡ Some (stands b i, state after) =
    read.reads.1 ∙ ap (λ (u : Tree). Some (u, state mid)) (sym same) ∙ ap (λ (s : State). Some (stands b i, s)) state-after in
    let next = next_arg first a inv.grows c.args.args c.requires.args c.loop-k.k c.item-arg.result c.item-arg.ensures.value in
    let so_far = subst (λ (ts : List Tree). BoundSoFar (bind_args c.args.is_inherited [] (list_trees first c.args.args) (state c.args.self.now)) c.args.is_inherited bound ts (state r)) next inv.reads in
    record {
      reads = subst (λ (ts : List Tree). BoundSoFar (bind_args c.args.is_inherited [] (list_trees first c.args.args) (state c.args.self.now)) c.args.is_inherited ts (drop (c.loop-k.k + 1) (listed first c.args.args)) (state after))
          (sym (one-more a b from i grows inv.below inv.long pushed)) (bound_more so_far parsed);
      from = inv.from;
      len = inv.len;
      long = omega (arith, inv.long, ap length pushed, length-append a.pending (i ∷ []));
      below = one-more-below a b from i grows inv.below inv.long pushed node;
      pending = ap (take from) pushed ∙ take-push from a.pending i inv.long ∙ inv.pending;
      grows = nodes-trans first a b inv.grows grows;
      rest = read.rest ∙ inv.rest;
    }

pub returns-clause-reads : goal.returns-clause-reads
returns-clause-reads c =
    let inv = c.loop-k.invariant in
    let r = c.loop-k.self in
    let first = c.args.self.now.arena in
    let none = no_arg first c.args.args c.loop-k.k (omega (arith, inv.len, c.loop-k-test.false)) in
    let so_far = subst (λ (ts : List Tree). BoundSoFar (bind_args c.args.is_inherited [] (list_trees first c.args.args) (state c.args.self.now)) c.args.is_inherited (map (stands r.arena) (drop c.pending_len-from.result r.arena.pending)) ts (state r)) none inv.reads in
    subst (λ (n : ℕ). GivesFrom (Ok tt) n r (bind_args c.args.is_inherited [] (list_trees first c.args.args) (state c.args.self.now))) inv.from
    (inv.below, bound_end so_far)
