use Rattle.std.proofs.Common.{ℕ, ◌≡◌, List, [], ap, sym, ◌∙◌, Some}
use Rattle.cxx_tree.specs.Tree.{Tree, no_trees}
use Rattle.cxx_tree.specs.Stored.{trees_from_list}
use Rattle.cxx_tree.proofs.Grown.{nodes-taken, saved-taken}
use Rattle.cxx_grammar.specs.State.{State}
use Rattle.cxx_grammar.specs.Expressions.{parse_no_params}
use Rattle.cxx_reader.specs.declared.reader.Reader.{Reader}
use Rattle.cxx_reader.specs.Outcome.{invented_at, state, trees_behind}
use Rattle.cxx_reader.proofs.Lists.{none-yet, none-below, listed_gives}
use Rattle.cxx_reader.proofs.reader.Reader.read_no_params.Goals as goal

pub returns-clause-reads : goal.returns-clause-reads
returns-clause-reads c =
    let r = c.skip.new.self in
    let from = c.pending_len-from.result in
    let is = c.pending_len-from.ensures.value in
    let after : Reader = record { rest = r.rest; arena = c.list_from.new.self; replaced = r.replaced; invented = r.invented; level = r.level; alloc = r.alloc } in
    let parsed : parse_no_params (state c.args.self.now) ≡ Some (trees_from_list (trees_behind from r.arena), state r) =
    ap (λ (u : State). Some (no_trees, u)) (sym c.skip.ensures.state) ∙ ap (λ (ts : List Tree). Some (trees_from_list ts, state r)) (sym (none-yet r.arena from is)) in
    listed_gives c.list_from.result after r.arena from (state r) parsed
    c.list_from.ensures.list c.list_from.ensures.below (nodes-taken from r.arena c.list_from.new.self c.list_from.ensures.grows) (none-below r.arena from is)
    (ap (λ (l : List Tree). record { rest = r.rest.now; saved = l; replaced = r.replaced; invented = invented_at r.invented; level = r.level }) (c.list_from.ensures.grows.saved ∙ saved-taken from r.arena))
    c.list_from.ensures.memory
