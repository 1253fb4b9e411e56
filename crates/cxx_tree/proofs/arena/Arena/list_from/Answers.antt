use Rattle.std.proofs.Common.{ℕ, ◌≡◌, List, sym, subst, ap, ◌∙◌}
use Rattle.cxx_tree.specs.Stored.{Store}
use Rattle.cxx_tree.specs.Kept.{taken}
use Rattle.cxx_tree.specs.Grows.{Grows}
use Rattle.cxx_tree.specs.View.{store_of}
use Rattle.cxx_tree.proofs.Grown.{Grows-taken}
use Rattle.cxx_tree.proofs.arena.Arena.list_from.Goals as goal

pub returns-clause-grows : goal.returns-clause-grows
returns-clause-grows c =
    let from = c.args.from in
    let s = store_of c.self.inside in
    let b : Store = record { nodes = s.nodes; held = s.held; saved = s.saved; pending = c.truncate.new.self.items; limit = s.limit } in
    let cut : b ≡ taken from s =
    ap (λ (p : List ℕ). record { nodes = s.nodes; held = s.held; saved = s.saved; pending = p; limit = s.limit }) c.truncate.ensures.items in
    let same : b ≡ taken from c.copied_from-list.new.self = cut ∙ ap (taken from) c.self.view_is in
    subst (Grows (taken from c.args.self.now)) (sym same) (Grows-taken from c.args.self.now c.copied_from-list.new.self c.copied_from-list.ensures.grows)
