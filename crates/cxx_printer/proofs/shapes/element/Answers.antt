use Rattle.std.proofs.Common.{ℕ, ◌≤◌, List, refl, sym, ap, subst}
use Rattle.std.proofs.Math.ListN.{get_or}
use Rattle.cxx_tree.specs.Stored.{forest, trees_at, trees_in}
use Rattle.cxx_printer.proofs.Packs.{pack-item, pack-past}
use Rattle.cxx_printer.proofs.Heights.{height_at, items_height, item_height}
use Rattle.cxx_printer.proofs.shapes.element.Goals as goal

pub returns-then-k-items-clause-value : goal.returns-then-k-items-clause-value
returns-then-k-items-clause-value c =
    let ts = forest c.args.arena.now in
    let same = ap (trees_at ts) (sym c.items-items.ensures.value) in
    pack-past ts c.items-items.result.now (trees_in c.args.arena.now.held ts c.args.list) c.args.env c.args.env.pack same refl c.if-k-items.true

pub returns-clause-value : goal.returns-clause-value
returns-clause-value c =
    let ts = forest c.args.arena.now in
    let same = ap (trees_at ts) (sym c.items-items.ensures.value) in
    pack-item ts c.items-items.result.now (trees_in c.args.arena.now.held ts c.args.list) c.args.env c.args.env.pack 0 same refl c.if-k-items.false

pub returns-clause-lower : goal.returns-clause-lower
returns-clause-lower c =
    let s = c.args.arena.now in
    let is = c.items-items.result.now in
    subst (λ (js : List ℕ). height_at s (get_or is c.args.env.pack 0) ≤ items_height s js) c.items-items.ensures.value
    (item_height s is c.args.env.pack 0 c.if-k-items.false)
