use Rattle.std.proofs.Common.{List, ◌∙◌, ◌+◌, ap}
use Rattle.cxx_tree.specs.Tree.{Tree}
use Rattle.cxx_tree.proofs.Grown.{saved-taken}
use Rattle.cxx_reader.specs.Outcome.{invented_at}
use Rattle.cxx_reader.proofs.reader.Reader.split_from.Goals as goal

pub returns-clause-state : goal.returns-clause-state
returns-clause-state c =
    let r = c.args.self.now in
    ap (λ (l : List Tree). record { rest = r.rest.now; saved = l; replaced = r.replaced; invented = invented_at r.invented; level = r.level })
    (c.list_from.ensures.grows.saved ∙ saved-taken (c.args.from + 1) r.arena)
