use Rattle.std.proofs.Common.{refl}
use Rattle.cxx_tree.specs.Kept.{taken}
use Rattle.std.specs.Prelude.{◌≡◌, option_map}
use Rattle.cxx_tree.specs.Stored.{stands, forest, trees_in}
use Rattle.cxx_tree.proofs.Grown.{Makes-after, nodes-taken}
use Rattle.cxx_reader.proofs.Bound.{some-below, some-trees}
use Rattle.cxx_reader.specs.declared.reader.Reader.{Reader}
use Rattle.cxx_reader.specs.Outcome.{named_at, list_trees}
use Rattle.cxx_reader.proofs.Kept.{gives_taken, Grows-made, pending-made}
use Rattle.cxx_reader.proofs.reader.Reader.make_function.Goals as goal

pub make_encoding-requires-clause-enable_if : goal.make_encoding-requires-clause-enable_if
make_encoding-requires-clause-enable_if c =
    let a = c.args.self.now.arena in
    let b = c.list_from.new.self in
    some-below a b (nodes-taken c.args.from a b c.list_from.ensures.grows) c.args.clauses.enable_if c.requires.enable_if

pub returns-clause-reads : goal.returns-clause-reads
unfolding stands named_at list_trees
returns-clause-reads c =
    let r = c.args.self.now in
    let a = r.arena in
    let b = c.list_from.new.self in
    let d = c.make_encoding.new.self in
    let after : Reader = record { rest = r.rest; arena = d; replaced = r.replaced; invented = r.invented; level = r.level; alloc = r.alloc } in
    let enabled : option_map (trees_in b.held (forest b)) c.args.clauses.enable_if ≡ option_map (list_trees a) c.args.clauses.enable_if =
    some-trees a b (nodes-taken c.args.from a b c.list_from.ensures.grows) c.args.clauses.enable_if c.requires.enable_if in
    let given = rw enabled at c.make_encoding.ensures.makes in
    let made = simp (c.list_from.ensures.forest, (c.in-Ok.ensures {u = tt}).trees) at given in
    gives_taken c.make_encoding.result after a c.args.from _ _ (Makes-after c.make_encoding.result (taken c.args.from a) b d _ c.list_from.ensures.grows made) refl

pub returns-clause-grows : goal.returns-clause-grows
returns-clause-grows c =
    let a = c.args.self.now.arena in
    let b = c.list_from.new.self in
    let d = c.make_encoding.new.self in
    Grows-made c.make_encoding.result a d c.args.from _ (Makes-after c.make_encoding.result (taken c.args.from a) b d _ c.list_from.ensures.grows c.make_encoding.ensures.makes)

pub returns-clause-pending : goal.returns-clause-pending
returns-clause-pending c =
    let a = c.args.self.now.arena in
    let b = c.list_from.new.self in
    let d = c.make_encoding.new.self in
    pending-made c.make_encoding.result a d c.args.from _ (Makes-after c.make_encoding.result (taken c.args.from a) b d _ c.list_from.ensures.grows c.make_encoding.ensures.makes)
