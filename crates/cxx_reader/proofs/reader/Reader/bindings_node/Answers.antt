use Rattle.std.proofs.Common.{refl}
use Rattle.cxx_tree.specs.Kept.{taken}
use Rattle.cxx_tree.specs.Stored.{stands, tree_of, plain_tree}
use Rattle.cxx_tree.proofs.Grown.{Makes-after}
use Rattle.cxx_reader.specs.declared.reader.Reader.{Reader}
use Rattle.cxx_reader.proofs.Kept.{gives_taken, Grows-made}
use Rattle.cxx_reader.proofs.reader.Reader.bindings_node.Goals as goal

pub returns-clause-reads : goal.returns-clause-reads
unfolding stands
returns-clause-reads c =
    let r = c.args.self.now in
    let a = r.arena in
    let b = c.list_from.new.self in
    let d = c.make_bindings.new.self in
    let after : Reader = record { rest = r.rest; arena = d; replaced = r.replaced; invented = r.invented; level = r.level; alloc = r.alloc } in
    let made = simp (c.list_from.ensures.forest, (c.in-Ok.ensures {u = tt}).trees) at c.make_bindings.ensures.makes in
    gives_taken c.make_bindings.result after a c.args.from _ _ (Makes-after c.make_bindings.result (taken c.args.from a) b d _ c.list_from.ensures.grows made) refl

pub returns-clause-grows : goal.returns-clause-grows
returns-clause-grows c =
    let a = c.args.self.now.arena in
    let b = c.list_from.new.self in
    let d = c.make_bindings.new.self in
    Grows-made c.make_bindings.result a d c.args.from _ (Makes-after c.make_bindings.result (taken c.args.from a) b d _ c.list_from.ensures.grows c.make_bindings.ensures.makes)
