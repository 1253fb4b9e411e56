use Rattle.std.proofs.Common.{◌≡◌, ◌∙◌, ap, subst}
use Rattle.std.specs.Prelude.{OnOk}
use Rattle.cxx_tree.specs.Grows.{Grows}
use Rattle.cxx_tree.specs.Kept.{KeepsNodes, taken}
use Rattle.cxx_tree.specs.Stored.{Store, stands, saved_trees}
use Rattle.cxx_tree.proofs.Grown.{Makes-after}
use Rattle.cxx_reader.specs.Outcome.{invented_at}
use Rattle.cxx_reader.specs.declared.reader.Reader.{Reader}
use Rattle.cxx_reader.proofs.Kept.{gives_taken, Grows-made}
use Rattle.cxx_reader.proofs.reader.Reader.make_function_type.Goals as goal

pub returns-clause-reads : goal.returns-clause-reads
unfolding stands
returns-clause-reads c =
    let r = c.expect.new.self in
    let a = c.args.self.now.arena in
    let b = c.list_from.new.self in
    let d = c.make_function_type.new.self in
    let after : Reader = record { rest = r.rest; arena = d; replaced = r.replaced; invented = r.invented; level = r.level; alloc = r.alloc } in
    let same : r.arena ≡ a = c.expect.ensures.arena ∙ c.read_ref_qual-ref_qual.ensures.arena in
    let grows = subst (λ (x : Store). Grows (taken c.args.from x) b) same c.list_from.ensures.grows in
    let listed = simp (c.list_from.ensures.forest, (c.in-Ok-list_from.ensures {u = tt}).trees) at c.make_function_type.ensures.makes in
    let made = simp same at listed in
    let gives = gives_taken c.make_function_type.result after a c.args.from _ _ (Makes-after c.make_function_type.result (taken c.args.from a) b d _ grows made)
    (ap (λ (x : Store). record { rest = r.rest.now; saved = saved_trees x; replaced = r.replaced; invented = invented_at r.invented; level = r.level }) same) in
    rw (c.read_ref_qual-ref_qual.ensures.reads, (c.in-Ok.ensures {u = tt}).reads) gives

pub returns-clause-grows : goal.returns-clause-grows
returns-clause-grows c =
    let r = c.expect.new.self in
    let b = c.list_from.new.self in
    let d = c.make_function_type.new.self in
    let same : r.arena ≡ c.args.self.now.arena = c.expect.ensures.arena ∙ c.read_ref_qual-ref_qual.ensures.arena in
    subst (λ (x : Store). OnOk c.make_function_type.result (KeepsNodes x d)) same
    (Grows-made c.make_function_type.result r.arena d c.args.from _ (Makes-after c.make_function_type.result (taken c.args.from r.arena) b d _ c.list_from.ensures.grows c.make_function_type.ensures.makes))
