use Rattle.std.proofs.Common.{refl, arith}
use Rattle.cxx_tree.specs.Stored.{stands}
use Rattle.cxx_reader.specs.declared.reader.Reader.{Reader}
use Rattle.cxx_reader.proofs.Kept.{gives_saved, Keeps-saved}
use Rattle.cxx_reader.proofs.reader.Reader.make_module.Goals as goal

pub returns-clause-reads : goal.returns-clause-reads
unfolding stands
returns-clause-reads c =
    let r = c.args.self.now in
    let after : Reader = record { rest = r.rest; arena = c.save.new.self; replaced = r.replaced; invented = r.invented; level = r.level; alloc = r.alloc } in
    gives_saved _ after _ _ _ _ (c.in-Ok.ensures {u = tt}).makes (c.in-Ok-save.ensures {u = tt}).saved c.save.ensures.same refl

pub returns-clause-keeps : goal.returns-clause-keeps
returns-clause-keeps c =
    let r = c.args.self.now in
    let after : Reader = record { rest = r.rest; arena = c.save.new.self; replaced = r.replaced; invented = r.invented; level = r.level; alloc = r.alloc } in
    Keeps-saved _ r after _ _ (c.in-Ok.ensures {u = tt}).makes c.save.ensures.same c.save.ensures.pending (omega arith)
