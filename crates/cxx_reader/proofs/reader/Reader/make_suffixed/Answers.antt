use Rattle.std.proofs.Common.{refl}
use Rattle.cxx_tree.specs.Stored.{stands}
use Rattle.cxx_reader.specs.declared.reader.Reader.{Reader}
use Rattle.cxx_reader.proofs.Kept.{gives_made}
use Rattle.cxx_reader.proofs.reader.Reader.make_suffixed.Goals as goal

pub returns-then-is_complex-clause-reads : goal.returns-then-is_complex-clause-reads
unfolding stands
returns-then-is_complex-clause-reads c =
    let r = c.args.self.now in
    let after : Reader = record { rest = r.rest; arena = c.make_suffixed.new.self; replaced = r.replaced; invented = r.invented; level = r.level; alloc = r.alloc } in
    rw c.if-is_complex.true (gives_made _ after _ _ _ c.make_suffixed.ensures.makes refl)
