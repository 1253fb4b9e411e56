use Rattle.std.proofs.Common.{refl}
use Rattle.cxx_reader.specs.declared.reader.Reader.{Reader}
use Rattle.cxx_reader.proofs.Kept.{gives_made}
use Rattle.cxx_reader.proofs.reader.Reader.read_d_builtin.Goals as goal

pub returns-then-skip_letter-clause-reads : goal.returns-then-skip_letter-clause-reads
returns-then-skip_letter-clause-reads c =
    let r = c.skip_letter.new.self in
    let after : Reader = record { rest = r.rest; arena = c.make_leaf.new.self; replaced = r.replaced; invented = r.invented; level = r.level; alloc = r.alloc } in
    rw (c.skip_letter.ensures.reads, c.if-skip_letter.true) (gives_made _ after _ _ _ c.make_leaf.ensures.makes refl)
