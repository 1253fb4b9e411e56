use Rattle.std.proofs.Common.{arith, refl}
use Rattle.cxx_reader.specs.declared.reader.Reader.{Reader}
use Rattle.cxx_reader.proofs.Kept.{Keeps-made, Keeps-after}
use Rattle.cxx_reader.proofs.reader.Reader.pattern_count_node.Goals as goal

pub returns-clause-keeps : goal.returns-clause-keeps
returns-clause-keeps c =
    let mid = c.make.new.self in
    let after : Reader = record { rest = mid.rest; arena = c.make_pack_count.new.self; replaced = mid.replaced; invented = mid.invented; level = mid.level; alloc = mid.alloc } in
    Keeps-after c.make_pack_count.result c.args.self.now mid after (c.in-Ok.ensures {u = tt}).keeps
    (Keeps-made c.make_pack_count.result mid after mid.arena _ c.make_pack_count.ensures.makes refl (omega arith))
