use Rattle.cxx_reader.specs.declared.reader.Reader.{Reader}
use Rattle.std.proofs.Common.{Ok, arith, refl}
use Rattle.cxx_reader.proofs.Kept.{Keeps-made, Keeps-trans, Keeps-after}
use Rattle.cxx_reader.proofs.reader.Reader.make_tagged_in.Goals as goal

pub returns-clause-keeps : goal.returns-clause-keeps
returns-clause-keeps c =
    let r = c.args.self.now in
    let named : Reader = record { rest = r.rest; arena = c.make_name.new.self; replaced = r.replaced; invented = r.invented; level = r.level; alloc = r.alloc } in
    let first = Keeps-made (Ok c.in-Ok.value) r named r.arena _ (c.in-Ok.ensures {u = tt}).makes refl (omega arith) in
    let tagged = c.read_abi_tags.new.self in
    Keeps-after c.put_in.result r tagged c.put_in.new.self (Keeps-trans r named tagged first (c.in-Ok-read_abi_tags.ensures {u = tt}).keeps) c.put_in.ensures.keeps
