use Rattle.std.proofs.Common.{codes}
use Rattle.cxx_printer.proofs.Appended.{prints_then}
use Rattle.cxx_printer.proofs.writing.write_id.Goals as goal

pub returns : goal.returns
returns c =
    record {
      prints = prints_then _ _ _ _ (codes "id<") _ (c.in-Ok.ensures {u = tt}).prints
          (prints_then _ _ _ _ c.args.protocol.now _ (c.in-Ok-write.ensures {u = tt}).prints c.write-3.ensures.prints);
    }
