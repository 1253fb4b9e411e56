use Rattle.std.proofs.Common.{length}
use Rattle.growing_text.proofs.Rows.{row}
use Rattle.growing_text.proofs.lanes.put_behind.Goals as goal

pub returns : goal.returns
returns c =
    record { value = row c.args.word.now c.args.text.now _ _ (length c.args.text.now) c.copy_text.ensures.value c.put.ensures.value }
