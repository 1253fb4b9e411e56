use Rattle.std.proofs.Common.{◌+◌, ◌++◌, length}
use Rattle.growing_text.proofs.Rows.{row}
use Rattle.growing_text.proofs.lanes.put_joined.Goals as goal

pub returns : goal.returns
returns c =
    let word = c.args.word.now in
    let second = c.args.second.now in
    record { value = row c.args.first.now (word ++ second) _ _ (length word + length second) c.copy_few.ensures.value c.put_behind.ensures.value }
