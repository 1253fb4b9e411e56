use Rattle.std.proofs.Common.{rules}
use Rattle.itanium_syntax.proofs.Values.{value_read, value_not_text}
use Rattle.itanium_syntax.proofs.expressions.literal_value.Goals as goal

pub returns-in-Ok-clause-value : goal.returns-in-Ok-clause-value
returns-in-Ok-clause-value c = value_read c.args.bytes.now c.value_len-len.result (search rules) (search rules) (search rules) (search rules) (search rules)

pub returns-in-Err-clause-value : goal.returns-in-Err-clause-value
returns-in-Err-clause-value c = value_not_text c.args.bytes.now c.value_len-len.result (search rules) (search rules)
