use Rattle.abi_scalars.proofs.Ascii.{ascii_utf8}
use Rattle.abi_scalars.proofs.utf8.is_utf8.Goals as goal

pub returns-then-is_known_ascii-clause-yes : goal.returns-then-is_known_ascii-clause-yes
returns-then-is_known_ascii-clause-yes c told = ascii_utf8 c.args.bytes.now (c.is_known_ascii.ensures.all c.if-is_known_ascii.true)
