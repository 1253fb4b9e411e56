use Rattle.cxx_reader.proofs.Kept.{readers}
use Rattle.cxx_reader.proofs.Opens.{opens}

pub ruleset productions = (readers, opens)
