-- The mark stands where the output ends.
use Rattle.std.proofs.Common.{refl}
use Rattle.demangle_text.specs.View.{store_of}
use Rattle.demangle_text.proofs.States.{Opens-here}
use Rattle.demangle_text.proofs.buffer.Buffer.«open».Goals as goal

pub returns-clause-opens : goal.returns-clause-opens
returns-clause-opens c =
    rw (← c.self.view_is) (Opens-here (store_of c.self.inside) _ c.self.invariant c.len.ensures.value refl)
