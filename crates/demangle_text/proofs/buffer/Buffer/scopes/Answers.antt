use Rattle.std.proofs.Common.{◌≡◌, length, arith}
use Rattle.demangle_text.specs.View.{store_of}
use Rattle.demangle_text.specs.State.{scopes}
use Rattle.demangle_text.proofs.Scopes.{length-scopes}
use Rattle.demangle_text.proofs.buffer.Buffer.scopes.Goals as goal

pub returns : goal.returns
returns c =
    let s = store_of c.self.inside in
    let n : c.len.result ≡ length (scopes s) = omega (arith, length-scopes s) in
    record { value = rw (← c.self.view_is) n }
