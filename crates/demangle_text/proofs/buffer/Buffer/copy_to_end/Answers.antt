use Rattle.demangle_text.proofs.States.{states, internals}
use Rattle.demangle_text.specs.State.{IsAsOld, IsLiving, IsOlder, Stands, frame, frame_start, inside, main_bytes, outermost, outside, saved, scopes, shape}
use Rattle.std.proofs.Common.{arith}
use Rattle.std.proofs.lemmas.Grind.{common_steps}
use Rattle.demangle_text.specs.View.{store_of}
use Rattle.demangle_text.proofs.States.{KeepsAll-longer}
use Rattle.demangle_text.proofs.buffer.Buffer.copy_to_end.Goals as goal

pub returns-clause-kept : goal.returns-clause-kept
returns-clause-kept c = rw (← c.self.view_is, c.in-Ok.ensures.ok) (KeepsAll-longer (store_of c.self.inside) _ c.self.invariant)

pub invariant_of-self-2 : goal.invariant_of-self-2
unfolding IsLiving shape main_bytes Stands frame_start frame outermost IsOlder IsAsOld inside outside saved scopes
invariant_of-self-2 c = grind (arith, states)

pub returns-clause-shape : goal.returns-clause-shape
unfolding IsLiving shape main_bytes Stands frame_start frame outermost IsOlder IsAsOld inside outside saved scopes
returns-clause-shape c = grind (arith, common_steps)

pub returns-clause-output : goal.returns-clause-output
unfolding IsLiving shape main_bytes Stands frame_start frame outermost IsOlder IsAsOld inside outside saved scopes
returns-clause-output c = grind (arith, states)

pub returns-in-Err : goal.returns-in-Err
unfolding internals
returns-in-Err c = grind arith
