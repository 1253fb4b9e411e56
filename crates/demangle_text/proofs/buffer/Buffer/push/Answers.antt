use Rattle.demangle_text.specs.State.{IsAsOld, IsLiving, IsOlder, Stands, frame, frame_start, inside, main_bytes, outermost, outside, saved, scopes, shape}
use Rattle.std.proofs.Common.{arith}
use Rattle.std.proofs.lemmas.Grind.{common_steps}
use Rattle.demangle_text.specs.View.{store_of}
use Rattle.demangle_text.proofs.States.{KeepsAll-longer, IsStore-longer}
use Rattle.demangle_text.proofs.buffer.Buffer.push.Goals as goal

pub invariant_of-self-2 : goal.invariant_of-self-2
invariant_of-self-2 c = rw c.in-Ok.ensures.ok (IsStore-longer (store_of c.self.inside) _ c.self.invariant)

pub returns-clause-kept : goal.returns-clause-kept
returns-clause-kept c = rw (← c.self.view_is, c.in-Ok.ensures.ok) (KeepsAll-longer (store_of c.self.inside) _ c.self.invariant)

pub whole_at-requires : goal.whole_at-requires
unfolding IsLiving shape main_bytes Stands frame_start frame outermost IsOlder IsAsOld inside outside saved scopes
whole_at-requires c = grind (arith, common_steps)

pub returns-clause-shape : goal.returns-clause-shape
unfolding IsLiving shape main_bytes Stands frame_start frame outermost IsOlder IsAsOld inside outside saved scopes
returns-clause-shape c = grind (arith, common_steps)
