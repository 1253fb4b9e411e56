use Rattle.demangle_text.specs.State.{IsAsOld, IsLiving, IsOlder, Stands, frame, frame_start, inside, main_bytes, outermost, outside, saved, scopes, shape}
use Rattle.std.proofs.Common.{arith}
use Rattle.std.proofs.lemmas.Grind.{common_steps}
use Rattle.std.proofs.Common.{refl}
use Rattle.demangle_text.proofs.Tails.{Lives-own}
use Rattle.demangle_text.proofs.buffer.Buffer.own.Goals as goal

pub returns-clause-shape : goal.returns-clause-shape
returns-clause-shape c =
    let e = c.whole_at.ensures in
    Lives-own c.args.self.now c.args.piece _ c.requires.living refl e.stands.begins e.stands.ends e.outline

pub overflow_add-from : goal.overflow_add-from
unfolding IsLiving shape main_bytes Stands frame_start frame outermost IsOlder IsAsOld inside outside saved scopes
overflow_add-from c = grind (arith, common_steps)

pub overflow_add-to : goal.overflow_add-to
unfolding IsLiving shape main_bytes Stands frame_start frame outermost IsOlder IsAsOld inside outside saved scopes
overflow_add-to c = grind (arith, common_steps)

pub returns-clause-age : goal.returns-clause-age
unfolding IsLiving shape main_bytes Stands frame_start frame outermost IsOlder IsAsOld inside outside saved scopes
returns-clause-age c = grind (arith, common_steps)
