-- The texts go after the piece, which ends the output.
use Rattle.demangle_text.proofs.States.{states}
use Rattle.demangle_text.specs.State.{IsAsOld, IsOlder, Stands, frame, frame_start, inside, main_bytes, outermost, outside, saved, scopes, shape}
use Rattle.std.proofs.Common.{arith}
use Rattle.std.proofs.lemmas.Grind.{common_steps}
use Rattle.std.proofs.Common.{sym, subst}
use Rattle.demangle_text.specs.Pieces.{Store}
use Rattle.demangle_text.specs.Calls.{IsLast}
use Rattle.demangle_text.specs.State.{IsLiving}
use Rattle.demangle_text.specs.View.{store_of}
use Rattle.demangle_text.proofs.Named.{edit-named, Lives-renamed}
use Rattle.demangle_text.proofs.buffer.Buffer.append_name.Goals as goal

pub returns-clause-shape : goal.returns-clause-shape
returns-clause-shape c =
    let s = store_of c.self.inside in
    let lies = subst (λ (b : Store). IsLiving b c.args.piece.now) (sym c.self.view_is) c.requires.living in
    let last = subst (λ (b : Store). IsLast b c.args.piece.now) (sym c.self.view_is) c.requires.last in
    rw (← c.self.view_is) (
    Lives-renamed s c.add_pair.new.self c.args.piece.now c.args.between.now c.args.name.now c.self.invariant lies last c.in-Ok.ensures.ok
    c.len-piece.result c.len-piece.ensures.value)

pub returns-clause-edit : goal.returns-clause-edit
returns-clause-edit c =
    let s = store_of c.self.inside in
    let lies = subst (λ (b : Store). IsLiving b c.args.piece.now) (sym c.self.view_is) c.requires.living in
    let last = subst (λ (b : Store). IsLast b c.args.piece.now) (sym c.self.view_is) c.requires.last in
    rw (← c.self.view_is) (
    edit-named s c.add_pair.new.self c.args.piece.now c.args.between.now c.args.name.now c.self.invariant lies last c.in-Ok.ensures.ok)

pub overflow_sub-piece : goal.overflow_sub-piece
unfolding IsLiving shape main_bytes Stands frame_start frame outermost IsOlder IsAsOld inside outside saved scopes
overflow_sub-piece c = grind (arith, common_steps)

pub overflow_sub-piece-2 : goal.overflow_sub-piece-2
unfolding IsLiving shape main_bytes Stands frame_start frame outermost IsOlder IsAsOld inside outside saved scopes
overflow_sub-piece-2 c = grind (arith, common_steps)

pub invariant_of-self-2 : goal.invariant_of-self-2
unfolding IsLiving shape main_bytes Stands frame_start frame outermost IsOlder IsAsOld inside outside saved scopes
invariant_of-self-2 c = grind (arith, states)

pub returns-clause-edit_of : goal.returns-clause-edit_of
unfolding IsLiving shape main_bytes Stands frame_start frame outermost IsOlder IsAsOld inside outside saved scopes
returns-clause-edit_of c = grind (arith, common_steps)
