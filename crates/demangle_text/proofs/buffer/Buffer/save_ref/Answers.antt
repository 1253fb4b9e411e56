use Rattle.demangle_text.specs.State.{IsAsOld, IsOlder, Stands, frame, frame_start, inside, main_bytes, outermost, outside, saved, scopes, shape}
use Rattle.std.proofs.Common.{arith}
use Rattle.std.proofs.lemmas.Grind.{common_steps}
use Rattle.std.proofs.Common.{sym, subst}
use Rattle.std.proofs.lemmas.List.Elements.{All-push}
use Rattle.demangle_text.specs.Pieces.{Store, IsPiece}
use Rattle.demangle_text.specs.State.{IsLiving}
use Rattle.demangle_text.specs.View.{store_of}
use Rattle.demangle_text.proofs.buffer.Buffer.save_ref.Goals as goal

pub invariant_of-self-2 : goal.invariant_of-self-2
unfolding IsLiving
invariant_of-self-2 c =
    let s = store_of c.self.inside in
    let lies = subst (λ (b : Store). IsLiving b c.args.piece.now) (sym c.self.view_is) c.requires.living in
    record {
      saved_lie = rw c.in-Ok.ensures.ok (All-push (IsPiece s.output_text s.spill_text) _ _ c.self.invariant.saved_lie lies);
      args_lie = c.self.invariant.args_lie;
      starts_fit = c.self.invariant.starts_fit;
      main_frame = c.self.invariant.main_frame;
    }

pub returns-clause-saved : goal.returns-clause-saved
unfolding IsLiving shape main_bytes Stands frame_start frame outermost IsOlder IsAsOld inside outside saved scopes
returns-clause-saved c = grind (arith, common_steps)
