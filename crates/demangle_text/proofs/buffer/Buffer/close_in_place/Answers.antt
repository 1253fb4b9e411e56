use Rattle.std.proofs.Common.{rules, ◌≡◌, false, ℕ, List, ◌++◌, take, ap, sym, ◌∙◌, length, arith}
use Rattle.std.proofs.lemmas.Grind.{common_steps}
use Rattle.demangle_text.specs.Pieces.{Store}
use Rattle.demangle_text.specs.State.{main_bytes, frame_start, inside, Frame}
use Rattle.demangle_text.proofs.States.{text_is, internals, states}
use Rattle.demangle_text.proofs.Tails.{kept_only-already}
use Rattle.demangle_text.proofs.buffer.Buffer.close_in_place.Goals as goal

-- the piece is all of the output since the mark already
pub returns-then-piece-len-clause-output : goal.returns-then-piece-len-clause-output
unfolding main_bytes frame_start inside Frame
returns-then-piece-len-clause-output c =
    let b = c.args.self.now in
    let p = c.args.piece.now in
    let at = c.args.mark.inside_len in
    let same = ap (λ (s : Store). s.output_text) c.self.view_is in
    let home : p.spilled ≡ false = search rules in
    let is = kept_only-already b p at home c.if-piece-at.true (c.if-piece-len.true ∙ c.len.ensures.value ∙ ap length same) in
    same ∙ is ∙ ap (λ (v : List ℕ). take at b.output_text ++ v) (sym (text_is b p c.requires.living))

pub invariant_of-self : goal.invariant_of-self
unfolding internals
invariant_of-self c = grind arith

pub returns-then-piece-len-clause-shape : goal.returns-then-piece-len-clause-shape
unfolding internals
returns-then-piece-len-clause-shape c = grind arith

pub returns-then-piece-len-clause-closed : goal.returns-then-piece-len-clause-closed
unfolding internals
returns-then-piece-len-clause-closed c = grind arith

pub invariant_of-self-2 : goal.invariant_of-self-2
unfolding internals
invariant_of-self-2 c = grind arith

pub returns-clause-shape : goal.returns-clause-shape
unfolding internals
returns-clause-shape c = grind (arith, common_steps)

pub returns-clause-closed : goal.returns-clause-closed
unfolding internals
returns-clause-closed c = grind arith

pub returns-clause-output : goal.returns-clause-output
unfolding internals
returns-clause-output c = grind (arith, states)
