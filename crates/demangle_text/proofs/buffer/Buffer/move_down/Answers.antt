-- What would be torn is set aside; the block moves to the mark, and what lies in it moves with it.
use Rattle.demangle_text.specs.State.{IsAsOld, IsLiving, IsOlder, Stands, frame, frame_start, inside, main_bytes, outermost, outside, saved, scopes, shape}
use Rattle.std.proofs.Common.{arith}
use Rattle.std.proofs.lemmas.Grind.{common_steps}
use Rattle.std.proofs.Common.{◌≡◌, ◌≤◌, ◌++◌, ℕ, Bool, List, length, slice_range, sym, ap, subst, ◌∙◌}
use Rattle.demangle_text.specs.Pieces.{Store, home_bytes}
use Rattle.demangle_text.specs.View.{store_of}
use Rattle.demangle_text.proofs.Laws.{IsEdit-keeps, IsEdit-trans}
use Rattle.demangle_text.proofs.States.{KeepsAll-longer, IsStore-longer}
use Rattle.demangle_text.proofs.Blocks.{IsBlock, IsBlock-here, IsBlock-copied}
use Rattle.demangle_text.proofs.Texts.{Moves}
use Rattle.demangle_text.proofs.Carried.{Moves-kept, IsStore-after, IsEdit-after}
use Rattle.demangle_text.proofs.buffer.Buffer.move_down.Goals as goal
use Rattle.demangle_text.proofs.buffer.Buffer.move_down.Goals.{then-spilled+in-Ok+else-from-at-2, else-spilled+else-from-at}

-- a copy at the mark is all that there is since then
pub invariant_of-self-then-from-at-2 : goal.invariant_of-self-then-from-at-2
invariant_of-self-then-from-at-2 c = rw c.in-Ok.ensures.ok (IsStore-longer (store_of c.self.inside) _ c.self.invariant)

pub returns-then-from-at-2-clause-edit : goal.returns-then-from-at-2-clause-edit
returns-then-from-at-2-clause-edit c =
    rw (← c.self.view_is, c.in-Ok.ensures.ok) (IsEdit-keeps _ _ (KeepsAll-longer (store_of c.self.inside) _ c.self.invariant))

-- what is kept lies in the texts
pub spill_torn-requires-clause-saved : goal.spill_torn-requires-clause-saved
spill_torn-requires-clause-saved c = rw c.as_slice.ensures.value (elim c.if-spilled.branch [
  | then-spilled+in-Ok+else-from-at-2 w ↦ rw (w.self-inside-is, w.in-Ok.ensures.ok) ((IsStore-longer (store_of c.self.inside) _ c.self.invariant).saved_lie)
  | else-spilled+else-from-at w ↦ rw w.self-inside-is c.self.invariant.saved_lie
])

pub spill_torn-requires-clause-args : goal.spill_torn-requires-clause-args
spill_torn-requires-clause-args c = rw c.as_slice.ensures.value (elim c.if-spilled.branch [
  | then-spilled+in-Ok+else-from-at-2 w ↦ rw (w.self-inside-is, w.in-Ok.ensures.ok) ((IsStore-longer (store_of c.self.inside) _ c.self.invariant).args_lie)
  | else-spilled+else-from-at w ↦ rw w.self-inside-is c.self.invariant.args_lie
])

-- the part of a text
abbrev part : Store → Bool → ℕ → ℕ → List ℕ
part s spilled from to = slice_range (home_bytes s.output_text s.spill_text spilled) from to

block : (c : goal.After-shift-2) → IsBlock (store_of c.self.inside) (store_of c.if-spilled.self-inside) (part (store_of c.self.inside) c.args.spilled c.args.from c.args.to) c.args.at c.if-spilled.from c.if-spilled.to
block c =
    let s = store_of c.self.inside in
    let mark : s.marked_len ≡ c.args.at = ap (λ (b : Store). b.marked_len) c.self.view_is ∙ c.requires.mark in
    let within = subst (λ (b : Store). c.args.to ≤ length (home_bytes b.output_text b.spill_text c.args.spilled)) (sym c.self.view_is) c.requires.within in
    elim c.if-spilled.branch [
      | then-spilled+in-Ok+else-from-at-2 w ↦ rw (w.self-inside-is, w.from-is, w.to-is) (
          IsBlock-copied s (part s c.args.spilled c.args.from c.args.to) w.add_text.new.output c.args.at w.len-copied.result w.len-to.result c.self.invariant mark
          (w.in-Ok.ensures.ok ∙ (λ j. s.output_text ++ slice_range (home_bytes s.output_text s.spill_text c.args.spilled) (w.whole_at-part.ensures.stands.begins j) (w.whole_at-part.ensures.stands.ends j)))
          w.len-copied.ensures.value w.len-to.ensures.value)
      | else-spilled+else-from-at w ↦ rw (w.self-inside-is, w.from-is, w.to-is) (
          IsBlock-here s c.args.spilled c.args.at c.args.from c.args.to c.self.invariant mark w.if-spilled.false c.requires.ordered within)
    ]

moves : (c : goal.After-shift-2) → Moves (store_of c.if-spilled.self-inside).output_text c.keep_only.new.self c.args.at c.if-spilled.from c.if-spilled.to c.args.at
moves c =
    let b = block c in
    Moves-kept (store_of c.if-spilled.self-inside).output_text c.keep_only.new.self c.args.at c.if-spilled.from c.if-spilled.to b.low b.ordered b.within c.keep_only.ensures.value

pub invariant_of-self-2 : goal.invariant_of-self-2
invariant_of-self-2 c =
    let a = c.in-Ok-spill_torn.ensures in
    let b = block c in
    (IsStore-after (store_of c.if-spilled.self-inside) _ _ _ _ c.as_slice.ensures.value c.spill_torn.ensures.spilled
    _ _ _ _ _ _ _ b.store a.saved_apart a.args_apart c.shift.ensures.value c.shift-2.ensures.value
    (moves c) b.inner)

pub returns-clause-edit : goal.returns-clause-edit
returns-clause-edit c =
    let a = c.in-Ok-spill_torn.ensures in
    let b = block c in
    rw (← c.self.view_is)
    (IsEdit-trans _ _ _ (IsEdit-keeps _ _ b.keeps)
    (IsEdit-after (store_of c.if-spilled.self-inside) _ _ _ _ c.as_slice.ensures.value c.spill_torn.ensures.spilled
    _ _ _ _ _ _ _ b.store a.saved_apart a.args_apart c.shift.ensures.value c.shift-2.ensures.value
    (moves c) b.inner))

pub returns-clause-output : goal.returns-clause-output
returns-clause-output c = rw (← c.self.view_is) (c.keep_only.ensures.value ∙ (block c).has)

pub returns-then-from-at-2-clause-output : goal.returns-then-from-at-2-clause-output
unfolding IsLiving shape main_bytes Stands frame_start frame outermost IsOlder IsAsOld inside outside saved scopes
returns-then-from-at-2-clause-output c = grind (arith, common_steps)

pub invariant_of-self-in-Err-spill_torn : goal.invariant_of-self-in-Err-spill_torn
unfolding IsLiving shape main_bytes Stands frame_start frame outermost IsOlder IsAsOld inside outside saved scopes
invariant_of-self-in-Err-spill_torn c = grind (arith, common_steps)

pub keep_only-requires-clause-ordered : goal.keep_only-requires-clause-ordered
unfolding IsLiving shape main_bytes Stands frame_start frame outermost IsOlder IsAsOld inside outside saved scopes
keep_only-requires-clause-ordered c = grind (arith, common_steps)

pub shift-requires-clause-block : goal.shift-requires-clause-block
unfolding IsLiving shape main_bytes Stands frame_start frame outermost IsOlder IsAsOld inside outside saved scopes
shift-requires-clause-block c = grind (arith, common_steps)

pub shift-requires-2-clause-block : goal.shift-requires-2-clause-block
unfolding IsLiving shape main_bytes Stands frame_start frame outermost IsOlder IsAsOld inside outside saved scopes
shift-requires-2-clause-block c = grind (arith, common_steps)

pub invariant_of-self : goal.invariant_of-self
invariant_of-self c = grind arith

pub keep_only-requires-clause-before : goal.keep_only-requires-clause-before
keep_only-requires-clause-before c = grind arith

pub shift-requires-clause-ordered : goal.shift-requires-clause-ordered
shift-requires-clause-ordered c = grind arith

pub shift-requires-clause-apart : goal.shift-requires-clause-apart
shift-requires-clause-apart c = grind arith

pub shift-requires-2-clause-ordered : goal.shift-requires-2-clause-ordered
shift-requires-2-clause-ordered c = grind arith

pub shift-requires-2-clause-apart : goal.shift-requires-2-clause-apart
shift-requires-2-clause-apart c = grind arith

pub shift-requires-2-clause-fits : goal.shift-requires-2-clause-fits
shift-requires-2-clause-fits c = grind arith
