-- What would be torn is set aside, and then the rest moves on.
use Rattle.std.proofs.Common.{◌≡◌, ◌≤◌, ◌+◌, ◌-◌, List, ℕ, length, take, drop, ap, ◌∙◌, subst, arith}
use Rattle.demangle_text.specs.declared.pieces.Piece.{Piece}
use Rattle.demangle_text.specs.Pieces.{Store, IsSpilled}
use Rattle.growing_text.specs.Gap.{HasGap}
use Rattle.demangle_text.specs.View.{store_of}
use Rattle.demangle_text.specs.State.{KeepsAll}
use Rattle.demangle_text.proofs.Carried.{KeepsAll-spilled}
use Rattle.demangle_text.proofs.Gaps.{length-gap, IsStore-opened, IsGap-opened}
use Rattle.demangle_text.proofs.buffer.Buffer.open_gap.Goals as goal

-- what was reserved changed neither text
spilled : (m spill was new : List ℕ) (saved saved' args args' : List Piece) → spill ≡ was → IsSpilled m spill new saved saved' args args' → IsSpilled m was new saved saved' args args'
spilled m spill was new saved saved' args args' same a = subst (λ (v : List ℕ). IsSpilled m v new saved saved' args args') same a

gap : (output was new : List ℕ) (at n : ℕ) → output ≡ was → HasGap (take at output) (drop at output) new n → HasGap (take at was) (drop at was) new n
gap output was new at n same h = subst (λ (v : List ℕ). HasGap (take at v) (drop at v) new n) same h

pub returns-in-Err-spill_torn-clause-err : goal.returns-in-Err-spill_torn-clause-err
returns-in-Err-spill_torn-clause-err c =
    let same : KeepsAll c.args.self.now _ =
    rw (← c.self.view_is, c.reserve.ensures.same)
    (KeepsAll-spilled (store_of c.self.inside) _ _ _ _ (c.as_slice.ensures.value ∙ c.reserve.ensures.same) (spilled _ _ _ _ _ _ _ _ c.reserve-2.ensures.same c.spill_torn.ensures.spilled)) in
    same

pub returns-in-Err-open_gap-clause-err : goal.returns-in-Err-open_gap-clause-err
returns-in-Err-open_gap-clause-err c =
    let same : KeepsAll c.args.self.now _ =
    rw (← c.self.view_is, c.in-Err-open_gap.ensures.err, c.reserve.ensures.same)
    (KeepsAll-spilled (store_of c.self.inside) _ _ _ _ (c.as_slice.ensures.value ∙ c.reserve.ensures.same) (spilled _ _ _ _ _ _ _ _ c.reserve-2.ensures.same c.spill_torn.ensures.spilled)) in
    same

-- the place lies in the text, and no earlier than the mark
place : (s b : Store) (at : ℕ) → s ≡ b → at ≤ length b.output_text → at ≤ length s.output_text
place s b at same within = omega (arith, ap (λ (v : Store). length v.output_text) same, within)

low : (s b : Store) (at : ℕ) → s ≡ b → b.marked_len ≤ at → s.marked_len ≤ at
low s b at same inner = omega (arith, ap (λ (v : Store). v.marked_len) same, inner)

-- the text is longer by the gap
longer : (s b : Store) (output : List ℕ) (at n : ℕ) → s ≡ b → at ≤ length b.output_text
    → HasGap (take at s.output_text) (drop at s.output_text) output n → length output ≡ length s.output_text + n
longer s b output at n same within gap = length-gap s.output_text output at n (place s b at same within) gap

pub overflow_sub-dest : goal.overflow_sub-dest
overflow_sub-dest c =
    let s = store_of c.self.inside in
    let n = longer s _ _ c.args.at _ c.self.view_is c.requires.within (gap _ _ _ c.args.at _ c.reserve.ensures.same c.in-Ok-open_gap.ensures.ok) in
    omega (arith, n, c.len-len.ensures.value, c.len.ensures.value)

pub overflow_add-dest : goal.overflow_add-dest
overflow_add-dest c =
    let s = store_of c.self.inside in
    omega (arith, place s _ c.args.at c.self.view_is c.requires.within, c.len-len.ensures.value, c.len.type_inv)

pub shift-requires-clause-fits : goal.shift-requires-clause-fits
shift-requires-clause-fits c =
    let s = store_of c.self.inside in
    let n = longer s _ _ c.args.at _ c.self.view_is c.requires.within (gap _ _ _ c.args.at _ c.reserve.ensures.same c.in-Ok-open_gap.ensures.ok) in
    let within = place s _ c.args.at c.self.view_is c.requires.within in
    omega (arith, n, within, c.len-len.ensures.value, c.len.ensures.value, c.len.type_inv)

moved_by : (c : goal.After-shift-2) → c.args.at + (c.len.result - c.len-len.result) ≡ c.args.at + c.args.n
moved_by c =
    let s = store_of c.self.inside in
    let n = longer s _ _ c.args.at _ c.self.view_is c.requires.within (gap _ _ _ c.args.at _ c.reserve.ensures.same c.in-Ok-open_gap.ensures.ok) in
    omega (arith, n, c.len-len.ensures.value, c.len.ensures.value)

pub invariant_of-self-2 : goal.invariant_of-self-2
invariant_of-self-2 c =
    let s = store_of c.self.inside in
    let at = c.args.at in
    let a = c.in-Ok-spill_torn.ensures in
    (IsStore-opened s _ _ _ _ _ _ at c.args.n _ _ (c.as_slice.ensures.value ∙ c.reserve.ensures.same) (spilled _ _ _ _ _ _ _ _ c.reserve-2.ensures.same c.spill_torn.ensures.spilled)
    a.saved_apart a.args_apart c.shift.ensures.value c.shift-2.ensures.value
    c.self.invariant (low s _ at c.self.view_is c.requires.inner) (place s _ at c.self.view_is c.requires.within)
    c.len-len.ensures.value (moved_by c) _ (gap _ _ _ c.args.at _ c.reserve.ensures.same c.in-Ok-open_gap.ensures.ok))

pub returns-clause-gap : goal.returns-clause-gap
returns-clause-gap c =
    let s = store_of c.self.inside in
    let at = c.args.at in
    let a = c.in-Ok-spill_torn.ensures in
    rw (← c.self.view_is)
    (IsGap-opened s _ _ _ _ _ _ at c.args.n _ _ (c.as_slice.ensures.value ∙ c.reserve.ensures.same) (spilled _ _ _ _ _ _ _ _ c.reserve-2.ensures.same c.spill_torn.ensures.spilled)
    a.saved_apart a.args_apart c.shift.ensures.value c.shift-2.ensures.value
    c.self.invariant (low s _ at c.self.view_is c.requires.inner) (place s _ at c.self.view_is c.requires.within)
    c.len-len.ensures.value (moved_by c) _ (gap _ _ _ c.args.at _ c.reserve.ensures.same c.in-Ok-open_gap.ensures.ok))

pub torn_len-requires : goal.torn_len-requires
torn_len-requires c = grind arith

pub invariant_of-self : goal.invariant_of-self
invariant_of-self c = grind arith

pub invariant_of-self-in-Err-reserve : goal.invariant_of-self-in-Err-reserve
invariant_of-self-in-Err-reserve c = grind arith

pub spill_torn-requires : goal.spill_torn-requires
spill_torn-requires c = grind arith

pub invariant_of-self-in-Err-spill_torn : goal.invariant_of-self-in-Err-spill_torn
invariant_of-self-in-Err-spill_torn c = grind arith

pub open_gap-requires : goal.open_gap-requires
open_gap-requires c = grind arith

pub invariant_of-self-in-Err-open_gap : goal.invariant_of-self-in-Err-open_gap
invariant_of-self-in-Err-open_gap c = grind arith

pub shift-requires-clause-ordered : goal.shift-requires-clause-ordered
shift-requires-clause-ordered c = grind arith

pub shift-requires-clause-block : goal.shift-requires-clause-block
shift-requires-clause-block c = grind arith

pub shift-requires-clause-apart : goal.shift-requires-clause-apart
shift-requires-clause-apart c = grind arith

pub shift-requires-2 : goal.shift-requires-2
shift-requires-2 c = grind arith
