-- Bytes between two texts that meet at the end, or the first text and bytes in front of a second one there, or bytes and
-- the second text after the first.
use Rattle.std.proofs.Common.{rules, ◌-◌, length, ap, ◌∙◌, subst, arith, sym}
use Rattle.std.proofs.lemmas.Bool.{false≢true}
use Rattle.std.proofs.lemmas.Grind.{common_steps}
use Rattle.demangle_text.proofs.States.{internals}
use Rattle.demangle_text.specs.Pieces.{IsAt, IsTail, IsAdjacent, IsJoint, EndsBy, whole_outline}
use Rattle.demangle_text.specs.State.{IsLiving}
use Rattle.demangle_text.specs.View.{store_of}
use Rattle.demangle_text.proofs.Tails.{IsJoint-inserted, IsJoint-moved, Lives-joined, IsJoinOf-joint}
use Rattle.demangle_text.proofs.AtEnd.{tail-is, is-tail, adjacent-is, is-adjacent, adjacent-tail, IsJoint-spliced}
use Rattle.demangle_text.proofs.buffer.Buffer.join.Goals as goal
use Rattle.demangle_text.proofs.buffer.Buffer.join.Goals.{then-is_tail+else-is_tail-2+else-first+else-first-second, else-is_tail}

adjacent : (c : goal.After-whole_at) → IsJoint c.args.self.now c.insert_at.new.self c.args.first c.args.bytes.now c.args.second c.args.first.from_byte
unfolding IsLiving
adjacent c =
    let b = c.args.self.now in
    let s = store_of c.self.inside in
    let tail = tail-is s b c.args.second c.len.result c.self.view_is c.len.ensures.value (c.is_tail.ensures.tail c.if-is_tail.true) in
    let meets = adjacent-is s b c.args.first c.args.second c.self.view_is (c.is_tail-then-is_tail.ensures.tail c.if-is_tail-2.true) tail in
    IsJoint-inserted b c.insert_at.new.self c.args.first c.args.bytes.now c.args.second meets
    c.requires.first_living.ordered c.requires.second_living.ordered c.in-Ok.ensures.output

pub returns-then-is_tail-2-clause-shape : goal.returns-then-is_tail-2-clause-shape
returns-then-is_tail-2-clause-shape c =
    let k = c.len-then-is_tail-2.ensures.value ∙ ap (λ b. length b.output_text) c.self-then-is_tail-2.view_is in
    Lives-joined c.args.self.now c.insert_at.new.self c.args.first c.args.second c.whole_at.result c.args.bytes.now _ c.requires.first_living c.requires.second_living (adjacent c)
    (subst (IsAt c.whole_at.result c.args.first.from_byte) k c.whole_at.ensures.stands)
    (c.whole_at.ensures.outline ∙ ap (λ j. whole_outline (j - c.args.first.from_byte)) k)

pub returns-then-is_tail-2-clause-join_of : goal.returns-then-is_tail-2-clause-join_of
returns-then-is_tail-2-clause-join_of c =
    let k = c.len-then-is_tail-2.ensures.value ∙ ap (λ b. length b.output_text) c.self-then-is_tail-2.view_is in
    IsJoinOf-joint c.args.self.now c.insert_at.new.self c.args.first c.args.second c.whole_at.result c.args.bytes.now _ c.requires.first_living c.requires.second_living (adjacent c)
    (subst (IsAt c.whole_at.result c.args.first.from_byte) k c.whole_at.ensures.stands)

moved : (c : goal.After-whole_at-then-first) → IsJoint c.args.self.now c.insert_piece.new.self c.args.first c.args.bytes.now c.args.second c.args.second.from_byte
unfolding IsLiving
moved c =
    let b = c.args.self.now in
    let s = store_of c.self.inside in
    let apart = λ (h : IsAdjacent b c.args.first c.args.second).
    let t = c.is_tail-then-is_tail.ensures.other (is-adjacent s b c.args.first c.args.second c.self.view_is h) in
    let f = c.if-is_tail-2.false in let k : ⊥ = false≢true (sym f ∙ t) in k in
    let tail = tail-is s b c.args.second c.len.result c.self.view_is c.len.ensures.value (c.is_tail.ensures.tail c.if-is_tail.true) in
    let before : EndsBy c.args.second.from_byte c.args.first = search rules in
    IsJoint-moved b c.insert_piece.new.self c.args.first c.args.bytes.now c.args.second apart tail before c.requires.second_living.ordered c.in-Ok-insert_piece.ensures.output

pub returns-then-first-clause-shape : goal.returns-then-first-clause-shape
returns-then-first-clause-shape c =
    let q = c.whole_at-then-first in
    let from = c.args.second.from_byte in
    let k = c.len-then-first.ensures.value ∙ ap (λ b. length b.output_text) c.self-then-first.view_is in
    Lives-joined c.args.self.now c.insert_piece.new.self c.args.first c.args.second q.result c.args.bytes.now _ c.requires.first_living c.requires.second_living (moved c)
    (subst (IsAt q.result from) k q.ensures.stands) (q.ensures.outline ∙ ap (λ j. whole_outline (j - from)) k)

pub returns-then-first-clause-join_of : goal.returns-then-first-clause-join_of
returns-then-first-clause-join_of c =
    let q = c.whole_at-then-first in
    let k = c.len-then-first.ensures.value ∙ ap (λ b. length b.output_text) c.self-then-first.view_is in
    IsJoinOf-joint c.args.self.now c.insert_piece.new.self c.args.first c.args.second q.result c.args.bytes.now _ c.requires.first_living c.requires.second_living (moved c)
    (subst (IsAt q.result c.args.second.from_byte) k q.ensures.stands)

extended : (c : goal.After-whole_at-2) → IsJoint c.args.self.now c.extend_by.new.self c.args.first c.args.bytes.now c.args.second c.in-Ok-extend_by.value
extended c =
    let b = c.args.self.now in
    let s = store_of c.self.inside in
    let one = c.args.first in
    let two = c.args.second in
    let there = λ (h : IsTail b two). c.is_tail.ensures.other (is-tail s b two c.len.result c.self.view_is c.len.ensures.value h) in
    let apart = λ (h : IsAdjacent b one two).
    let k : ⊥ = elim c.if-is_tail.branch [
      | then-is_tail+else-is_tail-2+else-first+else-first-second w ↦
          let t = w.is_tail-then-is_tail.ensures.other (is-adjacent s b one two c.self.view_is h) in
          let f = w.if-is_tail-2.false in let k : ⊥ = false≢true (sym f ∙ t) in k
      | else-is_tail w ↦
          let t = there (adjacent-tail b one two c.requires.first_living h) in let f = w.if-is_tail.false in let k : ⊥ = false≢true (sym f ∙ t) in k
    ] in k in
    let later = λ (h : IsTail b two) (before : EndsBy two.from_byte one).
    let t = there h in
    let k : ⊥ = elim c.if-is_tail.branch [
      | then-is_tail+else-is_tail-2+else-first+else-first-second w ↦ let k : ⊥ = omega (arith, before w.if-first.false, w.if-first-second.false) in k
      | else-is_tail w ↦ let f = w.if-is_tail.false in let k : ⊥ = false≢true (sym f ∙ t) in k
    ] in k in
    IsJoint-spliced b c.extend_by.new.self one c.args.bytes.now two c.in-Ok-extend_by.value apart later c.requires.first_living c.in-Ok-extend_by.ensures.splice

pub returns-clause-shape : goal.returns-clause-shape
returns-clause-shape c =
    let from = c.in-Ok-extend_by.value in
    let k = c.len-2.ensures.value ∙ ap (λ b. length b.output_text) c.self-2.view_is in
    Lives-joined c.args.self.now c.extend_by.new.self c.args.first c.args.second c.whole_at-2.result c.args.bytes.now from c.requires.first_living c.requires.second_living (extended c)
    (subst (IsAt c.whole_at-2.result from) k c.whole_at-2.ensures.stands)
    (c.whole_at-2.ensures.outline ∙ ap (λ j. whole_outline (j - from)) k)

pub returns-clause-join_of : goal.returns-clause-join_of
returns-clause-join_of c =
    let from = c.in-Ok-extend_by.value in
    let k = c.len-2.ensures.value ∙ ap (λ b. length b.output_text) c.self-2.view_is in
    IsJoinOf-joint c.args.self.now c.extend_by.new.self c.args.first c.args.second c.whole_at-2.result c.args.bytes.now from c.requires.first_living c.requires.second_living (extended c)
    (subst (IsAt c.whole_at-2.result from) k c.whole_at-2.ensures.stands)

pub returns-in-Err : goal.returns-in-Err
unfolding internals
returns-in-Err c = grind arith

pub whole_at-requires : goal.whole_at-requires
unfolding internals
whole_at-requires c = grind (arith, common_steps)

pub returns-then-is_tail-2-clause-edit : goal.returns-then-is_tail-2-clause-edit
returns-then-is_tail-2-clause-edit c = grind arith

pub insert_piece-requires : goal.insert_piece-requires
unfolding internals
insert_piece-requires c = grind arith

pub returns-in-Err-insert_piece : goal.returns-in-Err-insert_piece
unfolding internals
returns-in-Err-insert_piece c = grind arith

pub whole_at-requires-then-first : goal.whole_at-requires-then-first
unfolding internals
whole_at-requires-then-first c = grind (arith, common_steps)

pub returns-then-first-clause-edit : goal.returns-then-first-clause-edit
returns-then-first-clause-edit c = grind arith

pub returns-in-Err-extend_by : goal.returns-in-Err-extend_by
unfolding internals
returns-in-Err-extend_by c = grind arith

pub returns-clause-edit : goal.returns-clause-edit
returns-clause-edit c = grind arith
