use Rattle.std.proofs.Common.{◌<◌, true, length, slice_range, ap, ◌∙◌, refl, sym, subst, rules, arith}
use Rattle.std.proofs.lemmas.Bool.{false≢true}
use Rattle.std.proofs.lemmas.List.{length-set, get_or_default}
use Rattle.std.proofs.lemmas.List.Elements.{AllWithin-more, AllWithin-more_set}
use Rattle.demangle_text.specs.declared.pieces.Piece.{Piece}
use Rattle.demangle_text.specs.Pieces.{IsApart, IsPiece, Extends, shape_in}
use Rattle.demangle_text.proofs.States.{IsPiece-spilled, shape-spilled, replaced_lie, replaced_shapes, Extends-trans}
use Rattle.demangle_text.proofs.Reaches.{within-apart}
use Rattle.demangle_text.proofs.moves.spill_torn_of.Goals as goal
use Rattle.demangle_text.proofs.moves.spill_torn_of.Goals.{then-is_torn+in-Ok, else-is_torn}

pub loop-i-init : goal.loop-i-init
loop-i-init c = record {
  spill = search rules;
  lie = c.requires.lie;
  shapes = refl;
  long = refl;
  apart = within-apart c.args.pieces.now c.args.block.low c.args.block.from c.args.block.end c.count_ending_by-first.result c.count_ending_by-first.ensures.ends;
}

pub set-requires-clause-ends : goal.set-requires-clause-ends
set-requires-clause-ends c = λ end h home. absurd (false≢true (sym home))

pub loop-i-preserved : goal.loop-i-preserved
loop-i-preserved c =
    let output = c.args.output.now in
    let spill = c.loop-i.spill in
    let ps = c.loop-i.pieces in
    let i = c.loop-i.i in
    let so_far = c.loop-i.invariant in
    let p = c.piece_at-piece.result in
    let apart = IsApart c.args.block.low c.args.block.from c.args.block.end in
    let there : i < length ps = omega (arith, so_far.long, c.len-i-end.ensures.value, c.loop-i-test.true) in
    let is = c.piece_at-piece.ensures.value in
    elim c.if-is_torn.branch [
      | then-is_torn+in-Ok w ↦
          let new = w.add.new.self in
          let added = w.in-Ok.ensures.ok in
          let from = w.len-from.result in
          let to = w.len.result in
          let q : Piece = record p { from_byte = from; to_byte = to; spilled = true } in
          let home = c.is_torn.ensures.torn w.if-is_torn.true in
          let here = subst (IsPiece output spill) (sym is) (so_far.lie i p there) in
          let e : Extends spill new = record { more = slice_range output p.from_byte p.to_byte; all = added } in
          let same = shape-spilled output spill new p from to here home added w.len-from.ensures.value w.len.ensures.value in
          rw (w.spill-is, w.pieces-is, w.set.ensures.value) (record {
            spill = Extends-trans _ _ _ so_far.spill e;
            lie = replaced_lie output spill new ps i q q e so_far.lie (IsPiece-spilled output spill new p from to here home added w.len-from.ensures.value w.len.ensures.value);
            shapes = replaced_shapes output spill new ps i p q there e so_far.lie (same ∙ ap (shape_in output spill) is) ∙ so_far.shapes;
            long = length-set ps i q ∙ so_far.long;
            apart = AllWithin-more_set ps i q there apart so_far.apart (λ h above. absurd (false≢true (sym h)));
          })
      | else-is_torn w ↦
          let stays = c.is_torn.ensures.apart w.if-is_torn.false in
          rw (w.spill-is, w.pieces-is) (record {
            spill = so_far.spill;
            lie = so_far.lie;
            shapes = so_far.shapes;
            long = so_far.long;
            apart = AllWithin-more apart ps 0 i so_far.apart (λ (d : Piece). subst apart (is ∙ get_or_default ps i p d there) stays);
          })
    ]

pub returns-in-Err : goal.returns-in-Err
returns-in-Err c = grind arith
