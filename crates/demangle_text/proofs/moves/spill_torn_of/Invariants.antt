use Rattle.std.proofs.Common.{◌≡◌, map, All, length}
use Rattle.std.specs.List.{AllWithin}
use Rattle.demangle_text.specs.Pieces.{IsPiece, shape_in, IsApart, Extends}
use Rattle.demangle_text.proofs.moves.spill_torn_of.Given as goal

abbrev pub invariant-loop-i : goal.invariant-loop-i
invariant-loop-i l = record {
  spill : Extends l.fn.spill l.spill;
  lie : All (IsPiece l.output l.spill) l.pieces;
  shapes : map (shape_in l.output l.spill) l.pieces ≡ map (shape_in l.fn.output l.fn.spill) l.fn.pieces;
  long : length l.pieces ≡ length l.fn.pieces;
  apart : AllWithin (IsApart l.block.low l.block.from l.block.end) l.pieces 0 l.i;
}
