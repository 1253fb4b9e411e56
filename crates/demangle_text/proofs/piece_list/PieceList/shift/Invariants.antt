-- the pieces so far are carried along, and have their reaches
use Rattle.std.proofs.Common.{◌≡◌, ◌++◌, map, take, drop, length}
use Rattle.std.specs.List.{AllWithin}
use Rattle.demangle_text.specs.Pieces.{AreReached, EndsBy, carried, pieces_of, reaches_of}
use Rattle.demangle_text.proofs.piece_list.PieceList.shift.Given as goal

abbrev pub invariant-loop-i : goal.invariant-loop-i
invariant-loop-i l = record {
  value : pieces_of l.self-inside.entries.items ≡ map (carried l.block.low l.block.from l.dest) (take l.i (pieces_of l.initial.self-inside.entries.items)) ++ drop l.i (pieces_of l.initial.self-inside.entries.items);
  reached : AreReached (pieces_of l.self-inside.entries.items) (reaches_of l.self-inside.entries.items) l.i;
  ends : AllWithin (EndsBy l.reach) (pieces_of l.self-inside.entries.items) 0 l.i;
  long : length l.self-inside.entries.items ≡ length l.initial.self-inside.entries.items;
  count : l.self-inside.count ≡ l.initial.self-inside.count;
}
