use Rattle.std.proofs.Common.{take}
use Rattle.text_filter.specs.Progress.{HasNone}
use Rattle.text_filter.proofs.byte_search.place_from.Given as goal

abbrev pub invariant-loop-place : goal.invariant-loop-place
invariant-loop-place l = HasNone l.wanted (take l.place l.bytes)
