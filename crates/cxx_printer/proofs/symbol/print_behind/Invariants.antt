use Rattle.std.proofs.Common.{◌≡◌, ◌++◌, drop}
use Rattle.cxx_printer.specs.Symbol.{pieces_behind}
use Rattle.cxx_printer.proofs.symbol.print_behind.Given as goal

abbrev pub invariant-loop-k : goal.invariant-loop-k
invariant-loop-k l = l.fn.out ++ pieces_behind l.behind ≡ l.out ++ pieces_behind (drop l.k l.behind)
