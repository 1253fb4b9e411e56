use Rattle.std.proofs.Common.{ℕ, List, codes, take, drop, subst}
use Rattle.std.proofs.lemmas.List.{take_rest}
use Rattle.cxx_printer.specs.Prints.{Prints}
use Rattle.cxx_printer.specs.Symbol.{pieces_behind}
use Rattle.cxx_printer.proofs.Symbols.{pieces_text-some, prints_three}
use Rattle.cxx_printer.proofs.symbol.print_pieces.Goals as goal

pub returns-in-Ok-write : goal.returns-in-Ok-write
returns-in-Ok-write c =
    let bs = c.args.suffix.now in
    let r = c.print_behind.result in
    let new = c.print_behind.new.out in
    let behind =
    subst (λ (l : List ℕ). Prints r c.write-in-len1-up.new.out new (pieces_behind l)) (take_rest bs 1)
    c.print_behind.ensures.prints in
    record {
      prints = subst (Prints r c.args.out.now new) (pieces_text-some bs c.in-len1-up.len_at_least)
          (prints_three r c.args.out.now c.write.new.out c.write-in-len1-up.new.out new (codes " [clone ") (take 1 bs)
          (pieces_behind (drop 1 bs)) c.in-Ok.ensures.prints c.in-Ok-write.ensures.prints behind);
    }
