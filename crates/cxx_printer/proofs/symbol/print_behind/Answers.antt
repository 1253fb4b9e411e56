use Rattle.std.proofs.Common.{ℕ, List, ◌++◌, ◌+◌, take, drop, ap, ◌∙◌, codes}
use Rattle.std.proofs.lemmas.List.{take_rest}
use Rattle.cxx_printer.specs.Symbol.{between, pieces_behind}
use Rattle.cxx_printer.proofs.Symbols.{pieces_behind-step, pieces_behind-end, so_far-end}
use Rattle.cxx_printer.proofs.Turns.{so_far_step}
use Rattle.cxx_printer.proofs.symbol.print_behind.Goals as goal

pub loop-k-preserved : goal.loop-k-preserved
loop-k-preserved c =
    let bs = c.args.behind.now in
    let k = c.loop-k.k in
    let out = c.loop-k.out in
    let added = c.in-Ok.ensures.prints ∙ ap (λ (l : List ℕ). out ++ (between l ++ take 1 l)) (take_rest bs k) in
    so_far_step c.args.out.now out c.print_byte.new.out (pieces_behind bs) (pieces_behind (drop k bs))
    (between (drop k bs) ++ take 1 (drop k bs)) (pieces_behind (drop (k + 1) bs)) c.loop-k.invariant
    (pieces_behind-step bs k c.loop-k-test.true) added

pub returns : goal.returns
returns c =
    let bs = c.args.behind.now in
    record {
      prints = so_far-end c.write.result c.args.out.now c.loop-k.out c.write.new.out (pieces_behind bs)
          (pieces_behind (drop c.loop-k.k bs)) (codes "]") c.loop-k.invariant
          (pieces_behind-end bs c.loop-k.k c.loop-k-test.false) c.write.ensures.prints;
    }
