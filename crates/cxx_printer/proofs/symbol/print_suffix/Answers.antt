use Rattle.std.proofs.Common.{Bool, codes, sym, subst, ◌∙◌, if◌then◌else◌}
use Rattle.cxx_printer.specs.Prints.{Prints}
use Rattle.cxx_printer.specs.Symbol.{in_parens, pieces_text, suffix_text}
use Rattle.cxx_printer.proofs.Symbols.{prints_three}
use Rattle.cxx_printer.proofs.symbol.print_suffix.Goals as goal

pub returns : goal.returns
unfolding suffix_text in_parens
returns c =
    let bytes = c.args.suffix.now in
    let r = c.write-3.result in
    let new = c.write-3.new.out in
    record {
      prints = subst (λ (b : Bool). Prints r c.args.out.now new (if b then in_parens bytes else pieces_text bytes)) (sym c.if-not-is_llvm.false ∙ c.is_llvm.ensures.value)
          (prints_three r c.args.out.now c.write.new.out c.write-2.new.out new (codes " (") bytes (codes ")") c.in-Ok.ensures.prints c.in-Ok-write.ensures.prints c.write-3.ensures.prints);
    }
