use Rattle.std.proofs.Common.{◌≡◌, Err, None, rules, sym, subst}
use Rattle.cxx_demangle.specs.declared.demangler.DemangleError.TheVariants as errors
use Rattle.cosvigle_engine.specs.Printed.{IsPrintedAs, answered, over_limit}
use Rattle.cosvigle_engine.proofs.reader.DeclarationReaderSymbolReader.read.Goals as goal

pub returns-in-Ok-clause-printed : goal.returns-in-Ok-clause-printed
returns-in-Ok-clause-printed c = answered (search rules)

pub returns-in-Err-Limit-clause-printed : goal.returns-in-Err-Limit-clause-printed
returns-in-Err-Limit-clause-printed c =
    let none : c.prepare.new.self.demangler.text ≡ None = search rules in
    subst (IsPrintedAs c.args.printing c.args.symbol.now) (sym none) (over_limit (search rules))
