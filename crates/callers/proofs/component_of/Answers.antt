use Rattle.std.proofs.Common.{refl, sym, subst}
use Rattle.itanium_grammar.specs.Answer.{IsAnswer}
use Rattle.callers.proofs.Components.{component_is}
use Rattle.callers.proofs.component_of.Goals as goal

-- the value keeps the symbol's answer, and the component is one of what it keeps
pub returns : goal.returns
returns c =
    let symbol = c.args.symbol.now in
    let last = c.demangle.follows.lender-at-none in
    let kept = rw c.in_ok-demangle.was at c.demangle.follows.holds-at-none in
    let answers = subst (IsAnswer symbol) (sym kept.0) c.in_ok-demangle.ensures.answer in
    ((refl, (λ _. tt), (answers, kept.1)), component_is symbol last.text last.components c.args.i _ answers kept.1.components c.component.ensures.value)
