use Rattle.std.proofs.Common.{◌+◌, sym, ap, ◌∙◌, arith}
use Rattle.std.proofs.lemmas.List.{take_rest}
use Rattle.std.proofs.lemmas.Grind.{common_steps}
use Rattle.cosvigle.specs.Options.{after_value}
use Rattle.cosvigle.proofs.Steps.{letters_value}
use Rattle.cosvigle.proofs.options.after_letters.Goals as goal

pub returns-in-NeedsValue : goal.returns-in-NeedsValue
returns-in-NeedsValue c =
    let argument = c.args.argument.now in
    let at = c.loop-at.at in
    record {
      value =
          c.after_value.ensures.value ∙ ap (after_value c.in-NeedsValue.next c.in-NeedsValue.option) (take_rest argument (at + 1))
          ∙ sym (c.loop-at.invariant ∙ letters_value c.loop-at.flags c.in-NeedsValue.next c.in-NeedsValue.option argument at (omega arith) (sym c.after_letter.ensures.value ∙ c.in-NeedsValue.is));
    }

pub returns-in_default : goal.returns-in_default
returns-in_default c = grind (arith, common_steps)

pub loop-at-preserved : goal.loop-at-preserved
loop-at-preserved c = grind (arith, common_steps)

pub returns : goal.returns
returns c = grind (arith, common_steps)
