use Rattle.std.proofs.Common.{◌+◌, sym, ap, ◌∙◌}
use Rattle.std.proofs.lemmas.List.{take_rest}
use Rattle.cosvigle.specs.Options.{after_value}
use Rattle.cosvigle.proofs.Steps.{named_value, named_none}
use Rattle.cosvigle.proofs.options.after_named.Goals as goal

pub returns-in-NeedsValue : goal.returns-in-NeedsValue
returns-in-NeedsValue c =
    let bytes = c.args.bytes.now in
    let len = c.args.len in
    record {
      value =
          c.after_value.ensures.value ∙ ap (after_value c.in-NeedsValue.next c.in-NeedsValue.option) (take_rest bytes (len + 1))
          ∙ sym (named_value c.args.state c.in-NeedsValue.next c.in-NeedsValue.option len bytes c.if-len-bytes.false c.in-NeedsValue.is);
    }

pub returns-in_default : goal.returns-in_default
returns-in_default c =
    record { value = sym (named_none c.args.state c.args.len c.args.bytes.now c.if-len-bytes.false c.in_default.not-NeedsValue) }
