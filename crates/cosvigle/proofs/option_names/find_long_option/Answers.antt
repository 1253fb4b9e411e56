use Rattle.std.proofs.Common.{codes, sym, ◌∙◌}
use Rattle.cosvigle.proofs.Steps.{name_begins, long_first, long_second, long_third, long_none}
use Rattle.cosvigle.proofs.option_names.find_long_option.Goals as goal

pub returns-then-starts_with : goal.returns-then-starts_with
returns-then-starts_with c =
    let bytes = c.args.bytes.now in
    record { value = long_first bytes (sym (c.starts_with.ensures.value ∙ name_begins bytes (codes "max-memory")) ∙ c.if-starts_with.true) }

pub returns-then-starts_with-2 : goal.returns-then-starts_with-2
returns-then-starts_with-2 c =
    let bytes = c.args.bytes.now in
    record {
      value =
          long_second bytes (sym (c.starts_with.ensures.value ∙ name_begins bytes (codes "max-memory")) ∙ c.if-starts_with.false)
          (sym (c.starts_with-2.ensures.value ∙ name_begins bytes (codes "no-return")) ∙ c.if-starts_with-2.true);
    }

pub returns-then-starts_with-3 : goal.returns-then-starts_with-3
returns-then-starts_with-3 c =
    let bytes = c.args.bytes.now in
    record {
      value =
          long_third bytes (sym (c.starts_with.ensures.value ∙ name_begins bytes (codes "max-memory")) ∙ c.if-starts_with.false)
          (sym (c.starts_with-2.ensures.value ∙ name_begins bytes (codes "no-return")) ∙ c.if-starts_with-2.false)
          (sym (c.starts_with-3.ensures.value ∙ name_begins bytes (codes "style")) ∙ c.if-starts_with-3.true);
    }

pub returns : goal.returns
returns c =
    let bytes = c.args.bytes.now in
    record {
      value =
          long_none bytes (sym (c.starts_with.ensures.value ∙ name_begins bytes (codes "max-memory")) ∙ c.if-starts_with.false)
          (sym (c.starts_with-2.ensures.value ∙ name_begins bytes (codes "no-return")) ∙ c.if-starts_with-2.false)
          (sym (c.starts_with-3.ensures.value ∙ name_begins bytes (codes "style")) ∙ c.if-starts_with-3.false);
    }
