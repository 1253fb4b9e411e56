use Rattle.std.proofs.Common.{rules, sym, ◌∙◌}
use Rattle.cosvigle.proofs.Steps.{name_begins, begins_not, begins_whole, begins_more}
use Rattle.cosvigle.proofs.option_names.match_name.Goals as goal

pub returns-then-not-starts_with : goal.returns-then-not-starts_with
returns-then-not-starts_with c =
    let same = sym (c.starts_with.ensures.value ∙ name_begins c.args.bytes.now c.args.name.now) in
    record { value = begins_not c.args.found c.args.bytes.now c.args.name.now c.args.letter (same ∙ search rules) }

pub returns-then-name-bytes : goal.returns-then-name-bytes
returns-then-name-bytes c =
    let same = sym (c.starts_with.ensures.value ∙ name_begins c.args.bytes.now c.args.name.now) in
    record { value = begins_whole c.args.found c.args.bytes.now c.args.name.now c.args.letter (same ∙ search rules) (search rules) }

pub returns : goal.returns
returns c =
    let same = sym (c.starts_with.ensures.value ∙ name_begins c.args.bytes.now c.args.name.now) in
    record { value = c.with_match.ensures.value ∙ begins_more c.args.found c.args.bytes.now c.args.name.now c.args.letter (same ∙ search rules) (search rules) }
