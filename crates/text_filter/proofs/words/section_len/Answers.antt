use Rattle.std.proofs.Common.{◌+◌, sym, ap, subst, ◌∙◌, arith}
use Rattle.std.specs.Prelude.{option_map}
use Rattle.std.proofs.lemmas.List.{take_rest}
use Rattle.text_filter.specs.Replaced.{ends_section}
use Rattle.text_filter.proofs.PrefixChars.{section_on, section_here, section_none}
use Rattle.text_filter.proofs.words.section_len.Goals as goal

pub returns-then-ends_section-clause-value : goal.returns-then-ends_section-clause-value
returns-then-ends_section-clause-value c =
    let word = c.args.word.now in
    let at = c.loop-at.at in
    sym (c.loop-at.invariant ∙ ap (option_map (λ n. at + n)) (section_here c.args.strip word at (omega arith)
    (ap (ends_section c.args.strip) (sym (take_rest word at)) ∙ sym c.ends_section.ensures.value ∙ c.if-ends_section.true)))

pub loop-at-preserved : goal.loop-at-preserved
loop-at-preserved c =
    let word = c.args.word.now in
    let at = c.loop-at.at in
    c.loop-at.invariant ∙ section_on c.args.strip word at (omega arith)
    (ap (ends_section c.args.strip) (sym (take_rest word at)) ∙ sym c.ends_section.ensures.value ∙ c.if-ends_section.false)

pub returns-clause-value : goal.returns-clause-value
returns-clause-value c =
    sym (c.loop-at.invariant ∙ ap (option_map (λ n. c.loop-at.at + n)) (section_none c.args.strip c.args.word.now c.loop-at.at (omega arith)))
