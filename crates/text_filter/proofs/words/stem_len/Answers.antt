use Rattle.std.proofs.Common.{◌-◌, length, sym, ◌∙◌, arith}
use Rattle.std.proofs.lemmas.List.{get_or_past}
use Rattle.std.proofs.lemmas.Grind.{common_steps}
use Rattle.text_filter.proofs.WordPlaces.{undotted_at}
use Rattle.text_filter.proofs.words.stem_len.Goals as goal
use Rattle.text_filter.proofs.words.stem_len.Goals.{then-len-eq0-via-then-len-eq0, then-len-eq0-via-else-len-eq0+then-word-len-ne46}

pub returns-then-len-eq0-clause-stem : goal.returns-then-len-eq0-clause-stem
returns-then-len-eq0-clause-stem c =
    let word = c.args.word.now in
    elim c.then-len-eq0.branch [
      | then-len-eq0-via-then-len-eq0 w ↦ undotted_at word (length word) (omega arith)
          (λ dot. absurd (omega (arith, sym (get_or_past word (length word - 1) 0 (omega (arith, w.if-len-eq0.true))) ∙ dot)))
      | then-len-eq0-via-else-len-eq0+then-word-len-ne46 w ↦ undotted_at word (length word) (omega arith) w.if-word-len-ne46.true
    ]

pub returns-else-word-len-eq46-clause-stem : goal.returns-else-word-len-eq46-clause-stem
returns-else-word-len-eq46-clause-stem c = undotted_at c.args.word.now c.loop-len.len c.loop-len.invariant.inside c.if-word-len-eq46.false

pub loop-len-preserved : goal.loop-len-preserved
loop-len-preserved c = grind (arith, common_steps)
