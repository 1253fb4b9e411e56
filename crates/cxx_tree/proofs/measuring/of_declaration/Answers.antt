use Rattle.cxx_tree.specs.Measure.{measure}
use Rattle.cxx_tree.specs.Stored.{declaration_tree}
use Rattle.cxx_tree.proofs.measuring.of_declaration.Goals as goal

pub returns-in-TemplateParam : goal.returns-in-TemplateParam
unfolding measure declaration_tree
returns-in-TemplateParam c =
    let after = c.join-after.ensures.counts _ _ c.of_list.ensures.counts c.of_parts.ensures.counts in
    let all = c.join.ensures.counts _ _ c.measure-in-TemplateParam.ensures.counts after in
    record { counts = rw c.in-TemplateParam.is (c.around-in-TemplateParam.ensures.counts _ all) }
