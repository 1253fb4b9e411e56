use Rattle.cxx_tree.specs.Measure.{measure}
use Rattle.cxx_tree.specs.Stored.{tree_of}
use Rattle.cxx_tree.proofs.measuring.of_any.Goals as goal

pub returns-in-Function : goal.returns-in-Function
unfolding measure tree_of
returns-in-Function c =
    let after = c.and_parts-after.ensures.counts _ c.of_list-params.ensures.counts in
    let all = c.join-in-Function.ensures.counts _ _ c.measure-in-Function.ensures.counts after in
    record { counts = rw c.in-Function.is (c.around-in-Function.ensures.counts _ all) }

pub returns-in-Encoding : goal.returns-in-Encoding
unfolding measure tree_of
returns-in-Encoding c =
    let after = c.and_parts-after-in-Encoding.ensures.counts _ c.of_list-params-in-Encoding.ensures.counts in
    let named = c.join-named.ensures.counts _ _ c.measure-in-Encoding.ensures.counts after in
    let all = c.option_and.ensures.counts _ named in
    record { counts = rw c.in-Encoding.is (c.around-in-Encoding.ensures.counts _ all) }
