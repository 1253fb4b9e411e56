use Rattle.std.proofs.Common.{arith, ◌∙◌}
use Rattle.std.proofs.lemmas.Grind.{common_steps}
use Rattle.text_filter.proofs.WrittenBeginnings.{more_written}
use Rattle.text_filter.proofs.output.write_all.Goals as goal

pub loop-rest-preserved : goal.loop-rest-preserved
loop-rest-preserved g c =
    record {
      not_failed = c.in-Ok.ensures.stays ∙ c.loop-rest.invariant.not_failed;
      in_time = c.in-Ok.ensures.in_time c.loop-rest.invariant.not_failed ∙ c.loop-rest.invariant.in_time;
      so_far = more_written _ c.loop-rest.rest.now _ c.in-Ok.count _ _ _ c.loop-rest.invariant.so_far (grind (arith, common_steps)) c.in-Ok.ensures.takes;
    }
