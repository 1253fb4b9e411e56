use Rattle.std.proofs.Common.{◌+◌, ◌-◌, ◌<◌, ◌≢◌, length, drop, get_or, arith}
use Rattle.std.proofs.lemmas.List.{length-drop, length-take}
use Rattle.text_filter.specs.Progress.{underscore}
use Rattle.text_filter.proofs.WordPlaces.{prefix_found, none_past, none_left}
use Rattle.text_filter.proofs.prefixes.first_prefix.Goals as goal
use Rattle.text_filter.proofs.prefixes.first_prefix.Goals.{else-place-gt0-via-then-place-gt0+else-bytes-place-eq-UNDERSCORE, else-place-gt0-via-else-place-gt0}

pub returns-then-bytes-place-eq-UNDERSCORE-clause-found :
    goal.returns-then-bytes-place-eq-UNDERSCORE-clause-found
returns-then-bytes-place-eq-UNDERSCORE-clause-found c =
    prefix_found c.args.bytes.now c.loop-more.at c.in-Some.more c.loop-more.invariant.inside c.loop-more.invariant.none c.in-Some.ensures.found
    c.if-place-gt0.true c.if-bytes-place-eq-UNDERSCORE.true

pub loop-more-preserved : goal.loop-more-preserved
loop-more-preserved c =
    let bytes = c.args.bytes.now in
    let at = c.loop-more.at in
    let more = c.in-Some.more in
    let other : 0 < at + more → get_or bytes (at + more - 1) 0 ≢ underscore =
    elim c.else-place-gt0.branch [
      | else-place-gt0-via-then-place-gt0+else-bytes-place-eq-UNDERSCORE w ↦ λ _. w.if-bytes-place-eq-UNDERSCORE.false
      | else-place-gt0-via-else-place-gt0 w ↦ λ some. absurd (omega (arith, some, w.if-place-gt0.false))
    ] in
    record {
      inside = omega (arith, c.in-Some.ensures.found.inside, length-take (length bytes - at) (drop at bytes), length-drop at bytes);
      none = none_past bytes at more c.loop-more.invariant.none c.in-Some.ensures.found other;
    }

pub returns-clause-none : goal.returns-clause-none
returns-clause-none c = none_left c.args.bytes.now c.loop-more.at c.loop-more.invariant.none c.in_default.ensures.none
