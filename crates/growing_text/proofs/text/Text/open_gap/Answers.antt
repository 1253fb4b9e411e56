use Rattle.std.proofs.Common.{◌≡◌, ◌+◌, ◌≤◌, List, ℕ, length, take, drop, arith, sym, ap, subst}
use Rattle.std.proofs.lemmas.List.{length-take-le}
use Rattle.growing_text.specs.Gap.{HasGap}
use Rattle.growing_text.proofs.Gaps.{HasGap-opened}
use Rattle.growing_text.proofs.text.Text.open_gap.Goals as goal

pub returns-clause-ok : goal.returns-clause-ok
returns-clause-ok c =
    let ys = c.ensure_capacity.new.bytes.items in
    let len = c.self.inside.len in
    let at = c.args.at in
    let n = c.args.n in
    let same = c.ensure_capacity.ensures.front in
    let long : length (take len c.self.inside.bytes.items) ≡ len = length-take-le len c.self.inside.bytes.items c.self.invariant in
    let within : at ≤ len = omega (arith, long, ap length c.self.view_is) in
    let done = HasGap-opened ys len at n within c.in_ok-ensure_capacity.ensures.capacity in
    let moved = subst (λ (v : List ℕ). HasGap (take at (take len ys)) (drop at (take len ys)) (take (len + n) v) n) (sym c.copy_within.ensures.items) done in
    rw (← c.self.view_is) (subst (λ (v : List ℕ). HasGap (take at v) (drop at v) (take (len + n) c.copy_within.new.self.items) n) same moved)
