use Rattle.std.proofs.Common.{◌≡◌, ◌+◌, ◌-◌, ◌≤◌, length, take, arith, ap, ◌∙◌}
use Rattle.std.proofs.lemmas.List.{length-take-le}
use Rattle.growing_text.proofs.Fronts.{front-kept}
use Rattle.growing_text.proofs.text.Text.keep_only.Goals as goal

pub returns : goal.returns
returns c =
    let ys = c.self.inside.bytes.items in
    let len = c.self.inside.len in
    let long : length (take len ys) ≡ len = length-take-le len ys c.self.invariant in
    let within : c.args.to ≤ len = omega (arith, long, ap length c.self.view_is) in
    let done = front-kept ys len c.args.from c.args.to c.args.at c.requires.ordered within c.self.invariant c.requires.before in
    record { value = rw (← c.self.view_is) (ap (take (c.args.at + (c.args.to - c.args.from))) c.copy_within.ensures.items ∙ done) }
