use Rattle.std.proofs.Common.{rules, ◌≡◌, ◌+◌, ◌-◌, ◌≤◌, ◌++◌, List, ℕ, length, take, drop, slice_range, arith, sym, ap, ◌∙◌}
use Rattle.std.proofs.lemmas.List.{length-take-le, with_items_is, places}
use Rattle.std.proofs.lemmas.List.Edits.{length-between}
use Rattle.growing_text.proofs.Fronts.{front-put}
use Rattle.growing_text.proofs.Parts.{part-take}
use Rattle.growing_text.proofs.text.Text.put_part.Goals as goal

pub returns-clause-value : goal.returns-clause-value
returns-clause-value c =
    let ys = c.self.inside.bytes.items in
    let len = c.self.inside.len in
    let at = c.args.at in
    let from = c.args.from in
    let to = c.args.to in
    let k = to - from in
    let front = c.split_at_mut-front.result.0.now in
    let rest = c.split_at_mut-front.result.1.now in
    let part = slice_range (take len ys) from to in
    let long : length (take len ys) ≡ len = length-take-le len ys c.self.invariant in
    let within : at + k ≤ len = omega (arith, long, ap length c.self.view_is) in
    let low : front ≡ take at ys = c.split_at_mut-front.ensures.front ∙ ap (take at) c.deref_mut.ensures.value in
    let high : rest ≡ drop at ys = c.split_at_mut-front.ensures.back ∙ ap (drop at) c.deref_mut.ensures.value in
    let same : slice_range front from to ≡ part =
    ap (λ (v : List ℕ). slice_range v from to) low ∙ part-take ys at from to c.requires.ordered c.requires.before
    ∙ sym (part-take ys len from to c.requires.ordered (omega arith)) in
    let n : length part ≡ k = length-between (take len ys) from to (omega arith) in
    let done = front-put ys part len at k n within c.self.invariant in
    let put = with_items_is c.self.inside.bytes (front ++ (c.copy_text.new.dest ++ drop k rest)) (search (rules, places)) in
    rw (← c.self.view_is) (ap (take len) put
    ∙ ap (λ (v : List ℕ). take len (v ++ (c.copy_text.new.dest ++ drop k rest))) low
    ∙ ap (λ (v : List ℕ). take len (take at ys ++ (c.copy_text.new.dest ++ drop k v))) high
    ∙ ap (λ (v : List ℕ). take len (take at ys ++ (v ++ drop k (drop at ys)))) (c.copy_text.ensures.value ∙ same) ∙ done)
