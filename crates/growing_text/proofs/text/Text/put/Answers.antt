use Rattle.std.proofs.Common.{rules, ◌≡◌, ◌+◌, ◌-◌, ◌≤◌, ◌++◌, List, ℕ, length, take, drop, arith, ap, refl, ◌∙◌}
use Rattle.std.proofs.lemmas.List.{length-take-le, with_items_is, places}
use Rattle.growing_text.proofs.Fronts.{front-put}
use Rattle.growing_text.proofs.text.Text.put.Goals as goal

pub returns-clause-value : goal.returns-clause-value
returns-clause-value c =
    let ys = c.self.inside.bytes.items in
    let len = c.self.inside.len in
    let at = c.args.at in
    let n = length c.args.bytes.now in
    let r = c.deref_mut.result.now in
    let long : length (take len ys) ≡ len = length-take-le len ys c.self.invariant in
    let within : at + n ≤ len = omega (arith, long, ap length c.self.view_is) in
    let k : at + n - at ≡ n = omega arith in
    let done = front-put ys c.args.bytes.now len at n refl within c.self.invariant in
    let put = with_items_is c.self.inside.bytes (take at r ++ (c.copy_text.new.dest ++ drop (at + n - at) (drop at r))) (search (rules, places)) in
    let put_at : ℕ → List ℕ → List ℕ → List ℕ = λ i bs v. take len (take at v ++ (bs ++ drop i (drop at v))) in
    rw (← c.self.view_is) (ap (take len) put
    ∙ ap (put_at (at + n - at) c.copy_text.new.dest) c.deref_mut.ensures.value
    ∙ ap (λ (bs : List ℕ). put_at (at + n - at) bs ys) c.copy_text.ensures.value
    ∙ ap (λ (i : ℕ). put_at i c.args.bytes.now ys) k ∙ done)
