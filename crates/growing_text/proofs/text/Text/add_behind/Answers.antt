-- The word and the text stand after what was there.
use Rattle.std.proofs.Common.{rules, ◌≡◌, ◌+◌, ◌++◌, ℕ, length, take, arith, ap, ◌∙◌}
use Rattle.std.proofs.lemmas.List.{length-take-le, with_items_is, places}
use Rattle.growing_text.proofs.Rows.{row}
use Rattle.growing_text.proofs.text.Text.add_behind.Goals as goal

pub returns-clause-ok : goal.returns-clause-ok
returns-clause-ok c =
    let s = c.self.inside in
    let old = c.args.self.now in
    let both = c.args.word.now ++ c.args.text.now in
    let n = length c.args.word.now + length c.args.text.now in
    let front = c.split_at_mut-spare.result.0.now in
    let back = c.put_behind.new.spare in
    let front_is : front ≡ old = c.split_at_mut-spare.ensures.front ∙ ap (take s.len) c.deref_mut.ensures.value ∙ c.self.view_is in
    let items = with_items_is s.bytes (front ++ back) (search (rules, places)) in
    let long : s.len ≡ length old = omega (arith, ap length c.self.view_is, length-take-le s.len s.bytes.items c.self.invariant) in
    ap (take (s.len + n)) items ∙ ap (λ (k : ℕ). take (k + n) (front ++ back)) long ∙ row old both front back n front_is c.put_behind.ensures.value
