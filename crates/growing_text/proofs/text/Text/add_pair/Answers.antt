-- Both texts stand after what was there, one after the other.
use Rattle.std.proofs.Common.{rules, ◌≡◌, ◌+◌, ◌++◌, List, ℕ, length, take, drop, arith, sym, ap, ◌∙◌, append_assoc}
use Rattle.std.proofs.lemmas.List.{length-append, length-take-le, take_at, with_items_is, places}
use Rattle.growing_text.proofs.text.Text.add_pair.Goals as goal

pub returns-clause-ok : goal.returns-clause-ok
returns-clause-ok c =
    let s = c.self.inside in
    let old = c.args.self.now in
    let one = c.args.first.now in
    let two = c.args.second.now in
    let front = c.split_at_mut-spare.result.0.now in
    let tail = drop (length two) c.split_at_mut-front.result.1.now in
    let end = s.len + (length one + length two) in
    let front_is : front ≡ old =
    c.split_at_mut-spare.ensures.front ∙ ap (take s.len) c.deref_mut.ensures.value ∙ c.ensure_capacity.ensures.front ∙ c.self.view_is in
    let items = with_items_is c.ensure_capacity.new.bytes (front ++ (c.copy_text.new.dest ++ (c.copy_text-2.new.dest ++ tail))) (search (rules, places)) in
    let long : length (old ++ (one ++ two)) ≡ end =
    omega (arith, length-append old (one ++ two), length-append one two, ap length c.self.view_is, length-take-le s.len s.bytes.items c.self.invariant) in
    ap (take end) (items ∙ ap (λ (v : List ℕ). v ++ (c.copy_text.new.dest ++ (c.copy_text-2.new.dest ++ tail))) front_is
    ∙ ap (λ (v : List ℕ). old ++ (v ++ (c.copy_text-2.new.dest ++ tail))) c.copy_text.ensures.value
    ∙ ap (λ (v : List ℕ). old ++ (one ++ (v ++ tail))) c.copy_text-2.ensures.value
    ∙ ap (λ (v : List ℕ). old ++ v) (sym (append_assoc one two tail)) ∙ sym (append_assoc old (one ++ two) tail))
    ∙ take_at (old ++ (one ++ two)) tail end long
