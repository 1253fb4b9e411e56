-- The part fills the gap for it.
use Rattle.std.proofs.Common.{◌≡◌, ◌+◌, ◌-◌, ◌++◌, List, [], ℕ, length, take, drop, slice_range, arith, sym, ap, ◌∙◌}
use Rattle.std.proofs.lemmas.List.{append-nil, length-take-le}
use Rattle.std.proofs.lemmas.List.Edits.{length-between}
use Rattle.growing_text.proofs.Parts.{part-append}
use Rattle.growing_text.proofs.Gaps.{length-HasGap, HasGap-made, HasGap-put, HasGap-filled}
use Rattle.growing_text.proofs.text.Text.add_part.Goals as goal

pub put_part-requires : goal.put_part-requires
put_part-requires c =
    let s = c.self.inside in
    let n = c.args.to - c.args.from in
    let gap = HasGap-made s.bytes.items c.ensure_capacity.new.bytes.items c.args.self.now s.len n c.ensure_capacity.ensures.front c.self.view_is c.in_ok-ensure_capacity.ensures.capacity in
    let at = length-take-le s.len s.bytes.items c.self.invariant in
    record {
      ordered = c.requires.ordered;
      before = omega (arith, c.requires.within, at, ap length c.self.view_is);
      within = omega (arith, length-HasGap c.args.self.now [] _ n gap, at, ap length c.self.view_is);
    }

pub returns-clause-ok : goal.returns-clause-ok
returns-clause-ok c =
    let s = c.self.inside in
    let old = c.args.self.now in
    let from = c.args.from in
    let to = c.args.to in
    let n = to - from in
    let all = take (s.len + n) c.ensure_capacity.new.bytes.items in
    let h = HasGap-made s.bytes.items c.ensure_capacity.new.bytes.items old s.len n c.ensure_capacity.ensures.front c.self.view_is c.in_ok-ensure_capacity.ensures.capacity in
    let at = length-take-le s.len s.bytes.items c.self.invariant in
    let part = slice_range old from to in
    let long : length part ≡ n = length-between old from to c.requires.within in
    let same : slice_range all from to ≡ part =
    ap (λ (v : List ℕ). slice_range v from to) h.parts ∙ part-append old (h.gap ++ []) from to c.requires.ordered c.requires.within in
    let is : c.put_part.new.self ≡ take s.len all ++ (part ++ drop (s.len + n) all) =
    c.put_part.ensures.value ∙ ap (λ (v : List ℕ). take s.len all ++ (v ++ drop (s.len + n) all)) same in
    let filled = HasGap-put old [] all part c.put_part.new.self n 0 s.len n h (omega (arith, at, ap length c.self.view_is)) (sym long) (omega arith) is in
    HasGap-filled (old ++ part) [] c.put_part.new.self filled ∙ append-nil (old ++ part)
