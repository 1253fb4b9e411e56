use Rattle.std.proofs.Common.{◌≡◌, ◌+◌, ◌-◌, ◌<◌, ◌∷◌, ◌++◌, [], ◌∙◌, length, take, replicate, slice_index, sym, ap, arith, rules}
use Rattle.cxx_reader.proofs.Digits.{digit_more, filled}
use Rattle.cxx_reader.proofs.ordinals.one_more.Goals as goal

pub returns : goal.returns
returns c =
    let xs = c.args.digits.now in
    let k = c.before_nines-k.result in
    let d = slice_index xs (k - 1) + 1 in
    let some : 0 < k = omega (arith, c.if-k-eq0.false) in
    let within = c.before_nines-k.ensures.within in
    let front : c.push.new.self.items ≡ take (k - 1) xs ++ d ∷ [] = search rules in
    let all : c.resize-2.new.self.items ≡ take (length xs) c.push.new.self.items ++ replicate (length xs - length c.push.new.self.items) 48 = search rules in
    record {
      value = all ∙ ap (λ ys. take (length xs) ys ++ replicate (length xs - length ys) 48) front ∙ filled xs k d some within
          ∙ sym (digit_more xs k some within (c.before_nines-k.ensures.digit some) c.before_nines-k.ensures.more);
    }
