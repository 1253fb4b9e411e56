use Rattle.std.proofs.Common.{ℕ, ◌+◌, ◌-◌, ◌∙◌, drop, set, arith}
use Rattle.std.proofs.lemmas.List.{length-set, length-drop, take_all}
use Rattle.cxx_tree.proofs.Decimals.{most_digits, none_written, some_digit, one_written, one_fewer, all_written}
use Rattle.cxx_tree.proofs.digits.number_bytes.Goals as goal

pub loop-left-init : goal.loop-left-init
loop-left-init c = record {
  digits = none_written c.args.number c.args.spare.now;
  fit = omega (arith, most_digits c.args.number c.ranges.number.fits);
  within = omega arith;
}

pub overflow_sub-at : goal.overflow_sub-at
overflow_sub-at c = some_digit c.loop-left.left c.loop-left.at (omega arith) c.loop-left.invariant.fit

pub loop-left-preserved : goal.loop-left-preserved
loop-left-preserved c =
    let l = c.loop-left in
    let some = some_digit l.left l.at (omega arith) l.invariant.fit in
    record {
      digits =
          one_written c.args.number l.left l.at l.spare c.loop-left-test.true (omega arith) some l.invariant.within
          l.invariant.digits;
      fit = one_fewer l.left l.at c.loop-left-test.true (omega arith) l.invariant.fit;
      within = omega (arith, length-set {A = ℕ});
    }

pub overflow_sub-at-2 : goal.overflow_sub-at-2
overflow_sub-at-2 c = some_digit c.loop-left.left c.loop-left.at (omega arith) c.loop-left.invariant.fit

pub returns : goal.returns
returns c =
    let l = c.loop-left in
    let all = drop (l.at - 1) (set l.spare (l.at - 1) (48 + l.left)) in
    record {
      value = take_all _ all (omega (arith, length-drop (l.at - 1) (set l.spare (l.at - 1) (48 + l.left))))
          ∙ all_written c.args.number l.left l.at l.spare c.loop-left-test.false
          (some_digit l.left l.at (omega arith) l.invariant.fit) l.invariant.within l.invariant.digits;
    }
