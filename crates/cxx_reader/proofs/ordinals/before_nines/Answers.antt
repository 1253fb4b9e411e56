use Rattle.std.proofs.Common.{arith}
use Rattle.cxx_reader.proofs.Digits.{no_digits, nine_more}
use Rattle.cxx_reader.proofs.ordinals.before_nines.Goals as goal

pub loop-k-init : goal.loop-k-init
loop-k-init c = record { within = omega arith; more = no_digits c.args.digits.now }

pub loop-k-preserved : goal.loop-k-preserved
loop-k-preserved c =
    let inv = c.loop-k.invariant in
    record {
      within = omega (arith, inv.within);
      more = nine_more c.args.digits.now c.loop-k.k (omega (arith, c.loop-k-test.true)) inv.within (omega (arith, c.if-digits-k-ge57.true)) inv.more;
    }
