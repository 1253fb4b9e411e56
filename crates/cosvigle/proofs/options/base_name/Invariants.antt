use Rattle.std.proofs.Common.{◌≡◌, ◌≤◌, drop}
use Rattle.cosvigle.specs.Options.{base_name, past_slashes}
use Rattle.cosvigle.proofs.options.base_name.Given as goal

abbrev pub invariant-loop-at : goal.invariant-loop-at
invariant-loop-at l =
    record {
      low : l.from ≤ l.at;
      value : base_name l.path ≡ past_slashes (drop l.from l.path) (drop l.at l.path);
    }
