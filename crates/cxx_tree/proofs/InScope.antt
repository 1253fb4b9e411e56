-- A name in a scope.
use Rattle.std.proofs.Common.{ℕ, ◌≡◌, ◌≤◌, false, List, length, arith}
use Rattle.std.proofs.lemmas.Grind.{common_steps}
use Rattle.cxx_tree.specs.declared.counts.Measure as stored
use Rattle.cxx_tree.specs.Tree.{Tree, named, scoped}
use Rattle.cxx_tree.specs.Measure.{Measure, measure}
use Rattle.cxx_tree.specs.Counts.{Row, AreExact}

pub exact-few : (c : stored.Measure) (m : Measure) → Row c m → AreExact m → c.each ≤ 1048576
unfolding Row AreExact
exact-few c m r x = omega (arith, r.0.2, x.0)

-- a name that exceeds a limit does so in a scope
pub name-limit : (s n : Tree) → (measure n).fits ≡ false → (measure (scoped false s n)).fits ≡ false
unfolding measure
name-limit s n f = grind (arith, common_steps)

-- a name of too many bytes, in a scope
pub long-limit : (s : Tree) (bytes : List ℕ) → 1048576 ≤ length bytes → (measure (scoped false s (named bytes))).fits ≡ false
unfolding measure
long-limit s bytes l = grind (arith, common_steps)

pub ruleset in_scope = (exact-few, long-limit)
