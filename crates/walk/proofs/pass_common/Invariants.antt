-- `walk::pass_common` meets its contract. The invariant is that the walk stands at the next component; types rise.
use Prim.Native.Nat.{◌-◌, ◌≤◌}
use Rattle.walk.specs.Turns.{Walking}
use Rattle.walk.proofs.pass_common.Given as goal

abbrev pub invariant-loop-passed : goal.invariant-loop-passed
invariant-loop-passed l = Walking l.reading l.s l.stop l.passed.at l.passed.previous l.passed.operators × (l.fn.from.previous ≤ l.passed.previous)

abbrev pub decreases-loop-passed : goal.decreases-loop-passed
decreases-loop-passed l = 13 - l.passed.previous
