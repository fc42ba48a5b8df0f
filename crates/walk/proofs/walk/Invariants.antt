-- `walk::walk` meets its contract. The invariant, `Walking`: what the walk counts is what is passed and what is left at the place. The
-- measure: types rise.
use Prim.Native.Nat.{◌-◌}
use Rattle.walk.specs.Turns.{Walking}
use Rattle.walk.proofs.walk.Given as goal

abbrev pub invariant-loop-reading : goal.invariant-loop-reading
invariant-loop-reading l = Walking l.reading l.s l.stop l.passed.at l.passed.previous l.passed.operators

abbrev pub decreases-loop-reading : goal.decreases-loop-reading
decreases-loop-reading l = 13 - l.passed.previous
