-- `lists::measure_run` meets its contract, which is the loop's invariant too.
use Rattle.std.specs.declared.ops.ControlFlow.TheVariants.{Continue}
use Prim.Native.Nat.{◌-◌}
use lib.ListN.{length}
use Rattle.lists.specs.Lists.{tally}
use Rattle.lists.specs.Runs.{Passed}
use Rattle.lists.proofs.measure_run.Given as goal

abbrev pub invariant-loop-i : goal.invariant-loop-i
invariant-loop-i l = Passed l.code l.bound l.s l.fn.from.next.at l.fn.from.count (Continue (tally l.n l.i))

abbrev pub decreases-loop-i : goal.decreases-loop-i
decreases-loop-i l = length l.s - l.i
