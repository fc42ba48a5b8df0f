-- `lists::fill_run` meets its contract, which is the loop's invariant too.
use Prim.Native.Nat.{◌-◌}
use lib.ListN.{length}
use Rattle.lists.specs.Runs.{Filled}
use Rattle.lists.proofs.fill_run.Given as goal

abbrev pub invariant-loop-kind : goal.invariant-loop-kind
invariant-loop-kind g l = Filled l.kind l.s l.initial.values l.initial.octets l.fn.from.next.at l.fn.from.count l.values l.octets l.i l.n

abbrev pub decreases-loop-kind : goal.decreases-loop-kind
decreases-loop-kind g l = length l.s - l.i
