-- `lists::fill_on` meets its contract. The invariant: what is to be stored is what has been, and what is left at the place; a turn is a run.
use Prim.Native.Nat.{◌-◌}
use lib.ListN.{length}
use Rattle.lists.specs.Runs.{Filled}
use Rattle.lists.proofs.fill_on.Given as goal

abbrev pub invariant-loop-end : goal.invariant-loop-end
invariant-loop-end l = Filled l.kind l.s l.initial.values l.initial.octets l.at 0 l.values l.octets l.from.next.at l.from.count

abbrev pub decreases-loop-end : goal.decreases-loop-end
decreases-loop-end l = length l.s - l.from.next.at
