-- `lists::measure_on` meets its contract. The invariant: the whole list is what is left of it at the place, after n operators. A turn is one
-- step of any kind and then a run, of which `measure_run` says that it changes nothing of what is left.
use Prim.Native.Nat.{◌-◌, ◌≤◌}
use mathlib.Core.Path.{◌≡◌}
use lib.ListN.{length}
use Rattle.lists.specs.Lists.{list_at}
use Rattle.lists.specs.Runs.{rest}
use Rattle.lists.proofs.measure_on.Given as goal

abbrev pub invariant-loop-i : goal.invariant-loop-i
invariant-loop-i l = (l.n ≤ l.i) × (list_at l.reading l.tag l.s l.at ≡ rest l.reading l.tag l.s l.i l.n)

abbrev pub decreases-loop-i : goal.decreases-loop-i
decreases-loop-i l = length l.s - l.i
