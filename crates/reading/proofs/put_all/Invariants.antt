-- `reading::put_all` meets its contract. `Stores.antt` has the invariant, `Stored`, and what a turn does to it.
use Prim.Native.Nat.{◌-◌, ◌≤◌}
use lib.ListN.{length}
use Rattle.reading.proofs.Stores.{Stored}
use Rattle.reading.proofs.put_all.Given as goal

abbrev pub invariant-loop-at : goal.invariant-loop-at
invariant-loop-at l = (l.at ≤ length l.s) × Stored l.reading l.s l.stop l.first l.initial.words l.initial.values l.initial.octets l.words l.values l.octets l.at l.start l.count

abbrev pub decreases-loop-at : goal.decreases-loop-at
decreases-loop-at l = length l.s - l.at
