-- `stored::all_records` meets its contract. The loop's invariant: the places not passed yet decide.
use Prim.Native.Nat.{◌+◌, ◌-◌, ◌*◌}
use mathlib.Core.Path.{◌≡◌}
use Rattle.stored.specs.Stored.{records_from}
use Rattle.stored.proofs.all_records.Given as goal

abbrev pub invariant-loop-i : goal.invariant-loop-i
invariant-loop-i l = records_from l.count l.words l.base ≡ records_from (l.count - l.i) l.words (l.base + 4 * l.i)
