-- `listwriting::put_run` meets its contract. `Put` is the invariant, while the next operator has the width.
use Prim.Native.Nat.{◌-◌, ◌<◌}
use mathlib.Core.Path.{◌≡◌}
use lib.ListN.{get_or}
use Rattle.octets.specs.Widths.{code_in}
use Rattle.listwriting.specs.Runs.{Put}
use Rattle.listwriting.proofs.put_run.Given as goal

abbrev pub invariant-loop-next : goal.invariant-loop-next
invariant-loop-next g l = Put l.kind l.ops.values.now l.ops.octets.now l.ops.from l.ops.to l.fn.at l.initial.out l.out l.next l.at × (l.next < l.ops.to) × (code_in (get_or l.ops.octets.now l.next 0) ≡ g.row.CODE)

abbrev pub decreases-loop-next : goal.decreases-loop-next
decreases-loop-next g l = l.ops.to - l.next
