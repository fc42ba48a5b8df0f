-- `listwriting::narrow` meets its contract. The invariant: the octets so far and those that are left say what all of them do.
use Prim.Native.Nat.{◌+◌, ◌-◌}
use mathlib.Core.Path.{◌≡◌}
use mathlib.Core.Bool.{◌&&◌}
use Rattle.listwriting.specs.Runs.{narrow_in}
use Rattle.listwriting.proofs.narrow.Given as goal

abbrev pub invariant-loop-q : goal.invariant-loop-q
invariant-loop-q l = (l.all && narrow_in l.codes l.octets l.q (l.from + l.count - l.q)) ≡ narrow_in l.codes l.octets l.from l.count
