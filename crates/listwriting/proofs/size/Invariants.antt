-- `listwriting::size` meets its contract. The invariant: what was counted and what is left are the whole, where each operator's own octet is counted
-- ahead.
use Prim.Native.Nat.{◌+◌, ◌-◌, ◌*◌, ◌≤◌}
use mathlib.Core.Path.{◌≡◌}
use Rattle.listwriting.specs.Lists.{size_in}
use Rattle.listwriting.proofs.size.Given as goal

abbrev pub invariant-loop-q : goal.invariant-loop-q
invariant-loop-q l = (l.n ≤ l.count + 8 * (l.q - l.from)) × (l.n + size_in l.octets l.q (l.from + l.count - l.q) ≡ size_in l.octets l.from l.count + (l.from + l.count - l.q))
