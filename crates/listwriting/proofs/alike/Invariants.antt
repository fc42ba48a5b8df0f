-- `listwriting::alike` meets its contract. The invariant: it holds of the octets so far.
use Prim.Native.Nat.{◌+◌}
use mathlib.Core.Path.{◌≡◌}
use mathlib.Core.Bool.{true}
use Rattle.listwriting.specs.Runs.{Alike}
use Rattle.listwriting.proofs.alike.Given as goal

abbrev pub invariant-loop-k : goal.invariant-loop-k
invariant-loop-k l = l.same ≡ true → Alike l.octets l.code l.from (l.from + l.k)
