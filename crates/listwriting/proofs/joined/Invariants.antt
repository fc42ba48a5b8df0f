-- `listwriting::joined` meets its contract. The invariant: it holds of the values so far.
use Prim.Native.Nat.{◌+◌}
use Rattle.listwriting.specs.Runs.{Joined}
use Rattle.listwriting.proofs.joined.Given as goal

abbrev pub invariant-loop-k : goal.invariant-loop-k
invariant-loop-k l = Joined l.values l.from (l.from + l.k) l.all
