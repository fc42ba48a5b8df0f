-- `listwriting::add_all` meets its contract, which is the invariant: each block is a part of the chain.
use Prim.Native.Nat.{◌+◌, ◌*◌}
use Rattle.listwriting.specs.Runs.{nothing, Adds}
use Rattle.listwriting.proofs.add_all.Given as goal

abbrev pub invariant-loop-block : goal.invariant-loop-block
invariant-loop-block l = Adds l.values l.octets l.from (l.from + 16 * l.block) nothing l.sum
