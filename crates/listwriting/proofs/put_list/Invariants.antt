-- `listwriting::put_list` meets its contract. `Put` is the invariant; each run is a link of the chain. One operator of two octets goes by itself.
use Prim.Native.Nat.{◌-◌}
use Rattle.listwriting.specs.Runs.{Put}
use Rattle.listwriting.proofs.put_list.Given as goal

abbrev pub invariant-loop-q : goal.invariant-loop-q
invariant-loop-q l = Put l.kind l.values l.octets l.from l.to l.at l.initial.out l.out l.q l.p

abbrev pub decreases-loop-q : goal.decreases-loop-q
decreases-loop-q l = l.to - l.q
