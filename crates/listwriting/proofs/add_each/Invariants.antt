-- `listwriting::add_each` meets its contract, which is the invariant: each operator is a link of the chain.
use Rattle.listwriting.specs.Runs.{sum, Adds}
use Rattle.listwriting.proofs.add_each.Given as goal

abbrev pub invariant-loop-q : goal.invariant-loop-q
invariant-loop-q l = Adds l.values l.octets l.from l.q (sum l.initial.over l.initial.marks l.initial.size) (sum l.over l.marks l.size)
