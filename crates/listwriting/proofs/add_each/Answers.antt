-- `listwriting::add_each` meets its contract, which is the invariant: each operator is a link of the chain.
use native.Mathlib.Omega.{arith}
use Rattle.listwriting.proofs.Joins.{adds_chain, adds_one}
use Rattle.listwriting.proofs.add_each.Goals as goal

pub loop-q-preserved : goal.loop-q-preserved
loop-q-preserved c = adds_chain _ _ (omega arith) c.loop-q.invariant (adds_one _ _ c.loop-q.q (c.type_inv.values c.loop-q.q).fits _ _ _)
