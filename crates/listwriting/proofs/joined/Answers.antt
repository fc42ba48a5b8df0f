-- `listwriting::joined` meets its contract. The invariant: it holds of the values so far.
use Rattle.listwriting.proofs.Joins.{joined_more}
use Rattle.listwriting.proofs.joined.Goals as goal

pub loop-k-preserved : goal.loop-k-preserved
loop-k-preserved c = joined_more _ _ _ _ c.loop-k.invariant
