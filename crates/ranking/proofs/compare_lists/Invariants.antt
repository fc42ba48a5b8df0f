-- `ranking::compare_lists` meets its contract. The invariant: the first i operators of each rank equal.
use Rattle.ranking.proofs.OperatorsInTurn.{OperatorsPassed}
use Rattle.ranking.proofs.compare_lists.Given as goal

abbrev pub invariant-loop-i : goal.invariant-loop-i
invariant-loop-i l = OperatorsPassed l.kind l.a.values.now l.a.octets.now l.b.values.now l.b.octets.now l.i
