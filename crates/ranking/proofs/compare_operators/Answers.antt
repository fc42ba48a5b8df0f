-- `ranking::compare_operators` meets its contract.
use Rattle.ranking.proofs.OperatorsInTurn.{same_operator}
use Rattle.ranking.proofs.compare_operators.Goals as goal

pub returns-then-value-value2 : goal.returns-then-value-value2
returns-then-value-value2 c = same_operator _ _ _ _ _ c.if-octet-octet2.true c.if-value-value2.true
