-- The operators of a list that is lent.
use Rattle.std.specs.Prelude.{List, length}
use Rattle.operators.specs.Ops.{Op, ops_in}
use Rattle.operators.specs.declared.lent.OperatorList.{OperatorList}

abbrev pub operators_of : OperatorList → List Op
operators_of l = ops_in l.values.now l.octets.now 0 (length l.octets.now)
