-- `operators::OperatorList::new` meets its contract: `part_is`.
use Rattle.operators.proofs.Parts.{part_is}
use Rattle.operators.proofs.lent.OperatorList.new.Goals as goal

pub returns : goal.returns
returns c = part_is c.args.values.now c.args.octets.now c.args.at c.args.count c.requires.octets
