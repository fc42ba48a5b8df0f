-- `writing::put_high` meets its contract: no octets.
use Rattle.writing.proofs.Stores.{high_none}
use Rattle.writing.proofs.put_high.Goals as goal

pub returns-in-0 : goal.returns-in-0
returns-in-0 c = let a = c.args in high_none a.out.now a.at a.k a.v c.in-0.is
