-- `octets::put` meets its contract: the library's octets of a number, from the N-th last on.
use Rattle.octets.proofs.Spells.{put_last}
use Rattle.octets.proofs.put.Goals as goal

pub returns : goal.returns
returns g c = put_last g.row.N c.args.out.now c.args.at c.args.value c.requires.1 c.requires.0 c.to_be_bytes.ensures c.copy_from_slice.ensures.after
