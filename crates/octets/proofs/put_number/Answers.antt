use lib.ListN.{length-set}
use native.Mathlib.Omega.{arith}
use Rattle.octets.proofs.Spells.{put_more, put_end}
use Rattle.octets.proofs.put_number.Goals as goal

pub loop-i-preserved : goal.loop-i-preserved
loop-i-preserved c =
    let a = c.args in
    let l = c.loop-i in
    (omega arith, simp length-set l.invariant.1, put_more _ l.out a.at a.k a.v l.i (omega arith) l.invariant.2)

pub returns : goal.returns
returns c =
    let a = c.args in
    let l = c.loop-i in
    put_end _ l.out a.at a.k a.v l.i (omega arith) l.invariant.2
