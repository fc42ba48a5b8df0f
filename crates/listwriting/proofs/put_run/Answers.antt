-- `listwriting::put_run` meets its contract. `Put` is the invariant, while the next operator has the width.
use native.Mathlib.Omega.{arith}
use lib.ListN.{length-set}
use Rattle.listwriting.proofs.Puts.{put_room, put_more}
use Rattle.listwriting.proofs.put_run.Goals as goal

pub bounds-out-at : goal.bounds-out-at
bounds-out-at g c =
    let i = c.loop-next.invariant in
    omega (arith, put_room _ _ _ _ _ _ _ i.0 _ _ c.stride-width.ensures i.1 i.2 c.requires.room)

pub write_value-requires-clause-code_in_bounds : goal.write_value-requires-clause-code_in_bounds
write_value-requires-clause-code_in_bounds g c =
    let i = c.loop-next.invariant in
    simp length-set (put_room _ _ _ _ _ _ _ i.0 _ _ c.stride-width.ensures i.1 i.2 c.requires.room)

pub loop-next-preserved : goal.loop-next-preserved
loop-next-preserved g c =
    let i = c.loop-next.invariant in
    (put_more _ _ _ _ _ _ _ i.0 _ _ c.stride-width.ensures i.1 i.2 c.cleared.ensures c.write_value.ensures, omega arith, c.if-ops-next-2.false)

pub returns-then-ops-next-clause-ran : goal.returns-then-ops-next-clause-ran
returns-then-ops-next-clause-ran g c =
    let i = c.loop-next.invariant in
    put_more _ _ _ _ _ _ _ i.0 _ _ c.stride-width.ensures i.1 i.2 c.cleared.ensures c.write_value.ensures
