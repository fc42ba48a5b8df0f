-- `writing::put_body` meets its contract. `Turns.antt` has the invariant, `Stood`, and what a turn does to it.
use native.Mathlib.Omega.{arith}
use Rattle.writing.proofs.Turns.{stood_end, stood_more, next_taken, next_room}
use Rattle.writing.proofs.put_body.Goals as goal

pub put_at-p-requires-clause-taken : goal.put_at-p-requires-clause-taken
put_at-p-requires-clause-taken c = next_taken _ _ _ _ _ _ c.loop-i.invariant (omega arith)

pub put_at-p-requires-clause-room : goal.put_at-p-requires-clause-room
put_at-p-requires-clause-room c = next_room _ _ _ _ _ _ c.loop-i.invariant (omega arith) c.requires.room

pub loop-i-preserved : goal.loop-i-preserved
loop-i-preserved c = stood_more _ _ _ _ _ _ c.loop-i.invariant (omega arith) c.put_at-p.ensures.next c.put_at-p.ensures.octets

pub returns : goal.returns
returns c = stood_end _ _ _ _ _ _ c.loop-i.invariant (omega arith)
