-- `writing::put_body` meets its contract. `Turns.antt` has the invariant, `Stood`, and what a turn does to it.
use Rattle.measuring.specs.Bodies.{lent_of}
use Rattle.writing.proofs.Turns.{Stood}
use Rattle.writing.proofs.put_body.Given as goal

abbrev pub invariant-loop-i : goal.invariant-loop-i
invariant-loop-i l = Stood l.writing (lent_of l.fn.lent) l.words l.count l.at l.initial.out l.out l.p l.i
