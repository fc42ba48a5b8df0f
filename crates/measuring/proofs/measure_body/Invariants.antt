-- `measuring::measure_body` meets its contract. The invariant: the whole is what was counted and what is left of the words.
use Prim.Native.Nat.{◌+◌, ◌-◌, ◌*◌, ◌≤◌}
use mathlib.Core.Path.{◌≡◌}
use Rattle.measuring.specs.Bodies.{lent_of}
use Rattle.stored.specs.Distinguishers.{distinguisher_at}
use Rattle.stored.specs.Stored.{pieces_from}
use Rattle.measuring.specs.Grounds.{body_of, counted}
use Rattle.measuring.proofs.Walks.{rest_from}
use Rattle.measuring.proofs.measure_body.Given as goal

abbrev pub invariant-loop-i : goal.invariant-loop-i
invariant-loop-i l = (l.left ≤ 2047) × (l.body ≤ 8 + 19 * l.i + 9 * (2047 - l.left))
    × (counted (body_of l.writing (lent_of l.fn.lent) (distinguisher_at l.words 0) (pieces_from l.count l.words 0)) ≡ rest_from l.writing (lent_of l.fn.lent) l.words l.count l.i l.left l.previous l.body)
