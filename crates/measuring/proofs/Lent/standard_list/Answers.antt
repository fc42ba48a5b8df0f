-- `measuring::Lent::standard_list` meets its contract: a list that is not empty lies within the lent lists.
use native.Mathlib.Omega.{arith}
use Rattle.measuring.specs.Bodies.{lent_of}
use Rattle.measuring.proofs.Tests.{told_false}
use Rattle.measuring.proofs.Weights.{standard_empty, standard_outside, taken_most}
use Rattle.measuring.proofs.Lent.standard_list.Goals as goal
use Rattle.measuring.proofs.Lent.standard_list.Goals.{then-count-eq0-via-then-count-eq0, then-count-eq0-via-else-count-eq0+then-not-inside}

pub returns-then-count-eq0 : goal.returns-then-count-eq0
returns-then-count-eq0 c =
    let a = c.args in
    let l = lent_of a.self in
    elim c.then-count-eq0.branch [
      | then-count-eq0-via-then-count-eq0 w ↦ standard_empty a.tag l a.start a.count w.if-count-eq0.true
      | then-count-eq0-via-else-count-eq0+then-not-inside w ↦ standard_outside a.tag l a.start a.count (told_false w.inside.ensures w.if-not-inside.true)
    ]

pub overflow_add-result : goal.overflow_add-result
overflow_add-result c = let a = c.args in omega (arith, taken_most a.tag (lent_of a.self) a.start a.count c.taken_size.ensures c.in_ok-n.was)
