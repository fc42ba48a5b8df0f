-- `satisfying::list_matches` meets its contract. The loop's invariant: the list is true just if, the group so far having its truth, what is left is.
use mathlib.Core.Path.{sym, ◌∙◌}
use native.Mathlib.Omega.{arith}
use borrow.Author.Tests.{eqb-true, eqb-false}
use Rattle.satisfying.proofs.Groups.{none_match, some_match, turn_on, turn_stop, turn_end}
use Rattle.satisfying.proofs.list_matches.Goals as goal

pub returns-then-is_empty : goal.returns-then-is_empty
returns-then-is_empty c = none_match _ _ _ (eqb-true _ _ (sym c.is_empty.ensures ∙ c.if-is_empty.true))

pub loop-place-init : goal.loop-place-init
loop-place-init c = rw c.truth-group.ensures (some_match _ _ _ (omega (arith, eqb-false _ _ (sym c.is_empty.ensures ∙ c.if-is_empty.false))))

pub returns-then-and-group : goal.returns-then-and-group
returns-then-and-group c = sym (c.loop-place.invariant ∙ turn_stop _ _ _ _ _ _ (omega arith) c.if-and-group.true)

pub loop-place-preserved : goal.loop-place-preserved
loop-place-preserved c = rw c.truth.ensures (c.loop-place.invariant ∙ turn_on _ _ _ _ _ _ (omega arith) c.if-and-group.false)

pub returns : goal.returns
returns c = sym (c.loop-place.invariant ∙ turn_end _ _ _ _ _ _ (omega arith))
