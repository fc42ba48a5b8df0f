-- `ranking::compare_lists` meets its contract. The invariant: the first i operators of each rank equal.
use mathlib.Core.Path.{sym, ◌∙◌}
use native.Mathlib.Omega.{arith}
use Rattle.ranking.proofs.OperatorsInTurn.{operators_end, operators_equal, operators_tell}
use Rattle.ranking.proofs.compare_lists.Goals as goal

pub returns-then-is_ne : goal.returns-then-is_ne
returns-then-is_ne c =
    operators_tell c.loop-i.invariant (omega (arith, c.min-i-end.ensures)) (omega (arith, c.min-i-end.ensures)) _ c.compare_operators-order.ensures (sym c.is_ne.ensures ∙ c.if-is_ne.true)

pub loop-i-preserved : goal.loop-i-preserved
loop-i-preserved c =
    operators_equal c.loop-i.invariant (omega (arith, c.min-i-end.ensures)) (omega (arith, c.min-i-end.ensures)) _ c.compare_operators-order.ensures (sym c.is_ne.ensures ∙ c.if-is_ne.false)

pub returns : goal.returns
returns c =
    c.cmp.ensures ∙ sym (operators_end c.loop-i.invariant (omega (arith, c.min-i-end.ensures)) (omega (arith, c.min-i-end.ensures)))
