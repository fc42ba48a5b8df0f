-- `choosing::find` meets its contract: the invariant is what was found of the rules that were passed.
use Prim.Native.Nat.{ℕ}
use mathlib.Core.Path.{ap}
use lib.Dec.{eqb}
use Rattle.choosing.proofs.Passes.{pass_start, pass_on, pass_bad, best_formed}
use Rattle.choosing.proofs.find.Goals as goal

pub loop-i-init : goal.loop-i-init
loop-i-init c = pass_start _ _ _

pub returns-in_err-met : goal.returns-in_err-met
returns-in_err-met c = rw c.from_residual.ensures (pass_bad _ _ _ _ _ c.loop-i.invariant _ c.loop-i-test.true c.in_err-met.ensures)

pub better-best-requires-clause-best : goal.better-best-requires-clause-best
better-best-requires-clause-best c = best_formed _ _ _ _ _ c.loop-i.invariant

pub loop-i-preserved : goal.loop-i-preserved
loop-i-preserved c =
    let family = c.args.family in
    pass_on _ _ _ _ _ c.loop-i.invariant c.in_ok-met.ensures _ (ap (λ (x : ℕ). eqb x family) c.family_at.ensures) c.first_failing-mixed.ensures c.better-best.ensures
