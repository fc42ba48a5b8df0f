-- `lists::fill_on` meets its contract. The invariant: what is to be stored is what has been, and what is left at the place; a turn is a run.
use native.Mathlib.Omega.{arith}
use Rattle.lists.proofs.Turns.{whole_in, filled_first}
use Rattle.lists.proofs.fill_on.Goals as goal

pub loop-end-init : goal.loop-end-init
loop-end-init c =
    let f = c.requires in
    filled_first f (omega (arith, whole_in _ _ f.whole))
