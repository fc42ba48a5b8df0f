-- `lists::fill_width` meets its contract: each way it is `fill_run`'s.
use native.Mathlib.Omega.{arith}
use Rattle.lists.proofs.Turns.{whole_in}
use Rattle.lists.proofs.fill_width.Goals as goal

pub bounds-s-from : goal.bounds-s-from
bounds-s-from c = omega (arith, whole_in _ _ c.requires.whole)
