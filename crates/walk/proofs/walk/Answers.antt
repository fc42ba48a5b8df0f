-- `walk::walk` meets its contract. The invariant, `Walking`: what the walk counts is what is passed and what is left at the place. The
-- measure: types rise.
use native.Mathlib.Omega.{arith}
use Rattle.std.proofs.lemmas.Result.{err_from_is_err_and}
use Rattle.walk.proofs.Turns.{walking_first, walking_end, walking_refused, walking_more, found_bounds}
use Rattle.walk.proofs.walk.Goals as goal

pub loop-reading-init : goal.loop-reading-init
loop-reading-init c = walking_first _ _ _

pub returns-then-stop-at : goal.returns-then-stop-at
returns-then-stop-at c = walking_end c.pass_common-here.ensures.walking c.if-stop-at.true

pub bounds-s-at : goal.bounds-s-at
bounds-s-at c = (found_bounds c.pass_common-here.ensures.walking c.if-stop-at.false (c.in_ok-count.ensures _)).0

pub overflow_add-passed : goal.overflow_add-passed
overflow_add-passed c =
    let w = c.pass_common-here.ensures.walking in
    omega (arith, found_bounds w c.if-stop-at.false (c.in_ok-count.ensures _), w.place, c.well_formed)

pub loop-reading-smaller : goal.loop-reading-smaller
loop-reading-smaller c =
    let p = c.pass_common-here in
    omega (arith, p.ensures.rises, found_bounds p.ensures.walking c.if-stop-at.false (c.in_ok-count.ensures _))

pub loop-reading-preserved : goal.loop-reading-preserved
loop-reading-preserved c = walking_more c.pass_common-here.ensures.walking c.if-stop-at.false (c.in_ok-count.ensures _)

pub returns-in_err-count : goal.returns-in_err-count
returns-in_err-count c =
    let p = err_from_is_err_and c.from_residual.result c.from_residual.ensures.1 in
    rw (p.1, p.2) (walking_refused c.pass_common-here.ensures.walking c.if-stop-at.false (c.in_err-count.ensures _))
