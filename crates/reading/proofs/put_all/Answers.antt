-- `reading::put_all` meets its contract. `Stores.antt` has the invariant, `Stored`, and what a turn does to it.
use native.Mathlib.Omega.{arith}
use Rattle.reading.proofs.Stores.{stored_first, stored_end, stored_more, standing, bounds, asked}
use Rattle.reading.proofs.put_all.Goals as goal

pub loop-at-init : goal.loop-at-init
loop-at-init c = (omega arith, stored_first c.args.reading _ c.args.stop c.args.first _ _ _ c.requires.stop_value c.requires.in_bounds c.requires.places)

pub put_part-t-requires-clause-standing : goal.put_part-t-requires-clause-standing
put_part-t-requires-clause-standing c = standing c.loop-at.invariant.1 c.loop-at-test.true

pub put_part-t-requires-clause-places : goal.put_part-t-requires-clause-places
put_part-t-requires-clause-places c = (asked c.loop-at.invariant.1 c.loop-at-test.true).1

pub overflow_add-start : goal.overflow_add-start
overflow_add-start c =
    let l = c.loop-at in
    omega (arith, c.put_part-t.ensures.count, bounds l.invariant.1 c.loop-at-test.true, l.invariant.1.place, c.well_formed)

pub loop-at-smaller : goal.loop-at-smaller
loop-at-smaller c = omega (arith, c.put_part-t.ensures.end, bounds c.loop-at.invariant.1 c.loop-at-test.true)

pub loop-at-preserved : goal.loop-at-preserved
loop-at-preserved c =
    let e = c.put_part-t.ensures in
    let h = c.loop-at.invariant.1 in
    (omega (arith, e.end, bounds h c.loop-at-test.true), stored_more h c.loop-at-test.true _ _ _ e.end e.count e.words e.values e.octets)

pub returns : goal.returns
returns c =
    let e = stored_end c.loop-at.invariant.1 c.loop-at-test.false _ c.put_tail.ensures in
    record { words = rw (← c.family_of.ensures) e.0; values = e.1.0; octets = e.1.1.0; few = e.1.1.1 }
