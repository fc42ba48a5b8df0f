-- `listwriting::put_list` meets its contract. `Put` is the invariant; each run is a link of the chain. One operator of two octets goes by itself.
use Prim.Native.Nat.{ℕ, ◌+◌, ◌-◌}
use mathlib.Core.Path.{◌≡◌}
use native.Mathlib.Omega.{arith}
use lib.ListN.{length-set}
use Rattle.listwriting.proofs.Puts.{put_end, lone_room, put_lone}
use Rattle.listwriting.proofs.put_list.Goals as goal

added : (a n : ℕ) → a + n - a ≡ n
added a n = omega arith

pub bounds-out-at : goal.bounds-out-at
bounds-out-at c =
    let a = c.args in
    omega (arith, lone_room a.kind a.values.now a.octets.now a.from a.count a.at a.out.now c.if-count-eq1.true c.if-octets-from-eq0.true c.requires.room)

pub write_value-requires-clause-code_in_bounds : goal.write_value-requires-clause-code_in_bounds
write_value-requires-clause-code_in_bounds c =
    let a = c.args in
    simp length-set (omega (arith, lone_room a.kind a.values.now a.octets.now a.from a.count a.at a.out.now c.if-count-eq1.true c.if-octets-from-eq0.true c.requires.room))

pub returns-then-octets-from-eq0 : goal.returns-then-octets-from-eq0
returns-then-octets-from-eq0 c =
    let e = put_lone _ _ _ _ _ _ _ c.if-count-eq1.true c.if-octets-from-eq0.true c.cleared.ensures c.write_value.ensures in
    record { next = e.0; octets = e.1 }

pub returns : goal.returns
returns c =
    let e = put_end _ _ _ _ _ _ _ c.loop-q.invariant (omega arith) in
    let n = added c.args.from c.args.count in
    record { next = rw n at e.0; octets = rw n at e.1 }
