-- `listwriting::size` meets its contract. The invariant: what was counted and what is left are the whole, where each operator's own octet is counted
-- ahead.
use Prim.Native.Nat.{◌+◌}
use mathlib.Core.Path.{◌≡◌}
use native.Mathlib.Omega.{arith}
use lib.ListN.{get_or}
use Rattle.octets.specs.Widths.{width_of}
use Rattle.octets.proofs.Widths.{width_most}
use Rattle.listwriting.proofs.Sizes.{size_more, size_none, size_one}
use Rattle.listwriting.proofs.size.Goals as goal

pub returns-then-count-eq1 : goal.returns-then-count-eq1
returns-then-count-eq1 c =
    let a = c.args in
    rw c.if-count-eq1.true (omega (arith, c.stride.ensures, size_one a.octets.now a.from))

pub loop-q-preserved : goal.loop-q-preserved
loop-q-preserved c =
    let a = c.args in
    let w : c.stride-n.result ≡ width_of (get_or a.octets.now c.loop-q.q 0) = c.stride-n.ensures in
    let m = size_more a.octets.now c.loop-q.q (a.from + a.count) (omega arith) in
    (omega (arith, width_most (get_or a.octets.now c.loop-q.q 0), w), omega (arith, w, m))

pub returns : goal.returns
returns c =
    let a = c.args in
    omega (arith, size_none a.octets.now c.loop-q.q (a.from + a.count) (omega arith))
