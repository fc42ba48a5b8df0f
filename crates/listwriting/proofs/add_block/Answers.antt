-- `listwriting::add_block` meets its contract: 16 operators that are alike are 16 links of the chain at once.
use Prim.Native.Nat.{◌+◌}
use mathlib.Core.Path.{◌≡◌}
use mathlib.Core.Bool.{true, ◌&&◌}
use native.Mathlib.Omega.{arith}
use lib.ListN.{get_or}
use lib.Dec.{eqb}
use Rattle.ground.proofs.Cases.{both}
use Rattle.octets.specs.Widths.{code_in}
use Rattle.listwriting.proofs.Joins.{adds_alike}
use Rattle.listwriting.proofs.add_block.Goals as goal

pub returns-then-octets-from : goal.returns-then-octets-from
returns-then-octets-from c =
    let o = c.args.ops in
    let code = code_in (get_or o.octets.now o.from 0) in
    let looked = eqb (code_in (get_or o.octets.now (o.from + 5) 0)) code && eqb (code_in (get_or o.octets.now (o.from + 10) 0)) code in
    let t : c.alike.result ≡ true = (both looked c.alike.result c.if-octets-from.true).1 in
    rw c.requires.block
    (adds_alike o.values.now o.octets.now code o.from (omega arith) (c.alike.ensures t) c.joined.result c.joined.ensures (omega (arith, c.joined.type_inv)) c.args.sum.over c.args.sum.marks c.args.sum.size)
