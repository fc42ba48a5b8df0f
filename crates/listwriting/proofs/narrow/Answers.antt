-- `listwriting::narrow` meets its contract. The invariant: the octets so far and those that are left say what all of them do.
use Prim.Native.Nat.{◌+◌}
use mathlib.Core.Path.{sym, ◌∙◌, ap}
use mathlib.Core.Bool.{◌&&◌, and-true}
use native.Mathlib.Omega.{arith}
use Rattle.listwriting.proofs.Ends.{narrow_all, narrow_none, narrow_on}
use Rattle.listwriting.proofs.narrow.Goals as goal

pub returns-then-codes-ge4 : goal.returns-then-codes-ge4
returns-then-codes-ge4 c = sym (narrow_all _ _ _ _ c.if-codes-ge4.true)

pub loop-q-preserved : goal.loop-q-preserved
loop-q-preserved c =
    let a = c.args in
    narrow_on a.codes a.octets.now c.loop-q.q (a.from + a.count) (omega arith) c.loop-q.all ∙ c.loop-q.invariant

pub returns : goal.returns
returns c =
    let l = c.loop-q in
    let a = c.args in
    sym (and-true l.all) ∙ ap (λ b. l.all && b) (sym (narrow_none a.codes a.octets.now l.q (a.from + a.count) (omega arith))) ∙ l.invariant
