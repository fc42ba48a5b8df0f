-- `lists::fill_run` meets its contract, which is the loop's invariant too.
use Prim.Native.Nat.{ℕ, ◌+◌}
use mathlib.Core.Path.{sym, ◌∙◌, ap}
use native.Mathlib.Omega.{arith}
use lib.ListN.{get_or, take, drop}
use Rattle.octets.specs.Widths.{widths}
use Rattle.octets.specs.Spell.{value_of}
use Rattle.lists.proofs.Runs.{width_by}
use Rattle.lists.proofs.Turns.{whole_in, filled_first, more, last}
use Rattle.lists.proofs.fill_run.Goals as goal

pub loop-kind-init : goal.loop-kind-init
loop-kind-init g c =
    let f = c.requires.filling in
    filled_first f (omega (arith, whole_in _ _ f.whole))

pub bounds-s-i : goal.bounds-s-i
bounds-s-i g c = omega (arith, whole_in _ _ c.loop-kind.invariant.filling.whole)

pub read_value-requires-clause-code_in_bounds : goal.read_value-requires-clause-code_in_bounds
read_value-requires-clause-code_in_bounds g c =
    omega (arith, whole_in _ _ c.loop-kind.invariant.filling.whole, width_by _ c.stride-w.ensures c.if-octet.false, c.stride-w.ensures)

pub returns-then-octet-ge128 : goal.returns-then-octet-ge128
returns-then-octet-ge128 g c =
    let is-v = c.read_value.ensures ∙ ap (λ (k : ℕ). value_of (take (get_or widths k 0) (drop (c.loop-kind.i + 1) c.args.s.now))) (sym c.if-octet.false) in
    rw c.cleared.ensures (last c.loop-kind.invariant (width_by _ c.stride-w.ensures c.if-octet.false) is-v c.if-octet-ge128.true)

pub loop-kind-smaller : goal.loop-kind-smaller
loop-kind-smaller g c = omega (arith, whole_in _ _ c.loop-kind.invariant.filling.whole, width_by _ c.stride-w.ensures c.if-octet.false)

pub loop-kind-preserved : goal.loop-kind-preserved
loop-kind-preserved g c =
    let is-v = c.read_value.ensures ∙ ap (λ (k : ℕ). value_of (take (get_or widths k 0) (drop (c.loop-kind.i + 1) c.args.s.now))) (sym c.if-octet.false) in
    rw c.cleared.ensures (more c.loop-kind.invariant (width_by _ c.stride-w.ensures c.if-octet.false) is-v c.if-octet-ge128.false)
