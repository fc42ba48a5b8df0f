-- `listwriting::taken_size` meets its contract: what was joined, and the last operator, are the test of the whole list.
use Prim.Native.Nat.{ℕ, ◌+◌, ◌-◌}
use mathlib.Core.Path.{◌≡◌, sym, ◌∙◌}
use mathlib.Core.Bool.{Bool}
use mathlib.Core.List.{List}
use native.Mathlib.Omega.{arith}
use Rattle.choices.specs.Choices.{codes_by}
use Rattle.listwriting.specs.Runs.{narrow_in}
use Rattle.listwriting.proofs.Ends.{and_first, size_wide, size_right, size_wrong}
use Rattle.listwriting.proofs.Joins.{ended_right, ended_long}
use Rattle.listwriting.proofs.taken_size.Goals as goal

pub returns-then-octets-from-eq1 : goal.returns-then-octets-from-eq1
returns-then-octets-from-eq1 c = and_first _ _ c.args.tag _ _ (omega arith) c.if-octets-from-eq1.true

-- the widths, by the type's bound on codes
widths : (g : ℕ) (os : List ℕ) (from count : ℕ) {b : Bool} {codes : ℕ} → b ≡ narrow_in codes os from count → codes ≡ codes_by g → narrow_in (codes_by g) os from count ≡ b
widths g os from count e f = rw f at (sym e)

pub returns-then-not-narrow : goal.returns-then-not-narrow
returns-then-not-narrow c = size_wide _ _ c.args.tag _ _ (omega arith) (widths c.args.tag _ _ _ c.narrow.ensures c.codes_by.ensures ∙ c.if-not-narrow.true)

pub returns-then-over-sum : goal.returns-then-over-sum
returns-then-over-sum c =
    let a = c.args in
    let e : a.from + a.count - 1 + 1 ≡ a.from + a.count = omega arith in
    let w = (c.type_inv.values (a.from + a.count - 1)).fits in
    let r = ended_right _ _ _ _ _ e c.add_all-sum.result c.add_all-sum.ensures w _ c.bits_beyond.ensures in
    let n = ended_long a.values.now a.octets.now a.from _ _ e c.add_all-sum.result c.add_all-sum.ensures w in
    size_right _ _ a.tag _ _ (omega arith) c.if-octets-from-eq1.false (widths a.tag _ _ _ c.narrow.ensures c.codes_by.ensures ∙ c.if-not-narrow.false) _ (sym r ∙ c.if-over-sum.true) (omega (arith, c.stride.ensures, n))

pub returns : goal.returns
returns c =
    let a = c.args in
    let e : a.from + a.count - 1 + 1 ≡ a.from + a.count = omega arith in
    let w = (c.type_inv.values (a.from + a.count - 1)).fits in
    size_wrong _ _ a.tag _ _ (omega arith) c.if-octets-from-eq1.false (sym (ended_right _ _ _ _ _ e c.add_all-sum.result c.add_all-sum.ensures w _ c.bits_beyond.ensures) ∙ c.if-over-sum.false)
