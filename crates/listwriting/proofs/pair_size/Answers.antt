-- `listwriting::pair_size` meets its contract: the test is that of the list.
use mathlib.Core.Path.{sym, ◌∙◌}
use native.Mathlib.Omega.{arith}
use Rattle.listwriting.proofs.Joins.{pair_not, pair_not_wide, pair_narrow}
use Rattle.listwriting.proofs.pair_size.Goals as goal

pub returns-then-wide : goal.returns-then-wide
returns-then-wide c =
    let a = c.args in
    pair_not_wide a.octet a.value _ (omega arith) (omega arith) c.bits_beyond.ensures a.octet2 a.value2 _ (omega arith) (omega arith) c.bits_beyond-2.ensures a.tag c.if-octet-octet2.true (sym c.wide.ensures ∙ c.if-wide.true)

pub returns-then-octet-octet2 : goal.returns-then-octet-octet2
returns-then-octet-octet2 c =
    let a = c.args in
    rw (c.stride.ensures, c.stride-then-octet-octet2.ensures)
    (pair_narrow a.octet a.value _ (omega arith) (omega arith) c.bits_beyond.ensures a.octet2 a.value2 _ (omega arith) (omega arith) c.bits_beyond-2.ensures a.tag c.if-octet-octet2.true (sym c.wide.ensures ∙ c.if-wide.false))

pub returns : goal.returns
returns c =
    let a = c.args in
    pair_not a.octet a.value _ (omega arith) (omega arith) c.bits_beyond.ensures a.octet2 a.value2 _ (omega arith) (omega arith) c.bits_beyond-2.ensures a.tag c.if-octet-octet2.false
