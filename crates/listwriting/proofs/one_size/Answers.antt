-- `listwriting::one_size` meets its contract.
use mathlib.Core.Path.{sym, ◌∙◌}
use native.Mathlib.Omega.{arith}
use Rattle.listwriting.proofs.Joins.{alone_not, alone_wide, alone_narrow}
use Rattle.listwriting.proofs.one_size.Goals as goal

pub returns-then-octet-value : goal.returns-then-octet-value
returns-then-octet-value c =
    let a = c.args in
    alone_not a.octet a.value c.bits_beyond.result (omega arith) (omega arith) c.bits_beyond.ensures a.tag c.if-octet-value.true

pub returns-then-wide : goal.returns-then-wide
returns-then-wide c =
    let a = c.args in
    alone_wide a.octet a.value c.bits_beyond.result (omega arith) (omega arith) c.bits_beyond.ensures a.tag c.if-octet-value.false (sym c.wide.ensures ∙ c.if-wide.true)

pub returns : goal.returns
returns c =
    let a = c.args in
    rw c.stride.ensures
    (alone_narrow a.octet a.value c.bits_beyond.result (omega arith) (omega arith) c.bits_beyond.ensures a.tag c.if-octet-value.false (sym c.wide.ensures ∙ c.if-wide.false))
