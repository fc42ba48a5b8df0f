use mathlib.Core.Path.{◌∙◌}
use native.Mathlib.Omega.{arith}
use Rattle.octets.proofs.Spells.{pattern_long}
use Rattle.octets.proofs.read_pattern.Goals as goal

pub returns-clause-is : goal.returns-clause-is
returns-clause-is c =
    let h = c.number-2 in
    let l = c.number-3 in
    c.joined.ensures ∙ (pattern_long c.args.s.now c.args.from c.args.k (omega arith) h.result l.result (omega arith) (omega (arith, l.type_inv)) h.ensures.is h.ensures.below l.ensures.is).0

pub returns-clause-below : goal.returns-clause-below
returns-clause-below c =
    let h = c.number-2 in
    let l = c.number-3 in
    (pattern_long c.args.s.now c.args.from c.args.k (omega arith) h.result l.result (omega arith) (omega (arith, l.type_inv)) h.ensures.is h.ensures.below l.ensures.is).1
