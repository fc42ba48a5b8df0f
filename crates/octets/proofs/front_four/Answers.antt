-- `octets::front_four` meets its contract: there are five counts.
use mathlib.Core.Path.{◌≡◌}
use native.Mathlib.Omega.{arith}
use Rattle.octets.specs.Spell.{spell}
use Rattle.octets.proofs.Spells.{value_one, value_taken, two_are, four_are}
use Rattle.octets.proofs.front_four.Goals as goal

pub returns-in-0 : goal.returns-in-0
unfolding spell
returns-in-0 c = rw c.in-0.is

pub returns-in-1 : goal.returns-in-1
returns-in-1 c = let a = c.args in rw c.in-1.is (omega (arith, value_one a.s.now a.i (omega arith)))

pub returns-in-2 : goal.returns-in-2
returns-in-2 c = let a = c.args in rw c.in-2.is (omega (arith, two_are a.s.now a.i (omega arith)))

pub returns-in-3 : goal.returns-in-3
returns-in-3 c = let a = c.args in rw c.in-3.is (omega (arith, two_are a.s.now a.i (omega arith), value_taken 2 a.s.now a.i (omega arith)))

pub returns-in_default : goal.returns-in_default
returns-in_default c =
    let a = c.args in
    let e : a.k ≡ 4 = omega arith in
    rw e (omega (arith, four_are a.s.now a.i (omega arith)))
