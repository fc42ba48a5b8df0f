-- `Page::decimal` meets its contract: `DigitsInTurn.antt` has the digits that are left.
use Prim.Native.Nat.{◌-◌}
use native.Mathlib.Nat.{one-le-pow}
use native.Mathlib.Omega.{arith}
use Rattle.listing.proofs.TextsInTurn.{left_same, left_placeable, left_more, left_last}
use Rattle.listing.proofs.DigitsInTurn.{decimal_digit, decimal_skipped, decimal_last}
use Rattle.listing.proofs.Page.decimal.Goals as goal
use borrow.Author.Rules.{rules}

pub nonzero_div-number : goal.nonzero_div-number
nonzero_div-number c = rw c.pow-power.ensures (one-le-pow _ 10 (omega arith))

pub octet-requires : goal.octet-requires
octet-requires c =
    left_placeable _ _ (left_same (decimal_digit c.args.number (c.loop-exponent.exponent - 1) (search rules) c.pow-power.ensures (search rules) c.digit.ensures) c.loop-exponent.invariant.1) c.requires

pub loop-exponent-preserved-then-power-number : goal.loop-exponent-preserved-then-power-number
loop-exponent-preserved-then-power-number c =
    (search rules, left_more _ _ (left_same (decimal_digit c.args.number (c.loop-exponent.exponent - 1) (search rules) c.pow-power.ensures (search rules) c.digit.ensures) c.loop-exponent.invariant.1) c.octet.ensures)

pub loop-exponent-preserved : goal.loop-exponent-preserved
loop-exponent-preserved c =
    (search rules, left_same (decimal_skipped c.args.number (c.loop-exponent.exponent - 1) (search rules) c.pow-power.ensures (search rules)) c.loop-exponent.invariant.1)

pub octet-requires-2 : goal.octet-requires-2
octet-requires-2 c =
    record { fits = omega (arith, (left_same (decimal_last c.args.number (c.loop-exponent.exponent - 1) (search rules) c.digit-2.ensures) c.loop-exponent.invariant.1).place, c.requires.fits) }

pub returns : goal.returns
returns c = left_last (left_same (decimal_last c.args.number (c.loop-exponent.exponent - 1) (search rules) c.digit-2.ensures) c.loop-exponent.invariant.1) c.octet-2.ensures
