-- `Page::decimal` meets its contract: the digits of the powers below one are left to put.
use Prim.Native.Nat.{◌-◌, ◌≤◌}
use Rattle.listing.specs.Texts.{decimal, decimal_from}
use Rattle.listing.proofs.TextsInTurn.{Left}
use Rattle.listing.proofs.Page.decimal.Given as goal

abbrev pub invariant-loop-exponent : goal.invariant-loop-exponent
invariant-loop-exponent l = (1 ≤ l.exponent) × Left l.initial.self (decimal l.number) l.self (decimal_from (l.exponent - 1) l.number)
