-- `Page::ops` meets its contract: `LinesInTurn.antt` has what is left from a place on.
use lib.ListN.{length}
use Rattle.operators.specs.Lent.{operators_of}
use Rattle.listing.specs.Listings.{op_lines}
use Rattle.listing.proofs.TextsInTurn.{Left}
use Rattle.listing.proofs.LinesInTurn.{ops_left}
use Rattle.listing.proofs.Page.ops.Given as goal

abbrev pub invariant-loop-i : goal.invariant-loop-i
invariant-loop-i l = Left l.initial.self (op_lines (operators_of l.list)) l.self (ops_left l.list.values.now l.list.octets.now (length l.list.octets.now) l.i)
