-- `Page::text` meets its contract: what is left to put is what is left of the text.
use lib.ListN.{drop}
use Rattle.listing.proofs.TextsInTurn.{Left}
use Rattle.listing.proofs.Page.text.Given as goal

abbrev pub invariant-loop-octet : goal.invariant-loop-octet
invariant-loop-octet l = Left l.initial.self l.text l.self (drop l.octet-index l.text)
