-- `Page::components` meets its contract: `LinesInTurn.antt` has what is left after so many components.
use Rattle.stored.specs.Stored.{count_at, stored_at}
use Rattle.listing.specs.Listings.{component_lines}
use Rattle.listing.proofs.TextsInTurn.{Left}
use Rattle.listing.proofs.LinesInTurn.{components_left}
use Rattle.listing.proofs.Page.components.Given as goal

abbrev pub invariant-loop-i : goal.invariant-loop-i
invariant-loop-i l = Left l.initial.self (component_lines l.rule.values.now l.rule.octets.now (stored_at l.rule.words.now 0).pieces) l.self (components_left l.rule.values.now l.rule.octets.now l.rule.words.now (count_at l.rule.words.now 0) l.i)
