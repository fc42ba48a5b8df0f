-- `Page::number_line` meets its contract: the key, the number and the newline in turn.
use Rattle.listing.specs.Listings.{number_line}
use Rattle.listing.proofs.TextsInTurn.{joins}
use Rattle.listing.proofs.Page.number_line.Goals as goal

pub returns : goal.returns
unfolding number_line
returns c = joins _ _ (joins _ _ c.text.ensures c.decimal.ensures) c.octet.ensures
