-- `Page::op` meets its contract: its parts in turn.
use Rattle.listing.proofs.TextsInTurn.{joins}
use Rattle.listing.proofs.Page.op.Goals as goal

pub returns : goal.returns
returns c = joins _ _ (joins _ _ (joins _ _ (joins _ _ c.text.ensures c.hex.ensures) c.octet.ensures) c.decimal.ensures) c.octet-2.ensures
