-- `Page::carried` meets its contract: by how many numbers there are.
use mathlib.Core.Path.{sym}
use Rattle.listing.proofs.TextsInTurn.{put_same, joins}
use Rattle.listing.proofs.Carried.{commas_two}
use Rattle.listing.proofs.Page.carried.Goals as goal

pub returns : goal.returns
returns c =
    put_same (sym (commas_two c.args.numbers c.if-numbers-eq0.false c.if-numbers-eq1.false)) (joins _ _ (joins _ _ c.decimal.ensures c.octet.ensures) c.decimal-2.ensures)
