-- `Page::dotted` meets its contract: the four octets and the dots between them in turn.
use mathlib.Core.Path.{refl, ap}
use native.Mathlib.Omega.{arith}
use Rattle.listing.specs.Texts.{decimal, dotted}
use Rattle.listing.proofs.TextsInTurn.{put_same, joins}
use Rattle.listing.proofs.Page.dotted.Goals as goal

pub returns : goal.returns
unfolding dotted
returns c =
    let e = c.to_be_bytes.ensures in
    joins _ _ (joins _ _ (joins _ _ (joins _ _ (joins _ _ (joins _ _
    (put_same (ap decimal (rw e (omega (arith, c.ranges.address.fits)))) c.decimal.ensures) c.octet.ensures)
    (put_same (ap decimal (rw e refl)) c.decimal-2.ensures)) c.octet-2.ensures)
    (put_same (ap decimal (rw e refl)) c.decimal-3.ensures)) c.octet-3.ensures)
    (put_same (ap decimal (rw e refl)) c.decimal-4.ensures)
