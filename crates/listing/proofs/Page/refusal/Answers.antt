-- `Page::refusal` meets its contract: its lines in turn.
use mathlib.Core.Path.{ap}
use Rattle.refusals.specs.declared.Numbers.{Numbers}
use Rattle.listing.specs.Texts.{ascii, commas}
use Rattle.listing.specs.Listings.{number_line, refusal_lines}
use Rattle.listing.proofs.TextsInTurn.{put_same, joins}
use Rattle.listing.proofs.Carried.{carried_in_lem}
use Rattle.listing.proofs.Page.refusal.Goals as goal

pub returns : goal.returns
unfolding refusal_lines
returns c =
    let e = c.from-numbers.ensures in
    joins _ _
    (joins _ _ (joins _ _ c.text.ensures (put_same (ap (λ (x : Numbers). number_line (ascii "status=") x.number) e) c.number_line.ensures))
    (joins _ _ (joins _ _ c.text-2.ensures (put_same (ap commas (carried_in_lem c.args.fault.error e)) c.carried.ensures)) c.octet.ensures))
    c.place.ensures
