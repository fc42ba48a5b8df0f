-- `listing::read_listed` meets its contract: `NeverShort.antt` has the two ways that it goes.
use mathlib.Core.Path.{refl, ap}
use native.Mathlib.Omega.{arith}
use lib.ListN.{length}
use Rattle.refusals.specs.Refusals.{refusal}
use Rattle.listing.proofs.NeverShort.{over_long, as_read}
use Rattle.listing.proofs.read_listed.Goals as goal

pub returns-then-input-gt4097 : goal.returns-then-input-gt4097
returns-then-input-gt4097 c =
    rw (over_long c.args.input.now c.if-input-gt4097.true) (record { answer = ap refusal c.into.ensures; words = refl; values = refl; octets = refl })

pub returns : goal.returns
returns c =
    let e = c.read_into.ensures in
    let l = as_read c.args.input.now (length c.args.words.now) (length c.args.values.now) (length c.args.octets.now) c.if-input-gt4097.false (omega (arith, c.told-words)) (omega (arith, c.told-values)) (omega (arith, c.told-octets)) in
    record { answer = rw l at e.answer; words = rw l at e.words; values = rw l at e.values; octets = rw l at e.octets }
