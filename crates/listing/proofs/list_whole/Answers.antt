-- `listing::list_whole` meets its contract: no listing is longer than the output.
use native.Mathlib.Omega.{arith}
use Rattle.listing.proofs.Answers.{whole_listing}
use Rattle.listing.proofs.list_whole.Goals as goal

pub returns : goal.returns
returns c =
    let x = whole_listing c.args.input.now c.args.out.now (omega (arith, c.list.ensures.most)) c.list.result c.list.ensures.answer c.list.ensures.out c.unwrap_or.ensures in
    record { size = x.0; out = x.1.0; inside = x.1.1 }
