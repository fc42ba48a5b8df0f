-- `ranking::shared_bits` meets its contract: equal upper halves, or others.
use Rattle.ranking.proofs.LeadingBits.{shares_low, shares_high}
use Rattle.ranking.proofs.shared_bits.Goals as goal

pub returns-then-a_high-b_high : goal.returns-then-a_high-b_high
returns-then-a_high-b_high c = shares_low c.args.a c.args.b c.shared_half.result c.halves-a_high.ensures c.halves-b_high.ensures c.if-a_high-b_high.true c.shared_half.ensures

pub returns-else-a_high-b_high : goal.returns-else-a_high-b_high
returns-else-a_high-b_high c =
    shares_high c.args.a c.args.b c.shared_half-else-a_high-b_high.result c.halves-a_high.ensures c.halves-b_high.ensures c.if-a_high-b_high.false c.shared_half-else-a_high-b_high.ensures
