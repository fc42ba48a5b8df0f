-- `ranking::compare_bits` meets its contract: first bits that are not shared are in the order of the addresses.
use mathlib.Core.Path.{◌∙◌}
use Rattle.ranking.proofs.LeadingBits.{bits_differ}
use Rattle.ranking.proofs.compare_bits.Goals as goal

pub returns : goal.returns
returns c = let a = c.args in c.cmp.ensures ∙ bits_differ a.a a.b _ a.n c.shared_bits.ensures c.if-n-shared_bits.false
