-- `ranking::compare_prefixes` meets its contract.
use Prim.Native.Nat.{ℕ}
use mathlib.Core.Path.{ap, ap₂, ◌∙◌}
use Rattle.ranking.specs.declared.Front.{Front}
use Rattle.ranking.specs.Ranks.{lower, then_by, leading_bits, rank_front}
use Rattle.ranking.proofs.Orders.{then_assoc}
use Rattle.ranking.proofs.compare_prefixes.Goals as goal

pub returns : goal.returns
unfolding rank_front
returns c =
    let f = c.from-f.result in
    let g = c.from-g.result in
    c.then-2.ensures
    ∙ ap₂ then_by (c.then.ensures ∙ ap₂ then_by c.cmp-offset.ensures (c.compare_bits-bits.ensures ∙ ap (λ (k : ℕ). lower (leading_bits k f.address) (leading_bits k g.address)) c.min-n.ensures)) c.cmp-longer.ensures
    ∙ then_assoc (lower f.offset g.offset) _ (lower g.length f.length)
    ∙ ap₂ (λ (x y : Front). rank_front x y) c.from-f.ensures c.from-g.ensures
