-- `verdicts::rank` meets its contract: the tests in turn.
use mathlib.Core.Path.{sym, ap₂, ◌∙◌}
use borrow.Author.Tests.{eq-eqb}
use lib.Dec.{eqb}
use Rattle.ranking.specs.Ranks.{Rankable}
use Rattle.verdicts.specs.Verdicts.{rank_verdict}
use Rattle.verdicts.proofs.WellFormed.{rankable}
use Rattle.verdicts.proofs.rank.Goals as goal

pub family_at-requires : goal.family_at-requires
family_at-requires c =
    ((let ready_is : let g = c.args in Rankable g.words.now 0 g.values.now g.octets.now = let g = c.args in
    rankable g.words.now g.values.now g.octets.now 0 (sym c.well_formed-2.ensures ∙ c.if-not-well_formed.false) in ready_is)).whole

pub family_at-requires-2 : goal.family_at-requires-2
family_at-requires-2 c =
    ((let ready2_is : let g = c.args in Rankable g.words2.now 0 g.values2.now g.octets2.now = let g = c.args in
    rankable g.words2.now g.values2.now g.octets2.now 0 (sym c.well_formed-3.ensures ∙ c.if-not-well_formed-2.false) in ready2_is)).whole

pub same_distinguisher-requires : goal.same_distinguisher-requires
same_distinguisher-requires c = (
  ((let ready2_is : let g = c.args in Rankable g.words2.now 0 g.values2.now g.octets2.now = let g = c.args in
      rankable g.words2.now g.values2.now g.octets2.now 0 (sym c.well_formed-3.ensures ∙ c.if-not-well_formed-2.false) in ready2_is)).whole,
  ((let ready_is : let g = c.args in Rankable g.words.now 0 g.values.now g.octets.now = let g = c.args in
      rankable g.words.now g.values.now g.octets.now 0 (sym c.well_formed-2.ensures ∙ c.if-not-well_formed.false) in ready_is)).whole,
)

pub compare_rules-order-requires-clause-first : goal.compare_rules-order-requires-clause-first
compare_rules-order-requires-clause-first c =
    (let ready_is : let g = c.args in Rankable g.words.now 0 g.values.now g.octets.now = let g = c.args in
    rankable g.words.now g.values.now g.octets.now 0 (sym c.well_formed-2.ensures ∙ c.if-not-well_formed.false) in ready_is)

pub compare_rules-order-requires-clause-second : goal.compare_rules-order-requires-clause-second
compare_rules-order-requires-clause-second c =
    (let ready2_is : let g = c.args in Rankable g.words2.now 0 g.values2.now g.octets2.now = let g = c.args in
    rankable g.words2.now g.values2.now g.octets2.now 0 (sym c.well_formed-3.ensures ∙ c.if-not-well_formed-2.false) in ready2_is)

pub returns : goal.returns
unfolding rank_verdict
returns c = rw ((sym c.well_formed-2.ensures ∙ c.if-not-well_formed.false), (sym c.well_formed-3.ensures ∙ c.if-not-well_formed-2.false), (ap₂ eqb (sym c.family_at.ensures) (sym c.family_at-2.ensures) ∙ eq-eqb _ _ c.if-family_at.false), sym c.same_distinguisher.ensures ∙ c.if-not-same_distinguisher.false, c.compare_rules-order.ensures)
