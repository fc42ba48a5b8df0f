-- `ranking::compare_rules` meets its contract. The invariant: the first i components of each rank equal.
use mathlib.Core.Path.{sym, ◌∙◌}
use native.Mathlib.Omega.{arith}
use Rattle.ranking.proofs.ComponentsInTurn.{Begun, few, inside_at, no_components, components_end, components_tell, components_equal}
use Rattle.ranking.proofs.compare_rules.Goals as goal

pub loop-i-init : goal.loop-i-init
loop-i-init c =
    let g = c.args in
    let w : Begun g.a.words.now g.a.at g.a.values.now g.a.octets.now c.count_at-held.result c.first_at-first.result = record { rankable = c.requires.first; counted = c.count_at-held.ensures; begins = c.first_at-first.ensures } in
    let w2 : Begun g.b.words.now g.b.at g.b.values.now g.b.octets.now c.count_at-held2.result c.first_at-first2.result = record { rankable = c.requires.second; counted = c.count_at-held2.ensures; begins = c.first_at-first2.ensures } in
    (omega (arith, c.min-i-end.ensures), omega (arith, c.min-i-end.ensures), omega (arith, c.min-i-end.ensures, few w), w, w2, no_components)

pub compare_components-order-requires-clause-first : goal.compare_components-order-requires-clause-first
compare_components-order-requires-clause-first c =
    let w = c.loop-i.invariant.3 in
    (omega (arith, w.rankable.whole), inside_at w _ (omega arith))

pub compare_components-order-requires-clause-second : goal.compare_components-order-requires-clause-second
compare_components-order-requires-clause-second c =
    let w = c.loop-i.invariant.4 in
    (omega (arith, w.rankable.whole), inside_at w _ (omega arith))

pub returns-then-is_ne : goal.returns-then-is_ne
returns-then-is_ne c =
    let v = c.loop-i.invariant in
    components_tell v.3 v.4 v.5 (omega arith) (omega arith) _ c.compare_components-order.ensures (sym c.is_ne.ensures ∙ c.if-is_ne.true)

pub loop-i-preserved : goal.loop-i-preserved
loop-i-preserved c =
    let v = c.loop-i.invariant in
    (v.0, v.1, v.2, v.3, v.4, components_equal v.3 v.4 v.5 (omega arith) (omega arith) _ c.compare_components-order.ensures (sym c.is_ne.ensures ∙ c.if-is_ne.false))

pub returns : goal.returns
returns c =
    let v = c.loop-i.invariant in
    c.cmp.ensures ∙ sym (components_end v.3 v.4 v.5 (omega (arith, c.min-i-end.ensures)) (omega (arith, c.min-i-end.ensures)))
