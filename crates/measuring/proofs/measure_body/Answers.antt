-- `measuring::measure_body` meets its contract. The invariant: the whole is what was counted and what is left of the words.
use Prim.Native.Nat.{◌+◌, ◌-◌, ◌*◌}
use mathlib.Core.Path.{◌≡◌, refl, sym, ap, ◌∙◌}
use native.Mathlib.Omega.{arith}
use Rattle.refusals.specs.Refusals.{refusal}
use Rattle.measuring.specs.Bodies.{lent_of}
use Rattle.stored.specs.Pieces.{piece_at}
use Rattle.stored.specs.Distinguishers.{distinguisher_at}
use Rattle.measuring.specs.declared.Weight.{Weight}
use Rattle.measuring.specs.Grounds.{operators_in}
use Rattle.measuring.specs.Weights.{weight_of}
use Rattle.measuring.proofs.Laws.{distinguisher_most}
use Rattle.measuring.proofs.Walks.{rest_from, walk_first, walk_large, walk_done, walk_bad, walk_more}
use Rattle.measuring.proofs.Weights.{weight_few, weight_most}
use Rattle.measuring.proofs.measure_body.Goals as goal

pub loop-i-init : goal.loop-i-init
loop-i-init c =
    let a = c.args in
    let d = distinguisher_at a.words.now 0 in (
      omega arith,
      omega (arith, c.front_size-body.ensures, distinguisher_most a.writing d),
      walk_first a.writing (lent_of a.lent) a.words.now a.count d c.front_size-body.ensures,
    )

pub returns-then-w-eq0 : goal.returns-then-w-eq0
returns-then-w-eq0 c =
    let a = c.args in
    let l = lent_of a.lent in
    let p = piece_at a.words.now (4 * c.loop-i.i) in
    let r = c.weigh_at-w.result in
    let n : r.octets ≡ weight_of a.writing l c.loop-i.left c.loop-i.previous p = ap (λ (x : Weight). x.octets) c.weigh_at-w.ensures in
    ap refusal c.into.ensures ∙ sym (c.loop-i.invariant.2 ∙ walk_bad a.writing l a.words.now a.count c.loop-i.i c.loop-i.left c.loop-i.previous c.loop-i.body (omega arith) refl (sym n ∙ c.if-w-eq0.true))

pub overflow_add-body : goal.overflow_add-body
overflow_add-body c =
    let a = c.args in
    let l = lent_of a.lent in
    let p = piece_at a.words.now (4 * c.loop-i.i) in
    let r = c.weigh_at-w.result in
    let n : r.octets ≡ weight_of a.writing l c.loop-i.left c.loop-i.previous p = ap (λ (x : Weight). x.octets) c.weigh_at-w.ensures in
    let m : r.operators ≡ operators_in p = ap (λ (x : Weight). x.operators) c.weigh_at-w.ensures in
    omega (arith, weight_few a.writing l c.loop-i.left c.loop-i.previous p (omega arith), weight_most a.writing l c.loop-i.left c.loop-i.previous p (omega arith), c.loop-i.invariant.1)

pub overflow_sub-left : goal.overflow_sub-left
overflow_sub-left c =
    let a = c.args in
    let l = lent_of a.lent in
    let p = piece_at a.words.now (4 * c.loop-i.i) in
    let r = c.weigh_at-w.result in
    let n : r.octets ≡ weight_of a.writing l c.loop-i.left c.loop-i.previous p = ap (λ (x : Weight). x.octets) c.weigh_at-w.ensures in
    let m : r.operators ≡ operators_in p = ap (λ (x : Weight). x.operators) c.weigh_at-w.ensures in
    omega (arith, weight_few a.writing l c.loop-i.left c.loop-i.previous p (omega arith))

pub loop-i-preserved : goal.loop-i-preserved
loop-i-preserved c =
    let a = c.args in
    let l = lent_of a.lent in
    let p = piece_at a.words.now (4 * c.loop-i.i) in
    let r = c.weigh_at-w.result in
    let n : r.octets ≡ weight_of a.writing l c.loop-i.left c.loop-i.previous p = ap (λ (x : Weight). x.octets) c.weigh_at-w.ensures in
    let m : r.operators ≡ operators_in p = ap (λ (x : Weight). x.operators) c.weigh_at-w.ensures in
    let few = weight_few a.writing l c.loop-i.left c.loop-i.previous p (omega arith) in
    let most = weight_most a.writing l c.loop-i.left c.loop-i.previous p (omega arith) in (
      omega arith,
      omega (arith, c.loop-i.invariant.1),
      c.loop-i.invariant.2
          ∙ walk_more a.writing l a.words.now a.count c.loop-i.i c.loop-i.left c.loop-i.previous c.loop-i.body (omega arith) refl (omega arith)
          ∙ ap (λ (x : Weight). rest_from a.writing l a.words.now a.count (c.loop-i.i + 1) (c.loop-i.left - x.operators) x.tag (c.loop-i.body + x.octets)) (sym c.weigh_at-w.ensures),
    )

pub returns-then-body-gt4095 : goal.returns-then-body-gt4095
returns-then-body-gt4095 c =
    let a = c.args in
    let l = lent_of a.lent in
    ap refusal c.into-then-body-gt4095.ensures ∙ sym (c.loop-i.invariant.2 ∙ walk_large a.writing l a.words.now a.count c.loop-i.i c.loop-i.left c.loop-i.previous c.loop-i.body (omega arith) c.if-body-gt4095.true)

pub returns : goal.returns
returns c =
    let a = c.args in
    let l = lent_of a.lent in
    sym (c.loop-i.invariant.2 ∙ walk_done a.writing l a.words.now a.count c.loop-i.i c.loop-i.left c.loop-i.previous c.loop-i.body (omega arith) c.if-body-gt4095.false)
