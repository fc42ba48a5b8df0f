-- `lists::measure_on` meets its contract. The invariant: the whole list is what is left of it at the place, after n operators. A turn is one
-- step of any kind and then a run, of which `measure_run` says that it changes nothing of what is left.
use Prim.Native.Nat.{◌≤◌}
use mathlib.Core.Path.{sym, ◌∙◌, ap, subst}
use Rattle.refusals.specs.Refusals.{refusal}
use native.Mathlib.Omega.{arith}
use lib.ListN.{get_or}
use Rattle.octets.proofs.Widths.{width_least}
use Rattle.choices.proofs.Limits.{is_refused, is_taken}
use Rattle.operators.specs.Ops.{kind_of}
use Rattle.lists.specs.Runs.{Ran, stop, reached}
use Rattle.lists.proofs.Runs.{rest_first, rest_missing, rest_wide, rest_cut, rest_refused, rest_last, rest_run}
use Rattle.lists.proofs.measure_on.Goals as goal

pub loop-i-init : goal.loop-i-init
loop-i-init c = (omega arith, rest_first _ _ _ _)

pub returns-then-s-i : goal.returns-then-s-i
returns-then-s-i c = ap refusal c.at.ensures ∙ sym (c.loop-i.invariant.1 ∙ rest_missing _ _ _ _ _ c.if-s-i.true)

pub returns-then-too_wide : goal.returns-then-too_wide
returns-then-too_wide c = ap refusal c.at-then-too_wide.ensures ∙ sym (c.loop-i.invariant.1 ∙ rest_wide _ _ _ _ _ c.if-s-i.false (sym c.too_wide.ensures ∙ c.if-too_wide.true))

pub returns-then-s-from : goal.returns-then-s-from
returns-then-s-from c =
    ap refusal c.at-then-s-from.ensures ∙ sym (c.loop-i.invariant.1
    ∙ rest_cut _ _ _ _ _ (sym c.too_wide.ensures ∙ c.if-too_wide.false) c.if-s-i.false (omega (arith, c.shifted-w.ensures, width_least (get_or c.args.s.now c.loop-i.i 0))))

pub returns-then-bound-octet : goal.returns-then-bound-octet
returns-then-bound-octet c =
    let a = c.args in
    ap refusal c.at-then-bound-octet.ensures ∙ sym (c.loop-i.invariant.1
    ∙ rest_refused _ _ _ _ _ (sym c.too_wide.ensures ∙ c.if-too_wide.false) (omega (arith, c.shifted-w.ensures)) (is_refused a.reading (kind_of a.tag) _ (omega (arith, c.if-bound-octet.true, c.requires))))

pub returns-then-octet-ge128 : goal.returns-then-octet-ge128
returns-then-octet-ge128 c =
    let a = c.args in
    sym (c.loop-i.invariant.1 ∙ rest_last _ _ _ _ _ (sym c.too_wide.ensures ∙ c.if-too_wide.false) (omega (arith, c.shifted-w.ensures)) (is_taken a.reading (kind_of a.tag) _ (omega (arith, c.if-bound-octet.false, c.requires))) c.shifted-w.ensures c.if-octet-ge128.true)

pub returns-in-Break : goal.returns-in-Break
returns-in-Break c =
    let a = c.args in
    sym (c.loop-i.invariant.1
    ∙ rest_run _ _ _ _ _ (sym c.too_wide.ensures ∙ c.if-too_wide.false) (omega (arith, c.shifted-w.ensures)) (is_taken a.reading (kind_of a.tag) _ (omega (arith, c.if-bound-octet.false, c.requires))) c.shifted-w.ensures c.requires c.if-octet-ge128.false c.measure_run.ensures
    ∙ ap (reached a.reading a.tag a.s.now) c.in-Break.is)

pub loop-i-preserved : goal.loop-i-preserved
loop-i-preserved c =
    let a = c.args in (
      subst (λ (r : Ran). (stop r).count ≤ (stop r).next.at) c.in-Continue.is c.measure_run.ensures.place,
      c.loop-i.invariant.1
          ∙ rest_run _ _ _ _ _ (sym c.too_wide.ensures ∙ c.if-too_wide.false) (omega (arith, c.shifted-w.ensures)) (is_taken a.reading (kind_of a.tag) _ (omega (arith, c.if-bound-octet.false, c.requires))) c.shifted-w.ensures c.requires c.if-octet-ge128.false c.measure_run.ensures
          ∙ ap (reached a.reading a.tag a.s.now) c.in-Continue.is,
    )
