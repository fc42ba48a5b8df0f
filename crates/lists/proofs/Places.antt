-- Where a list broke, and that no octet behind that place plays a part: document 01, "What comes back". An accepted list goes by the octets
-- up to its end.
use Prim.Native.Nat.{ℕ, zero, suc, ◌+◌, ◌≤◌, ◌<◌}
use mathlib.Core.Path.{◌≡◌, refl, sym, ◌∙◌, ap, subst}
use mathlib.Core.Bool.{true, false}
use mathlib.Core.List.{List, [], ◌∷◌}
use native.Mathlib.Omega.{arith}
use native.Mathlib.Decide.{dec_lt}
use lib.ListN.{length, get_or}
use Rattle.ground.specs.Answers.{Answer, Refused, at_octet, refused, accepts, refuses_at, declines}
use Rattle.ground.proofs.Answers.{never, same_refusal}
use Rattle.ground.proofs.Cases.{by_cases}
use Rattle.ground.proofs.Places.{Alike, alike_less, Breaks, breaks_at_end, breaks_here, breaks_on}
use Rattle.octets.specs.Widths.{code_in, width_of}
use Rattle.choices.specs.declared.Reading.{Reading}
use Rattle.choices.specs.Choices.{refused_in}
use Rattle.operators.specs.Ops.{kind_of, Op}
use Rattle.lists.specs.declared.Tally.{Tally}
use Rattle.lists.specs.Lists.{tally, plus, op_at, after_op, too_wide, operator_at, list_at}
use Rattle.lists.proofs.Operators.{operator_missing, operator_wide, operator_cut, operator_refused, operator_taken, operator_ways, taken}
use Rattle.lists.proofs.Equations.{list_stops, list_last, list_more, plus_refuses}
use Rattle.lists.proofs.Chains.{Chain, last, more, list_chain, list_counts, chain_whole}

module _ (r : Reading) (t : ℕ) (s : List ℕ) where
  -- ---- one operator

  module _ (at : ℕ) (h : at ≤ length s) (more : ℕ → ℕ) where
    abbrev Broken : Refused → Type 0
    Broken = Breaks more (λ (u : List ℕ). operator_at r t u at) s at (length s)

    at_end : length s ≤ at → Broken (refused 1 [] (at_octet (length s)))
    at_end l = breaks_at_end more _ s at h (λ u a. operator_missing r t u at (omega (arith, a.long)))

    at_width : at < length s → too_wide r t (get_or s at 0) ≡ true → Broken (refused 6 (code_in (get_or s at 0) ∷ []) (at_octet at))
    at_width l e =
        breaks_here more _ s at h 6 (code_in (get_or s at 0) ∷ []) (λ z. omega arith)
        (λ u a.
        let o = a.same at (omega arith) in
        operator_wide r t u at (omega (arith, a.long)) (rw o e) ∙ ap (λ (x : ℕ). refuses_at 6 (code_in x ∷ []) at) o)

    module _ (n : too_wide r t (get_or s at 0) ≡ false) where
      in_value : at < length s → length s ≤ at + width_of (get_or s at 0) → Broken (refused 1 [] (at_octet (length s)))
      in_value l k =
          breaks_at_end more _ s at h
          (λ u a.
          let o = a.same at (omega arith) in
          let w = ap width_of o in
          operator_cut r t u at (rw o n) (omega (arith, a.long)) (omega (arith, a.long)))

      at_reserved : at + width_of (get_or s at 0) < length s → refused_in r (kind_of t) (get_or s at 0) ≡ true → Broken (refused 5 (get_or s at 0 ∷ []) (at_octet at))
      at_reserved l e =
          breaks_here more _ s at h 5 (get_or s at 0 ∷ []) (λ z. omega arith)
          (λ u a.
          let o = a.same at (omega arith) in
          let w = ap width_of o in
          operator_refused r t u at (rw o n) (omega (arith, a.long)) (rw o e) ∙ ap (λ (x : ℕ). refuses_at 5 (x ∷ []) at) o)

    pub operator_breaks : {f : Refused} → operator_at r t s at ≡ declines f → Broken f
    operator_breaks e =
        operator_ways r t s at
        (λ l. subst Broken (same_refusal (sym (operator_missing r t s at l) ∙ e)) (at_end l))
        (λ l n. subst Broken (same_refusal (sym (operator_wide r t s at l n) ∙ e)) (at_width l n))
        (λ n l k. subst Broken (same_refusal (sym (operator_cut r t s at n l k) ∙ e)) (in_value n l k))
        (λ n k g. subst Broken (same_refusal (sym (operator_refused r t s at n k g) ∙ e)) (at_reserved n k g))
        (λ n k g. never (sym e ∙ operator_taken r t s at n k g))

  -- one that is taken is taken of octets that agree up to its own, with the same octet
  module _ (at : ℕ) {o : Op} (e : operator_at r t s at ≡ accepts o) (u : List ℕ) (a : Alike (at + 1) s u) where
    taken_there : operator_at r t u at ≡ accepts (op_at u at)
    taken_there =
        let w = taken r t s at e in
        let i = a.same at (omega arith) in
        let j = ap width_of i in
        operator_taken r t u at (rw i w.narrow) (omega (arith, a.long, w.within)) (rw i w.kept)

    octet_there : get_or u at 0 ≡ o.octet
    octet_there = a.same at (omega arith) ∙ sym (ap (λ (x : Op). x.octet) (taken r t s at e).is)

    after_there : after_op at (op_at u at) ≡ after_op at o
    after_there = ap (λ (x : ℕ). at + 1 + width_of x) octet_there

    pub last_there : 128 ≤ o.octet → list_at r t u at ≡ accepts (tally 1 (after_op at o))
    last_there h = list_last r t u at taken_there (omega (arith, octet_there)) ∙ ap (λ (x : ℕ). accepts (tally 1 x)) after_there

    pub more_there : o.octet < 128 → list_at r t u at ≡ plus 1 (list_at r t u (after_op at o))
    more_there h = list_more r t u at taken_there (omega (arith, octet_there)) ∙ ap (λ (x : ℕ). plus 1 (list_at r t u x)) after_there

  -- ---- the list

  module _ (more : ℕ → ℕ) where
    abbrev Listed : ℕ → Refused → Type 0
    Listed at = Breaks more (λ (u : List ℕ). list_at r t u at) s at (length s)

    by_answer : (at : ℕ) → at ≤ length s → {f : Refused} → list_at r t s at ≡ declines f
        → ((o : Op) → after_op at o ≤ length s → list_at r t s (after_op at o) ≡ declines f → Listed (after_op at o) f) → (a : Answer Op) → operator_at r t s at ≡ a → Listed at f
    by_answer at h e ih (accepts o) i =
        let w = taken r t s at i in
        let j = ap (λ (x : Op). width_of x.octet) w.is in
        by_cases (dec_lt o.octet 128)
        (λ l. breaks_on (ih o (omega (arith, w.within)) (plus_refuses 1 (list_at r t s (after_op at o)) (sym (list_more r t s at i l) ∙ e))) _ at (omega arith)
        (λ u a q. more_there at i u (alike_less (omega arith) a) l ∙ ap (plus 1) q))
        (λ l. never (sym e ∙ list_last r t s at i (omega (arith, l))))
    by_answer at h e ih (declines g) i =
        breaks_on (operator_breaks at h more (i ∙ ap declines (same_refusal (sym (list_stops r t s at i) ∙ e)))) _ at (omega arith)
        (λ u a q. list_stops r t u at q)

    by_bound : (k at : ℕ) → length s ≤ at + k → at ≤ length s → {f : Refused} → list_at r t s at ≡ declines f → Listed at f
    by_bound zero at h l e = by_answer at l e (λ o m i. absurd (omega arith)) (operator_at r t s at) refl
    by_bound (suc k) at h l e = by_answer at l e (λ o m i. by_bound k (after_op at o) (omega arith) m i) (operator_at r t s at) refl

    pub list_breaks : (at : ℕ) → at ≤ length s → {f : Refused} → list_at r t s at ≡ declines f → Listed at f
    list_breaks at h e = by_bound (length s) at (omega arith) h e

  chain_alike : {at to : ℕ} {os : List Op} → Chain r t s at os to → (u : List ℕ) → Alike to s u → list_at r t u at ≡ accepts (tally (length os) to)
  chain_alike (last {at = at} {o = o} e h) u a = last_there at e u (alike_less (omega arith) a) h
  chain_alike (more {at = at} {to = to} {o = o} {os = os} e h c) u a =
      let w = chain_whole c in
      let n : 1 + length os ≡ suc (length os) = omega arith in
      more_there at e u (alike_less (omega (arith, w.past)) a) h ∙ ap (plus 1) (chain_alike c u a) ∙ ap (λ (m : ℕ). accepts (tally m to)) n

  pub list_alike : (at : ℕ) {l : Tally} → list_at r t s at ≡ accepts l → (u : List ℕ) → Alike l.next.at s u → list_at r t u at ≡ accepts l
  list_alike at {l} e u a = chain_alike (list_chain r t s at e) u a ∙ ap (λ (n : ℕ). accepts (tally n l.next.at)) (list_counts r t s at e)
