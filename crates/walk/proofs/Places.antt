-- Where a walk broke, by induction over it, and that no octet behind that place plays a part: document 01, "What comes back".
use Prim.Native.Nat.{ℕ, zero, suc, ◌+◌, ◌≤◌, ◌<◌}
use mathlib.Core.Path.{◌≡◌, refl, sym, ◌∙◌, ap, ap₂, subst}
use mathlib.Core.List.{List, [], ◌∷◌}
use mathlib.Core.Logic.{⊎_elim}
use native.Mathlib.Omega.{arith}
use borrow.Author.Tests.{le-leb, lt-leb}
use lib.ListN.{length, get_or}
use Rattle.ground.specs.Answers.{Answer, Refused, at_octet, refused, accepts, refuses_at, declines}
use Rattle.ground.proofs.Answers.{never, same_accepted, same_refusal}
use Rattle.ground.proofs.Cases.{lt_or_le}
use Rattle.ground.proofs.Places.{Alike, alike_less, Breaks, breaks_at_end, breaks_here, breaks_on}
use Rattle.choices.specs.declared.Reading.{Reading}
use Rattle.choices.specs.Choices.{last_type}
use Rattle.operators.specs.Ops.{Op}
use Rattle.prefixes.specs.declared.Extent.{Extent}
use Rattle.prefixes.specs.Prefixes.{extent_at, prefix_on}
use Rattle.prefixes.proofs.Laws.{prefix_by}
use Rattle.prefixes.proofs.Places.{behind, extent_breaks, extent_alike}
use Rattle.lists.specs.declared.Tally.{Tally}
use Rattle.lists.specs.Lists.{tally, list_at, ops_at, recorded_ops}
use Rattle.lists.proofs.Laws.{recorded_counts}
use Rattle.lists.proofs.Places.{list_breaks, list_alike}
use Rattle.walk.specs.Walks.{FoundAt, prefix_found, list_found, typed_at, component_at, Body, body, joined, turn, walk_from, walk_at, seen}
use Rattle.walk.proofs.Ways.{found_missing, found_order, found_type, found_typed, typed_prefix, typed_list, prefix_seen, list_seen}
use Rattle.walk.proofs.Components.{Here, here, Sighted, sighted}

-- what a component is refused by is its prefix's or its list's refusal
prefix_refused : (r : Reading) (s : List ℕ) (t : ℕ) (a : Answer Extent) {f : Refused} → prefix_found t (prefix_on r s a) ≡ declines f → a ≡ declines f
prefix_refused r s t (accepts x) e = never (sym e)
prefix_refused r s t (declines g) e = ap declines (same_refusal e)

list_refused : (t start : ℕ) (os : List Op) (a : Answer Tally) {f : Refused} → list_found t start os a ≡ declines f → a ≡ declines f
list_refused t start os (accepts l) e = never (sym e)
list_refused t start os (declines g) e = ap declines (same_refusal e)

module _ (r : Reading) (s : List ℕ) where
  -- ---- one component

  module _ (at previous start : ℕ) (h : at ≤ length s) where
    abbrev Broken : Refused → Type 0
    Broken = Breaks (behind r) (λ (u : List ℕ). component_at r u at previous start) s at (length s)

    no_octet : length s ≤ at → Broken (refused 1 [] (at_octet (length s)))
    no_octet l = breaks_at_end (behind r) _ s at h (λ u a. found_missing r u at previous start (omega (arith, a.long)))

    module _ (l : at < length s) where
      bad_order : get_or s at 0 ≤ previous → Broken (refused 2 (previous ∷ get_or s at 0 ∷ []) (at_octet at))
      bad_order k =
          breaks_here (behind r) _ s at h 2 (previous ∷ get_or s at 0 ∷ []) (λ z. omega arith)
          (λ u a.
          let o = a.same at (omega arith) in
          found_order r u at previous start (omega (arith, a.long)) (omega arith) ∙ ap (λ (x : ℕ). refuses_at 2 (previous ∷ x ∷ []) at) o)

      module _ (k : previous < get_or s at 0) where
        bad_type : last_type r < get_or s at 0 → Broken (refused 3 (get_or s at 0 ∷ []) (at_octet at))
        bad_type m =
            breaks_here (behind r) _ s at h 3 (get_or s at 0 ∷ []) (λ z. omega arith)
            (λ u a.
            let o = a.same at (omega arith) in
            found_type r u at previous start (omega (arith, a.long)) (omega arith) (omega arith) ∙ ap (λ (x : ℕ). refuses_at 3 (x ∷ []) at) o)

        module _ (m : get_or s at 0 ≤ last_type r) (u : List ℕ) (long : length u ≡ length s) (o : get_or u at 0 ≡ get_or s at 0) where
          typed_there : component_at r u at previous start ≡ typed_at r (get_or s at 0) u (at + 1) start
          typed_there =
              found_typed r u at previous start (omega arith) (omega arith) (omega arith)
              ∙ ap (λ (x : ℕ). typed_at r x u (at + 1) start) o

        module _ (m : get_or s at 0 ≤ last_type r) {f : Refused} (e : component_at r s at previous start ≡ declines f) where
          typed_refused : typed_at r (get_or s at 0) s (at + 1) start ≡ declines f
          typed_refused = sym (found_typed r s at previous start l k m) ∙ e

          in_prefix : get_or s at 0 ≤ 2 → Broken f
          in_prefix p =
              let t = get_or s at 0 in
              let i = sym (typed_prefix r t s (at + 1) start p ∙ ap (prefix_found t) (prefix_by r s (at + 1) refl)) ∙ typed_refused in
              breaks_on (extent_breaks r s (at + 1) (omega arith) (prefix_refused r s t (extent_at r s (at + 1)) i)) _ at (omega arith)
              (λ u a q.
              typed_there m u a.long (a.same at (omega arith)) ∙ typed_prefix r t u (at + 1) start p ∙ ap (prefix_found t) (prefix_by r u (at + 1) q))

          in_list : 2 < get_or s at 0 → Broken f
          in_list p =
              let t = get_or s at 0 in
              let i = sym (typed_list r t s (at + 1) start p) ∙ typed_refused in
              breaks_on (list_breaks r t s (behind r) (at + 1) (omega arith) (list_refused t start (recorded_ops r t (ops_at s (at + 1))) (list_at r t s (at + 1)) i)) _ at (omega arith)
              (λ u a q.
              typed_there m u a.long (a.same at (omega arith)) ∙ typed_list r t u (at + 1) start p
              ∙ ap (list_found t start (recorded_ops r t (ops_at u (at + 1)))) q)

    pub component_breaks : {f : Refused} → component_at r s at previous start ≡ declines f → Broken f
    component_breaks e =
        ⊎_elim
        (λ l. ⊎_elim
        (λ k. ⊎_elim
        (λ m. subst Broken (same_refusal (sym (found_type r s at previous start l k m) ∙ e)) (bad_type l k m))
        (λ m. ⊎_elim (λ p. in_list l k m e p) (λ p. in_prefix l k m e p) (lt_or_le 2 (get_or s at 0)))
        (lt_or_le (last_type r) (get_or s at 0)))
        (λ k. subst Broken (same_refusal (sym (found_order r s at previous start l k) ∙ e)) (bad_order l k))
        (lt_or_le previous (get_or s at 0)))
        (λ l. subst Broken (same_refusal (sym (found_missing r s at previous start l) ∙ e)) (no_octet l))
        (lt_or_le at (length s))

-- an accepted component is an extent or a list
with_extent : {A : Type 0} (r : Reading) (s : List ℕ) (t : ℕ) (a : Answer Extent) {p : FoundAt} → prefix_found t (prefix_on r s a) ≡ accepts p
    → ((x : Extent) → a ≡ accepts x → 0 ≡ length p.operators → x.next.at ≡ p.next → A) → A
with_extent r s t (accepts x) e f = let z = same_accepted e in f x refl (ap (λ (q : FoundAt). length q.operators) z) (ap (λ (q : FoundAt). q.next) z)
with_extent r s t (declines g) e f = never e

with_list : {A : Type 0} (t start : ℕ) (os : List Op) (a : Answer Tally) {p : FoundAt} → list_found t start os a ≡ accepts p
    → ((l : Tally) → a ≡ accepts l → length os ≡ length p.operators → l.next.at ≡ p.next → A) → A
with_list t start os (accepts l) e f = let z = same_accepted e in f l refl (ap (λ (q : FoundAt). length q.operators) z) (ap (λ (q : FoundAt). q.next) z)
with_list t start os (declines g) e f = never e

-- one that is found is found of octets that agree up to its end, with as many operators and the same end
module _ (r : Reading) (s : List ℕ) (at previous start : ℕ) {p : FoundAt} (e : component_at r s at previous start ≡ accepts p)
    (u : List ℕ) (a : Alike p.next s u) where
  module _ (d : Here r s at previous start p) (o : get_or u at 0 ≡ get_or s at 0) where
    seen_prefix : get_or s at 0 ≤ 2 → accepts (tally (length p.operators) p.next) ≡ seen (component_at r u at previous start)
    seen_prefix h =
        with_extent r s (get_or s at 0) (extent_at r s (at + 1))
        (sym (typed_prefix r (get_or s at 0) s (at + 1) start h ∙ ap (prefix_found (get_or s at 0)) (prefix_by r s (at + 1) refl)) ∙ d.typed)
        (λ x i n m.
        let b : Alike x.next.at s u = alike_less (omega arith) a in
        ap₂ (λ (y z : ℕ). accepts (tally y z)) (sym n) (sym m)
        ∙ prefix_seen r u at previous start (omega (arith, a.long, d.within)) (omega (arith, d.rises)) (omega (arith, d.known)) (omega arith) (sym (extent_alike r s (at + 1) i u b)))

    seen_list : 2 < get_or s at 0 → accepts (tally (length p.operators) p.next) ≡ seen (component_at r u at previous start)
    seen_list h =
        with_list (get_or s at 0) start (recorded_ops r (get_or s at 0) (ops_at s (at + 1))) (list_at r (get_or s at 0) s (at + 1))
        (sym (typed_list r (get_or s at 0) s (at + 1) start h) ∙ d.typed)
        (λ l i n m.
        let b : Alike l.next.at s u = alike_less (omega arith) a in
        ap₂ (λ (y z : ℕ). accepts (tally y z)) (sym n ∙ recorded_counts r (get_or s at 0) s (at + 1) i) (sym m)
        ∙ list_seen r u at previous start (omega (arith, a.long, d.within)) (omega (arith, d.rises)) (omega (arith, d.known)) (omega arith)
        (sym (ap (λ (x : ℕ). list_at r x u (at + 1)) o ∙ list_alike r (get_or s at 0) s (at + 1) i u b)))

  pub component_alike : Sighted (component_at r u at previous start) (length p.operators) p.next
  component_alike =
      let d = here r s at previous start e in
      let o = a.same at (omega (arith, d.past)) in
      sighted (component_at r u at previous start) (⊎_elim (seen_list d o) (seen_prefix d o) (lt_or_le 2 (get_or s at 0)))

-- ---- the walk

joined_refused : (p : FoundAt) (a : Answer Body) {f : Refused} → joined p a ≡ declines f → a ≡ declines f
joined_refused p (accepts b) e = never (sym e)
joined_refused p (declines g) e = ap declines (same_refusal e)

walk_step : (r : Reading) (s : List ℕ) (stop k at previous start : ℕ) → at < stop
    → walk_from (suc k) r s stop at previous start ≡ turn (get_or s at 0) start (component_at r s at previous start) (walk_from k r s stop)
unfolding walk_from
walk_step r s stop k at previous start h = rw (lt-leb stop at h)

walk_over : (r : Reading) (s : List ℕ) (stop k at previous start : ℕ) → stop ≤ at → walk_from (suc k) r s stop at previous start ≡ accepts (body [] [])
unfolding walk_from
walk_over r s stop k at previous start h = rw (le-leb stop at h)

walk_spent : (r : Reading) (s : List ℕ) (stop at previous start : ℕ) → walk_from zero r s stop at previous start ≡ refuses_at 1 [] (length s)
unfolding walk_from
walk_spent r s stop at previous start = refl

module _ (r : Reading) (s : List ℕ) (stop : ℕ) where
  abbrev Walked : ℕ → ℕ → ℕ → ℕ → Refused → Type 0
  Walked k at previous start = Breaks (behind r) (λ (u : List ℕ). walk_from k r u stop at previous start) s at (length s)

  by_found : (k at previous start : ℕ) → at < stop → at ≤ length s → {f : Refused}
      → ((x t i : ℕ) → x ≤ length s → walk_from k r s stop x t i ≡ declines f → Walked k x t i f) → (a : Answer FoundAt) → component_at r s at previous start ≡ a
      → turn (get_or s at 0) start a (walk_from k r s stop) ≡ declines f → Walked (suc k) at previous start f
  by_found k at previous start h l ih (accepts p) z e =
      let d = here r s at previous start z in
      let t = get_or s at 0 in
      let n = start + length p.operators in
      breaks_on (ih p.next t n d.inside (joined_refused p (walk_from k r s stop p.next t n) e)) _ at (omega (arith, d.past))
      (λ u a q.
      let c = component_alike r s at previous start z u (alike_less (omega arith) a) in
      let o = a.same at (omega (arith, d.past)) in
      walk_step r u stop k at previous start h
      ∙ ap (λ (x : Answer FoundAt). turn (get_or u at 0) start x (walk_from k r u stop)) c.is
      ∙ ap (joined c.what)
      (ap₂ (λ (x y : ℕ). walk_from k r u stop x (get_or u at 0) (start + y)) c.next c.count ∙ ap (λ (x : ℕ). walk_from k r u stop p.next x n) o ∙ q))
  by_found k at previous start h l ih (declines g) z e =
      breaks_on (component_breaks r s at previous start l (z ∙ ap declines (same_refusal e))) _ at (omega arith)
      (λ u a q. walk_step r u stop k at previous start h ∙ ap (λ (x : Answer FoundAt). turn (get_or u at 0) start x (walk_from k r u stop)) q)

  from_breaks : (k at previous start : ℕ) → at ≤ length s → {f : Refused} → walk_from k r s stop at previous start ≡ declines f → Walked k at previous start f
  from_breaks zero at previous start l e =
      subst (Walked zero at previous start) (same_refusal (sym (walk_spent r s stop at previous start) ∙ e))
      (breaks_at_end (behind r) _ s at l (λ u a. walk_spent r u stop at previous start))
  from_breaks (suc k) at previous start l e =
      ⊎_elim
      (λ h. by_found k at previous start h l (λ x t i m w. from_breaks k x t i m w) (component_at r s at previous start) refl (sym (walk_step r s stop k at previous start h) ∙ e))
      (λ h. never (sym e ∙ walk_over r s stop k at previous start h))
      (lt_or_le at stop)

  pub walk_breaks : {f : Refused} → walk_at r s stop ≡ declines f → Breaks (behind r) (λ (u : List ℕ). walk_at r u stop) s 0 (length s) f
  unfolding walk_at
  walk_breaks e = from_breaks 14 0 0 0 (omega arith) e
