-- A list by equations, without the bound that the definition has: it is refused where the operator at its place is missing, too wide, cut or
-- refused, ends after one with the end mark, and otherwise is one operator and the list after it. So are its operators. The bound is met
-- here alone.
use Prim.Native.Nat.{ℕ, zero, suc, ◌+◌, ◌-◌, ◌≤◌, ◌<◌}
use mathlib.Core.Path.{◌≡◌, refl, sym, ◌∙◌, ap, subst}
use mathlib.Core.Bool.{true, false}
use mathlib.Core.List.{List, [], ◌∷◌}
use borrow.Author.Tests.{le-leb, lt-leb, lt-ltb, le-ltb}
use native.Mathlib.Omega.{arith}
use native.Mathlib.Decide.{dec_lt}
use lib.ListN.{length, get_or}
use lib.Dec.{leb}
use Rattle.ground.specs.Answers.{Answer, Refused, at_octet, refused, accepts, refuses_at, declines}
use Rattle.ground.specs.Picks.{pick}
use Rattle.ground.proofs.Answers.{never, same_refusal}
use Rattle.ground.proofs.Cases.{by_cases}
use Rattle.octets.specs.Widths.{code_in, width_of}
use Rattle.choices.specs.declared.Reading.{Reading}
use Rattle.choices.specs.Choices.{refused_in}
use Rattle.operators.specs.Ops.{kind_of, Op}
use Rattle.lists.specs.declared.Tally.{Tally}
use Rattle.lists.specs.Lists.{tally, plus, op_at, after_op, too_wide, operator_at, turn, list_from, list_at, is_accepted, ops_turn, ops_from, ops_at}
use Rattle.lists.proofs.Operators.{operator_missing, operator_wide, operator_cut, operator_refused, operator_refuses}

-- ---- the bound

module _ (r : Reading) (t : ℕ) (s : List ℕ) where
  no_list : (k at : ℕ) → length s ≤ at → list_from r t k s at ≡ refuses_at 1 [] (length s)
  unfolding list_from
  no_list zero at h = refl
  no_list (suc k) at h = rw (operator_missing r t s at h)

  same_turn : (at : ℕ) (a : Answer Op) (go on : ℕ → Answer Tally) → ((o : Op) → a ≡ accepts o → go (after_op at o) ≡ on (after_op at o)) → turn at a go ≡ turn at a on
  same_turn at (accepts o) go on f = ap (λ (x : Answer Tally). pick (leb 128 o.octet) (accepts (tally 1 (after_op at o))) (plus 1 x)) (f o refl)
  same_turn at (declines f) go on g = refl

  enough : (j k at : ℕ) → length s ≤ at + j → length s ≤ at + k → list_from r t j s at ≡ list_from r t k s at
  unfolding list_from
  enough zero k at h l = sym (no_list k at (omega arith))
  enough (suc j) zero at h l = no_list (suc j) at (omega arith)
  enough (suc j) (suc k) at h l = same_turn at (operator_at r t s at) (list_from r t j s) (list_from r t k s) (λ o e. enough j k (after_op at o) (omega arith) (omega arith))

  -- a list is what the operator there says and the list after it
  pub list_turn : (at : ℕ) → list_at r t s at ≡ turn at (operator_at r t s at) (list_at r t s)
  unfolding list_at list_from
  list_turn at =
      enough (length s) (suc (length s)) at (omega arith) (omega arith)

module _ (s : List ℕ) where
  no_ops : (k at : ℕ) → length s ≤ at → ops_from k s at ≡ []
  unfolding ops_from
  no_ops zero at h = refl
  no_ops (suc k) at h = simp (le-leb _ _ h)

  same_ops : (at : ℕ) (go on : ℕ → List Op) → go (after_op at (op_at s at)) ≡ on (after_op at (op_at s at)) → ops_turn s at go ≡ ops_turn s at on
  same_ops at go on e = rw e

  enough_ops : (j k at : ℕ) → length s ≤ at + j → length s ≤ at + k → ops_from j s at ≡ ops_from k s at
  unfolding ops_from
  enough_ops zero k at h l = sym (no_ops k at (omega arith))
  enough_ops (suc j) zero at h l = no_ops (suc j) at (omega arith)
  enough_ops (suc j) (suc k) at h l = same_ops at (ops_from j s) (ops_from k s) (enough_ops j k (after_op at (op_at s at)) (omega arith) (omega arith))

  ops_turn_lem : (at : ℕ) → ops_at s at ≡ ops_turn s at (ops_at s)
  unfolding ops_at ops_from
  ops_turn_lem at = enough_ops (length s) (suc (length s)) at (omega arith) (omega arith)

-- ---- the ways that a list goes

module _ (r : Reading) (t : ℕ) (s : List ℕ) (at : ℕ) where
  by_operator : {a : Answer Op} → operator_at r t s at ≡ a → list_at r t s at ≡ turn at a (list_at r t s)
  by_operator e = list_turn r t s at ∙ ap (λ (a : Answer Op). turn at a (list_at r t s)) e

  -- the first fault is the list's
  pub list_stops : {f : Refused} → operator_at r t s at ≡ declines f → list_at r t s at ≡ declines f
  list_stops e = by_operator e

  -- no octet; a width that the type does not take; an octet without all of its value; reserved bits that are refused
  pub list_missing : length s ≤ at → list_at r t s at ≡ refuses_at 1 [] (length s)
  list_missing h = by_operator (operator_missing r t s at h)

  pub list_wide : at < length s → too_wide r t (get_or s at 0) ≡ true → list_at r t s at ≡ refuses_at 6 (code_in (get_or s at 0) ∷ []) at
  list_wide h e = by_operator (operator_wide r t s at h e)

  module _ (n : too_wide r t (get_or s at 0) ≡ false) where
    pub list_cut : at < length s → length s ≤ at + width_of (get_or s at 0) → list_at r t s at ≡ refuses_at 1 [] (length s)
    list_cut h k = by_operator (operator_cut r t s at n h k)

    pub list_refused : at + width_of (get_or s at 0) < length s → refused_in r (kind_of t) (get_or s at 0) ≡ true → list_at r t s at ≡ refuses_at 5 (get_or s at 0 ∷ []) at
    list_refused h e = by_operator (operator_refused r t s at n h e)

  -- an operator that is taken: the last, or one more
  module _ {o : Op} (e : operator_at r t s at ≡ accepts o) where
    pub list_last : 128 ≤ o.octet → list_at r t s at ≡ accepts (tally 1 (after_op at o))
    list_last h = by_operator e ∙ rw (le-leb _ _ h)

    pub list_more : o.octet < 128 → list_at r t s at ≡ plus 1 (list_at r t s (after_op at o))
    list_more h = by_operator e ∙ rw (lt-leb _ _ h)

-- an accepted list has a tally
pub with_tally : {A : Type 0} (a : Answer Tally) → is_accepted a ≡ true → ((l : Tally) → a ≡ accepts l → A) → A
with_tally (accepts l) e f = f l refl
with_tally (declines g) e f = let z : ◌≡◌ {A = ℕ} 0 1 = cc in absurd (omega arith)

-- what a list is refused by: 1 at the octets' end, 6 at an octet whose width the type does not take, or 5 at one that the reading refuses
pub plus_refuses : (n : ℕ) (a : Answer Tally) {f : Refused} → plus n a ≡ declines f → a ≡ declines f
plus_refuses n (accepts l) e = never (sym e)
plus_refuses n (declines g) e = e

module _ (r : Reading) (t : ℕ) (s : List ℕ) (from : ℕ) (P : Refused → Type 0) (one : P (refused 1 [] (at_octet (length s))))
    (six : (i : ℕ) → from ≤ i → i < length s → too_wide r t (get_or s i 0) ≡ true → P (refused 6 (code_in (get_or s i 0) ∷ []) (at_octet i)))
    (five : (i : ℕ) → refused_in r (kind_of t) (get_or s i 0) ≡ true → P (refused 5 (get_or s i 0 ∷ []) (at_octet i))) where
  by_answer : (at : ℕ) → from ≤ at → {f : Refused} → list_at r t s at ≡ declines f
      → ((o : Op) → from ≤ after_op at o → list_at r t s (after_op at o) ≡ declines f → P f) → (a : Answer Op) → operator_at r t s at ≡ a → P f
  by_answer at h e ih (accepts o) i =
      by_cases (dec_lt o.octet 128)
      (λ l. ih o (omega arith) (plus_refuses 1 (list_at r t s (after_op at o)) (sym (list_more r t s at i l) ∙ e)))
      (λ l. never (sym e ∙ list_last r t s at i (omega (arith, l))))
  by_answer at h e ih (declines g) i = operator_refuses r t s at P one (six at h) (five at) (i ∙ ap declines (same_refusal (sym (list_stops r t s at i) ∙ e)))

  by_bound : (k at : ℕ) → from ≤ at → length s ≤ at + k → {f : Refused} → list_at r t s at ≡ declines f → P f
  by_bound zero at l h e = subst P (same_refusal (sym (list_missing r t s at (omega arith)) ∙ e)) one
  by_bound (suc k) at l h e = by_answer at l e (λ o m i. by_bound k (after_op at o) m (omega arith) i) (operator_at r t s at) refl

  pub list_refuses : {f : Refused} → list_at r t s from ≡ declines f → P f
  list_refuses e = by_bound (length s) from (omega arith) (omega arith) e

-- ---- and its operators

module _ (s : List ℕ) (at : ℕ) where
  pub ops_missing : length s ≤ at + width_of (get_or s at 0) → ops_at s at ≡ []
  ops_missing h =
      ops_turn_lem s at ∙ by_cases (dec_lt at (length s))
      (λ l. let k : length s - (at + 1) < width_of (get_or s at 0) = omega (arith, l) in simp (lt-leb _ _ l, lt-ltb _ _ k))
      (λ l. let k : length s ≤ at = omega (arith, l) in simp (le-leb _ _ k))

  module _ (h : at + width_of (get_or s at 0) < length s) where
    ops_here : ops_at s at ≡ op_at s at ∷ pick (leb 128 (get_or s at 0)) [] (ops_at s (after_op at (op_at s at)))
    ops_here =
        let l : at < length s = omega arith in
        let k : width_of (get_or s at 0) ≤ length s - (at + 1) = omega arith in
        ops_turn_lem s at ∙ simp (lt-leb _ _ l, le-ltb _ _ k)

    pub ops_last : 128 ≤ get_or s at 0 → ops_at s at ≡ op_at s at ∷ []
    ops_last l = ops_here ∙ rw (le-leb _ _ l)

    pub ops_more : get_or s at 0 < 128 → ops_at s at ≡ op_at s at ∷ ops_at s (after_op at (op_at s at))
    ops_more l = ops_here ∙ rw (lt-leb _ _ l)
