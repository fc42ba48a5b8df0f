-- An accepted list as a chain of operators: each is taken, and the last alone has the end mark. A list is accepted exactly where there is a
-- chain, and the chain has its operators, their number and the place after them.
use Prim.Native.Nat.{ℕ, zero, suc, ◌+◌, ◌*◌, ◌≤◌, ◌<◌}
use mathlib.Core.Path.{◌≡◌, refl, sym, ◌∙◌, ap}
use mathlib.Core.Bool.{true}
use mathlib.Core.List.{List, [], ◌∷◌}
use borrow.Author.Tests.{le-leb, lt-leb}
use native.Mathlib.Omega.{arith}
use native.Mathlib.Decide.{dec_lt}
use lib.ListN.{length, get_or}
use Rattle.ground.specs.Answers.{Answer, accepts, declines}
use Rattle.ground.proofs.Answers.{never, same_accepted}
use Rattle.ground.proofs.Cases.{by_cases}
use Rattle.octets.specs.Widths.{width_of}
use Rattle.octets.proofs.Widths.{width_least}
use Rattle.choices.specs.declared.Reading.{Reading}
use Rattle.operators.specs.Ops.{Op}
use Rattle.lists.specs.declared.Tally.{Tally}
use Rattle.lists.specs.Lists.{tally, plus, op_at, after_op, operator_at, list_at, ops_at}
use Rattle.lists.specs.Runs.{marked, size_of}
use Rattle.lists.proofs.Operators.{taken}
use Rattle.lists.proofs.Equations.{list_missing, list_stops, list_last, list_more, ops_last, ops_more}

pub data Chain (r : Reading) (t : ℕ) (s : List ℕ) : ℕ → List Op → ℕ → Type 0 where
  last : {at : ℕ} {o : Op} → operator_at r t s at ≡ accepts o → 128 ≤ o.octet → Chain r t s at (o ∷ []) (after_op at o)
  more : {at to : ℕ} {o : Op} {os : List Op} → operator_at r t s at ≡ accepts o → o.octet < 128 → Chain r t s (after_op at o) os to → Chain r t s at (o ∷ os) to

-- ---- a chain gives the list and its operators

module _ {r : Reading} {t : ℕ} {s : List ℕ} where
  pub chain_list : {at to : ℕ} {os : List Op} → Chain r t s at os to → list_at r t s at ≡ accepts (tally (length os) to)
  chain_list (last e h) = list_last r t s _ e h
  chain_list (more {at = at} {to = to} {os = os} e h c) =
      let n : 1 + length os ≡ suc (length os) = omega arith in
      list_more r t s at e h ∙ ap (plus 1) (chain_list c) ∙ ap (λ (m : ℕ). accepts (tally m to)) n

  pub chain_ops : {at to : ℕ} {os : List Op} → Chain r t s at os to → ops_at s at ≡ os
  chain_ops (last {at = at} {o = o} e h) =
      let w = taken r t s at e in
      let i = ap (λ (x : Op). x.octet) w.is in
      ops_last s at w.within (omega arith) ∙ ap (λ (x : Op). x ∷ []) (sym w.is)
  chain_ops (more {at = at} {o = o} e h c) =
      let w = taken r t s at e in
      let i = ap (λ (x : Op). x.octet) w.is in
      ops_more s at w.within (omega arith) ∙ ap (λ (x : Op). x ∷ ops_at s (after_op at x)) (sym w.is) ∙ ap (λ (os : List Op). o ∷ os) (chain_ops c)

-- ---- an accepted list is a chain

plus_accepts : {A : Type 0} (n : ℕ) (a : Answer Tally) {l : Tally} → plus n a ≡ accepts l → ((m : Tally) → a ≡ accepts m → l.next.at ≡ m.next.at → A) → A
plus_accepts n (accepts m) e f = f m refl (ap (λ (x : Tally). x.next.at) (same_accepted (sym e)))
plus_accepts n (declines g) e f = never e

module _ (r : Reading) (t : ℕ) (s : List ℕ) where
  by_operator : (at : ℕ) {l : Tally} → list_at r t s at ≡ accepts l
      → ((o : Op) (m : Tally) → list_at r t s (after_op at o) ≡ accepts m → Chain r t s (after_op at o) (ops_at s (after_op at o)) m.next.at)
      → (a : Answer Op) → operator_at r t s at ≡ a → Chain r t s at (ops_at s at) l.next.at
  by_operator at {l} e ih (accepts o) i =
      let w = taken r t s at i in
      let j = i ∙ ap accepts w.is in
      by_cases (dec_lt (get_or s at 0) 128)
      (λ h. plus_accepts 1 (list_at r t s (after_op at (op_at s at))) (sym (list_more r t s at j h) ∙ e)
      (λ m f p. rw (ops_more s at w.within h, p) (more j h (ih (op_at s at) m f))))
      (λ h.
      let k : 128 ≤ get_or s at 0 = omega (arith, h) in
      let p = ap (λ (x : Tally). x.next.at) (same_accepted (sym e ∙ list_last r t s at j k)) in
      rw (ops_last s at w.within k, p) (last j k))
  by_operator at e ih (declines f) i = never (sym (list_stops r t s at i) ∙ e)

  by_bound : (k at : ℕ) → length s ≤ at + k → {l : Tally} → list_at r t s at ≡ accepts l → Chain r t s at (ops_at s at) l.next.at
  by_bound zero at h e = never (sym (list_missing r t s at (omega arith)) ∙ e)
  by_bound (suc k) at h e = by_operator at e (λ o m f. by_bound k (after_op at o) (omega arith) f) (operator_at r t s at) refl

  pub list_chain : (at : ℕ) {l : Tally} → list_at r t s at ≡ accepts l → Chain r t s at (ops_at s at) l.next.at
  list_chain at e = by_bound (length s) at (omega arith) e

-- ---- what the operators of a chain are

pub record Whole (s : List ℕ) (at : ℕ) (os : List Op) (to : ℕ) : Type 0 where
  pub some : 1 ≤ length os
  pub past : at + 2 * length os ≤ to
  pub within : to ≤ length s
  pub mark : marked os ≡ true
  pub size : to ≡ at + size_of os

pub chain_whole : {r : Reading} {t : ℕ} {s : List ℕ} {at to : ℕ} {os : List Op} → Chain r t s at os to → Whole s at os to
chain_whole {r} {t} {s} (last {at = at} {o = o} e h) =
    let w = taken r t s at e in
    let i = ap (λ (x : Op). width_of x.octet) w.is in
    let l = width_least o.octet in
    record { some = omega arith; past = omega arith; within = omega (arith, w.within); mark = rw (le-leb _ _ h); size = omega arith }
chain_whole {r} {t} {s} (more {at = at} {o = o} e h c) =
    let w = chain_whole c in
    let l = width_least o.octet in
    record { some = omega arith; past = omega arith; within = w.within; mark = rw (lt-leb _ _ h) w.mark; size = omega arith }

-- an accepted list: its count is that of its operators, at least 1; it has an octet and a value for each, and ends within the octets
module _ (r : Reading) (t : ℕ) (s : List ℕ) (at : ℕ) {l : Tally} (e : list_at r t s at ≡ accepts l) where
  pub list_whole : Whole s at (ops_at s at) l.next.at
  list_whole = chain_whole (list_chain r t s at e)

  pub list_counts : length (ops_at s at) ≡ l.count
  list_counts = ap (λ (x : Tally). x.count) (same_accepted (sym (chain_list (list_chain r t s at e)) ∙ e))

  pub list_ends : (1 ≤ l.count) × ((at + 2 * l.count ≤ l.next.at) × (l.next.at ≤ length s))
  list_ends = let h = list_whole in let c = list_counts in (omega arith, (omega arith, h.within))

  -- there are no more operators than octets
  pub list_fits : l.count ≤ length s
  list_fits = let h = list_ends in omega arith
