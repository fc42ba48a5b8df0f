-- An accepted walk as the chain of its components: each starts where the one before it ended, below `stop`, and the last ends at `stop` or past it, within
-- the octets. So where the octets end at `stop`, every one of them is used. By induction over the walk.
use Prim.Native.Nat.{ℕ, zero, suc, ◌+◌, ◌≤◌, ◌<◌}
use mathlib.Core.Path.{◌≡◌, refl, subst}
use mathlib.Core.List.{List, [], ◌∷◌, ◌++◌}
use mathlib.Core.Logic.{⊎_elim}
use native.Mathlib.Omega.{arith}
use borrow.Author.Tests.{le-leb, lt-leb}
use lib.ListN.{length, get_or}
use Rattle.ground.proofs.Answers.{never, same_accepted}
use Rattle.ground.specs.Answers.{Answer, accepts, declines}
use Rattle.ground.proofs.Cases.{lt_or_le}
use Rattle.choices.specs.declared.Reading.{Reading}
use Rattle.walk.specs.Walks.{FoundAt, component_at, Body, body, joined, turn, walk_from, walk_at}
use Rattle.walk.proofs.Components.{here}

-- from a place, a last type and a first operator place on: a body, and the place where it ends
pub data Chain (r : Reading) (s : List ℕ) (stop : ℕ) : ℕ → ℕ → ℕ → Body → ℕ → Type 0 where
  none : {at previous start : ℕ} → stop ≤ at → Chain r s stop at previous start (body [] []) at
  more : {at previous start : ℕ} {p : FoundAt} {b : Body} {end : ℕ} → at < stop → component_at r s at previous start ≡ accepts p
      → Chain r s stop p.next (get_or s at 0) (start + length p.operators) b end
      → Chain r s stop at previous start (body (p.piece ∷ b.pieces) (p.operators ++ b.operators)) end

pub record Chained (r : Reading) (s : List ℕ) (stop at previous start : ℕ) (b : Body) : Type 0 where
  pub end : ℕ
  pub chain : Chain r s stop at previous start b end
  pub past : stop ≤ end
  pub within : end ≤ length s

module _ (r : Reading) (s : List ℕ) (stop : ℕ) where
  by_rest : (at previous start : ℕ) (p : FoundAt) (b : Body) → at < stop → component_at r s at previous start ≡ accepts p → (a : Answer Body)
      → ((d : Body) → a ≡ accepts d → Chained r s stop p.next (get_or s at 0) (start + length p.operators) d) → joined p a ≡ accepts b
      → Chained r s stop at previous start b
  by_rest at previous start p b h q (accepts d) ih e =
      let c = ih d refl in
      subst (Chained r s stop at previous start) (same_accepted e) (record { end = c.end; chain = more h q c.chain; past = c.past; within = c.within })
  by_rest at previous start p b h q (declines f) ih e = never e

  by_found : (at previous start : ℕ) (b : Body) → at < stop → (go : ℕ → ℕ → ℕ → Answer Body)
      → ((x t i : ℕ) (d : Body) → x ≤ length s → go x t i ≡ accepts d → Chained r s stop x t i d) → (a : Answer FoundAt) → component_at r s at previous start ≡ a
      → turn (get_or s at 0) start a go ≡ accepts b → Chained r s stop at previous start b
  by_found at previous start b h go ih (accepts p) q e =
      let w = here r s at previous start q in
      by_rest at previous start p b h q (go p.next (get_or s at 0) (start + length p.operators))
      (λ d z. ih p.next (get_or s at 0) (start + length p.operators) d w.inside z) e
  by_found at previous start b h go ih (declines f) q e = never e

  chain_from : (k at previous start : ℕ) (b : Body) → at ≤ length s → walk_from k r s stop at previous start ≡ accepts b → Chained r s stop at previous start b
  unfolding walk_from
  chain_from zero at previous start b l e = never e
  chain_from (suc k) at previous start b l e =
      ⊎_elim
      (λ h. by_found at previous start b h (walk_from k r s stop) (λ x t i d m w. chain_from k x t i d m w) (component_at r s at previous start) refl (rw (lt-leb stop at h) at e))
      (λ h. subst (Chained r s stop at previous start) (same_accepted (rw (le-leb stop at h) at e)) (record { end = at; chain = none h; past = h; within = l }))
      (lt_or_le at stop)

  pub walk_chained : (b : Body) → walk_at r s stop ≡ accepts b → Chained r s stop 0 0 0 b
  unfolding walk_at
  walk_chained b e = chain_from 14 0 0 0 b (omega arith) e

-- no octet is left over where the octets end at `stop`
pub used_up : (r : Reading) (s : List ℕ) (b : Body) → walk_at r s (length s) ≡ accepts b → Chain r s (length s) 0 0 0 b (length s)
used_up r s b e =
    let c = walk_chained r s (length s) b e in
    let i : c.end ≡ length s = omega (arith, c.past, c.within) in
    subst (Chain r s (length s) 0 0 0 b) i c.chain
