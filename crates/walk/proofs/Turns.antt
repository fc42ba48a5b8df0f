-- The turns of a walk: what is left of it at a place, `rest`, goes by what is found there. What bounds the recursion is a constant less
-- the components that are passed; an invariant holds their number, which is at most the last type.
use Prim.Native.Nat.{ℕ, suc, ◌+◌, ◌-◌, ◌≤◌, ◌<◌}
use mathlib.Core.Path.{◌≡◌, refl, sym, ◌∙◌, ap, ap₂, subst}
use mathlib.Core.Bool.{true}
use mathlib.Core.List.{List, []}
use native.Mathlib.Omega.{arith}
use borrow.Author.Tests.{le-leb, lt-leb}
use lib.ListN.{length, get_or, length-append}
use Rattle.ground.specs.Answers.{Answer, Refused, accepts, declines}
use Rattle.choices.specs.declared.Reading.{Reading}
use Rattle.choices.specs.declared.Reading.TheVariants.{Plain, Ipv4, Ipv6}
use Rattle.choices.specs.Choices.{last_type}
use Rattle.lists.specs.Runs.{alone_at}
use Rattle.lists.proofs.Runs.{alone_done}
use Rattle.lists.specs.Lists.{tally}
use Rattle.walk.specs.Walks.{FoundAt, component_at, Body, body, joined, turn, walk_from, walk_at, seen, counted}
use Rattle.walk.specs.Turns.{rest, counted_on, Walking, Prefixed}
use Rattle.prefixes.specs.Prefixes.{octets_of, named_at}
use Rattle.prefixes.proofs.Laws.{taken_extent}
use Rattle.walk.proofs.Ways.{prefix_seen, list_seen}
use Rattle.walk.proofs.Components.{Here, here, Sighted, sighted, unseen}

pub rest_first : (r : Reading) (s : List ℕ) (stop : ℕ) → walk_at r s stop ≡ rest r s stop 0 0 0 0
unfolding walk_at rest
rest_first r s stop = refl

module _ (r : Reading) (s : List ℕ) (stop at previous start j : ℕ) (few : j ≤ 13) where
  pub rest_end : stop ≤ at → rest r s stop at previous start j ≡ accepts (body [] [])
  unfolding rest walk_from
  rest_end h = let f : 14 - j ≡ suc (14 - (j + 1)) = omega arith in rw (f, le-leb stop at h)

  module _ (h : at < stop) where
    step_of : rest r s stop at previous start j ≡ turn (get_or s at 0) start (component_at r s at previous start) (walk_from (14 - (j + 1)) r s stop)
    unfolding rest walk_from
    step_of = let f : 14 - j ≡ suc (14 - (j + 1)) = omega arith in rw (f, lt-leb stop at h)

    pub rest_refused : {f : Refused} → component_at r s at previous start ≡ declines f → rest r s stop at previous start j ≡ declines f
    rest_refused e = step_of ∙ rw e

    pub rest_part : {p : FoundAt} → component_at r s at previous start ≡ accepts p
        → rest r s stop at previous start j ≡ joined p (rest r s stop p.next (get_or s at 0) (start + length p.operators) (j + 1))
    unfolding rest
    rest_part e = step_of ∙ rw e

counted_first : (a : Answer Body) → counted a ≡ counted_on 0 a
counted_first (accepts b) = ap (λ (x : ℕ). accepts x) (omega arith)
counted_first (declines f) = refl

counted_more : (n : ℕ) (p : FoundAt) (a : Answer Body) → counted_on n (joined p a) ≡ counted_on (n + length p.operators) a
counted_more n p (accepts b) = ap (λ (x : ℕ). accepts x) (simp length-append (omega arith))
counted_more n p (declines f) = refl

-- where the first walk stands
pub walking_first : (r : Reading) (s : List ℕ) (stop : ℕ) → Walking r s stop 0 0 0
walking_first r s stop =
    record {
      components = 0;
      few = omega arith;
      known = omega arith;
      place = omega arith;
      within = omega arith;
      same = counted_first (walk_at r s stop) ∙ ap (counted_on 0) (rest_first r s stop);
    }

module _ {r : Reading} {s : List ℕ} {stop at previous operators : ℕ} (w : Walking r s stop at previous operators) where
  few_of : w.components ≤ 13
  few_of = omega (arith, w.few, w.known)

  pub walking_end : stop ≤ at → accepts operators ≡ counted (walk_at r s stop)
  walking_end h =
      ap (λ (x : ℕ). accepts x) (omega arith)
      ∙ sym (w.same ∙ ap (counted_on operators) (rest_end r s stop at previous operators w.components few_of h))

  module _ (h : at < stop) where
    pub walking_refused : {f : Refused} → declines f ≡ seen (component_at r s at previous operators) → declines f ≡ counted (walk_at r s stop)
    walking_refused e =
        sym (w.same ∙ ap (counted_on operators) (rest_refused r s stop at previous operators w.components few_of h (unseen (component_at r s at previous operators) e)))

    module _ {n m : ℕ} (e : accepts (tally n m) ≡ seen (component_at r s at previous operators)) where
      pub found : Sighted (component_at r s at previous operators) n m
      found = sighted (component_at r s at previous operators) e

      pub found_here_lem : Here r s at previous operators found.what
      found_here_lem = here r s at previous operators found.is

      pub found_bounds : (at < length s) × ((previous < get_or s at 0) × ((get_or s at 0 ≤ 13) × ((at + n < m) × (m ≤ length s))))
      found_bounds =
          let d = found_here_lem in
          let f = found in
          let i = f.count in
          let j = f.next in
          (d.within, (d.rises, (d.most, (omega (arith, d.past), omega (arith, d.inside)))))

      pub walking_more : Walking r s stop m (get_or s at 0) (operators + n)
      walking_more =
          let f = found in
          let b = found_bounds in
          let q = rest_part r s stop at previous operators w.components few_of h f.is in
          record {
            components = w.components + 1;
            few = omega (arith, w.few);
            known = b.1.1.0;
            place = omega (arith, w.place);
            within = b.1.1.1.1;
            same =
                w.same ∙ ap (counted_on operators) q
                ∙ counted_more operators f.what (rest r s stop f.what.next (get_or s at 0) (operators + length f.what.operators) (w.components + 1))
                ∙ ap₂ (λ (x y : ℕ). counted_on (operators + x) (rest r s stop y (get_or s at 0) (operators + x) (w.components + 1))) f.count f.next;
          }

-- a list of one operator that stands alone
pub walking_lone : {r : Reading} {s : List ℕ} {stop at previous operators : ℕ} → Walking r s stop at previous operators → at < stop → at < length s → previous < get_or s at 0
    → 2 < get_or s at 0 → get_or s at 0 ≤ last_type r → alone_at s (at + 1) ≡ true → Walking r s stop (at + 3) (get_or s at 0) (operators + 1)
walking_lone {r} {s} {stop} {at} {previous} {operators} w h l k m t e =
    let n : at + 1 + 2 ≡ at + 3 = omega arith in
    subst (λ (x : ℕ). Walking r s stop x (get_or s at 0) (operators + 1)) n
    (walking_more w h (list_seen r s at previous operators l k t m (sym (alone_done r (get_or s at 0) s (at + 1) e))))

-- a prefix that takes so many octets
least : (r : Reading) → 12 ≤ last_type r
least Plain = omega arith
least Ipv4 = omega arith
least Ipv6 = omega arith

pub walking_prefix : (n : ℕ) {r : Reading} {s : List ℕ} {stop at previous operators : ℕ} → Walking r s stop at previous operators → at < stop → at < length s → previous < get_or s at 0
    → get_or s at 0 ≤ 2 → Prefixed r s (at + 1) n → Walking r s stop (at + 1 + n) (get_or s at 0) operators
walking_prefix n {r} {s} {stop} {at} {previous} {operators} w h l k m e =
    let o : operators + 0 ≡ operators = omega arith in
    subst (λ (x : ℕ). Walking r s stop x (get_or s at 0) operators) e.1
    (subst (λ (x : ℕ). Walking r s stop (named_at r s (at + 1)).next.at (get_or s at 0) x) o
    (walking_more w h (prefix_seen r s at previous operators l k (omega (arith, least r)) m (sym e.0))))

-- one of up to 32 bits, in the readings that have no offset
module _ (s : List ℕ) (at n : ℕ) (h : get_or s at 0 ≤ 32) (k : n ≡ 1 + octets_of (get_or s at 0)) (l : at + n ≤ length s) where
  pub plain_short : Prefixed Plain s at n
  plain_short =
      (taken_extent Plain s at (record { head = omega arith; range = le-leb (get_or s at 0) 128 (omega arith); within = omega arith }), omega arith)

  pub ipv4_short : Prefixed Ipv4 s at n
  ipv4_short = (taken_extent Ipv4 s at (record { head = omega arith; range = le-leb (get_or s at 0) 32 h; within = omega arith }), omega arith)
