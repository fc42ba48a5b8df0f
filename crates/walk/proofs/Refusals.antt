-- Which refusals a walk meets, by induction over it: 1 to 4, in the plain reading 5, and in the standard ones 6, at an operator octet whose width
-- its component's type does not take.
use Prim.Native.Nat.{ℕ, zero, suc, ◌+◌, ◌≤◌, ◌<◌}
use mathlib.Core.Path.{◌≡◌, refl}
use mathlib.Core.Bool.{Bool, true, false, ◌||◌}
use mathlib.Core.List.{List, [], ◌∷◌}
use native.Mathlib.Omega.{arith}
use borrow.Author.Tests.{le-leb, leb-true}
use lib.Dec.{leb, ltb, eqb}
use lib.ListN.{length, get_or}
use Rattle.ground.specs.Answers.{Answer, Refused, refused, at_octet, accepts, declines}
use Rattle.ground.specs.Picks.{pick}
use Rattle.ground.proofs.Cases.{by_test}
use Rattle.choices.specs.declared.Reading.{Reading}
use Rattle.choices.specs.declared.Reading.TheVariants.{Plain, Ipv4, Ipv6}
use Rattle.operators.specs.declared.Kind.{Kind}
use Rattle.choices.specs.Choices.{last_type, codes_in, refused_in}
use Rattle.choices.proofs.WidthTable.{Fixed, codes_fixed}
use Rattle.octets.specs.Widths.{code_in}
use Rattle.operators.specs.Ops.{kind_of, Op}
use Rattle.prefixes.specs.declared.PrefixAt.{PrefixAt}
use Rattle.prefixes.specs.Prefixes.{prefix_at}
use Rattle.prefixes.proofs.Laws.{prefix_ways}
use Rattle.lists.specs.declared.Tally.{Tally}
use Rattle.lists.specs.Lists.{too_wide, list_at, ops_at, recorded_ops}
use Rattle.lists.proofs.Laws.{list_refuses}
use Rattle.walk.specs.Walks.{FoundAt, prefix_found, list_found, typed_at, component_at, Body, body, joined, turn, walk_from, walk_at}

-- the numbers that a walk may refuse with
abbrev pub walk_meets : Reading → ℕ → Bool
walk_meets Plain n = leb n 5
walk_meets Ipv4 n = leb n 4 || eqb n 6
walk_meets Ipv6 n = leb n 4 || eqb n 6

-- 6 at an operator octet of a list, by the octets: those of the list's type and of the operator. The types are 9, 11 and 12
pub record Widened (r : Reading) (s : List ℕ) (f : Refused) : Type 0 where
  pub type_place : ℕ
  pub octet_place : ℕ
  pub behind : type_place < octet_place
  pub within : octet_place < length s
  pub type : Fixed (get_or s type_place 0)
  pub wide : codes_in r (get_or s type_place 0) ≤ code_in (get_or s octet_place 0)
  pub is : f ≡ refused 6 (code_in (get_or s octet_place 0) ∷ []) (at_octet octet_place)

pub record Meets (r : Reading) (s : List ℕ) (f : Refused) : Type 0 where
  pub number : walk_meets r f.number ≡ true
  pub six : f.number ≡ 6 → Widened r s f

-- an answer whose refusal, if it is one, is such
abbrev pub Met {ℓ} : {A : Type ℓ} → (Refused → Type 0) → Answer A → Type 0
Met P (accepts x) = Unit
Met P (declines f) = P f

-- by the test that picks
either_met : {A : Type 0} (P : Refused → Type 0) (t : Bool) (x y : Answer A) → (t ≡ true → Met P x) → (t ≡ false → Met P y) → Met P (pick t x y)
either_met P true x y f g = f refl
either_met P false x y f g = g refl

module _ (r : Reading) (s : List ℕ) where
  -- a number up to 4
  early : (f : Refused) → leb f.number 4 ≡ true → Meets r s f
  early f e = let h = leb-true f.number 4 e in record { number = by_reading_lem r; six = λ n. absurd (omega arith) }
    where
      by_reading_lem : (r : Reading) → walk_meets r f.number ≡ true
      by_reading_lem Plain = le-leb f.number 5 (omega (arith, leb-true f.number 4 e))
      by_reading_lem Ipv4 = rw e
      by_reading_lem Ipv6 = rw e

  met_prefix : (at : ℕ) → Met (Meets r s) (prefix_at r s at)
  met_prefix at = prefix_ways r s at (λ (a : Answer PrefixAt). Met (Meets r s) a) (early _ refl) (early _ refl) (λ t. tt)

  -- 5 is the plain reading's alone, and 6 the standard ones'
  five : (k : Kind) (x i : ℕ) → refused_in r k x ≡ true → Meets r s (refused 5 (x ∷ []) (at_octet i))
  unfolding refused_in
  five k x i e = record { number = by_reading_lem r e; six = λ n. absurd (omega arith) }
    where
      by_reading_lem : (r : Reading) → refused_in r k x ≡ true → walk_meets r 5 ≡ true
      by_reading_lem Plain e = refl
      by_reading_lem Ipv4 e = let z : ◌≡◌ {A = ℕ} 0 1 = cc in absurd (omega arith)
      by_reading_lem Ipv6 e = let z : ◌≡◌ {A = ℕ} 0 1 = cc in absurd (omega arith)

  six : (at i : ℕ) → at < i → i < length s → too_wide r (get_or s at 0) (get_or s i 0) ≡ true → Meets r s (refused 6 (code_in (get_or s i 0) ∷ []) (at_octet i))
  six at i h l e =
      let w = leb-true (codes_in r (get_or s at 0)) (code_in (get_or s i 0)) e in
      let few : codes_in r (get_or s at 0) < 4 = omega arith in
      record {
        number = by_reading_lem r few;
        six = λ n. record { type_place = at; octet_place = i; behind = h; within = l; type = codes_fixed r (get_or s at 0) few; wide = w; is = refl };
      }
    where
      by_reading_lem : (r : Reading) → codes_in r (get_or s at 0) < 4 → walk_meets r 6 ≡ true
      by_reading_lem Plain h = absurd (omega arith)
      by_reading_lem Ipv4 h = refl
      by_reading_lem Ipv6 h = refl

  met_of : {A : Type 0} (P : Refused → Type 0) (a : Answer A) → ((f : Refused) → a ≡ declines f → P f) → Met P a
  met_of P (accepts x) h = tt
  met_of P (declines f) h = h f refl

  -- the list of a component whose type octet stands at a place
  met_list : (at : ℕ) → Met (Meets r s) (list_at r (get_or s at 0) s (at + 1))
  met_list at =
      let t = get_or s at 0 in
      met_of (Meets r s) (list_at r t s (at + 1))
      (λ f e. list_refuses r t s (at + 1) (Meets r s) (early _ refl) (λ i h l w. six at i (omega arith) l w) (λ i h. five (kind_of t) (get_or s i 0) i h) e)

  prefix_met : (P : Refused → Type 0) (t : ℕ) (a : Answer PrefixAt) → Met P a → Met P (prefix_found t a)
  prefix_met P t (accepts p) h = tt
  prefix_met P t (declines f) h = h

  list_met : (P : Refused → Type 0) (t start : ℕ) (os : List Op) (a : Answer Tally) → Met P a → Met P (list_found t start os a)
  list_met P t start os (accepts l) h = tt
  list_met P t start os (declines f) h = h

  met_typed : (at start : ℕ) → Met (Meets r s) (typed_at r (get_or s at 0) s (at + 1) start)
  unfolding typed_at
  met_typed at start =
      let t = get_or s at 0 in
      either_met (Meets r s) (leb t 2) (prefix_found t (prefix_at r s (at + 1))) (list_found t start (recorded_ops r t (ops_at s (at + 1))) (list_at r t s (at + 1)))
      (λ e. prefix_met (Meets r s) t (prefix_at r s (at + 1)) (met_prefix (at + 1)))
      (λ e. list_met (Meets r s) t start (recorded_ops r t (ops_at s (at + 1))) (list_at r t s (at + 1)) (met_list at))

  met_component : (at previous start : ℕ) → Met (Meets r s) (component_at r s at previous start)
  unfolding component_at
  met_component at previous start =
      let t = get_or s at 0 in
      by_test (leb (length s) at) (λ e. rw e (early _ refl))
      (λ e. by_test (leb t previous) (λ g. rw (e, g) (early _ refl))
      (λ g. by_test (ltb (last_type r) t) (λ h. rw (e, g, h) (early _ refl)) (λ h. rw (e, g, h) (met_typed at start))))

  joined_met : (P : Refused → Type 0) (p : FoundAt) (a : Answer Body) → Met P a → Met P (joined p a)
  joined_met P p (accepts b) h = tt
  joined_met P p (declines f) h = h

  turn_met : (P : Refused → Type 0) (t start : ℕ) (a : Answer FoundAt) (go : ℕ → ℕ → ℕ → Answer Body) → Met P a → ((x y z : ℕ) → Met P (go x y z)) → Met P (turn t start a go)
  turn_met P t start (accepts p) go h ih = joined_met P p (go p.next t (start + length p.operators)) (ih p.next t (start + length p.operators))
  turn_met P t start (declines f) go h ih = h

  walk_from_lem : (k stop at previous start : ℕ) → Met (Meets r s) (walk_from k r s stop at previous start)
  unfolding walk_from
  walk_from_lem zero stop at previous start = early _ refl
  walk_from_lem (suc k) stop at previous start =
      either_met (Meets r s) (leb stop at) (accepts (body [] [])) (turn (get_or s at 0) start (component_at r s at previous start) (walk_from k r s stop)) (λ e. tt)
      (λ e. turn_met (Meets r s) (get_or s at 0) start (component_at r s at previous start) (walk_from k r s stop) (met_component at previous start) (λ x y z. walk_from_lem k stop x y z))

  pub met_walk : (stop : ℕ) → Met (Meets r s) (walk_at r s stop)
  unfolding walk_at
  met_walk stop = walk_from_lem 14 stop 0 0 0
