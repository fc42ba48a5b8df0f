-- The groups of a list, read from the left: `going g os` is the answer where the group so far has the truth g.
use Prim.Native.Nat.{ℕ, suc, ◌+◌, ◌-◌, ◌≤◌, ◌<◌}
use mathlib.Core.Path.{◌≡◌, refl, sym, ap, ap₂, ◌∙◌}
use mathlib.Core.List.{List, [], ◌∷◌}
use mathlib.Core.Bool.{Bool, true, false, not, ◌&&◌, ◌||◌, false≢true}
use native.Mathlib.Omega.{arith}
use lib.ListN.{length, get_or}
use Rattle.ground.proofs.Cases.{by_test, both}
use Rattle.operators.specs.Ops.{Op, op, ops_in}
use Rattle.satisfying.specs.Lists.{and_of, joined, later, groups, all, any, list_matches}

module _ (t : Op → Bool) where
  -- the group so far goes on with the operators that AND joins to it, or another group is true
  unfoldable pub going : Bool → List Op → Bool
  going g os = g && all t (joined os) || any (all t) (later os)

  -- with AND the group has one more operator
  with_and : (g x a b : Bool) → g && (x && a) || b ≡ g && x && a || b
  with_and true x a b = refl
  with_and false x a b = refl

  module _ (g : Bool) (o : Op) (os : List Op) where
    pub goes_on : (a : Bool) → and_of o ≡ a → (not a && g) ≡ false → going g (o ∷ os) ≡ going ((not a || g) && t o) os
    unfolding going joined later all any
    goes_on true e h = rw e (with_and g (t o) (all t (joined os)) (any (all t) (later os)))
    goes_on false e h = rw (e, h)

    pub stops : (a : Bool) → and_of o ≡ a → (not a && g) ≡ true → going g (o ∷ os) ≡ true
    unfolding going joined later all any
    stops true e h = absurd (false≢true h)
    stops false e h = rw (e, h)

  alone : (g : Bool) → g && true || false ≡ g
  alone true = refl
  alone false = refl

  pub ends : (g : Bool) → going g [] ≡ g
  unfolding going joined later all any
  ends g = alone g

  pub starts : (o : Op) (os : List Op) → list_matches t (o ∷ os) ≡ going (t o) os
  unfolding list_matches groups going all any
  starts o os = refl

  pub nothing : list_matches t [] ≡ false
  unfolding list_matches groups any
  nothing = refl

-- ---- a list asks nothing but the truth of its operators: two truths that agree on those that pass a test agree on a list of such

module _ (t u : Op → Bool) (test : Op → Bool) (same : (o : Op) → test o ≡ true → t o ≡ u o) where
  agree_all : (o : Op) (os : List Op) → test o ≡ true → all t os ≡ all u os → all t (o ∷ os) ≡ all u (o ∷ os)
  unfolding all
  agree_all o os h e = ap₂ ◌&&◌ (same o h) e

  agree_joined : (os : List Op) → all test os ≡ true → all t (joined os) ≡ all u (joined os)
  unfolding all joined
  agree_joined [] h = refl
  agree_joined (o ∷ os) h =
      let k = both (test o) (all test os) h in
      by_test (and_of o) (λ e. rw e (agree_all o (joined os) k.0 (agree_joined os k.1))) (λ e. rw e)

  agree_later : (os : List Op) → all test os ≡ true → any (all t) (later os) ≡ any (all u) (later os)
  unfolding all any later
  agree_later [] h = refl
  agree_later (o ∷ os) h =
      let k = both (test o) (all test os) h in
      by_test (and_of o) (λ e. rw e (agree_later os k.1))
      (λ e. rw e (ap₂ ◌||◌ (agree_all o (joined os) k.0 (agree_joined os k.1)) (agree_later os k.1)))

  pub agrees : (os : List Op) → all test os ≡ true → list_matches t os ≡ list_matches u os
  unfolding all any list_matches groups
  agrees [] h = refl
  agrees (o ∷ os) h =
      let k = both (test o) (all test os) h in
      ap₂ ◌||◌ (agree_all o (joined os) k.0 (agree_joined os k.1)) (agree_later os k.1)

-- ---- in the lent lists, from a place on

abbrev op_at : List ℕ → List ℕ → ℕ → Op
op_at values octets p = op (get_or octets p 0) (get_or values p 0)

module _ (values octets : List ℕ) (end : ℕ) where
  -- the operators from a place on, up to the end
  unfoldable pub left : ℕ → List Op
  left p = ops_in values octets p (end - p)

  left_more : (p : ℕ) → p < end → left p ≡ op_at values octets p ∷ left (p + 1)
  unfolding left ops_in
  left_more p h = let e : end - p ≡ suc (end - (p + 1)) = omega arith in rw e

  left_none : (p : ℕ) → end ≤ p → left p ≡ []
  unfolding left ops_in
  left_none p h = let e : end - p ≡ 0 = omega arith in rw e

  module _ (t : Op → Bool) where
    pub first_match : (at : ℕ) → at < end → list_matches t (left at) ≡ going t (t (op_at values octets at)) (left (at + 1))
    first_match at h = rw (left_more at h) (starts t (op_at values octets at) (left (at + 1)))

    module _ (g : Bool) (p : ℕ) where
      pub turn_on : p < end → (not (and_of (op_at values octets p)) && g) ≡ false
          → going t g (left p) ≡ going t ((not (and_of (op_at values octets p)) || g) && t (op_at values octets p)) (left (p + 1))
      turn_on h k = rw (left_more p h) (goes_on t g (op_at values octets p) (left (p + 1)) _ refl k)

      pub turn_stop : p < end → (not (and_of (op_at values octets p)) && g) ≡ true → going t g (left p) ≡ true
      turn_stop h k = rw (left_more p h) (stops t g (op_at values octets p) (left (p + 1)) _ refl k)

      pub turn_end : end ≤ p → going t g (left p) ≡ g
      turn_end h = rw (left_none p h) (ends t g)

-- of a whole list
module _ (values octets : List ℕ) (t : Op → Bool) where
  pub none_match : length octets ≡ 0 → false ≡ list_matches t (ops_in values octets 0 (length octets))
  unfolding ops_in
  none_match e = sym (rw e (nothing t))

  pub some_match : 0 < length octets
      → list_matches t (ops_in values octets 0 (length octets)) ≡ going t (t (op_at values octets 0)) (left values octets (length octets) 1)
  unfolding left
  some_match h =
      let e : length octets ≡ length octets - 0 = omega arith in
      ap (λ (n : ℕ). list_matches t (ops_in values octets 0 n)) e ∙ first_match values octets (length octets) t 0 h
