-- A loop that compares two lists in turn: past what ranks equal, the order of two lists is that of what is left of them.
use Prim.Native.Nat.{ℕ, ◌+◌, ◌≤◌, ◌<◌, min}
use mathlib.Core.Path.{◌≡◌, refl, sym, ◌∙◌}
use mathlib.Core.List.{List}
use native.Mathlib.Nat.{min-eq_left, min-eq_right}
use native.Mathlib.Numerals.{add-one}
use native.Mathlib.Omega.{arith}
use lib.ListN.{length, get_or, drop, drop_of_length-le}
use lib.Seq.{drop-cons}
use Rattle.ranking.specs.Ranks.{Ordering, Precedes, Equal, Follows, lower, then_by, in_turn}
use Rattle.ranking.proofs.Orders.{Way, below, equal, above, way, low_below, low_equal, low_above}

-- i of each are passed
pub record Passed {A : Type 0} (by : A → A → Ordering) (xs ys : List A) (i : ℕ) : Type 0 where
  pub same : in_turn by xs ys ≡ in_turn by (drop i xs) (drop i ys)

module _ {A : Type 0} (by : A → A → Ordering) (xs ys : List A) where
  pub none_passed : Passed by xs ys 0
  none_passed = record { same = refl }

  module _ (i : ℕ) (p : Passed by xs ys i) where
    both_end : length xs ≤ i → length ys ≤ i → in_turn by xs ys ≡ Equal
    unfolding in_turn
    both_end h k = p.same ∙ rw (drop_of_length-le xs h, drop_of_length-le ys k)

    one_ends : (e : A) → length xs ≤ i → i < length ys → in_turn by xs ys ≡ Follows
    unfolding in_turn
    one_ends e h k = p.same ∙ rw (drop_of_length-le xs h, drop-cons ys i e k)

    two_ends : (d : A) → i < length xs → length ys ≤ i → in_turn by xs ys ≡ Precedes
    unfolding in_turn
    two_ends d h k = p.same ∙ rw (drop-cons xs i d h, drop_of_length-le ys k)

    ends : (d : A) → i ≤ min (length xs) (length ys) → min (length xs) (length ys) ≤ i → Way (length ys) (length xs) → in_turn by xs ys ≡ lower (length ys) (length xs)
    ends d h k (below l) = let z : min (length xs) (length ys) ≡ length ys = min-eq_right (omega arith) in two_ends d (omega arith) (omega arith) ∙ sym (low_below _ _ l)
    ends d h k (equal q) = let z : min (length xs) (length ys) ≡ length ys = min-eq_right (omega arith) in both_end (omega arith) (omega arith) ∙ sym (low_equal _ _ q)
    ends d h k (above l) = let z : min (length xs) (length ys) ≡ length xs = min-eq_left (omega arith) in one_ends d (omega arith) (omega arith) ∙ sym (low_above _ _ l)

    -- where one has ended, the longer precedes
    pub one_ended : (d : A) → i ≤ min (length xs) (length ys) → min (length xs) (length ys) ≤ i → in_turn by xs ys ≡ lower (length ys) (length xs)
    one_ended d h k = ends d h k (way (length ys) (length xs))

    pub next_tells : (d : A) → i < length xs → i < length ys → (o : Ordering) → by (get_or xs i d) (get_or ys i d) ≡ o → in_turn by xs ys ≡ then_by o (in_turn by (drop (i + 1) xs) (drop (i + 1) ys))
    unfolding in_turn
    next_tells d h k o q = p.same ∙ rw (add-one i, drop-cons xs i d h, drop-cons ys i d k, q)
