-- The rank of two prefixes is that of two lists of numbers: the offset, then the first n bits for each n up to the length. So contents and components
-- are in an order, and so are rules.
use Prim.Native.Nat.{ℕ, zero, suc, ◌+◌, ◌-◌, ◌≤◌, ◌<◌, min}
use mathlib.Core.Path.{◌≡◌, refl, sym, ◌∙◌, ap, ap₂}
use mathlib.Core.List.{List, [], ◌∷◌}
use native.Mathlib.Omega.{arith}
use native.Mathlib.Nat.{suc-min-suc, zero-min, min-zero, lt_of_not-le, zero-add}
use lib.Pow.{shr_mono}
use Rattle.std.specs.Cmp.{IsTotalOrder}
use Rattle.std.proofs.lemmas.Cmp.{nat_cmp_total}
use Rattle.ranking.specs.declared.Front.{Front}
use Rattle.ranking.specs.Ranks.{Ordering, lower, then_by, in_turn, rank_octets, leading_bits, front_of, rank_front, Content, prefixed, listed, Compared, rank_content, rank_compared}
use Rattle.ranking.proofs.Orders.{Way, below, equal, above, way, low_below, low_equal, low_above, low_suc, turn_ordered, by_key}
use Rattle.ranking.proofs.LeadingBits.{fewer}

-- ---- a prefix

-- fewer bits tell no more
pub less : (a b n m : ℕ) → n ≤ m → leading_bits m b ≤ leading_bits m a → leading_bits n b ≤ leading_bits n a
less a b n m l h = rw (fewer 128 a n m l, fewer 128 b n m l) (shr_mono ((128 - n) - (128 - m)) h)

apart : (a b n m : ℕ) → n ≤ m → leading_bits n a < leading_bits n b → leading_bits m a < leading_bits m b
apart a b n m l h = lt_of_not-le (λ (k : leading_bits m b ≤ leading_bits m a). omega (arith, less a b n m l k))

absorb : (a b n m : ℕ) → n ≤ m → (o : Ordering) → Way (leading_bits n a) (leading_bits n b)
    → then_by (lower (leading_bits n a) (leading_bits n b)) (then_by (lower (leading_bits m a) (leading_bits m b)) o) ≡ then_by (lower (leading_bits m a) (leading_bits m b)) o
absorb a b n m l o (below h) = rw (low_below (leading_bits n a) (leading_bits n b) h, low_below (leading_bits m a) (leading_bits m b) (apart a b n m l h))
absorb a b n m l o (equal e) = rw (low_equal (leading_bits n a) (leading_bits n b) e)
absorb a b n m l o (above h) = rw (low_above (leading_bits n a) (leading_bits n b) h, low_above (leading_bits m a) (leading_bits m b) (apart b a n m l h))

-- the first k + 1 bits, and so on up to k + l
unfoldable pub more : ℕ → ℕ → ℕ → List ℕ
more zero k a = []
more (suc l) k a = leading_bits (suc k) a ∷ more l (suc k) a

module _ (a b : ℕ) where
  abbrev bits : ℕ → Ordering
  bits n = lower (leading_bits n a) (leading_bits n b)

  more_order : (l m k : ℕ) → then_by (bits k) (rank_octets (more l k a) (more m k b)) ≡ then_by (bits (k + min l m)) (lower m l)
  unfolding more in_turn
  more_order zero zero k =
      let e : k ≡ k + min 0 0 = omega (arith, zero-min 0) in
      ap₂ (λ (n : ℕ) (o : Ordering). then_by (bits n) o) e (sym (low_equal 0 0 refl))
  more_order zero (suc m) k =
      let e : k ≡ k + min 0 (suc m) = omega (arith, zero-min (suc m)) in
      ap₂ (λ (n : ℕ) (o : Ordering). then_by (bits n) o) e (sym (low_above (suc m) 0 (omega arith)))
  more_order (suc l) zero k =
      let e : k ≡ k + min (suc l) 0 = omega (arith, min-zero (suc l)) in
      ap₂ (λ (n : ℕ) (o : Ordering). then_by (bits n) o) e (sym (low_below 0 (suc l) (omega arith)))
  more_order (suc l) (suc m) k =
      let e : suc k + min l m ≡ k + min (suc l) (suc m) = omega (arith, suc-min-suc l m) in
      ap (λ (o : Ordering). then_by (bits k) o) (more_order l m (suc k))
      ∙ absorb a b k (suc k + min l m) (omega arith) (lower m l) (way (leading_bits k a) (leading_bits k b))
      ∙ ap₂ (λ (n : ℕ) (o : Ordering). then_by (bits n) o) e (sym (low_suc m l (way m l)))

unfoldable pub front_key : Front → List ℕ
front_key f = f.offset ∷ leading_bits 0 f.address ∷ more f.length 0 f.address

pub front_keyed : (f g : Front) → rank_front f g ≡ rank_octets (front_key f) (front_key g)
unfolding rank_front front_key in_turn
front_keyed f g =
    let e : 0 + min f.length g.length ≡ min f.length g.length = zero-add (min f.length g.length) in
    ap (λ (o : Ordering). then_by (lower f.offset g.offset) o)
    (sym (more_order f.address g.address f.length g.length 0
    ∙ ap (λ (n : ℕ). then_by (lower (leading_bits n f.address) (leading_bits n g.address)) (lower g.length f.length)) e))

-- ---- a component

unfoldable pub content_key : Content → List ℕ
content_key (prefixed p) = 0 ∷ front_key (front_of p)
content_key (listed xs) = 1 ∷ xs

content_keyed : (c d : Content) → rank_content c d ≡ rank_octets (content_key c) (content_key d)
unfolding content_key in_turn
content_keyed (prefixed p) (prefixed q) = front_keyed (front_of p) (front_of q) ∙ sym (ap (λ (o : Ordering). then_by o (rank_octets (front_key (front_of p)) (front_key (front_of q)))) (low_equal 0 0 refl))
content_keyed (prefixed p) (listed ys) = sym (ap (λ (o : Ordering). then_by o (rank_octets (front_key (front_of p)) ys)) (low_below 0 1 (omega arith)))
content_keyed (listed xs) (prefixed q) = sym (ap (λ (o : Ordering). then_by o (rank_octets xs (front_key (front_of q)))) (low_above 1 0 (omega arith)))
content_keyed (listed xs) (listed ys) = sym (ap (λ (o : Ordering). then_by o (rank_octets xs ys)) (low_equal 1 1 refl))

unfoldable pub compared_key : Compared → List ℕ
compared_key a = a.tag ∷ content_key a.content

compared_keyed : (a b : Compared) → rank_compared a b ≡ rank_octets (compared_key a) (compared_key b)
unfolding rank_compared compared_key in_turn
compared_keyed a b = ap (λ (o : Ordering). then_by (lower a.tag b.tag) o) (content_keyed a.content b.content)

-- ---- in an order

pub octets_ordered : IsTotalOrder (in_turn lower)
octets_ordered = turn_ordered lower nat_cmp_total

pub compared_ordered : IsTotalOrder rank_compared
compared_ordered = by_key rank_compared (in_turn lower) compared_key octets_ordered compared_keyed

pub rank_ordered : IsTotalOrder (in_turn rank_compared)
rank_ordered = turn_ordered rank_compared compared_ordered
