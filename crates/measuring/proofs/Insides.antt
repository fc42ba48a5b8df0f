-- Places within the lent lists.
use Prim.Native.Nat.{ℕ, ◌+◌, ◌-◌, ◌≤◌}
use mathlib.Core.Path.{◌≡◌, refl, sym, ◌∙◌}
use mathlib.Core.Bool.{true, ◌&&◌}
use native.Mathlib.Omega.{arith}
use borrow.Author.Tests.{ne_eqb, le-leb, lt-leb, leb-true, leb-false}
use lib.Dec.{leb}
use lib.ListN.{length}
use Rattle.ground.specs.Picks.{pick}
use Rattle.ground.proofs.Cases.{by_test, both}
use Rattle.measuring.specs.Bodies.{Lent}
use Rattle.measuring.specs.Grounds.{inside_of}
use Rattle.measuring.proofs.Tests.{and_false}

-- the last test, where nothing was added
pub no_sum : (f s n z : ℕ) → n ≤ z → s ≤ z - n → leb f (z - n - s) ≡ leb (f + s + n) z
no_sum f s n z h k =
    by_test (leb f (z - n - s))
    (λ e. e ∙ sym (le-leb (f + s + n) z (omega (arith, leb-true f (z - n - s) e))))
    (λ e. e ∙ sym (lt-leb (f + s + n) z (omega (arith, leb-false f (z - n - s) e))))

-- below the shorter of two lists is below both
pub below_shorter : (n a b : ℕ) → leb n (pick (leb a b) a b) ≡ (leb n a && leb n b)
below_shorter n a b =
    by_test (leb a b)
    (λ e. by_test (leb n a)
    (λ f. rw (e, f) (sym (le-leb n b (omega (arith, leb-true a b e, leb-true n a f)))))
    (λ f. rw (e, f)))
    (λ e. by_test (leb n b)
    (λ f. rw (e, f, le-leb n a (omega (arith, leb-false a b e, leb-true n b f))))
    (λ f. rw (e, f) (sym (and_false (leb n a) refl))))

module _ (l : Lent) (start n : ℕ) where
  module _ (some : n ≡ 0 → ⊥) where
    pub inside_by : inside_of l start n ≡ (leb (l.first + start + n) (length l.values) && leb (l.first + start + n) (length l.octets))
    inside_by = rw (ne_eqb n 0 some)

    pub inside_both : inside_of l start n ≡ true → (l.first + start + n ≤ length l.values) × (l.first + start + n ≤ length l.octets)
    inside_both e =
        let b = both _ _ (sym inside_by ∙ e) in
        (leb-true (l.first + start + n) (length l.values) b.0, leb-true (l.first + start + n) (length l.octets) b.1)
