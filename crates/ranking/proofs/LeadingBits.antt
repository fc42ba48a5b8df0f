-- The bits that two addresses share from the front are the leading zeros of their exclusive-or; where fewer than n bits are shared,
-- the first n bits are in the order of the whole addresses.
use mathlib.Core.Path.{◌≡◌, sym, ap, ◌∙◌}
use mathlib.Core.Logic.{⊎_elim}
use Prim.Native.Nat.{ℕ, suc, ◌%◌, ◌+◌, ◌-◌, ◌*◌, ◌/◌, ◌^◌, ◌≤◌, ◌<◌}
use native.Mathlib.Nat.{lt_of_lt_of_le, pow-suc, div-eq_of_lt, lt-div-mul-add, add_left_cancel, le_of_suc-le-suc, le_antisymm, lt_of_not-le, div-one}
use native.Mathlib.Omega.{arith}
use lib.Pow.{pow_mono, pow_pos, shr-shr, shr_mono, shl-shr, high}
use lib.Bits.{bit_xor, xor_shr, xor_self, xor_lt, xor_add_and, and_le_l, and_le_r}
use lib.Count.{count_leading_zeros, leading_le, leading_length}
use Rattle.wide.specs.Numbers.{wide}
use Rattle.wide.proofs.Shifts.{of_halves, past}
use Rattle.ground.proofs.Powers.{down_part}
use Rattle.ground.proofs.Cases.{lt_or_le}
use Rattle.ranking.specs.Ranks.{Equal, Shares, lower, leading_bits}
use Rattle.ranking.proofs.Orders.{Way, below, equal, above, way, low_below, low_equal, low_above}

-- the first n of the k bits of a number
abbrev top : ℕ → ℕ → ℕ → ℕ
top k a n = a / 2 ^ (k - n)

-- an exclusive-or is 0 only of equal numbers
xor_zero : (u v : ℕ) → bit_xor u v ≡ 0 → u ≡ v
xor_zero u v e = omega (arith, xor_add_and u v, and_le_l u v, and_le_r u v)

zero_quot : (x j : ℕ) → x / 2 ^ j ≡ 0 → x < 2 ^ j
zero_quot x j e = omega (arith, rw e at (lt-div-mul-add {a = x} (pow_pos j)))

leading_below : (k x n : ℕ) → x < 2 ^ k → n ≤ count_leading_zeros k x → x < 2 ^ (k - n)
leading_below k x n h l =
    let m = leading_length k x h in
    let q : m.0 ≤ k - n = omega (arith, m.1) in
    lt_of_lt_of_le m.2 (pow_mono q)

-- a number has one length: none that holds x is shorter than one that x reaches
length_le : (x m j : ℕ) → 2 ^ m ≤ 2 * x + 1 → x < 2 ^ j → m ≤ j
length_le x m j l h = le_of_suc-le-suc (lt_of_not-le (λ (g : suc j ≤ m). omega (arith, pow_mono g, pow-suc 2 j)))

below_leading : (k x n : ℕ) → x < 2 ^ k → n ≤ k → x < 2 ^ (k - n) → n ≤ count_leading_zeros k x
below_leading k x n h l b = let m = leading_length k x h in omega (arith, m.1, length_le x m.0 (k - n) m.3 b)

pub shares : (k a b : ℕ) → a < 2 ^ k → b < 2 ^ k → Shares k a b (count_leading_zeros k (bit_xor a b))
shares k a b ha hb =
    let x = xor_lt k a b ha hb in
    record {
      within = leading_le k (bit_xor a b);
      same = λ n l. xor_zero (top k a n) (top k b n) (sym (xor_shr a b (k - n)) ∙ div-eq_of_lt (leading_below k _ n x l));
      only = λ n l e. below_leading k _ n x l (zero_quot _ _ (xor_shr a b (k - n) ∙ ap (λ (z : ℕ). bit_xor z (top k b n)) e ∙ xor_self (top k b n)));
    }

-- no other number is so
pub shares_once : (k a b r s : ℕ) → Shares k a b r → Shares k a b s → r ≡ s
shares_once k a b r s x y = le_antisymm (y.only r x.within (x.same r (omega arith))) (x.only s y.within (y.same s (omega arith)))

upper : (h l : ℕ) {n : ℕ} → l < 2 ^ 64 → n ≤ 64 → top 128 (wide h l) n ≡ top 64 h n
upper h l {n} b g =
    let e : 128 - n - 64 ≡ 64 - n = omega arith in
    past h l (128 - n) b (omega arith) ∙ ap (λ (j : ℕ). h / 2 ^ j) e

beyond : (h l n : ℕ) → 64 < n → n ≤ 128 → top 128 (wide h l) n ≡ h * 2 ^ (n - 64) + top 64 l (n - 64)
beyond h l n p g =
    let e : 128 - n ≡ 64 - (n - 64) = omega arith in
    let f : (n - 64) + (64 - (n - 64)) ≡ 64 = omega arith in
    ap (λ (j : ℕ). wide h l / 2 ^ j) e
    ∙ ap (λ (j : ℕ). (h * 2 ^ j + l) / 2 ^ (64 - (n - 64))) (sym f)
    ∙ down_part h l (n - 64) (64 - (n - 64))

-- fewer first bits are a quotient of more
pub fewer : (k a n m : ℕ) → n ≤ m → top k a n ≡ top k a m / 2 ^ ((k - n) - (k - m))
fewer k a n m l =
    let e : (k - m) + ((k - n) - (k - m)) ≡ k - n = omega arith in
    sym (shr-shr a (k - m) ((k - n) - (k - m)) ∙ ap (λ (j : ℕ). a / 2 ^ j) e)

-- equal upper halves: 64 bits, and those that the lower halves share
pub same_upper : (h al bl s : ℕ) → al < 2 ^ 64 → bl < 2 ^ 64 → Shares 64 al bl s → Shares 128 (wide h al) (wide h bl) (64 + s)
same_upper h al bl s ha hb g = record {
  within = omega (arith, g.within);
  same = λ n l. ⊎_elim
      (λ (p : 64 < n). let w : n ≤ 128 = omega (arith, g.within) in
      beyond h al n p w ∙ ap (λ (x : ℕ). h * 2 ^ (n - 64) + x) (g.same (n - 64) (omega arith)) ∙ sym (beyond h bl n p w))
      (λ (p : n ≤ 64). upper h al ha p ∙ sym (upper h bl hb p))
      (lt_or_le 64 n);
  only = λ n l e. ⊎_elim
      (λ (p : 64 < n). let q : n - 64 ≤ s = g.only (n - 64) (omega arith)
      (add_left_cancel (h * 2 ^ (n - 64)) (sym (beyond h al n p l) ∙ e ∙ beyond h bl n p l)) in omega arith)
      (λ (p : n ≤ 64). omega arith)
      (lt_or_le 64 n);
}

-- other upper halves: those that they share
pub other_upper : (ah al bh bl s : ℕ) → al < 2 ^ 64 → bl < 2 ^ 64 → (ah ≡ bh → ⊥) → Shares 64 ah bh s → Shares 128 (wide ah al) (wide bh bl) s
other_upper ah al bh bl s ha hb d g = record {
  within = omega (arith, g.within);
  same = λ n l. let p : n ≤ 64 = omega (arith, g.within) in upper ah al ha p ∙ g.same n l ∙ sym (upper bh bl hb p);
  only = λ n l e. ⊎_elim
      (λ (p : 64 < n). absurd (d (
      sym (high ah 64 ha) ∙ fewer 128 (wide ah al) 64 n (omega arith) ∙ ap (λ (x : ℕ). x / 2 ^ ((128 - 64) - (128 - n))) e
      ∙ sym (fewer 128 (wide bh bl) 64 n (omega arith)) ∙ high bh 64 hb)))
      (λ (p : n ≤ 64). g.only n p (sym (upper ah al ha p) ∙ e ∙ upper bh bl hb p))
      (lt_or_le 64 n);
}

-- the same of two numbers, by their halves
module _ (a b s : ℕ) {ah al bh bl : ℕ} (p : (ah ≡ a / 2 ^ 64) × (al ≡ a % 2 ^ 64)) (q : (bh ≡ b / 2 ^ 64) × (bl ≡ b % 2 ^ 64)) where
  low_a : a % 2 ^ 64 < 2 ^ 64
  low_a = omega arith

  low_b : b % 2 ^ 64 < 2 ^ 64
  low_b = omega arith

  pub shares_low : ah ≡ bh → Shares 64 al bl s → Shares 128 a b (64 + s)
  shares_low e g =
      let h : b / 2 ^ 64 ≡ a / 2 ^ 64 = sym q.0 ∙ sym e ∙ p.0 in
      let k : Shares 64 (a % 2 ^ 64) (b % 2 ^ 64) s = rw (sym p.1, sym q.1) g in
      let z : wide (a / 2 ^ 64) (b % 2 ^ 64) ≡ b = ap (λ (x : ℕ). wide x (b % 2 ^ 64)) (sym h) ∙ of_halves b in
      rw (of_halves a, z) at (same_upper (a / 2 ^ 64) (a % 2 ^ 64) (b % 2 ^ 64) s low_a low_b k)

  pub shares_high : (ah ≡ bh → ⊥) → Shares 64 ah bh s → Shares 128 a b s
  shares_high d g =
      let k : Shares 64 (a / 2 ^ 64) (b / 2 ^ 64) s = rw (sym p.0, sym q.0) g in
      let n : a / 2 ^ 64 ≡ b / 2 ^ 64 → ⊥ = λ e. d (p.0 ∙ e ∙ sym q.0) in
      rw (of_halves a, of_halves b) at (other_upper (a / 2 ^ 64) (a % 2 ^ 64) (b / 2 ^ 64) (b % 2 ^ 64) s low_a low_b n k)

-- ---- the order of the first n bits

pub bits_shared : (a b r n : ℕ) → Shares 128 a b r → n ≤ r → Equal ≡ lower (leading_bits n a) (leading_bits n b)
bits_shared a b r n s h = sym (low_equal (leading_bits n a) (leading_bits n b) (s.same n h))

-- past the last bit there is nothing more
all_bits : (a n : ℕ) → 128 < n → leading_bits n a ≡ a
all_bits a n h = let e : 128 - n ≡ 0 = omega arith in ap (λ (j : ℕ). a / 2 ^ j) e ∙ div-one a

differ : (a b r n : ℕ) → Shares 128 a b r → r < n → (a ≡ b → ⊥) → leading_bits n a ≡ leading_bits n b → ⊥
differ a b r n s h d e =
    ⊎_elim
    (λ (p : 128 < n). d (sym (all_bits a n p) ∙ e ∙ all_bits b n p))
    (λ (p : n ≤ 128). omega (arith, s.only n p e))
    (lt_or_le 128 n)

whole_bits : (a b r n : ℕ) → Shares 128 a b r → r < n → Way a b → lower a b ≡ lower (leading_bits n a) (leading_bits n b)
whole_bits a b r n s h (below l) =
    low_below a b l
    ∙ sym (low_below (leading_bits n a) (leading_bits n b) (omega (arith, differ a b r n s h (λ e. omega arith), shr_mono {a = a} {b = b} (128 - n) (omega arith))))
whole_bits a b r n s h (equal e) = low_equal a b e ∙ sym (low_equal (leading_bits n a) (leading_bits n b) (ap (λ (x : ℕ). leading_bits n x) e))
whole_bits a b r n s h (above l) =
    low_above a b l
    ∙ sym (low_above (leading_bits n a) (leading_bits n b) (omega (arith, differ a b r n s h (λ e. omega arith), shr_mono {a = b} {b = a} (128 - n) (omega arith))))

-- the order of two addresses by their halves
lows' : (h a b : ℕ) → Way a b → lower a b ≡ lower (wide h a) (wide h b)
lows' h a b (below l) = low_below a b l ∙ sym (low_below (wide h a) (wide h b) (omega arith))
lows' h a b (equal e) = low_equal a b e ∙ sym (low_equal (wide h a) (wide h b) (omega arith))
lows' h a b (above l) = low_above a b l ∙ sym (low_above (wide h a) (wide h b) (omega arith))

highs' : (ah al bh bl : ℕ) → al < 2 ^ 64 → bl < 2 ^ 64 → (ah ≡ bh → ⊥) → Way ah bh → lower ah bh ≡ lower (wide ah al) (wide bh bl)
highs' ah al bh bl p q d (below l) = low_below ah bh l ∙ sym (low_below (wide ah al) (wide bh bl) (omega arith))
highs' ah al bh bl p q d (equal e) = absurd (d e)
highs' ah al bh bl p q d (above l) = low_above ah bh l ∙ sym (low_above (wide ah al) (wide bh bl) (omega arith))

module _ (ah al bh bl r n : ℕ) (s : Shares 128 (wide ah al) (wide bh bl) r) (h : r < n) where
  pub by_lows : ah ≡ bh → lower al bl ≡ lower (leading_bits n (wide ah al)) (leading_bits n (wide bh bl))
  by_lows e = lows' ah al bl (way al bl) ∙ ap (λ (x : ℕ). lower (wide ah al) (wide x bl)) e ∙ whole_bits (wide ah al) (wide bh bl) r n s h (way _ _)

  pub by_highs : al < 2 ^ 64 → bl < 2 ^ 64 → (ah ≡ bh → ⊥) → lower ah bh ≡ lower (leading_bits n (wide ah al)) (leading_bits n (wide bh bl))
  by_highs p q d = highs' ah al bh bl p q d (way ah bh) ∙ whole_bits (wide ah al) (wide bh bl) r n s h (way _ _)

-- and of the numbers
pub bits_differ : (a b r n : ℕ) → Shares 128 a b r → r < n → lower a b ≡ lower (leading_bits n a) (leading_bits n b)
bits_differ a b r n s h = whole_bits a b r n s h (way a b)

-- of an IPv4 address, the first 32 of the 128 bits: its own first n
pub first_ipv4 : (a n : ℕ) → n ≤ 32 → leading_bits n (a * 2 ^ 96) ≡ a / 2 ^ (32 - n)
first_ipv4 a n h =
    let e : 128 - n ≡ 96 + (32 - n) = omega arith in
    ap (λ (j : ℕ). a * 2 ^ 96 / 2 ^ j) e
    ∙ sym (shr-shr (a * 2 ^ 96) 96 (32 - n))
    ∙ ap (λ (x : ℕ). x / 2 ^ (32 - n)) (shl-shr a 96)
