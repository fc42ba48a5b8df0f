-- Prefixes of one length that the standard writing takes are in the order of their octets, whatever follows these.
use Prim.Native.Nat.{ℕ, ◌+◌, ◌-◌, ◌*◌, ◌/◌, ◌^◌, ◌≤◌, ◌<◌, min}
use mathlib.Core.Path.{◌≡◌, refl, sym, ◌∙◌, ap, ap₂, subst}
use mathlib.Core.Bool.{true, false≢true}
use mathlib.Core.List.{List, ◌∷◌, ◌++◌}
use native.Mathlib.Nat.{min-eq_left, mod-eq_of_lt, mul_assoc, mul-lt-mul_of_pos_right}
use native.Mathlib.Omega.{arith}
use borrow.Author.Tests.{leb-true}
use lib.Dec.{leb}
use lib.Pow.{pow-add, pow_pos, shl-shr, shr_lt, shl_lt}
use Rattle.ground.proofs.Cases.{both}
use Rattle.wide.specs.Numbers.{wide}
use Rattle.octets.specs.Spell.{spelled}
use Rattle.choices.specs.declared.Reading.{Reading}
use Rattle.choices.specs.declared.Reading.TheVariants.{Plain, Ipv4, Ipv6}
use Rattle.rules.specs.declared.NetworkPrefix.{NetworkPrefix}
use Rattle.rules.specs.declared.NetworkPrefix.TheVariants.{Ipv4 as V4, Ipv6 as V6, Ipv4Offset as V4Offset, Ipv6Offset as V6Offset}
use Rattle.prefixes.specs.Prefixes.{octets_of, offset_fits}
use Rattle.prefixes.specs.Forms.{clean, valid_in}
use Rattle.prefixes.proofs.Laws.{fits_le}
use Rattle.prefixwriting.specs.Writings.{standard_octets, front_octets, offset_octets}
use Rattle.prefixwriting.proofs.Inverse.{clean_is}
use Rattle.measuring.specs.Bodies.{prefix_octets}
use Rattle.measuring.specs.Grounds.{prefix_taken}
use Rattle.measuring.proofs.Laws.{Standard}
use Rattle.ranking.specs.declared.Front.{Front}
use Rattle.ranking.specs.Ranks.{Ordering, lower, then_by, in_turn, rank_octets, leading_bits, front_of, rank_bits, rank_front, rank_prefix}
use Rattle.ranking.proofs.Orders.{Way, below, equal, above, way, low_below, low_equal, low_above, equal_same, then_assoc, then_none, then_where}
use Rattle.ranking.proofs.LeadingBits.{first_ipv4}
use Rattle.ranking.proofs.OperatorsInTurn.{spelled_order}

-- ---- numbers

-- moved up alike, two numbers stay in their order
moved_order : (x y k : ℕ) → Way x y → lower (x * 2 ^ k) (y * 2 ^ k) ≡ lower x y
moved_order x y k (below h) = low_below (x * 2 ^ k) (y * 2 ^ k) (mul-lt-mul_of_pos_right h (pow_pos k)) ∙ sym (low_below x y h)
moved_order x y k (equal e) = low_equal (x * 2 ^ k) (y * 2 ^ k) (ap (λ (n : ℕ). n * 2 ^ k) e) ∙ sym (low_equal x y e)
moved_order x y k (above h) = low_above (x * 2 ^ k) (y * 2 ^ k) (mul-lt-mul_of_pos_right h (pow_pos k)) ∙ sym (low_above x y h)

-- bits written in k octets, filled up with m bits 0
bits_order : (k m a b x y : ℕ) → a ≡ x * 2 ^ m → b ≡ y * 2 ^ m → a < 2 ^ (8 * k) → b < 2 ^ (8 * k) → (xs ys : List ℕ)
    → rank_octets (spelled k a ++ xs) (spelled k b ++ ys) ≡ then_by (lower x y) (rank_octets xs ys)
bits_order k m a b x y e f h l xs ys =
    spelled_order k a b xs ys
    ∙ ap (λ (o : Ordering). then_by o (rank_octets xs ys)) (ap₂ lower (mod-eq_of_lt h ∙ e) (mod-eq_of_lt l ∙ f) ∙ moved_order x y m (way x y))

-- two prefixes of one length and one offset rank by their bits
by_bits : (f g : Front) → f.length ≡ g.length
    → then_by (rank_bits (min f.length g.length) f g) (lower g.length f.length) ≡ lower (leading_bits f.length f.address) (leading_bits f.length g.address)
by_bits f g l =
    let m : min f.length g.length ≡ f.length = min-eq_left (omega arith) in
    rw (m, low_equal g.length f.length (sym l)) (then_none _)

-- ---- IPv4

-- up by m + j, down by j
up_less : (x m j : ℕ) → x * 2 ^ (m + j) / 2 ^ j ≡ x * 2 ^ m
up_less x m j = ap (λ (n : ℕ). x * n / 2 ^ j) (pow-add 2 m j) ∙ ap (λ (n : ℕ). n / 2 ^ j) (sym (mul_assoc x (2 ^ m) (2 ^ j))) ∙ shl-shr (x * 2 ^ m) j

module _ (len a : ℕ) (h : len ≤ 32) (c : clean 32 len 0 a ≡ true) where
  ipv4_bits : a / 2 ^ (32 - 8 * octets_of len) ≡ a / 2 ^ (32 - len) * 2 ^ (8 * octets_of len - len)
  ipv4_bits =
      let m = 8 * octets_of len - len in
      let j = 32 - 8 * octets_of len in
      let e : 32 - len ≡ m + j = omega arith in
      let x = a / 2 ^ (32 - len) in
      ap (λ (n : ℕ). n / 2 ^ j) (sym (clean_is 32 len 0 a c).0 ∙ ap (λ (i : ℕ). x * 2 ^ i) e) ∙ up_less x m j

  ipv4_within : a / 2 ^ (32 - 8 * octets_of len) < 2 ^ (8 * octets_of len)
  ipv4_within =
      let k = 8 * octets_of len in
      let e : 32 - 0 ≡ k + (32 - k) = omega arith in
      shr_lt k (32 - k) (subst (λ (i : ℕ). a < 2 ^ i) e (clean_is 32 len 0 a c).1)

ipv4_order : (len a b : ℕ) → len ≤ 32 → clean 32 len 0 a ≡ true → clean 32 len 0 b ≡ true → (xs ys : List ℕ)
    → rank_octets (standard_octets (V4 len a) ++ xs) (standard_octets (V4 len b) ++ ys) ≡ then_by (rank_prefix (V4 len a) (V4 len b)) (rank_octets xs ys)
unfolding in_turn rank_front
ipv4_order len a b h c d xs ys =
    let z : rank_prefix (V4 len a) (V4 len b) ≡ lower (a / 2 ^ (32 - len)) (b / 2 ^ (32 - len)) =
    rw (low_equal 0 0 refl) (by_bits (front_of (V4 len a)) (front_of (V4 len b)) refl ∙ ap₂ lower (first_ipv4 a len h) (first_ipv4 b len h)) in
    ap (λ (o : Ordering). then_by o (rank_octets (front_octets 32 len a ++ xs) (front_octets 32 len b ++ ys))) (low_equal len len refl)
    ∙ bits_order (octets_of len) (8 * octets_of len - len) _ _ (a / 2 ^ (32 - len)) (b / 2 ^ (32 - len)) (ipv4_bits len a h c) (ipv4_bits len b h d) (ipv4_within len a h c) (ipv4_within len b h d) xs ys
    ∙ ap (λ (o : Ordering). then_by o (rank_octets xs ys)) (sym z)

-- ---- IPv6

ipv6_within : (len off a : ℕ) → offset_fits len off ≡ true → clean 128 len off a ≡ true
    → a / 2 ^ (128 - len) * 2 ^ (8 * octets_of (len - off) - (len - off)) < 2 ^ (8 * octets_of (len - off))
ipv6_within len off a f c =
    let n = len - off in
    let k = 8 * octets_of n in
    let l = fits_le len off f in
    let e : 128 - off ≡ n + (128 - len) = omega (arith, l.0, l.1) in
    let g : n + (k - n) ≡ k = omega arith in
    subst (λ (i : ℕ). a / 2 ^ (128 - len) * 2 ^ (k - n) < 2 ^ i) g (shl_lt n (k - n) (shr_lt n (128 - len) (subst (λ (i : ℕ). a < 2 ^ i) e (clean_is 128 len off a c).1)))

-- the lower offset precedes, and its octet comes first
ipv6_order : (len off off2 h l h2 l2 : ℕ) → offset_fits len off ≡ true → clean 128 len off (wide h l) ≡ true → clean 128 len off2 (wide h2 l2) ≡ true → (xs ys : List ℕ)
    → rank_octets (standard_octets (V6Offset len off h l) ++ xs) (standard_octets (V6Offset len off2 h2 l2) ++ ys) ≡ then_by (rank_prefix (V6Offset len off h l) (V6Offset len off2 h2 l2)) (rank_octets xs ys)
unfolding in_turn rank_front
ipv6_order len off off2 h l h2 l2 i c d xs ys =
    let a = wide h l in
    let b = wide h2 l2 in
    let f = front_of (V6Offset len off h l) in
    let g = front_of (V6Offset len off2 h2 l2) in
    let bits = lower (leading_bits len a) (leading_bits len b) in
    ap (λ (o : Ordering). then_by o (then_by (lower off off2) (rank_octets (offset_octets len off a ++ xs) (offset_octets len off2 b ++ ys)))) (low_equal len len refl)
    ∙ then_where (lower off off2)
    (λ z. let e = equal_same off off2 z in
    subst (λ (n : ℕ). rank_octets (offset_octets len off a ++ xs) (offset_octets len n b ++ ys) ≡ then_by bits (rank_octets xs ys)) e
    (bits_order (octets_of (len - off)) (8 * octets_of (len - off) - (len - off)) _ _ (leading_bits len a) (leading_bits len b) refl refl (ipv6_within len off a i c)
    (ipv6_within len off b i (subst (λ (n : ℕ). clean 128 len n b ≡ true) (sym e) d)) xs ys)
    ∙ ap (λ (o : Ordering). then_by o (rank_octets xs ys)) (sym (by_bits f g refl)))
    ∙ sym (then_assoc (lower off off2) (then_by (rank_bits (min len len) f g) (lower len len)) (rank_octets xs ys))

-- ---- what a standard writing takes

record Four (p : NetworkPrefix) : Type 0 where
  pub len : ℕ
  pub address : ℕ
  pub is : p ≡ V4 len address
  pub short : len ≤ 32
  pub cleaned : clean 32 len 0 address ≡ true

four : (p : NetworkPrefix) → valid_in 4 p ≡ true → Four p
four (V4 len a) e = let b = both (leb len 32) (clean 32 len 0 a) e in record { len = len; address = a; is = refl; short = leb-true len 32 b.0; cleaned = b.1 }
four (V6 len h l) e = absurd (false≢true e)
four (V4Offset len off a) e = absurd (false≢true e)
four (V6Offset len off h l) e = absurd (false≢true e)

record Six (p : NetworkPrefix) : Type 0 where
  pub len : ℕ
  pub offset : ℕ
  pub high : ℕ
  pub low : ℕ
  pub is : p ≡ V6Offset len offset high low
  pub fits : offset_fits len offset ≡ true
  pub cleaned : clean 128 len offset (wide high low) ≡ true

six : (p : NetworkPrefix) → valid_in 6 p ≡ true → Six p
six (V4 len a) e = absurd (false≢true e)
six (V6 len h l) e = absurd (false≢true e)
six (V4Offset len off a) e = absurd (false≢true e)
six (V6Offset len off h l) e =
    let b = both (offset_fits len off) (clean 128 len off (wide h l)) e in record { len = len; offset = off; high = h; low = l; is = refl; fits = b.0; cleaned = b.1 }

abbrev length_of : NetworkPrefix → ℕ
length_of p = (front_of p).length

abbrev pub SameLength : NetworkPrefix → NetworkPrefix → Type 0
SameLength p q = length_of p ≡ length_of q

-- two of one length, with anything after them
abbrev InOrder : NetworkPrefix → NetworkPrefix → Type 0
InOrder p q = (xs ys : List ℕ) → rank_octets (standard_octets p ++ xs) (standard_octets q ++ ys) ≡ then_by (rank_prefix p q) (rank_octets xs ys)

module _ (p q : NetworkPrefix) where
  four_order : Four p → Four q → SameLength p q → InOrder p q
  four_order f g s =
      let e : f.len ≡ g.len = ap length_of (sym f.is) ∙ s ∙ ap length_of g.is in
      let d : p ≡ V4 g.len f.address = f.is ∙ ap (λ (n : ℕ). V4 n f.address) e in
      rw (d, g.is) (ipv4_order g.len f.address g.address g.short (subst (λ (n : ℕ). clean 32 n 0 f.address ≡ true) e f.cleaned) g.cleaned)

  six_order : Six p → Six q → SameLength p q → InOrder p q
  six_order f g s =
      let e : f.len ≡ g.len = ap length_of (sym f.is) ∙ s ∙ ap length_of g.is in
      let d : p ≡ V6Offset g.len f.offset f.high f.low = f.is ∙ ap (λ (n : ℕ). V6Offset n f.offset f.high f.low) e in
      rw (d, g.is)
      (ipv6_order g.len f.offset g.offset f.high f.low g.high g.low (subst (λ (n : ℕ). offset_fits n f.offset ≡ true) e f.fits)
      (subst (λ (n : ℕ). clean 128 n f.offset (wide f.high f.low) ≡ true) e f.cleaned) g.cleaned)

  pub prefix_order : (w : Reading) → Standard w → prefix_taken w p ≡ true → prefix_taken w q ≡ true → SameLength p q → (xs ys : List ℕ)
      → rank_octets (prefix_octets w p ++ xs) (prefix_octets w q ++ ys) ≡ then_by (rank_prefix p q) (rank_octets xs ys)
  prefix_order Plain st e f s = absurd st
  prefix_order Ipv4 st e f s = four_order (four p e) (four q f) s
  prefix_order Ipv6 st e f s = six_order (six p e) (six q f) s

-- the octets begin with the length, so that the same octets are of one length
record Begins (p : NetworkPrefix) : Type 0 where
  pub rest : List ℕ
  pub is : standard_octets p ≡ length_of p ∷ rest

begins : (family : ℕ) (p : NetworkPrefix) → valid_in family p ≡ true → Begins p
begins family (V4 len a) e = record { rest = front_octets 32 len a; is = refl }
begins family (V6 len h l) e = absurd (false≢true e)
begins family (V4Offset len off a) e = absurd (false≢true e)
begins family (V6Offset len off h l) e = record { rest = off ∷ offset_octets len off (wide h l); is = refl }

module _ (p q : NetworkPrefix) where
  same_first : Begins p → Begins q → (xs ys : List ℕ) → standard_octets p ++ xs ≡ standard_octets q ++ ys → SameLength p q
  same_first f g xs ys e =
      let z : length_of p ∷ (f.rest ++ xs) ≡ length_of q ∷ (g.rest ++ ys) = ap (λ (l : List ℕ). l ++ xs) (sym f.is) ∙ e ∙ ap (λ (l : List ℕ). l ++ ys) g.is in
      cc

  pub same_length : (w : Reading) → Standard w → prefix_taken w p ≡ true → prefix_taken w q ≡ true → (xs ys : List ℕ) → prefix_octets w p ++ xs ≡ prefix_octets w q ++ ys → SameLength p q
  same_length Plain st e f = absurd st
  same_length Ipv4 st e f = same_first (begins 4 p e) (begins 4 q f)
  same_length Ipv6 st e f = same_first (begins 6 p e) (begins 6 q f)
