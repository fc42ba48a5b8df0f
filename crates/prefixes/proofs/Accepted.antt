-- What a reading accepted: the plain prefix is in range, and that of a standard reading is one that the standard writing of its family takes.
-- By the tests that were passed.
use mathlib.Core.Path.{◌≡◌, refl, ap, ◌∙◌, subst}
use mathlib.Core.List.{List, [], ◌∷◌}
use mathlib.Core.Bool.{Bool, true, ◌&&◌}
use Prim.Native.Nat.{ℕ, zero, suc, ◌+◌, ◌-◌, ◌*◌, ◌/◌, ◌%◌, ◌^◌, ◌≤◌, ◌<◌}
use native.Mathlib.Nat.{lt_of_le_of_lt, div-mul-le_self}
use native.Mathlib.Omega.{arith}
use borrow.Author.Tests.{eq-eqb, le-leb}
use lib.Dec.{leb, eqb}
use lib.ListN.{length, get_or, take, drop, length-drop}
use lib.Pow.{shl-shr, pow_pos}
use lib.Seq.{get_or-drop, length-take-le}
use Rattle.ground.specs.Answers.{accepts}
use Rattle.ground.proofs.Cases.{by_test}
use Rattle.choices.specs.declared.Reading.{Reading}
use Rattle.choices.specs.declared.Reading.TheVariants.{Plain, Ipv4, Ipv6}
use Rattle.octets.specs.Addresses.{first_bits}
use Rattle.octets.specs.Spell.{spell, value_of}
use Rattle.octets.proofs.Spells.{grows}
use Rattle.wide.specs.Numbers.{wide}
use Rattle.wide.proofs.Shifts.{of_halves}
use Rattle.prefixes.specs.declared.PrefixAt.{PrefixAt}
use Rattle.prefixes.specs.Prefixes.{octets_of, offset_fits, from_in, offset_in, named_at, front_address, offset_address, plain_prefix, ipv4_prefix, ipv6_prefix, spelled_at, prefix_at}
use Rattle.prefixes.specs.Forms.{in_range, valid_in}
use Rattle.prefixes.proofs.Addresses.{front_lt, offset_lt, none_first}
use Rattle.prefixes.proofs.Laws.{fits_le, Taken, taken_ranged, prefix_taken_lem, prefix_is}

-- a list of octets
abbrev pub Octets : List ℕ → Type 0
Octets s = (i : ℕ) → get_or s i 0 < 256

octets_take : (k : ℕ) (s : List ℕ) → Octets s → Octets (take k s)
octets_take zero s h i = omega arith
octets_take (suc k) [] h i = omega arith
octets_take (suc k) (x ∷ s) h zero = h 0
octets_take (suc k) (x ∷ s) h (suc i) = octets_take k s (λ j. h (suc j)) i

spell_lt : (s : List ℕ) (a i : ℕ) → a < 2 ^ (8 * i) → Octets s → spell a s < 2 ^ (8 * (i + length s))
unfolding spell
spell_lt [] a i b h = let e : i + 0 ≡ i = omega arith in rw e b
spell_lt (x ∷ s) a i b h =
    let e : i + 1 + length s ≡ i + suc (length s) = omega arith in
    subst (λ (j : ℕ). spell (a * 256 + x) s < 2 ^ (8 * j)) e (spell_lt s (a * 256 + x) (i + 1) (grows a x i b (h 0)) (λ j. h (suc j)))

-- k octets spell a number of k octets
pub value_lt : (s : List ℕ) (from k : ℕ) → Octets s → from + k ≤ length s → value_of (take k (drop from s)) < 2 ^ (8 * k)
value_lt s from k h l =
    let m : k ≤ length (drop from s) = simp length-drop (omega arith) in
    let e : 0 + length (take k (drop from s)) ≡ k = omega (arith, length-take-le k (drop from s) m) in
    let d : Octets (drop from s) = λ i. rw (get_or-drop) (h (from + i)) in
    subst (λ (j : ℕ). value_of (take k (drop from s)) < 2 ^ (8 * j)) e (spell_lt (take k (drop from s)) 0 0 (pow_pos 0) (octets_take k (drop from s) d))

-- so do those of a prefix that was accepted
pub taken_value : (r : Reading) (s : List ℕ) (at : ℕ) → Octets s → Taken r s at
    → spelled_at s (named_at r s at) < 2 ^ (8 * octets_of (get_or s at 0 - offset_in r s at))
taken_value r s at o t = value_lt s (from_in r at) (octets_of (get_or s at 0 - offset_in r s at)) o t.within

-- where there is no offset
pub front_value : (len v : ℕ) → v < 2 ^ (8 * octets_of (len - 0)) → v < 2 ^ (8 * octets_of len)
front_value len v = let e : len - 0 ≡ len = omega arith in subst (λ (n : ℕ). v < 2 ^ (8 * octets_of n)) e

-- the plain prefix is within its address
plain_ranged : (len v : ℕ) → len ≤ 128 → in_range (plain_prefix len v) ≡ true
plain_ranged len v p = by_test (leb len 32) (λ t. simp t) (λ f. simp (f, le-leb _ _ p))

-- the first bits are their own first bits
first_first : (width n a : ℕ) → first_bits width n (first_bits width n a) ≡ first_bits width n a
first_first width n a = ap (λ (x : ℕ). x * 2 ^ (width - n)) (shl-shr (a / 2 ^ (width - n)) (width - n))

all_true : (a b c d : Bool) → a ≡ true → b ≡ true → c ≡ true → d ≡ true → (a && (b && (c && d))) ≡ true
all_true a b c d e f g h = rw (e, f, g, h)

ipv4_clean : (len v : ℕ) → len ≤ 32 → v < 2 ^ (8 * octets_of len) → valid_in 4 (ipv4_prefix len v) ≡ true
ipv4_clean len v p b =
    let m : 8 * octets_of len ≤ 32 = omega arith in
    let a = front_address 32 len v in
    let l : first_bits 32 len a < 2 ^ 32 = lt_of_le_of_lt (div-mul-le_self a (2 ^ (32 - len))) (front_lt 32 len v m b) in
    all_true _ _ _ _ refl (le-leb _ _ p) (eq-eqb _ _ (first_first 32 len a)) (eq-eqb _ _ (none_first 32 0 (first_bits 32 len a) l))

ipv6_clean : (len off v : ℕ) → offset_fits len off ≡ true → v < 2 ^ (8 * octets_of (len - off)) → valid_in 6 (ipv6_prefix len off v) ≡ true
ipv6_clean len off v f b =
    let q = fits_le len off f in
    let a = offset_address len off v in
    let x = v / 2 ^ (8 * octets_of (len - off) - (len - off)) in
    let w : wide (a / 2 ^ 64) (a % 2 ^ 64) ≡ a = of_halves a in
    all_true _ _ _ _ refl f
    (ap (λ (n : ℕ). eqb (first_bits 128 len n) n) w ∙ eq-eqb _ _ (ap (λ (y : ℕ). y * 2 ^ (128 - len)) (shl-shr x (128 - len))))
    (ap (λ (n : ℕ). eqb (first_bits 128 off n) 0) w ∙ eq-eqb _ _ (none_first 128 off a (offset_lt len off v q.0 q.1 b)))

-- what was accepted
module _ (s : List ℕ) (at : ℕ) {p : PrefixAt} where
  pub plain_in_range : prefix_at Plain s at ≡ accepts p → in_range p.prefix ≡ true
  plain_in_range e =
      let t = prefix_taken_lem Plain s at e in
      ap (λ (x : PrefixAt). in_range x.prefix) (prefix_is Plain s at e)
      ∙ plain_ranged (get_or s at 0) (spelled_at s (named_at Plain s at)) (taken_ranged Plain s at t).0

  module _ (o : Octets s) where
    pub ipv4_valid : prefix_at Ipv4 s at ≡ accepts p → valid_in 4 p.prefix ≡ true
    ipv4_valid e =
        let t = prefix_taken_lem Ipv4 s at e in
        ap (λ (x : PrefixAt). valid_in 4 x.prefix) (prefix_is Ipv4 s at e)
        ∙ ipv4_clean (get_or s at 0) (spelled_at s (named_at Ipv4 s at)) (taken_ranged Ipv4 s at t).0 (front_value _ _ (taken_value Ipv4 s at o t))

    pub ipv6_valid : prefix_at Ipv6 s at ≡ accepts p → valid_in 6 p.prefix ≡ true
    ipv6_valid e =
        let t = prefix_taken_lem Ipv6 s at e in
        ap (λ (x : PrefixAt). valid_in 6 x.prefix) (prefix_is Ipv6 s at e)
        ∙ ipv6_clean (get_or s at 0) (get_or s (at + 1) 0) (spelled_at s (named_at Ipv6 s at)) t.range (taken_value Ipv6 s at o t)
