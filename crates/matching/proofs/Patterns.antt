-- The bits of an address between two places: two addresses have the same if the bits in which they differ leave nothing there.
use Prim.Native.Nat.{ℕ, ◌+◌, ◌-◌, ◌*◌, ◌/◌, ◌%◌, ◌^◌, ◌≤◌, ◌<◌}
use mathlib.Core.Path.{◌≡◌, sym, ap, ap₂, ◌∙◌, subst}
use mathlib.Core.Bool.{true}
use mathlib.Core.Logic.{⊎_elim}
use native.Mathlib.Nat.{add-zero, mul-one, zero-mul, mod-one, mul-mod_left, eq_of_mul-eq-mul_right, mod-eq_of_lt, lt_of_lt_of_le, lt_of_le_of_lt, div-le_self}
use native.Mathlib.Omega.{arith}
use lib.Bits.{bit_xor, xor_add_and, xor_self, xor_lt, xor_shr, xor_mod, and_le_l, and_le_r}
use lib.Dec.{eqb}
use lib.Pow.{pow_pos, pow_mono, shl-shr, mod-pow-add, field, shr_mod}
use Rattle.ground.proofs.Cases.{lt_or_le, eqb_iff}
use Rattle.matching.specs.Rules.{same_bits}

-- k digits at the front of 128
cut : (x j k : ℕ) → (x * 2 ^ k) % 2 ^ (j + k) ≡ (x % 2 ^ j) * 2 ^ k
cut x j k =
    mod-pow-add (x * 2 ^ k) j k
    ∙ ap₂ (λ (a c : ℕ). (a % 2 ^ j) * 2 ^ k + c) (shl-shr x k) (mul-mod_left x (2 ^ k))
    ∙ add-zero (x % 2 ^ j * 2 ^ k)

front : (x k : ℕ) → x < 2 ^ 128 → x * 2 ^ (128 - k) % 2 ^ 128 ≡ (x % 2 ^ k) * 2 ^ (128 - k)
front x k b =
    ⊎_elim
    (λ l.
    let e : 128 - k ≡ 0 = omega (arith, l) in
    rw (e, mul-one x, mul-one (x % 2 ^ k)) (mod-eq_of_lt b ∙ sym (mod-eq_of_lt (lt_of_lt_of_le b (pow_mono {i = 128} {j = k} (omega (arith, l)))))))
    (λ l. let e : k + (128 - k) ≡ 128 = omega (arith, l) in sym (ap (λ (w : ℕ). x * 2 ^ (128 - k) % 2 ^ w) e) ∙ cut x k (128 - k))
    (lt_or_le 128 k)

-- two numbers that differ in no bit
xor_zero : (u v : ℕ) → bit_xor u v ≡ 0 → u ≡ v
xor_zero u v e = omega (arith, xor_add_and u v, and_le_l u v, and_le_r u v)

none_differ : (u v k : ℕ) → eqb (bit_xor u v * 2 ^ k) 0 ≡ eqb u v
none_differ u v k =
    eqb_iff _ _ _ _
    (λ e. xor_zero u v (eq_of_mul-eq-mul_right (2 ^ k) (pow_pos k) (bit_xor u v) 0 (e ∙ sym (zero-mul (2 ^ k)))))
    (λ e. rw (e, xor_self v) (zero-mul (2 ^ k)))

-- what `same_bits` answers, d down and u up
pub by_moves : (width offset len a b d k u : ℕ) → a < 2 ^ 128 → b < 2 ^ 128 → d ≡ width - len → k ≡ len - offset → u ≡ 128 - k
    → eqb (bit_xor a b / 2 ^ d * 2 ^ u % 2 ^ 128) 0 ≡ same_bits width offset len a b
by_moves width offset len a b d k u ha hb ed ek eu =
    rw (eu, ← ed, ← ek, front (bit_xor a b / 2 ^ d) k (lt_of_le_of_lt (div-le_self (bit_xor a b) (2 ^ d)) (xor_lt 128 a b ha hb)), xor_shr a b d, xor_mod (a / 2 ^ d) (b / 2 ^ d) k)
    (none_differ (a / 2 ^ d % 2 ^ k) (b / 2 ^ d % 2 ^ k) (128 - k))

-- what is left of the first bits of 128, d down
pub by_front : (len a b d : ℕ) → a < 2 ^ 128 → b < 2 ^ 128 → d ≡ 128 - len → eqb (bit_xor a b / 2 ^ d) 0 ≡ same_bits 128 0 len a b
by_front len a b d ha hb ed =
    let m : 2 ^ 128 ≤ 2 ^ (len + d) = pow_mono {i = 128} {j = len + d} (omega (arith, ed)) in
    let o : len - 0 ≡ len = omega arith in
    rw (o, ← ed, xor_shr a b d, shr_mod len d (lt_of_lt_of_le ha m), shr_mod len d (lt_of_lt_of_le hb m))
    (eqb_iff _ _ _ _ (xor_zero (a / 2 ^ d) (b / 2 ^ d)) (λ e. rw e (xor_self (b / 2 ^ d))))

-- an IPv4 prefix no longer than its address: the first bits of 32
pub by_shifts : (len x a : ℕ) → len ≤ 32 → x < 2 ^ 32 → eqb (x / 2 ^ (32 - len)) (a % 2 ^ 32 / 2 ^ (32 - len)) ≡ same_bits 32 0 len x a
by_shifts len x a k b =
    let d = 32 - len in
    let e : 32 ≡ len + d = omega arith in
    let z : len - 0 ≡ len = omega arith in
    rw z
    (ap₂ eqb (sym (shr_mod len d (subst (λ (w : ℕ). x < 2 ^ w) e b)))
    (ap (λ (w : ℕ). a % 2 ^ w / 2 ^ d) e ∙ field a len d))

-- a prefix that asks for no bits
pub no_bits : (width offset len a b : ℕ) → len ≤ offset → same_bits width offset len a b ≡ true
no_bits width offset len a b h =
    let e : len - offset ≡ 0 = omega arith in
    rw (e, mod-one (a / 2 ^ (width - len)), mod-one (b / 2 ^ (width - len)))
