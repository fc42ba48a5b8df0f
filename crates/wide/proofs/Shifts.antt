-- The number of two halves, and its shifts: past its 128 digits nothing is left.
use mathlib.Core.Path.{◌≡◌, sym, ap, ◌∙◌}
use Prim.Native.Nat.{ℕ, ◌+◌, ◌-◌, ◌*◌, ◌/◌, ◌%◌, ◌^◌, ◌≤◌, ◌<◌}
use native.Mathlib.Nat.{mul_assoc, mul-mod_left, lt_of_lt_of_le, div-eq_of_lt}
use native.Mathlib.Omega.{arith}
use lib.Pow.{pow-add, pow_mono, shr-shr, high, split}
use Rattle.wide.specs.Numbers.{wide}

-- a number is that of its halves
pub of_halves : (n : ℕ) → wide (n / 2 ^ 64) (n % 2 ^ 64) ≡ n
of_halves n = split n 64

-- past the lower half
pub past : (h l k : ℕ) → l < 2 ^ 64 → 64 ≤ k → wide h l / 2 ^ k ≡ h / 2 ^ (k - 64)
past h l k b p =
    let e : 64 + (k - 64) ≡ k = omega arith in
    sym (ap (λ (j : ℕ). wide h l / 2 ^ j) e) ∙ sym (shr-shr (wide h l) 64 (k - 64)) ∙ ap (λ (x : ℕ). x / 2 ^ (k - 64)) (high h 64 b)

pub none_down : (w k : ℕ) → w < 2 ^ 128 → 128 ≤ k → w / 2 ^ k ≡ 0
none_down w k b p = div-eq_of_lt (lt_of_lt_of_le b (pow_mono p))

pub none_up : (w k : ℕ) → 128 ≤ k → w * 2 ^ k % 2 ^ 128 ≡ 0
none_up w k p =
    let e : k - 128 + 128 ≡ k = omega arith in
    sym (ap (λ (j : ℕ). w * 2 ^ j % 2 ^ 128) e)
    ∙ ap (λ (x : ℕ). x % 2 ^ 128) (ap (λ (x : ℕ). w * x) (pow-add 2 (k - 128) 128) ∙ sym (mul_assoc w (2 ^ (k - 128)) (2 ^ 128)))
    ∙ mul-mod_left (w * 2 ^ (k - 128)) (2 ^ 128)
