-- The turns of the loop that puts a number in decimal: the digits of the powers of ten below one are left to put.
use Prim.Native.Nat.{ℕ, zero, suc, ◌-◌, ◌/◌, ◌%◌, ◌^◌, ◌≤◌, ◌<◌}
use mathlib.Core.Path.{◌≡◌, refl, subst}
use mathlib.Core.List.{[], ◌∷◌, ◌++◌}
use native.Mathlib.Omega.{arith}
use borrow.Author.Tests.{le-leb, lt-leb}
use Rattle.listing.specs.Texts.{digit, decimal_from}

-- the digit of a power that the number reaches, and then those below; of one that it does not reach, none
pub decimal_digit : (number e : ℕ) → 0 < e → {power : ℕ} → power ≡ 10 ^ e → power ≤ number → {octet : ℕ} → octet ≡ digit (number / power % 10)
    → decimal_from e number ≡ (octet ∷ []) ++ decimal_from (e - 1) number
unfolding decimal_from
decimal_digit number zero h p l o = absurd (omega arith)
decimal_digit number (suc k) h p l o =
    let e : suc k - 1 ≡ k = omega arith in
    rw (o, p, e, le-leb (10 ^ suc k) number (subst (λ (x : ℕ). x ≤ number) p l)) refl

pub decimal_skipped : (number e : ℕ) → 0 < e → {power : ℕ} → power ≡ 10 ^ e → number < power → decimal_from e number ≡ decimal_from (e - 1) number
unfolding decimal_from
decimal_skipped number zero h p l = absurd (omega arith)
decimal_skipped number (suc k) h p l =
    let e : suc k - 1 ≡ k = omega arith in
    rw (e, lt-leb (10 ^ suc k) number (subst (λ (x : ℕ). number < x) p l)) refl

pub decimal_last : (number e : ℕ) → e ≡ 0 → {octet : ℕ} → octet ≡ digit (number % 10) → decimal_from e number ≡ octet ∷ []
unfolding decimal_from
decimal_last number e z o = rw (z, o) refl
