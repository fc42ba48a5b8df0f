-- The two reserved bits of a bitmask operator, tested at once.
use Prim.Native.Nat.{ℕ, ◌/◌, ◌%◌, ◌≤◌}
use mathlib.Core.Path.{◌≡◌}
use mathlib.Core.Bool.{true, false, ◌||◌}
use native.Mathlib.Nat.{div-div-eq-div-mul}
use native.Mathlib.Omega.{arith}
use native.Mathlib.Decide.{dec_le}
use borrow.Author.Tests.{eq-eqb, ne_eqb}
use Rattle.ground.proofs.Cases.{by_cases}
use Rattle.operators.specs.Operators.{is_set}

-- of two bits that are not both 0, the lower is 1 where the upper is not
lower : (q : ℕ) → (q % 4 ≡ 0 → ⊥) → (1 ≤ q / 2 % 2 → ⊥) → q % 2 ≡ 1
lower q h n = omega (arith, h, n)

pub reserved : (x : ℕ) → (x / 4 % 4 ≡ 0 → ⊥) → (is_set x 8 || is_set x 4) ≡ true
reserved x h =
    let d : x / 4 / 2 ≡ x / 8 = div-div-eq-div-mul x 4 2 in
    by_cases (dec_le 1 (x / 8 % 2))
    (λ e. rw (eq-eqb (x / 8 % 2) 1 (omega arith)))
    (λ n. rw (ne_eqb (x / 8 % 2) 1 (λ e. n (omega arith)), eq-eqb (x / 4 % 2) 1 (lower (x / 4) h (rw d n))))

pub clear : (x : ℕ) → x / 4 % 4 ≡ 0 → (is_set x 8 || is_set x 4) ≡ false
clear x h = rw (ne_eqb (x / 8 % 2) 1 (λ e. omega arith), ne_eqb (x / 4 % 2) 1 (λ e. omega arith))
