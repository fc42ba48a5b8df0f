-- The list types one by one: what holds of each of 3 to 13 holds of every type between.
use Prim.Native.Nat.{ℕ, zero, suc, ◌+◌, ◌-◌, ◌≤◌}
use mathlib.Core.Path.{◌≡◌, subst}
use native.Mathlib.Omega.{arith}

module _ (P : ℕ → Type 0) (p3 : P 3) (p4 : P 4) (p5 : P 5) (p6 : P 6) (p7 : P 7) (p8 : P 8) (p9 : P 9) (p10 : P 10) (p11 : P 11) (p12 : P 12) (p13 : P 13) where
  after_two : (k : ℕ) → k ≤ 10 → P (3 + k)
  after_two zero h = p3
  after_two (suc zero) h = p4
  after_two (suc (suc zero)) h = p5
  after_two (suc (suc (suc zero))) h = p6
  after_two (suc (suc (suc (suc zero)))) h = p7
  after_two (suc (suc (suc (suc (suc zero))))) h = p8
  after_two (suc (suc (suc (suc (suc (suc zero)))))) h = p9
  after_two (suc (suc (suc (suc (suc (suc (suc zero))))))) h = p10
  after_two (suc (suc (suc (suc (suc (suc (suc (suc zero)))))))) h = p11
  after_two (suc (suc (suc (suc (suc (suc (suc (suc (suc zero))))))))) h = p12
  after_two (suc (suc (suc (suc (suc (suc (suc (suc (suc (suc zero)))))))))) h = p13
  after_two (suc (suc (suc (suc (suc (suc (suc (suc (suc (suc (suc k))))))))))) h = absurd (omega arith)

  pub each_list : (t : ℕ) → 3 ≤ t → t ≤ 13 → P t
  each_list t l h = let e : 3 + (t - 3) ≡ t = omega arith in subst P e (after_two (t - 3) (omega arith))
