-- Tests in turn: what a chain of them says, by the one that fails.
use Prim.Native.Nat.{ℕ, ◌+◌, ◌-◌, ◌≤◌}
use mathlib.Core.Path.{◌≡◌, refl, sym, ◌∙◌}
use mathlib.Core.Bool.{Bool, true, false, ◌&&◌}
use native.Mathlib.Omega.{arith}
use borrow.Author.Tests.{le-leb, lt-leb, leb-true, leb-false}
use lib.Dec.{leb}
use Rattle.ground.proofs.Cases.{by_test}

pub and_false : (a : Bool) {b : Bool} → b ≡ false → (a && b) ≡ false
and_false true e = e
and_false false e = refl

-- a test of a sum, and of what is left
pub leb_rest : (a b n : ℕ) → a ≤ n → leb (a + b) n ≡ leb b (n - a)
leb_rest a b n h =
    by_test (leb (a + b) n)
    (λ e. e ∙ sym (le-leb b (n - a) (omega (arith, leb-true (a + b) n e))))
    (λ e. e ∙ sym (lt-leb b (n - a) (omega (arith, leb-false (a + b) n e))))

-- a test of what a function told
pub told_false : {a b : Bool} → a ≡ b → a ≡ false → b ≡ false
told_false e f = sym e ∙ f

pub told_true : {a b : Bool} → a ≡ b → a ≡ true → b ≡ true
told_true e f = sym e ∙ f
