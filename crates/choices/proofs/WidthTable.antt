-- The table of widths: every type takes code 0, none more than the four codes, and three types alone take fewer, in the standard readings.
use Prim.Native.Nat.{ℕ, ◌^◌, ◌≤◌, ◌<◌}
use mathlib.Core.Path.{◌≡◌, sym}
use mathlib.Core.Bool.{true, false, ◌||◌}
use mathlib.Core.Logic.{◌⊎◌, inl, inr}
use native.Mathlib.Omega.{arith}
use borrow.Author.Tests.{ne_eqb, eqb-true, lt-leb, ltb-true}
use lib.Dec.{eqb, leb, ltb}
use Rattle.ground.proofs.Cases.{by_test}
use Rattle.choices.specs.declared.Reading.{Reading}
use Rattle.choices.specs.declared.Reading.TheVariants.{Plain, Ipv4, Ipv6}
use Rattle.choices.specs.Choices.{codes_by, codes_in}

-- the types whose widths the RFC fixes
abbrev pub Fixed : ℕ → Type 0
Fixed t = (t ≡ 9) ⊎ ((t ≡ 11) ⊎ (t ≡ 12))

-- a bound is a power of two, so that codes are below it where their bits joined are
pub record Row (t : ℕ) : Type 0 where
  pub least : 1 ≤ codes_by t
  pub most : codes_by t ≤ 4
  pub fixed : codes_by t < 4 → Fixed t
  pub exponent : ℕ
  pub power : codes_by t ≡ 2 ^ exponent

pub row : (t : ℕ) → Row t
row t =
    by_test (eqb t 9)
    (λ a. record { least = rw a (omega arith); most = rw a (omega arith); fixed = λ h. inl (eqb-true t 9 a); exponent = 1; power = rw a })
    (λ a. by_test (eqb t 11)
    (λ b. record { least = rw (a, b) (omega arith); most = rw (a, b) (omega arith); fixed = λ h. inr (inl (eqb-true t 11 b)); exponent = 0; power = rw (a, b) })
    (λ b. by_test (eqb t 12)
    (λ c. record { least = rw (a, b, c) (omega arith); most = rw (a, b, c) (omega arith); fixed = λ h. inr (inr (eqb-true t 12 c)); exponent = 0; power = rw (a, b, c) })
    (λ c.
    record {
      least = rw (a, b, c) (omega arith);
      most = rw (a, b, c) (omega arith);
      fixed = λ h. let k : 4 < 4 = rw (a, b, c) at h in absurd (omega arith);
      exponent = 2;
      power = rw (a, b, c);
    })))

-- the types below 9 and lengths take all four codes, and every type code 0
pub none_wide : (t code : ℕ) → code < 4 → ((ltb t 9 || eqb t 10) || eqb code 0) ≡ true → false ≡ leb (codes_by t) code
none_wide t code l e =
    by_test (ltb t 9)
    (λ a. let h = ltb-true t 9 a in all_codes (λ z. omega arith) (λ z. omega arith) (λ z. omega arith))
    (λ a. by_test (eqb t 10)
    (λ b. let h = eqb-true t 10 b in all_codes (λ z. omega arith) (λ z. omega arith) (λ z. omega arith))
    (λ b. let z : eqb code 0 ≡ true = rw (a, b) at e in sym (lt-leb (codes_by t) code (omega (arith, eqb-true code 0 z, (row t).least)))))
  where
    all_codes : (t ≡ 9 → ⊥) → (t ≡ 11 → ⊥) → (t ≡ 12 → ⊥) → false ≡ leb (codes_by t) code
    all_codes p q r = rw (ne_eqb t 9 p, ne_eqb t 11 q, ne_eqb t 12 r) (sym (lt-leb 4 code l))

pub codes_least : (r : Reading) (t : ℕ) → 1 ≤ codes_in r t
codes_least Plain t = omega arith
codes_least Ipv4 t = (row t).least
codes_least Ipv6 t = (row t).least

pub codes_most : (r : Reading) (t : ℕ) → codes_in r t ≤ 4
codes_most Plain t = omega arith
codes_most Ipv4 t = (row t).most
codes_most Ipv6 t = (row t).most

pub codes_fixed : (r : Reading) (t : ℕ) → codes_in r t < 4 → Fixed t
codes_fixed Plain t h = absurd (omega arith)
codes_fixed Ipv4 t h = (row t).fixed h
codes_fixed Ipv6 t h = (row t).fixed h
