-- The reserved bits as a bound: an octet is refused exactly where its low four bits reach the limit.
use Prim.Native.Nat.{ℕ, ◌/◌, ◌%◌, ◌≤◌, ◌<◌}
use mathlib.Core.Path.{◌≡◌, refl, ap}
use mathlib.Core.Bool.{true, false, not}
use native.Mathlib.Omega.{arith}
use borrow.Author.Tests.{eq-eqb, ne_eqb}
use Rattle.choices.specs.declared.Reading.{Reading}
use Rattle.choices.specs.declared.Reading.TheVariants.{Plain, Ipv4, Ipv6}
use Rattle.operators.specs.declared.Kind.{Kind}
use Rattle.operators.specs.declared.Kind.TheVariants.{Numeric, Bitmask}
use Rattle.choices.specs.Choices.{refused_in, limit_of}

pub is_refused : (r : Reading) (k : Kind) (x : ℕ) → limit_of r k ≤ x % 16 → refused_in r k x ≡ true
unfolding refused_in
is_refused Plain Numeric x h = eq-eqb (x / 8 % 2) 1 (omega arith)
is_refused Plain Bitmask x h = ap not (ne_eqb (x / 4 % 4) 0 (λ e. omega arith))
is_refused Ipv4 k x h = absurd (omega arith)
is_refused Ipv6 k x h = absurd (omega arith)

pub is_taken : (r : Reading) (k : Kind) (x : ℕ) → x % 16 < limit_of r k → refused_in r k x ≡ false
unfolding refused_in
is_taken Plain Numeric x h = ne_eqb (x / 8 % 2) 1 (λ e. omega arith)
is_taken Plain Bitmask x h = ap not (eq-eqb (x / 4 % 4) 0 (omega arith))
is_taken Ipv4 k x h = refl
is_taken Ipv6 k x h = refl
