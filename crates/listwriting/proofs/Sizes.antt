-- The octets of a list counted, from a place up to another.
use Prim.Native.Nat.{ℕ, zero, suc, ◌+◌, ◌-◌, ◌*◌, ◌≤◌, ◌<◌}
use mathlib.Core.Path.{◌≡◌, refl}
use mathlib.Core.List.{List, [], ◌∷◌}
use native.Mathlib.Omega.{arith}
use lib.ListN.{length, get_or, length-append}
use Rattle.octets.specs.Widths.{width_of}
use Rattle.octets.proofs.Spells.{length_spelled}
use Rattle.octets.proofs.Widths.{width_most}
use Rattle.operators.specs.declared.Kind.{Kind}
use Rattle.operators.specs.Ops.{op, ops_in, op_octets, list_octets}
use Rattle.listwriting.specs.Lists.{size_in}

-- one operator more, and none left
pub size_more : (os : List ℕ) (q to : ℕ) → q < to → size_in os q (to - q) ≡ 1 + width_of (get_or os q 0) + size_in os (q + 1) (to - (q + 1))
unfolding size_in
size_more os q to h = let e : to - q ≡ suc (to - (q + 1)) = omega arith in rw e

pub size_none : (os : List ℕ) (q to : ℕ) → to ≤ q → size_in os q (to - q) ≡ 0
unfolding size_in
size_none os q to h = let e : to - q ≡ 0 = omega arith in rw e

pub ops_more : (vs os : List ℕ) (q to : ℕ) → q < to → ops_in vs os q (to - q) ≡ op (get_or os q 0) (get_or vs q 0) ∷ ops_in vs os (q + 1) (to - (q + 1))
unfolding ops_in
ops_more vs os q to h = let e : to - q ≡ suc (to - (q + 1)) = omega arith in rw e

pub ops_none : (vs os : List ℕ) (q to : ℕ) → to ≤ q → ops_in vs os q (to - q) ≡ []
unfolding ops_in
ops_none vs os q to h = let e : to - q ≡ 0 = omega arith in rw e

-- one operator
pub size_one : (os : List ℕ) (at : ℕ) → size_in os at 1 ≡ 1 + width_of (get_or os at 0)
unfolding size_in
size_one os at = omega arith

pub ops_one : (vs os : List ℕ) (at : ℕ) → ops_in vs os at 1 ≡ op (get_or os at 0) (get_or vs at 0) ∷ []
unfolding ops_in
ops_one vs os at = refl

-- and two
pub size_two : (os : List ℕ) (at : ℕ) → size_in os at 2 ≡ 2 + width_of (get_or os at 0) + width_of (get_or os (at + 1) 0)
unfolding size_in
size_two os at = omega arith

pub ops_two : (vs os : List ℕ) (at : ℕ) → ops_in vs os at 2 ≡ op (get_or os at 0) (get_or vs at 0) ∷ op (get_or os (at + 1) 0) (get_or vs (at + 1) 0) ∷ []
unfolding ops_in
ops_two vs os at = refl

-- some octets of some operators
pub size_least : (os : List ℕ) (at n : ℕ) → 0 < n → 0 < size_in os at n
unfolding size_in
size_least os at zero h = absurd (omega arith)
size_least os at (suc n) h = omega arith

-- at most nine octets an operator
pub size_most : (os : List ℕ) (at n : ℕ) → size_in os at n ≤ 9 * n
unfolding size_in
size_most os at zero = omega arith
size_most os at (suc n) = omega (arith, width_most (get_or os at 0), size_most os (at + 1) n)

-- so many octets are written
pub length_list : (k : Kind) (vs os : List ℕ) (at n : ℕ) → length (list_octets k (ops_in vs os at n)) ≡ size_in os at n
unfolding size_in ops_in list_octets
length_list k vs os at zero = refl
length_list k vs os at (suc n) =
    let e = length-append (op_octets k (op (get_or os at 0) (get_or vs at 0))) (list_octets k (ops_in vs os (at + 1) n)) in
    omega (arith, e, length_spelled (width_of (get_or os at 0)) (get_or vs at 0), length_list k vs os (at + 1) n)
