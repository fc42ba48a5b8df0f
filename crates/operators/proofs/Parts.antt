-- The operators of a part of two lists are those that the lists have there.
use Prim.Native.Nat.{ℕ, zero, suc, ◌+◌, ◌-◌, ◌≤◌, ◌<◌}
use mathlib.Core.Path.{◌≡◌, refl, ap, ◌∙◌}
use mathlib.Core.List.{List, ◌∷◌}
use native.Mathlib.Omega.{arith}
use lib.ListN.{length, get_or, take, drop, length-take, length-drop}
use lib.Seq.{get_or-take, get_or-drop}
use Rattle.operators.specs.Ops.{Op, op, ops_in}

-- so many places hold so many operators, each of them at its place
module _ (values octets : List ℕ) where
  pub length_ops : (n at : ℕ) → length (ops_in values octets at n) ≡ n
  unfolding ops_in
  length_ops zero at = refl
  length_ops (suc n) at = ap suc (length_ops n (at + 1))

  pub op_at : (n at i : ℕ) → i < n → get_or (ops_in values octets at n) i (op 0 0) ≡ op (get_or octets (at + i) 0) (get_or values (at + i) 0)
  unfolding ops_in
  op_at zero at i h = absurd (omega arith)
  op_at (suc n) at zero h = let e : at ≡ at + 0 = omega arith in ap (λ (j : ℕ). op (get_or octets j 0) (get_or values j 0)) e
  op_at (suc n) at (suc i) h =
      let e : at + 1 + i ≡ at + suc i = omega arith in
      op_at n (at + 1) i (omega arith) ∙ ap (λ (j : ℕ). op (get_or octets j 0) (get_or values j 0)) e

module _ (values octets : List ℕ) (at count : ℕ) where
  part : List ℕ → List ℕ
  part xs = take (at + count - at) (drop at xs)

  part_at : (xs : List ℕ) (j : ℕ) → j < count → get_or (part xs) j 0 ≡ get_or xs (at + j) 0
  unfolding part
  part_at xs j h = get_or-take (at + count - at) (drop at xs) j 0 (omega (arith, h)) ∙ get_or-drop at xs j 0

  part_ops : (k j : ℕ) → j + k ≤ count → ops_in (part values) (part octets) j k ≡ ops_in values octets (at + j) k
  unfolding ops_in
  part_ops zero j h = refl
  part_ops (suc k) j h =
      let e : at + j + 1 ≡ at + (j + 1) = omega arith in
      rw (part_at octets j (omega (arith, h)), part_at values j (omega (arith, h)), e)
      (ap (λ (os : List Op). op (get_or octets (at + j) 0) (get_or values (at + j) 0) ∷ os) (part_ops k (j + 1) (omega (arith, h))))

  pub part_is : at + count ≤ length octets
      → ops_in (take (at + count - at) (drop at values)) (take (at + count - at) (drop at octets)) 0 (length (take (at + count - at) (drop at octets)))
      ≡ ops_in values octets at count
  unfolding part
  part_is h =
      let n : length (part octets) ≡ count = length-take (at + count - at) (drop at octets) ∙ omega (arith, length-drop at octets) in
      let z : at + 0 ≡ at = omega arith in
      ap (λ (m : ℕ). ops_in (part values) (part octets) 0 m) n ∙ part_ops count 0 (omega arith) ∙ ap (λ (a : ℕ). ops_in values octets a count) z
