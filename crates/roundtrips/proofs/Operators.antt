-- Operators in lent lists and the octets that write them: as many as are asked for, in two parts, and those that were put one after the other
-- stand there again; the octets of one before those of the others.
use Prim.Native.Nat.{ℕ, zero, suc, ◌+◌, ◌*◌, ◌≤◌}
use mathlib.Core.Path.{◌≡◌, refl, ap, ap₂, ◌∙◌}
use mathlib.Core.List.{List, [], ◌∷◌, ◌++◌, map}
use native.Mathlib.Omega.{arith}
use lib.ListN.{length, get_or, length-append}
use Rattle.octets.specs.Widths.{width_of}
use Rattle.octets.proofs.Spells.{length_spelled}
use Rattle.octets.proofs.Widths.{width_least}
use Rattle.operators.specs.declared.Kind.{Kind}
use Rattle.operators.specs.Ops.{Op, op, octet_of, number_of, ops_in, op_octets, list_octets}

-- ---- at so many places

pub ops_zero : (values octets : List ℕ) (at : ℕ) → ops_in values octets at 0 ≡ []
unfolding ops_in
ops_zero values octets at = refl

pub ops_length : (values octets : List ℕ) (at n : ℕ) → length (ops_in values octets at n) ≡ n
unfolding ops_in
ops_length values octets at zero = refl
ops_length values octets at (suc n) = ap suc (ops_length values octets (at + 1) n)

-- in two parts
pub ops_join : (values octets : List ℕ) (m n at : ℕ) → ops_in values octets at (m + n) ≡ ops_in values octets at m ++ ops_in values octets (at + m) n
unfolding ops_in
ops_join values octets zero n at =
    let e : 0 + n ≡ n = omega arith in
    let f : at ≡ at + 0 = omega arith in
    ap₂ (ops_in values octets) f e
ops_join values octets (suc m) n at =
    let e : suc m + n ≡ suc (m + n) = omega arith in
    let f : at + 1 + m ≡ at + suc m = omega arith in
    ap (ops_in values octets at) e
    ∙ ap (λ (l : List Op). op (get_or octets at 0) (get_or values at 0) ∷ l)
    (ops_join values octets m n (at + 1) ∙ ap (λ (j : ℕ). ops_in values octets (at + 1) m ++ ops_in values octets j n) f)

-- one place on
shift : (v x : ℕ) (values octets : List ℕ) (at n : ℕ) → ops_in (v ∷ values) (x ∷ octets) (suc at) n ≡ ops_in values octets at n
unfolding ops_in
shift v x values octets at zero = refl
shift v x values octets at (suc n) =
    let e : suc at + 1 ≡ suc (at + 1) = omega arith in
    ap (λ (os : List Op). op (get_or octets at 0) (get_or values at 0) ∷ os)
    (ap (λ (j : ℕ). ops_in (v ∷ values) (x ∷ octets) j n) e ∙ shift v x values octets (at + 1) n)

-- put there, before and after others
module _ (values octets : List ℕ) where
  front : (os after : List Op) → ops_in (map number_of (os ++ after) ++ values) (map octet_of (os ++ after) ++ octets) 0 (length os) ≡ os
  unfolding ops_in
  front [] after = refl
  front (o ∷ os) after =
      ap (λ (l : List Op). o ∷ l)
      (shift o.value o.octet (map number_of (os ++ after) ++ values) (map octet_of (os ++ after) ++ octets) 0 (length os) ∙ front os after)

  pub ops_there : (before os after : List Op)
      → ops_in (map number_of (before ++ (os ++ after)) ++ values) (map octet_of (before ++ (os ++ after)) ++ octets) (length before) (length os) ≡ os
  ops_there [] os after = front os after
  ops_there (b ∷ before) os after =
      shift b.value b.octet (map number_of (before ++ (os ++ after)) ++ values) (map octet_of (before ++ (os ++ after)) ++ octets) (length before) (length os)
      ∙ ops_there before os after

-- ---- the octets that write them

pub octets_none : (k : Kind) → list_octets k [] ≡ []
unfolding list_octets
octets_none k = refl

pub octets_first : (k : Kind) (o : Op) (os : List Op) → list_octets k (o ∷ os) ≡ op_octets k o ++ list_octets k os
unfolding list_octets
octets_first k o os = refl

pub octets_more : (k : Kind) (o : Op) (os : List Op) → length (list_octets k (o ∷ os)) ≡ 1 + width_of o.octet + length (list_octets k os)
octets_more k o os =
    let e : length (list_octets k (o ∷ os)) ≡ length (op_octets k o) + length (list_octets k os) = ap length (octets_first k o os) ∙ length-append (op_octets k o) (list_octets k os) in
    omega (arith, length_spelled (width_of o.octet) o.value)

-- an operator is written in two octets or more
pub octets_least : (k : Kind) (os : List Op) → 2 * length os ≤ length (list_octets k os)
octets_least k [] = omega arith
octets_least k (o ∷ os) = omega (arith, octets_more k o os, width_least o.octet, octets_least k os)
