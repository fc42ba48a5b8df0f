-- What is recorded of a list: in the plain reading the operators as they stand, since an accepted octet has no reserved bit to clear; in
-- every reading as many operators with the same numbers.
use Prim.Native.Nat.{ℕ, suc, ◌/◌, ◌%◌}
use mathlib.Core.Path.{◌≡◌, refl, sym, ◌∙◌, ap, ap₂}
use mathlib.Core.Bool.{Bool, true, false, not}
use mathlib.Core.List.{List, [], ◌∷◌, map}
use native.Mathlib.Omega.{arith}
use borrow.Author.Tests.{eqb-true, eqb-false}
use lib.ListN.{length, get_or}
use lib.Dec.{eqb}
use Rattle.ground.specs.Answers.{accepts}
use Rattle.choices.specs.declared.Reading.{Reading}
use Rattle.choices.specs.declared.Reading.TheVariants.{Plain}
use Rattle.operators.specs.declared.Kind.{Kind}
use Rattle.operators.specs.declared.Kind.TheVariants.{Numeric, Bitmask}
use Rattle.choices.specs.Choices.{refused_in, first_in}
use Rattle.operators.specs.Ops.{kind_of, cleared_in, Op, op, number_of}
use Rattle.lists.specs.declared.Tally.{Tally}
use Rattle.lists.specs.Lists.{op_at, operator_at, list_at, ops_at, cleared_op, first_op, recorded_ops}
use Rattle.lists.proofs.Operators.{taken}
use Rattle.lists.proofs.Chains.{Chain, last, more, list_chain, list_counts}

pub length_cleared : (k : Kind) (os : List Op) → length (map (cleared_op k) os) ≡ length os
length_cleared k [] = refl
length_cleared k (o ∷ os) = ap suc (length_cleared k os)

pub numbers_cleared : (k : Kind) (os : List Op) → map number_of (map (cleared_op k) os) ≡ map number_of os
numbers_cleared k [] = refl
numbers_cleared k (o ∷ os) = ap (λ (ns : List ℕ). o.value ∷ ns) (numbers_cleared k os)

-- of no operators none; of a first operator the octet cleared, AND with it by the reading; of the others the octet cleared
pub recorded_none : (r : Reading) (t : ℕ) → recorded_ops r t [] ≡ []
unfolding recorded_ops
recorded_none r t = refl

pub recorded_first : (r : Reading) (t : ℕ) (o : Op) (os : List Op) → recorded_ops r t (o ∷ os) ≡ first_op r (cleared_op (kind_of t) o) ∷ map (cleared_op (kind_of t)) os
unfolding recorded_ops
recorded_first r t o os = refl

pub recorded_one : (r : Reading) (t : ℕ) (o : Op) → recorded_ops r t (o ∷ []) ≡ first_op r (cleared_op (kind_of t) o) ∷ []
recorded_one r t o = recorded_first r t o []

-- as many operators as stand there, with their numbers
pub recorded_length : (r : Reading) (t : ℕ) (os : List Op) → length (recorded_ops r t os) ≡ length os
unfolding recorded_ops
recorded_length r t [] = refl
recorded_length r t (o ∷ os) = ap suc (length_cleared (kind_of t) os)

pub recorded_numbers : (r : Reading) (t : ℕ) (os : List Op) → map number_of (recorded_ops r t os) ≡ map number_of os
unfolding recorded_ops
recorded_numbers r t [] = refl
recorded_numbers r t (o ∷ os) = ap (λ (ns : List ℕ). o.value ∷ ns) (numbers_cleared (kind_of t) os)

-- as many as were counted
pub recorded_counts : (r : Reading) (t : ℕ) (s : List ℕ) (at : ℕ) {l : Tally} → list_at r t s at ≡ accepts l → length (recorded_ops r t (ops_at s at)) ≡ l.count
recorded_counts r t s at e = recorded_length r t (ops_at s at) ∙ list_counts r t s at e

-- an octet that the plain reading takes has no reserved bit
plain_cleared : (k : Kind) (x : ℕ) → refused_in Plain k x ≡ false → cleared_in k x ≡ x
unfolding refused_in
plain_cleared Numeric x e = let h = eqb-false (x / 8 % 2) 1 e in omega (arith, h)
plain_cleared Bitmask x e = let h = eqb-true (x / 4 % 4) 0 (not_false (eqb (x / 4 % 4) 0) e) in omega arith
  where
    not_false : (b : Bool) → not b ≡ false → b ≡ true
    not_false true e = refl
    not_false false e = sym e

-- nor is anything of a first one cleared
pub plain_kept : (r : Reading) (t x : ℕ) → r ≡ Plain → refused_in r (kind_of t) x ≡ false → x ≡ first_in r (cleared_in (kind_of t) x)
plain_kept r t x e h = rw e (sym (plain_cleared (kind_of t) x (rw e at h)))

-- an operator that it takes is recorded as it stands
plain_op : (t : ℕ) (s : List ℕ) (at : ℕ) {o : Op} → operator_at Plain t s at ≡ accepts o → cleared_op (kind_of t) o ≡ o
plain_op t s at {o} e =
    let w = taken Plain t s at e in
    rw w.is (ap (λ (x : ℕ). op x (op_at s at).value) (plain_cleared (kind_of t) (get_or s at 0) w.kept))

plain_chain : {t : ℕ} {s : List ℕ} {at to : ℕ} {os : List Op} → Chain Plain t s at os to → map (cleared_op (kind_of t)) os ≡ os
plain_chain {t} {s} (last e h) = ap (λ (o : Op). o ∷ []) (plain_op t s _ e)
plain_chain {t} {s} (more e h c) = ap₂ (λ (o : Op) (os : List Op). o ∷ os) (plain_op t s _ e) (plain_chain c)

first_kept : (t : ℕ) (os : List Op) → recorded_ops Plain t os ≡ map (cleared_op (kind_of t)) os
unfolding recorded_ops
first_kept t [] = refl
first_kept t (o ∷ os) = refl

-- a list that the plain reading accepts is recorded as it stands
pub plain_recorded : (t : ℕ) (s : List ℕ) (at : ℕ) {l : Tally} → list_at Plain t s at ≡ accepts l → recorded_ops Plain t (ops_at s at) ≡ ops_at s at
plain_recorded t s at e = first_kept t (ops_at s at) ∙ plain_chain (list_chain Plain t s at e)
