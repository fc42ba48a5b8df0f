-- What callers may use of `takes` and `ends`: each way that the tests of a list go, and what a list that is taken shows.
use Prim.Native.Nat.{ℕ, ◌/◌, ◌%◌}
use mathlib.Core.Path.{◌≡◌, refl}
use mathlib.Core.Bool.{true, false, not, ◌&&◌, false≢true}
use mathlib.Core.List.{List, [], ◌∷◌}
use borrow.Author.Tests.{ne_eqb, eqb-false, not-true}
use lib.Dec.{eqb, leb, ltb}
use Rattle.ground.proofs.Cases.{both}
use Rattle.octets.specs.Widths.{code_in}
use Rattle.operators.specs.Ops.{Op}
use Rattle.listwriting.specs.Lists.{fits_in, ends, takes, narrow}

pub ends_none : ends [] ≡ false
unfolding ends
ends_none = refl

pub ends_last : (o : Op) → ends (o ∷ []) ≡ (fits_in o.octet o.value && leb 128 o.octet)
unfolding ends
ends_last o = refl

pub ends_more : (o p : Op) (os : List Op) → ends (o ∷ p ∷ os) ≡ (fits_in o.octet o.value && (not (leb 128 o.octet) && ends (p ∷ os)))
unfolding ends
ends_more o p os = refl

pub takes_none : takes [] ≡ false
unfolding takes
takes_none = refl

-- a list whose first operator has no AND
pub takes_by : (o : Op) (os : List Op) → (o.octet % 128 / 64 ≡ 1 → ⊥) → takes (o ∷ os) ≡ ends (o ∷ os)
unfolding takes
takes_by o os h = rw (ne_eqb (o.octet % 128 / 64) 1 h)

pub taken_first : (o : Op) (os : List Op) → takes (o ∷ os) ≡ true → o.octet % 128 / 64 ≡ 1 → ⊥
unfolding takes
taken_first o os e = eqb-false (o.octet % 128 / 64) 1 (not-true (eqb (o.octet % 128 / 64) 1) (both (not (eqb (o.octet % 128 / 64) 1)) (ends (o ∷ os)) e).0)

pub taken_ends : (os : List Op) → takes os ≡ true → ends os ≡ true
unfolding takes
taken_ends [] e = absurd (false≢true e)
taken_ends (o ∷ os) e = (both (not (eqb (o.octet % 128 / 64) 1)) (ends (o ∷ os)) e).1

-- width codes below a bound: of none, and of a first one and others
pub narrow_none : (codes : ℕ) → narrow codes [] ≡ true
unfolding narrow
narrow_none codes = refl

pub narrow_first : (codes : ℕ) (o : Op) (os : List Op) → narrow codes (o ∷ os) ≡ (ltb (code_in o.octet) codes && narrow codes os)
unfolding narrow
narrow_first codes o os = refl
