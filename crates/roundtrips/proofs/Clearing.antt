-- What clearing reserved bits, and AND on a first operator, keeps of an operator: its width and its end mark; so whether a list ends well and
-- how many octets write it stay.
use Prim.Native.Nat.{ℕ, ◌*◌, ◌/◌, ◌%◌, ◌^◌}
use mathlib.Core.Path.{◌≡◌, refl, sym, ◌∙◌, ap, ap₂}
use mathlib.Core.Bool.{Bool, false, not, ◌&&◌}
use mathlib.Core.List.{List, [], ◌∷◌, map}
use native.Mathlib.Omega.{arith}
use native.Mathlib.Decide.{dec_lt}
use borrow.Author.Tests.{le-leb, lt-leb, leb-true, leb-false}
use lib.Dec.{leb, ltb}
use lib.ListN.{length, get_or}
use Rattle.ground.proofs.Cases.{by_cases, by_test}
use Rattle.octets.specs.Widths.{widths, code_in, width_of}
use Rattle.choices.specs.declared.Reading.{Reading}
use Rattle.choices.specs.declared.Reading.TheVariants.{Plain, Ipv4, Ipv6}
use Rattle.operators.specs.declared.Kind.{Kind}
use Rattle.operators.specs.declared.Kind.TheVariants.{Numeric, Bitmask}
use Rattle.choices.specs.Choices.{refused_in, first_in}
use Rattle.choices.proofs.Limits.{is_taken}
use Rattle.operators.specs.Ops.{kind_of, cleared_in, Op, op, list_octets}
use Rattle.lists.specs.Lists.{cleared_op, first_op, recorded_ops}
use Rattle.lists.proofs.Laws.{recorded_none, recorded_first}
use Rattle.listwriting.specs.Lists.{fits_in, ends, narrow}
use Rattle.listwriting.proofs.Laws.{ends_last, ends_more, narrow_first}
use Rattle.roundtrips.proofs.Operators.{octets_more}

-- ---- octets

-- an octet with the upper four bits of another has its width and its end mark
same_width : (x y : ℕ) → code_in x ≡ code_in y → width_of x ≡ width_of y
same_width x y e = ap (λ (c : ℕ). get_or widths c 0) e

same_mark : (x y : ℕ) → x / 128 ≡ y / 128 → leb 128 x ≡ leb 128 y
same_mark x y e =
    by_test (leb 128 y)
    (λ t. le-leb 128 x (omega (arith, leb-true 128 y t)) ∙ sym t)
    (λ t. lt-leb 128 x (omega (arith, leb-false 128 y t)) ∙ sym t)

pub cleared_code : (k : Kind) (x : ℕ) → code_in (cleared_in k x) ≡ code_in x
cleared_code Numeric x = omega arith
cleared_code Bitmask x = omega arith

pub cleared_high : (k : Kind) (x : ℕ) → cleared_in k x / 128 ≡ x / 128
cleared_high Numeric x = omega arith
cleared_high Bitmask x = omega arith

first_code : (r : Reading) (x : ℕ) → code_in (first_in r x) ≡ code_in x
first_code Plain x = refl
first_code Ipv4 x = omega arith
first_code Ipv6 x = omega arith

first_high : (r : Reading) (x : ℕ) → first_in r x / 128 ≡ x / 128
first_high Plain x = refl
first_high Ipv4 x = omega arith
first_high Ipv6 x = omega arith

pub cleared_width : (k : Kind) (x : ℕ) → width_of (cleared_in k x) ≡ width_of x
cleared_width k x = same_width (cleared_in k x) x (cleared_code k x)

pub cleared_mark : (k : Kind) (x : ℕ) → leb 128 (cleared_in k x) ≡ leb 128 x
cleared_mark k x = same_mark (cleared_in k x) x (cleared_high k x)

first_width : (r : Reading) (x : ℕ) → width_of (first_in r x) ≡ width_of x
first_width r x = same_width (first_in r x) x (first_code r x)

first_mark : (r : Reading) (x : ℕ) → leb 128 (first_in r x) ≡ leb 128 x
first_mark r x = same_mark (first_in r x) x (first_high r x)

-- no reading refuses a cleared octet
pub cleared_taken : (r : Reading) (k : Kind) (x : ℕ) → refused_in r k (cleared_in k x) ≡ false
cleared_taken Plain Numeric x = is_taken Plain Numeric (cleared_in Numeric x) (omega arith)
cleared_taken Plain Bitmask x = is_taken Plain Bitmask (cleared_in Bitmask x) (omega arith)
cleared_taken Ipv4 k x = is_taken Ipv4 k (cleared_in k x) (omega arith)
cleared_taken Ipv6 k x = is_taken Ipv6 k (cleared_in k x) (omega arith)

pub cleared_twice : (k : Kind) (x : ℕ) → cleared_in k (cleared_in k x) ≡ cleared_in k x
cleared_twice Numeric x = omega arith
cleared_twice Bitmask x = omega arith

first_clear : (r : Reading) (k : Kind) (x : ℕ) → cleared_in k (first_in r (cleared_in k x)) ≡ first_in r (cleared_in k x)
first_clear Plain k x = cleared_twice k x
first_clear Ipv4 Numeric x = omega arith
first_clear Ipv4 Bitmask x = omega arith
first_clear Ipv6 Numeric x = omega arith
first_clear Ipv6 Bitmask x = omega arith

-- an octet without AND stays a first one
and_bit : (x : ℕ) → x % 128 / 64 ≡ x / 64 % 2
and_bit x = omega arith

cleared_upper : (k : Kind) (x : ℕ) → cleared_in k x / 64 ≡ x / 64
cleared_upper Numeric x = omega arith
cleared_upper Bitmask x = omega arith

cleared_and : (k : Kind) (x : ℕ) → cleared_in k x % 128 / 64 ≡ x % 128 / 64
cleared_and k x = and_bit (cleared_in k x) ∙ ap (λ (h : ℕ). h % 2) (cleared_upper k x) ∙ sym (and_bit x)

without_and : (r : Reading) (x : ℕ) → x % 128 / 64 ≡ 0 → first_in r x ≡ x
without_and Plain x e = refl
without_and Ipv4 x e = omega arith
without_and Ipv6 x e = omega arith

pub first_same : (r : Reading) (k : Kind) (x : ℕ) → (x % 128 / 64 ≡ 1 → ⊥) → first_in r (cleared_in k (cleared_in k x)) ≡ cleared_in k x
first_same r k x h =
    let e : x % 128 / 64 ≡ 0 = by_cases (dec_lt (x % 128) 64) (λ l. omega (arith, l)) (λ l. absurd (h (omega (arith, l)))) in
    ap (first_in r) (cleared_twice k x) ∙ without_and r (cleared_in k x) (cleared_and k x ∙ e)

-- ---- lists

-- an operator with the width, the end mark and the value of another
record Alike (o p : Op) : Type 0 where
  pub fits : fits_in o.octet o.value ≡ fits_in p.octet p.value
  pub mark : leb 128 o.octet ≡ leb 128 p.octet

cleared_alike : (k : Kind) (o : Op) → Alike (cleared_op k o) o
cleared_alike k o = record { fits = ap (λ (w : ℕ). ltb o.value (2 ^ (8 * w))) (cleared_width k o.octet); mark = cleared_mark k o.octet }

first_alike : (r : Reading) (o : Op) → Alike (first_op r o) o
first_alike r o = record { fits = ap (λ (w : ℕ). ltb o.value (2 ^ (8 * w))) (first_width r o.octet); mark = first_mark r o.octet }

last_alike : (o p : Op) → Alike o p → ends (o ∷ []) ≡ ends (p ∷ [])
last_alike o p h = ends_last o ∙ ap₂ (λ (a b : Bool). a && b) h.fits h.mark ∙ sym (ends_last p)

more_alike : (o p i j : Op) (os qs : List Op) → Alike o p → ends (i ∷ os) ≡ ends (j ∷ qs) → ends (o ∷ i ∷ os) ≡ ends (p ∷ j ∷ qs)
more_alike o p i j os qs h e =
    ends_more o i os ∙ ap₂ (λ (a b : Bool). a && b) h.fits (ap₂ (λ (a b : Bool). not a && b) h.mark e) ∙ sym (ends_more p j qs)

cleared_ends : (k : Kind) (os : List Op) → ends (map (cleared_op k) os) ≡ ends os
cleared_ends k [] = refl
cleared_ends k (o ∷ []) = last_alike (cleared_op k o) o (cleared_alike k o)
cleared_ends k (o ∷ p ∷ os) = more_alike (cleared_op k o) o (cleared_op k p) p (map (cleared_op k) os) os (cleared_alike k o) (cleared_ends k (p ∷ os))

first_ends : (r : Reading) (o : Op) (os : List Op) → ends (first_op r o ∷ os) ≡ ends (o ∷ os)
first_ends r o [] = last_alike (first_op r o) o (first_alike r o)
first_ends r o (p ∷ os) = more_alike (first_op r o) o p p os os (first_alike r o) refl

-- what is recorded ends as the list does
pub recorded_ends : (r : Reading) (k : Kind) (o : Op) (os : List Op) → ends (first_op r (cleared_op k o) ∷ map (cleared_op k) os) ≡ ends (o ∷ os)
recorded_ends r k o os = first_ends r (cleared_op k o) (map (cleared_op k) os) ∙ cleared_ends k (o ∷ os)

cleared_long : (k : Kind) (os : List Op) → length (list_octets k (map (cleared_op k) os)) ≡ length (list_octets k os)
cleared_long k [] = refl
cleared_long k (o ∷ os) =
    omega (arith, octets_more k (cleared_op k o) (map (cleared_op k) os), octets_more k o os, cleared_width k o.octet, cleared_long k os)

-- as many octets write what is recorded as the list
pub recorded_octets : (r : Reading) (t : ℕ) (os : List Op) → length (list_octets (kind_of t) (recorded_ops r t os)) ≡ length (list_octets (kind_of t) os)
recorded_octets r t [] = ap (λ (l : List Op). length (list_octets (kind_of t) l)) (recorded_none r t)
recorded_octets r t (o ∷ os) =
    let k = kind_of t in
    let a = octets_more k (first_op r (cleared_op k o)) (map (cleared_op k) os) in
    let b = octets_more k (cleared_op k o) (map (cleared_op k) os) in
    let c : length (list_octets k (first_op r (cleared_op k o) ∷ map (cleared_op k) os)) ≡ length (list_octets k (o ∷ os)) =
    omega (arith, a, b, first_width r (cleared_in k o.octet), cleared_long k (o ∷ os)) in
    ap (λ (l : List Op). length (list_octets k l)) (recorded_first r t o os) ∙ c

pub cleared_clear : (k : Kind) (os : List Op) → map (cleared_op k) (map (cleared_op k) os) ≡ map (cleared_op k) os
cleared_clear k [] = refl
cleared_clear k (o ∷ os) = ap₂ (λ (x : ℕ) (l : List Op). op x o.value ∷ l) (cleared_twice k o.octet) (cleared_clear k os)

-- no reserved bit is left in what is recorded
pub recorded_clear : (r : Reading) (t : ℕ) (os : List Op) → map (cleared_op (kind_of t)) (recorded_ops r t os) ≡ recorded_ops r t os
recorded_clear r t [] = ap (map (cleared_op (kind_of t))) (recorded_none r t) ∙ sym (recorded_none r t)
recorded_clear r t (o ∷ os) =
    let k = kind_of t in
    ap (map (cleared_op k)) (recorded_first r t o os)
    ∙ ap₂ (λ (x : ℕ) (l : List Op). op x o.value ∷ l) (first_clear r k o.octet) (cleared_clear k os)
    ∙ sym (recorded_first r t o os)

-- the widths of what is recorded are those that stand there
cleared_narrow : (c : ℕ) (k : Kind) (os : List Op) → narrow c (map (cleared_op k) os) ≡ narrow c os
cleared_narrow c k [] = refl
cleared_narrow c k (o ∷ os) =
    narrow_first c (cleared_op k o) (map (cleared_op k) os)
    ∙ ap₂ (λ (x : ℕ) (y : Bool). ltb x c && y) (cleared_code k o.octet) (cleared_narrow c k os)
    ∙ sym (narrow_first c o os)

pub recorded_narrow : (c : ℕ) (r : Reading) (t : ℕ) (os : List Op) → narrow c (recorded_ops r t os) ≡ narrow c os
recorded_narrow c r t [] = ap (narrow c) (recorded_none r t)
recorded_narrow c r t (o ∷ os) =
    let k = kind_of t in
    let p = first_op r (cleared_op k o) in
    ap (narrow c) (recorded_first r t o os)
    ∙ narrow_first c p (map (cleared_op k) os)
    ∙ ap₂ (λ (x : ℕ) (y : Bool). ltb x c && y) (first_code r (cleared_in k o.octet) ∙ cleared_code k o.octet) (cleared_narrow c k os)
    ∙ sym (narrow_first c o os)
