-- Words that are all 0: their bits joined are 0.
use Prim.Native.Nat.{ℕ, zero, suc, ◌+◌, ◌-◌, ◌*◌, ◌≤◌, ◌<◌}
use mathlib.Core.Path.{◌≡◌, sym, ap, ap₂, ◌∙◌}
use mathlib.Core.Bool.{Bool, ◌&&◌, and-true}
use mathlib.Core.List.{List}
use native.Mathlib.Numerals.{add-one}
use native.Mathlib.Omega.{arith}
use borrow.Author.Tests.{eq-eqb, ne_eqb, eqb-true, eqb-false}
use lib.Bits.{bit_or, bit_and, or_add_and, and_le_l, and_le_r, or_zero_l}
use lib.Dec.{eqb}
use lib.ListN.{length, get_or, take, drop}
use lib.Seq.{drop-cons}
use Rattle.ground.proofs.Cases.{by_test}
use Rattle.std.proofs.Math.Bool.{and_assoc}
use Rattle.std.specs.List.{fold}
use Rattle.stored.specs.Stored.{zeros_from}

pub none_of : (a b : ℕ) → bit_or a b ≡ 0 → (a ≡ 0) × (b ≡ 0)
none_of a b e =
    let s : bit_or a b + bit_and a b ≡ a + b = or_add_and a b in
    let l : bit_and a b ≤ a = and_le_l a b in
    let r : bit_and a b ≤ b = and_le_r a b in
    (omega arith, omega arith)

pub or_none : (a b : ℕ) → eqb (bit_or a b) 0 ≡ (eqb a 0 && eqb b 0)
or_none a b =
    by_test (eqb (bit_or a b) 0)
    (λ e. let n = none_of a b (eqb-true (bit_or a b) 0 e) in e ∙ sym (rw (eq-eqb a 0 n.0, eq-eqb b 0 n.1)))
    (λ e. by_test (eqb a 0)
    (λ f. e ∙ sym (ap (λ t. t && eqb b 0) f ∙ ne_eqb b 0 (λ g. eqb-false (bit_or a b) 0 e (ap (λ x. bit_or x b) (eqb-true a 0 f) ∙ or_zero_l b ∙ g))))
    (λ f. e ∙ sym (ap (λ t. t && eqb b 0) f)))

scanned : (k : ℕ) (ws : List ℕ) (at sum : ℕ) → at + k ≤ length ws → (eqb sum 0 && zeros_from k ws at) ≡ eqb (fold bit_or sum (take k (drop at ws))) 0
unfolding zeros_from
scanned zero ws at sum h = and-true (eqb sum 0)
scanned (suc k) ws at sum h =
    let x : ℕ = get_or ws at 0 in
    let i : at + 1 ≡ suc at = add-one at in
    sym (and_assoc (eqb sum 0) (eqb x 0) (zeros_from k ws (at + 1))) ∙ ap (λ (t : Bool). t && zeros_from k ws (at + 1)) (sym (or_none sum x))
    ∙ scanned k ws (at + 1) (bit_or sum x) (omega arith)
    ∙ ap (λ (j : ℕ). eqb (fold bit_or (bit_or sum x) (take k (drop j ws))) 0) i
    ∙ sym (ap (λ (l : List ℕ). eqb (fold bit_or sum (take (suc k) l)) 0) (drop-cons ws at 0 (omega arith)))

pub zeros_joined : (k : ℕ) (ws : List ℕ) (at : ℕ) → at + k ≤ length ws → zeros_from k ws at ≡ eqb (fold bit_or 0 (take k (drop at ws))) 0
zeros_joined k ws at h = scanned k ws at 0 h

-- of the components past a count, where their words begin
pub unused_joined : (ws : List ℕ) (base count at r : ℕ) → base + 4 * count ≡ at → count ≤ 13 → base + 64 ≤ length ws → r ≡ fold bit_or 0 (take (base + 52 - at) (drop at ws))
    → zeros_from (base + 52 - (base + 4 * count)) ws (base + 4 * count) ≡ eqb r 0
unused_joined ws base count at r e few h f = ap (λ (j : ℕ). zeros_from (base + 52 - j) ws j) e ∙ zeros_joined (base + 52 - at) ws at (omega arith) ∙ ap (λ (x : ℕ). eqb x 0) (sym f)

-- words one by one up to a place
module _ (ws : List ℕ) (sum at to : ℕ) where
  pub scan_more : at < to → (eqb sum 0 && zeros_from (to - at) ws at) ≡ (eqb (bit_or sum (get_or ws at 0)) 0 && zeros_from (to - (at + 1)) ws (at + 1))
  unfolding zeros_from
  scan_more h =
      let e : to - at ≡ suc (to - (at + 1)) = omega arith in
      ap (λ (k : ℕ). eqb sum 0 && zeros_from k ws at) e
      ∙ sym (ap (λ t. t && zeros_from (to - (at + 1)) ws (at + 1)) (or_none sum (get_or ws at 0)) ∙ and_assoc (eqb sum 0) (eqb (get_or ws at 0) 0) (zeros_from (to - (at + 1)) ws (at + 1)))

  pub scan_end : to ≤ at → (eqb sum 0 && zeros_from (to - at) ws at) ≡ eqb sum 0
  unfolding zeros_from
  scan_end h = let e : to - at ≡ 0 = omega arith in ap (λ (k : ℕ). eqb sum 0 && zeros_from k ws at) e ∙ and-true (eqb sum 0)

-- a group of four words
module _ (ws : List ℕ) (at to : ℕ) where
  step : (sum k next : ℕ) → at + k + 1 ≡ next → at + k < to → (eqb sum 0 && zeros_from (to - (at + k)) ws (at + k)) ≡ (eqb (bit_or sum (get_or ws (at + k) 0)) 0 && zeros_from (to - next) ws next)
  step sum k next e h = scan_more ws sum (at + k) to h ∙ ap (λ (j : ℕ). eqb (bit_or sum (get_or ws (at + k) 0)) 0 && zeros_from (to - j) ws j) e

  pub scan_four : (sum next : ℕ) → at + 4 ≡ next → next ≤ to
      → (eqb sum 0 && zeros_from (to - at) ws at)
      ≡ (eqb (bit_or (bit_or (bit_or (bit_or sum (get_or ws at 0)) (get_or ws (at + 1) 0)) (get_or ws (at + 2) 0)) (get_or ws (at + 3) 0)) 0 && zeros_from (to - next) ws next)
  scan_four sum next e h =
      scan_more ws sum at to (omega arith)
      ∙ step (bit_or sum (get_or ws at 0)) 1 (at + 2) (omega arith) (omega arith)
      ∙ step (bit_or (bit_or sum (get_or ws at 0)) (get_or ws (at + 1) 0)) 2 (at + 3) (omega arith) (omega arith)
      ∙ step (bit_or (bit_or (bit_or sum (get_or ws at 0)) (get_or ws (at + 1) 0)) (get_or ws (at + 2) 0)) 3 next (omega arith) (omega arith)

-- the last seven words of a rule: three, and a group
pub last_seven : (ws : List ℕ) (base r : ℕ) → zeros_from (base + 4 * 16 - (base + 4 * 15)) ws (base + 4 * 15) ≡ eqb r 0
    → zeros_from 7 ws (base + 57) ≡ eqb (bit_or (bit_or (bit_or (get_or ws (base + 57) 0) (get_or ws (base + 58) 0)) (get_or ws (base + 59) 0)) r) 0
unfolding zeros_from
last_seven ws base r e =
    let a = get_or ws (base + 57) 0 in
    let b = get_or ws (base + 58) 0 in
    let c = get_or ws (base + 59) 0 in
    let n : 4 ≡ base + 4 * 16 - (base + 4 * 15) = omega arith in
    let p : base + 57 + 1 ≡ base + 58 = omega arith in
    let q : base + 58 + 1 ≡ base + 59 = omega arith in
    let o : base + 59 + 1 ≡ base + 4 * 15 = omega arith in
    let g : zeros_from 4 ws (base + 59 + 1) ≡ eqb r 0 = ap₂ (λ (k j : ℕ). zeros_from k ws j) n o ∙ e in
    ap (λ (j : ℕ). eqb a 0 && zeros_from 6 ws j) p ∙ ap (λ (j : ℕ). eqb a 0 && (eqb b 0 && zeros_from 5 ws j)) q
    ∙ ap (λ (t : Bool). eqb a 0 && (eqb b 0 && (eqb c 0 && t))) g
    ∙ sym (or_none (bit_or (bit_or a b) c) r ∙ ap (λ (t : Bool). t && eqb r 0) (or_none (bit_or a b) c ∙ ap (λ (t : Bool). t && eqb c 0) (or_none a b))
    ∙ and_assoc (eqb a 0 && eqb b 0) (eqb c 0) (eqb r 0) ∙ and_assoc (eqb a 0) (eqb b 0) (eqb c 0 && eqb r 0))
