-- Values and end marks from a place up to the list's end: the first operator and the others, the last one alone, and what a list that is right says of each.
use Prim.Native.Nat.{ℕ, zero, suc, ◌+◌, ◌-◌, ◌/◌, ◌%◌, ◌≤◌, ◌<◌}
use mathlib.Core.Path.{◌≡◌, refl, sym, ◌∙◌, ap}
use mathlib.Core.List.{List, ◌∷◌}
use mathlib.Core.Bool.{Bool, true, false, not, ◌&&◌, and-false}
use mathlib.Core.Logic.{⊎_elim}
use native.Mathlib.Omega.{arith}
use borrow.Author.Tests.{eq-eqb, ne_eqb, lt-ltb}
use lib.Dec.{leb, ltb}
use lib.ListN.{get_or}
use Rattle.std.specs.declared.option.Option.TheVariants.{Some, None}
use Rattle.ground.proofs.Cases.{lt_or_le, both}
use Rattle.ground.specs.Picks.{pick}
use Rattle.octets.specs.Widths.{code_in}
use Rattle.choices.specs.Choices.{codes_by}
use Rattle.operators.specs.Ops.{op, ops_in}
use Rattle.listwriting.specs.Lists.{size_in, fits_in, ends, takes, narrow, taken_size}
use Rattle.listwriting.specs.Runs.{narrow_in, rest}
use Rattle.listwriting.proofs.Sizes.{ops_more, ops_none}

-- the width codes, by the octets alone; none is 4 or more
pub narrow_is : (codes : ℕ) (vs os : List ℕ) (at n : ℕ) → narrow codes (ops_in vs os at n) ≡ narrow_in codes os at n
unfolding narrow narrow_in ops_in
narrow_is codes vs os at zero = refl
narrow_is codes vs os at (suc n) = ap (λ b. ltb (code_in (get_or os at 0)) codes && b) (narrow_is codes vs os (at + 1) n)

pub narrow_all : (codes : ℕ) (os : List ℕ) (at n : ℕ) → 4 ≤ codes → narrow_in codes os at n ≡ true
unfolding narrow_in
narrow_all codes os at zero h = refl
narrow_all codes os at (suc n) h = rw (lt-ltb (code_in (get_or os at 0)) codes (omega arith)) (narrow_all codes os (at + 1) n h)

pub narrow_none : (codes : ℕ) (os : List ℕ) (at to : ℕ) → to ≤ at → narrow_in codes os at (to - at) ≡ true
unfolding narrow_in
narrow_none codes os at to h = let z : to - at ≡ 0 = omega arith in rw z

-- one more, after what was so far
pub narrow_on : (codes : ℕ) (os : List ℕ) (at to : ℕ) → at < to → (b : Bool)
    → ((b && ltb (code_in (get_or os at 0)) codes) && narrow_in codes os (at + 1) (to - (at + 1))) ≡ (b && narrow_in codes os at (to - at))
unfolding narrow_in
narrow_on codes os at to h true = let z : to - at ≡ suc (to - (at + 1)) = omega arith in rw z
narrow_on codes os at to h false = refl

module _ (vs os : List ℕ) where
  -- the value at a place fits its width
  abbrev pub fits_at : ℕ → Bool
  fits_at q = fits_in (get_or os q 0) (get_or vs q 0)

  module _ (q to : ℕ) where
    pub rest_last : q + 1 ≡ to → rest vs os q to ≡ (fits_at q && leb 128 (get_or os q 0))
    unfolding ends
    rest_last e = ap ends (ops_more vs os q to (omega arith) ∙ ap (λ l. op (get_or os q 0) (get_or vs q 0) ∷ l) (ops_none vs os (q + 1) to (omega arith)))

    module _ (h : q + 1 < to) where
      pub rest_more : rest vs os q to ≡ (fits_at q && (not (leb 128 (get_or os q 0)) && rest vs os (q + 1) to))
      unfolding ends
      rest_more =
          let o = op (get_or os q 0) (get_or vs q 0) in
          let p = ops_more vs os (q + 1) to h in
          ap ends (ops_more vs os q to (omega arith) ∙ ap (λ l. o ∷ l) p)
          ∙ sym (ap (λ l. fits_at q && (not (leb 128 (get_or os q 0)) && ends l)) p)

  -- a list that is right: the first value fits, and what follows it is right
  right_first : (q to : ℕ) → q < to → rest vs os q to ≡ true → fits_at q ≡ true
  right_first q to h e =
      ⊎_elim
      (λ k. (both (fits_at q) (not (leb 128 (get_or os q 0)) && rest vs os (q + 1) to) (sym (rest_more q to k) ∙ e)).0)
      (λ k. (both (fits_at q) (leb 128 (get_or os q 0)) (sym (rest_last q to (omega arith)) ∙ e)).0)
      (lt_or_le (q + 1) to)

  right_next : (q to : ℕ) → q + 1 < to → rest vs os q to ≡ true → rest vs os (q + 1) to ≡ true
  right_next q to h e =
      let m = (both (fits_at q) (not (leb 128 (get_or os q 0)) && rest vs os (q + 1) to) (sym (rest_more q to h) ∙ e)).1 in
      (both (not (leb 128 (get_or os q 0))) (rest vs os (q + 1) to) m).1

  right_at : (n q to : ℕ) → q + n < to → rest vs os q to ≡ true → fits_at (q + n) ≡ true
  right_at zero q to h e = let z : q ≡ q + 0 = omega arith in ap fits_at (sym z) ∙ right_first q to (omega arith) e
  right_at (suc n) q to h e =
      let z : q + 1 + n ≡ q + suc n = omega arith in
      ap fits_at (sym z) ∙ right_at n (q + 1) to (omega arith) (right_next q to (omega arith) e)

  pub right_each : (q to : ℕ) → rest vs os q to ≡ true → (i : ℕ) → q ≤ i → i < to → fits_at i ≡ true
  right_each q to e i f t = let z : q + (i - q) ≡ i = omega arith in rw z at (right_at (i - q) q to (omega arith) e)

  -- which lists are taken
  module _ (type from count : ℕ) (h : 0 < count) where
    whole : ops_in vs os from count ≡ op (get_or os from 0) (get_or vs from 0) ∷ ops_in vs os (from + 1) (from + count - (from + 1))
    whole = let e : from + count - from ≡ count = omega arith in ap (ops_in vs os from) (sym e) ∙ ops_more vs os from (from + count) (omega arith)

    pub and_first : get_or os from 0 % 128 / 64 ≡ 1 → None ≡ taken_size type vs os from count
    unfolding takes
    and_first e = rw (whole, eq-eqb _ _ e)

    pub size_wide : narrow_in (codes_by type) os from count ≡ false → None ≡ taken_size type vs os from count
    size_wide e = ap (λ b. pick b (Some (size_in os from count)) None) (sym (ap (λ b. takes (ops_in vs os from count) && b) (narrow_is (codes_by type) vs os from count ∙ e) ∙ and-false (takes (ops_in vs os from count))))

    first_turn : (get_or os from 0 % 128 / 64 ≡ 1 → ⊥) → takes (ops_in vs os from count) ≡ rest vs os from (from + count)
    unfolding takes
    first_turn e = let f : from + count - from ≡ count = omega arith in rw (f, whole, ne_eqb _ _ e)

    module _ (e : get_or os from 0 % 128 / 64 ≡ 1 → ⊥) where
      pub size_right : narrow_in (codes_by type) os from count ≡ true → (n : ℕ) → rest vs os from (from + count) ≡ true → n ≡ size_in os from (from + count - from) → Some n ≡ taken_size type vs os from count
      size_right w n r k = let f : from + count - from ≡ count = omega arith in rw (first_turn e, r, narrow_is (codes_by type) vs os from count, w, k, f)

      pub size_wrong : rest vs os from (from + count) ≡ false → None ≡ taken_size type vs os from count
      size_wrong r = rw (first_turn e, r)
