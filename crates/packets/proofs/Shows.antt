-- The words of a packet in range hold what it shows to each type, where `place_of` says: row by row of the two tables.
use Prim.Native.Nat.{ℕ, zero, suc, ◌+◌, ◌-◌, ◌≤◌, ◌<◌}
use mathlib.Core.Path.{◌≡◌, refl, sym, ap, ◌∙◌}
use mathlib.Core.Bool.{Bool, true, false}
use mathlib.Core.List.{List, [], ◌∷◌}
use native.Mathlib.Omega.{arith}
use lib.Dec.{eqb}
use lib.ListN.{length, get_or, take, drop}
use borrow.Author.Tests.{eq-eqb, ne_eqb}
use Rattle.std.proofs.lemmas.List.{drop_more}
use Rattle.ground.specs.Picks.{pick}
use Rattle.ground.proofs.Cases.{by_test}
use Rattle.packets.specs.declared.Place.{Place}
use Rattle.packets.specs.Packets.{absent, present, neither, both, packet_ok, packet_of, packet_at}
use Rattle.packets.specs.Shown.{known, former, latter, either, numbers_of, placed, place_of, shown_by, numbers_in}
use Rattle.packets.proofs.Lends.{are_twenty, lends, a_family}

-- ---- the places are among the words

abbrev Within : Place → Type 0
Within x = (x.flag < 20) × (x.from + x.count ≤ 20)

place_within : (type : ℕ) → Within (place_of type)
unfolding place_of
place_within type =
    by_test (eqb type 3) (λ e. rw e (omega arith, omega arith)) (λ e. rw e
    (by_test (eqb type 4) (λ e. rw e (omega arith, omega arith)) (λ e. rw e
    (by_test (eqb type 5) (λ e. rw e (omega arith, omega arith)) (λ e. rw e
    (by_test (eqb type 6) (λ e. rw e (omega arith, omega arith)) (λ e. rw e
    (by_test (eqb type 7) (λ e. rw e (omega arith, omega arith)) (λ e. rw e
    (by_test (eqb type 8) (λ e. rw e (omega arith, omega arith)) (λ e. rw e
    (by_test (eqb type 9) (λ e. rw e (omega arith, omega arith)) (λ e. rw e
    (by_test (eqb type 10) (λ e. rw e (omega arith, omega arith)) (λ e. rw e
    (by_test (eqb type 11) (λ e. rw e (omega arith, omega arith)) (λ e. rw e
    (by_test (eqb type 12) (λ e. rw e (omega arith, omega arith)) (λ e. rw e
    (by_test (eqb type 13) (λ e. rw e (omega arith, omega arith)) (λ e. rw e
    (omega arith, omega arith))))))))))))))))))))))

pub within : (type : ℕ) (x : Place) → x ≡ place_of type → Within x
within type x e = rw e (place_within type)

-- ---- numbers

by_count : (ws : List ℕ) (from count : ℕ) → from + count ≤ length ws → take count (drop from ws) ≡ numbers_in ws from count
unfolding numbers_in
by_count ws from zero h = refl
by_count ws from (suc k) h = rw (drop_more ws from 0 (omega (arith, h))) (ap (λ (l : List ℕ). get_or ws from 0 ∷ l) (by_count ws (from + 1) k (omega (arith, h))))

-- so many words as a part of them
pub part_shows : (ws : List ℕ) (from count : ℕ) → from + count ≤ length ws → take (from + count - from) (drop from ws) ≡ numbers_in ws from count
part_shows ws from count h = let e : from + count - from ≡ count = omega arith in rw e (by_count ws from count h)

module _ (ws : List ℕ) where
  -- what may be absent, by its flag
  flagged : {A : Type 0} (f : A → List ℕ) (none : Bool) (x y : A) (from count : ℕ) → f x ≡ [] → f y ≡ numbers_in ws from count
      → f (pick none x y) ≡ pick none [] (numbers_in ws from count)
  flagged f true x y from count e g = e
  flagged f false x y from count e g = g

  no_numbers : (b : Bool) → [] ≡ pick b [] (numbers_in ws 0 0)
  unfolding numbers_in
  no_numbers true = refl
  no_numbers false = refl

  module _ (ok : packet_ok (packet_at ws) ≡ true) where
    always : (at : ℕ) → get_or ws at 0 ∷ [] ≡ shown_by ws (placed 0 at 1)
    unfolding numbers_in
    always at = rw (ne_eqb (get_or ws 0 0) 0 (a_family ws ok))

    flag : ℕ → Bool
    flag at = eqb (get_or ws at 0) 0

    by_rows : (type : ℕ) → numbers_of (packet_of ws) type ≡ shown_by ws (place_of type)
    unfolding numbers_of place_of numbers_in flag
    by_rows type =
        by_test (eqb type 3) (λ e. rw e (always 5)) (λ e. rw e
        (by_test (eqb type 4) (λ e. rw e (flagged either (flag 9) neither (both _ _) 10 2 refl refl)) (λ e. rw e
        (by_test (eqb type 5) (λ e. rw e (flagged latter (flag 9) neither (both _ _) 11 1 refl refl)) (λ e. rw e
        (by_test (eqb type 6) (λ e. rw e (flagged former (flag 9) neither (both _ _) 10 1 refl refl)) (λ e. rw e
        (by_test (eqb type 7) (λ e. rw e (flagged former (flag 12) neither (both _ _) 13 1 refl refl)) (λ e. rw e
        (by_test (eqb type 8) (λ e. rw e (flagged latter (flag 12) neither (both _ _) 14 1 refl refl)) (λ e. rw e
        (by_test (eqb type 9) (λ e. rw e (flagged known (flag 15) absent (present _) 16 1 refl refl)) (λ e. rw e
        (by_test (eqb type 10) (λ e. rw e (always 6)) (λ e. rw e
        (by_test (eqb type 11) (λ e. rw e (always 7)) (λ e. rw e
        (by_test (eqb type 12) (λ e. rw e (always 8)) (λ e. rw e
        (by_test (eqb type 13) (λ e. rw e (flagged known (flag 17) absent (present _) 18 1 refl refl)) (λ e. rw e
        (no_numbers (flag 0)))))))))))))))))))))))

    -- by the test that the code makes of the place
    module _ (type : ℕ) (x : Place) (e : x ≡ place_of type) where
      all_shown : shown_by ws x ≡ numbers_of (packet_at ws) type
      all_shown = rw (lends ws ok, e) (sym (by_rows type))

      pub shown_none : get_or ws x.flag 0 ≡ 0 → [] ≡ numbers_of (packet_at ws) type
      shown_none h = rw (eq-eqb (get_or ws x.flag 0) 0 h) at all_shown

      pub shown_some : (get_or ws x.flag 0 ≡ 0 → ⊥) → take (x.from + x.count - x.from) (drop x.from ws) ≡ numbers_of (packet_at ws) type
      shown_some h =
          part_shows ws x.from x.count (omega (arith, are_twenty ws ok, (within type x e).1))
          ∙ (rw (ne_eqb (get_or ws x.flag 0) 0 h) at all_shown)
