-- A table of the eight meanings is right: a test over the whole table for each way in which a number may stand to the operator's value, and the
-- law that makes of the test what an operator promises. The table that the RFC prints, and the code's, are shown right by it.
use Prim.Native.Nat.{ℕ, ◌/◌, ◌%◌, ◌<◌}
use mathlib.Core.Path.{◌≡◌, refl, ◌∙◌}
use mathlib.Core.List.{List}
use mathlib.Core.Bool.{Bool, true, false, ◌&&◌, ◌||◌, beq}
use mathlib.Core.Logic.{⊎_elim}
use native.Mathlib.Omega.{arith}
use lib.Dec.{T, ltb, eqb}
use lib.ListN.{get_or, length}
use borrow.Author.Tests.{lt-ltb, le-ltb, le-leb, lt-leb, eq-eqb, ne_eqb}
use Rattle.ground.proofs.Tables.{every, at}
use Rattle.ground.proofs.Cases.{lt_or_le}
use Rattle.satisfying.specs.Lists.{bit0x04, bit0x02, bit0x01, compared}
use Rattle.satisfying.specs.Meanings.{Meaning, never, meanings, meant}

-- the promise, of an operator's bits and the three comparisons
abbrev promised : ℕ → Bool → Bool → Bool → Bool
promised octet less greater equal = bit0x04 octet && less || bit0x02 octet && greater || bit0x01 octet && equal

by_low_bits : (octet : ℕ) (less greater equal : Bool) → promised (octet % 8) less greater equal ≡ promised octet less greater equal
by_low_bits octet less greater equal =
    let a : octet % 8 / 4 % 2 ≡ octet / 4 % 2 = omega arith in
    let b : octet % 8 / 2 % 2 ≡ octet / 2 % 2 = omega arith in
    let c : octet % 8 % 2 ≡ octet % 2 = omega arith in
    rw (a, b, c)

beq_same : (a b : Bool) → T (beq a b) → a ≡ b
beq_same true true t = refl
beq_same true false t = absurd t
beq_same false true t = absurd t
beq_same false false t = refl

module _ {A : Type 0} (none : A) (answer : A → Bool) (table : List A) (eight : length table ≡ 8) where
  -- each entry answers what is promised of its place
  abbrev pub right : Bool → Bool → Bool → Bool
  right less greater equal = every (λ row entry. beq (answer entry) (promised row less greater equal)) 0 table

  module _ (octet value datum : ℕ) where
    in_way : (less greater equal : Bool) → ltb datum value ≡ less → ltb value datum ≡ greater → eqb datum value ≡ equal
        → T (right less greater equal) → answer (get_or table (octet % 8) none) ≡ compared octet value datum
    unfolding compared
    in_way less greater equal l g e t =
        rw (l, g, e)
        (beq_same (answer (get_or table (octet % 8) none)) (promised (octet % 8) less greater equal)
        (at none (λ row entry. beq (answer entry) (promised row less greater equal)) table t (octet % 8) (omega (arith, eight)))
        ∙ by_low_bits octet less greater equal)

    pub if_less : datum < value → T (right true false false) → answer (get_or table (octet % 8) none) ≡ compared octet value datum
    if_less l = in_way true false false (lt-ltb datum value l) (le-ltb value datum (omega arith)) (ne_eqb datum value (λ e. omega (arith, e, l)))

    pub if_equal : datum ≡ value → T (right false false true) → answer (get_or table (octet % 8) none) ≡ compared octet value datum
    if_equal e = in_way false false true (le-ltb datum value (omega (arith, e))) (le-ltb value datum (omega (arith, e))) (eq-eqb datum value e)

    pub if_greater : value < datum → T (right false true false) → answer (get_or table (octet % 8) none) ≡ compared octet value datum
    if_greater g = in_way false true false (le-ltb datum value (omega arith)) (lt-ltb value datum g) (ne_eqb datum value (λ e. omega (arith, e, g)))

-- ---- the table that the RFC prints

module _ (octet value datum : ℕ) where
  abbrev put : Meaning → Bool
  put meaning = meaning datum value

  where_less : datum < value → meant octet datum value ≡ compared octet value datum
  unfolding meanings
  where_less l =
      if_less never put meanings refl octet value datum l
      (rw (lt-ltb datum value l, le-ltb value datum (omega arith), le-leb datum value (omega arith), lt-leb value datum l)
      (rw (ne_eqb datum value (λ e. omega (arith, e, l))) tt))

  where_equal : datum ≡ value → meant octet datum value ≡ compared octet value datum
  unfolding meanings
  where_equal e =
      if_equal never put meanings refl octet value datum e
      (rw (le-ltb datum value (omega (arith, e)), le-ltb value datum (omega (arith, e)))
      (rw (le-leb datum value (omega (arith, e)), le-leb value datum (omega (arith, e)), eq-eqb datum value e) tt))

  where_greater : value < datum → meant octet datum value ≡ compared octet value datum
  unfolding meanings
  where_greater g =
      if_greater never put meanings refl octet value datum g
      (rw (le-ltb datum value (omega arith), lt-ltb value datum g, lt-leb datum value g, le-leb value datum (omega arith))
      (rw (ne_eqb datum value (λ e. omega (arith, e, g))) tt))

-- it says what document 01's sentence does, of every operator, value and number
pub as_printed : (octet value datum : ℕ) → meant octet datum value ≡ compared octet value datum
as_printed octet value datum =
    ⊎_elim (where_less octet value datum)
    (λ m. ⊎_elim (where_greater octet value datum) (λ n. where_equal octet value datum (omega (arith, m, n))) (lt_or_le value datum))
    (lt_or_le datum value)
