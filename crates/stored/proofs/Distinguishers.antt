-- The two words of a distinguisher: what they name, and that what was put is what they name.
use Prim.Native.Nat.{ℕ, ◌+◌}
use mathlib.Core.Path.{◌≡◌, refl, sym, ap, ◌∙◌}
use mathlib.Core.Bool.{true, and-true, not}
use mathlib.Core.List.{List}
use native.Mathlib.Omega.{arith}
use borrow.Author.Tests.{eq-eqb, ne_eqb, eqb-true}
use lib.Dec.{eqb}
use lib.ListN.{get_or}
use Rattle.std.specs.Bool.{then_some}
use Rattle.std.specs.Prelude.{None, Some, Option}
use Rattle.ground.proofs.Cases.{both, by_test}
use Rattle.stored.specs.Distinguishers.{presence_word, bits_word, distinguisher_at, is_distinguisher, same_distinguisher}

module _ (ws : List ℕ) (at : ℕ) where
  pub named_absent : get_or ws (at + 55) 0 ≡ 0 → None ≡ distinguisher_at ws at
  unfolding distinguisher_at
  named_absent h = rw (eq-eqb (get_or ws (at + 55) 0) 0 h)

  pub named_is : (get_or ws (at + 55) 0 ≡ 0 → ⊥) → Some (get_or ws (at + 56) 0) ≡ distinguisher_at ws at
  unfolding distinguisher_at
  named_is h = rw (ne_eqb (get_or ws (at + 55) 0) 0 h)

  pub named_by : then_some (not (eqb (get_or ws (at + 55) 0) 0)) (get_or ws (at + 56) 0) ≡ distinguisher_at ws at
  unfolding distinguisher_at
  named_by = by_test (eqb (get_or ws (at + 55) 0) 0) (λ t. rw t) (λ t. rw t)

  -- the ways that `is_distinguisher` goes
  pub test_absent : get_or ws (at + 55) 0 ≡ 0 → eqb (get_or ws (at + 56) 0) 0 ≡ is_distinguisher ws at
  unfolding is_distinguisher
  test_absent h = rw (← named_absent h, eq-eqb (get_or ws (at + 55) 0) 0 h)

  pub test_is : (get_or ws (at + 55) 0 ≡ 0 → ⊥) → eqb (get_or ws (at + 55) 0) 1 ≡ is_distinguisher ws at
  unfolding is_distinguisher
  test_is h = rw (← named_is h, eq-eqb (get_or ws (at + 56) 0) (get_or ws (at + 56) 0) refl) (sym (and-true (eqb (get_or ws (at + 55) 0) 1)))

  -- what was put is what they name
  pub put_named : (d : Option ℕ) → get_or ws (at + 55) 0 ≡ presence_word d → get_or ws (at + 56) 0 ≡ bits_word d → distinguisher_at ws at ≡ d
  put_named None h k = sym (named_absent h)
  put_named (Some n) h k = sym (named_is (λ e. omega arith)) ∙ ap Some k

  pub put_tested : (d : Option ℕ) → get_or ws (at + 55) 0 ≡ presence_word d → get_or ws (at + 56) 0 ≡ bits_word d → is_distinguisher ws at ≡ true
  unfolding is_distinguisher
  put_tested d h k =
      rw (put_named d h k, eq-eqb (get_or ws (at + 55) 0) (presence_word d) h, eq-eqb (get_or ws (at + 56) 0) (bits_word d) k)

  -- and what is named, put again, is the words
  pub tested_words : is_distinguisher ws at ≡ true → (presence_word (distinguisher_at ws at) ≡ get_or ws (at + 55) 0) × (bits_word (distinguisher_at ws at) ≡ get_or ws (at + 56) 0)
  unfolding is_distinguisher
  tested_words e =
      let b = both (eqb (get_or ws (at + 55) 0) (presence_word (distinguisher_at ws at))) _ e in
      (sym (eqb-true _ _ b.0), sym (eqb-true _ _ b.1))

-- the same distinguisher is just that
pub same_is : (d e : Option ℕ) → same_distinguisher d e ≡ true → d ≡ e
same_is None None h = refl
same_is None (Some n) h = let z : ◌≡◌ {A = ℕ} 0 1 = cc in absurd (omega arith)
same_is (Some m) None h = let z : ◌≡◌ {A = ℕ} 0 1 = cc in absurd (omega arith)
same_is (Some m) (Some n) h = ap Some (eqb-true m n h)

pub same_self : (d : Option ℕ) → same_distinguisher d d ≡ true
same_self None = refl
same_self (Some n) = eq-eqb n n refl
