-- Laws of one operator, over plain lists: the five ways that `operator_at` goes, and what it takes.
use Prim.Native.Nat.{ℕ, ◌+◌, ◌-◌, ◌≤◌, ◌<◌}
use mathlib.Core.Path.{◌≡◌, sym, ◌∙◌, subst}
use mathlib.Core.Bool.{true, false}
use mathlib.Core.List.{List, [], ◌∷◌}
use borrow.Author.Tests.{le-leb, lt-leb, lt-ltb, le-ltb}
use native.Mathlib.Omega.{arith}
use native.Mathlib.Decide.{dec_lt}
use lib.ListN.{length, get_or}
use Rattle.ground.specs.Answers.{Refused, at_octet, refused, accepts, refuses_at, declines}
use Rattle.ground.proofs.Answers.{never, same_refusal}
use Rattle.ground.proofs.Cases.{by_cases, by_test}
use Rattle.octets.specs.Widths.{code_in, width_of}
use Rattle.choices.specs.declared.Reading.{Reading}
use Rattle.choices.specs.Choices.{refused_in}
use Rattle.operators.specs.Ops.{kind_of, Op}
use Rattle.lists.specs.Lists.{op_at, too_wide, value_at, operator_at}

module _ (r : Reading) (t : ℕ) (s : List ℕ) (at : ℕ) where
  pub operator_missing : length s ≤ at → operator_at r t s at ≡ refuses_at 1 [] (length s)
  unfolding operator_at
  operator_missing h = simp (le-leb _ _ h)

  pub operator_wide : at < length s → too_wide r t (get_or s at 0) ≡ true → operator_at r t s at ≡ refuses_at 6 (code_in (get_or s at 0) ∷ []) at
  unfolding operator_at
  operator_wide h e = rw (lt-leb _ _ h, e)

  module _ (n : too_wide r t (get_or s at 0) ≡ false) where
    pub operator_cut : at < length s → length s ≤ at + width_of (get_or s at 0) → operator_at r t s at ≡ refuses_at 1 [] (length s)
    unfolding operator_at value_at
    operator_cut h k = let l : length s - (at + 1) < width_of (get_or s at 0) = omega arith in rw (lt-leb _ _ h, n, lt-ltb _ _ l)

    module _ (h : at + width_of (get_or s at 0) < length s) where
      there : at < length s
      there = omega arith

      whole : width_of (get_or s at 0) ≤ length s - (at + 1)
      whole = omega arith

      pub operator_refused : refused_in r (kind_of t) (get_or s at 0) ≡ true → operator_at r t s at ≡ refuses_at 5 (get_or s at 0 ∷ []) at
      unfolding operator_at value_at
      operator_refused e = rw (lt-leb _ _ there, n, le-ltb _ _ whole, e)

      pub operator_taken : refused_in r (kind_of t) (get_or s at 0) ≡ false → operator_at r t s at ≡ accepts (op_at s at)
      unfolding operator_at value_at
      operator_taken e = rw (lt-leb _ _ there, n, le-ltb _ _ whole, e)

-- by the ways that an operator goes
module _ (r : Reading) (t : ℕ) (s : List ℕ) (at : ℕ) {A : Type 0} where
  pub operator_ways : (length s ≤ at → A) → (at < length s → too_wide r t (get_or s at 0) ≡ true → A)
      → (too_wide r t (get_or s at 0) ≡ false → at < length s → length s ≤ at + width_of (get_or s at 0) → A)
      → (too_wide r t (get_or s at 0) ≡ false → at + width_of (get_or s at 0) < length s → refused_in r (kind_of t) (get_or s at 0) ≡ true → A)
      → (too_wide r t (get_or s at 0) ≡ false → at + width_of (get_or s at 0) < length s → refused_in r (kind_of t) (get_or s at 0) ≡ false → A) → A
  operator_ways missing wide cut reserved whole =
      by_cases (dec_lt at (length s))
      (λ h. by_test (too_wide r t (get_or s at 0)) (wide h)
      (λ n. by_cases (dec_lt (at + width_of (get_or s at 0)) (length s))
      (λ l. by_test (refused_in r (kind_of t) (get_or s at 0)) (reserved n l) (whole n l))
      (λ l. cut n h (omega (arith, l)))))
      (λ h. missing (omega (arith, h)))

-- an operator that is taken: its width is allowed, it is whole, not refused, and what stands there
pub record Taken (r : Reading) (t : ℕ) (s : List ℕ) (at : ℕ) (o : Op) : Type 0 where
  pub narrow : too_wide r t (get_or s at 0) ≡ false
  pub within : at + width_of (get_or s at 0) < length s
  pub kept : refused_in r (kind_of t) (get_or s at 0) ≡ false
  pub is : o ≡ op_at s at

pub taken : (r : Reading) (t : ℕ) (s : List ℕ) (at : ℕ) {o : Op} → operator_at r t s at ≡ accepts o → Taken r t s at o
taken r t s at e =
    operator_ways r t s at
    (λ h. never (sym (operator_missing r t s at h) ∙ e))
    (λ h n. never (sym (operator_wide r t s at h n) ∙ e))
    (λ n h l. never (sym (operator_cut r t s at n h l) ∙ e))
    (λ n h f. never (sym (operator_refused r t s at n h f) ∙ e))
    (λ n h f. let o = operator_taken r t s at n h f in record { narrow = n; within = h; kept = f; is = cc })

-- what an operator is refused by: 1 at the octets' end, 6 at an octet whose width the type does not take, or 5 at one that the reading refuses
module _ (r : Reading) (t : ℕ) (s : List ℕ) (at : ℕ) (P : Refused → Type 0) (one : P (refused 1 [] (at_octet (length s))))
    (six : at < length s → too_wide r t (get_or s at 0) ≡ true → P (refused 6 (code_in (get_or s at 0) ∷ []) (at_octet at)))
    (five : refused_in r (kind_of t) (get_or s at 0) ≡ true → P (refused 5 (get_or s at 0 ∷ []) (at_octet at))) where
  pub operator_refuses : {f : Refused} → operator_at r t s at ≡ declines f → P f
  operator_refuses e =
      operator_ways r t s at
      (λ h. subst P (same_refusal (sym (operator_missing r t s at h) ∙ e)) one)
      (λ h n. subst P (same_refusal (sym (operator_wide r t s at h n) ∙ e)) (six h n))
      (λ n h l. subst P (same_refusal (sym (operator_cut r t s at n h l) ∙ e)) one)
      (λ n h g. subst P (same_refusal (sym (operator_refused r t s at n h g) ∙ e)) (five g))
      (λ n h g. never (sym e ∙ operator_taken r t s at n h g))
