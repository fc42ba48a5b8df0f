-- Where a length field broke, and that no octet behind that place plays a part: document 01, "What comes back". A field goes by its own
-- octets.
use Prim.Native.Nat.{ℕ, ◌+◌, ◌*◌, ◌%◌, ◌≤◌, ◌<◌}
use mathlib.Core.Path.{◌≡◌, sym, ◌∙◌, ap, ap₂, subst}
use mathlib.Core.List.{List, []}
use mathlib.Core.Logic.{⊎_elim}
use native.Mathlib.Omega.{arith}
use borrow.Author.Tests.{ltb-true}
use lib.Dec.{ltb}
use lib.ListN.{length, get_or}
use Rattle.ground.specs.Answers.{Refused, accepts, refuses_at, declines}
use Rattle.ground.proofs.Answers.{never, same_accepted, same_refusal}
use Rattle.ground.proofs.Cases.{by_test, lt_or_le}
use Rattle.ground.proofs.Places.{Alike, Breaks, breaks_at_end}
use Rattle.octets.specs.declared.Length.{Length}
use Rattle.octets.specs.Lengths.{length_is, length_at, length_width, length_value}
use Rattle.octets.proofs.Lengths.{read_none, field_short, field_whole}

width_some : (first : ℕ) → 1 ≤ length_width first
width_some first = by_test (ltb first 240) (λ t. rw t (omega arith)) (λ f. rw f (omega arith))

width_most : (first : ℕ) → length_width first ≤ 2
width_most first = by_test (ltb first 240) (λ t. rw t (omega arith)) (λ f. rw f (omega arith))

-- a field lacks an octet, or states a length
short : (s : List ℕ) → length s < length_width (get_or s 0 0) → length_at s 0 ≡ refuses_at 1 [] (length s)
short s h =
    ⊎_elim
    (λ k. sym (field_short s 0 k (omega arith)))
    (λ k. sym (read_none s 0 k))
    (lt_or_le 0 (length s))

whole : (s : List ℕ) → length_width (get_or s 0 0) ≤ length s → length_at s 0 ≡ length_is (length_value s 0) (length_width (get_or s 0 0))
whole s h = let z : 0 + length_width (get_or s 0 0) ≡ length_width (get_or s 0 0) = omega arith in sym (field_whole s 0 (omega arith)) ∙ ap (length_is (length_value s 0)) z

value_most : (s : List ℕ) → get_or s 1 0 < 256 → length_width (get_or s 0 0) + length_value s 0 ≤ 4097
unfolding length_value
value_most s h = by_test (ltb (get_or s 0 0) 240) (λ t. let k = ltb-true (get_or s 0 0) 240 t in rw t (omega arith)) (λ f. rw f (omega arith))

-- octets that agree as far as the field goes state the same
value_there : (s u : List ℕ) → Alike (length_width (get_or s 0 0)) s u → length_value u 0 ≡ length_value s 0
unfolding length_value
value_there s u a =
    let o = a.same 0 (omega (arith, width_some (get_or s 0 0))) in
    by_test (ltb (get_or s 0 0) 240)
    (λ t. rw (o, t))
    (λ f. let l : 1 < length_width (get_or s 0 0) = rw f (omega arith) in rw (o, f) (ap (λ (x : ℕ). get_or s 0 0 % 16 * 256 + x) (a.same 1 l)))

module _ (s : List ℕ) where
  pub length_breaks : (more : ℕ → ℕ) {f : Refused} → length_at s 0 ≡ declines f → Breaks more (λ (u : List ℕ). length_at u 0) s 0 (length s) f
  length_breaks more e =
      ⊎_elim
      (λ h. subst (Breaks more (λ (u : List ℕ). length_at u 0) s 0 (length s)) (same_refusal (sym (short s h) ∙ e))
      (breaks_at_end more _ s 0 (omega arith) (λ u a. let w = ap length_width (a.same 0 (omega arith)) in short u (omega (arith, a.long)))))
      (λ h. never (sym e ∙ whole s h))
      (lt_or_le (length s) (length_width (get_or s 0 0)))

  pub length_within : {l : Length} → length_at s 0 ≡ accepts l → l.next.at ≤ length s
  length_within {l} e =
      ⊎_elim
      (λ h. never (sym (short s h) ∙ e))
      (λ h. let n = ap (λ (x : Length). x.next.at) (same_accepted (sym e ∙ whole s h)) in omega arith)
      (lt_or_le (length s) (length_width (get_or s 0 0)))

  -- one that is refused is of one octet at most; one that is accepted states no end past that of the longest NLRI
  pub length_short : {f : Refused} → length_at s 0 ≡ declines f → length s ≤ 1
  length_short e = ⊎_elim (λ h. omega (arith, width_most (get_or s 0 0))) (λ h. never (sym e ∙ whole s h)) (lt_or_le (length s) (length_width (get_or s 0 0)))

  pub length_most : {l : Length} → length_at s 0 ≡ accepts l → get_or s 1 0 < 256 → l.next.at + l.size ≤ 4097
  length_most {l} e o =
      ⊎_elim
      (λ h. never (sym (short s h) ∙ e))
      (λ h. let n = ap (λ (x : Length). x.next.at + x.size) (same_accepted (sym e ∙ whole s h)) in omega (arith, value_most s o))
      (lt_or_le (length s) (length_width (get_or s 0 0)))

  pub length_alike : {l : Length} → length_at s 0 ≡ accepts l → (u : List ℕ) → Alike l.next.at s u → length_at u 0 ≡ accepts l
  length_alike {l} e u a =
      ⊎_elim
      (λ h. never (sym (short s h) ∙ e))
      (λ h.
      let i : l ≡ record { size = length_value s 0; next = record { at = length_width (get_or s 0 0) } } = same_accepted (sym e ∙ whole s h) in
      let b = subst (λ (x : Length). Alike x.next.at s u) i a in
      let w = ap length_width (b.same 0 (omega (arith, width_some (get_or s 0 0)))) in
      whole u (omega (arith, b.long)) ∙ ap₂ length_is (value_there s u b) w ∙ sym (whole s h) ∙ e)
      (lt_or_le (length s) (length_width (get_or s 0 0)))
