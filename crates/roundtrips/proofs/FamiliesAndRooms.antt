-- The readings that are not plain; the reading that a family names; and the room of one into lent lists: what was accepted had it, and what is
-- accepted without a bound is accepted with it.
use Prim.Native.Nat.{ℕ, ◌≤◌}
use mathlib.Core.Path.{◌≡◌, refl, ap, ◌∙◌, sym}
use mathlib.Core.Bool.{Bool}
use mathlib.Core.List.{List}
use native.Mathlib.Omega.{arith}
use borrow.Author.Tests.{ltb-false, le-ltb, leb-true, leb-false}
use lib.Dec.{ltb, leb}
use lib.ListN.{length}
use Rattle.ground.proofs.Answers.{never}
use Rattle.ground.specs.Answers.{Answer, accepts, declines}
use Rattle.ground.proofs.Cases.{by_test}
use Rattle.choices.specs.declared.Reading.{Reading}
use Rattle.choices.specs.declared.Reading.TheVariants.{Plain, Ipv4, Ipv6}
use Rattle.choices.specs.Choices.{standard_of}
use Rattle.reading.specs.Readings.{ReadRule, read_at, shorter, roomed, read_into, by_reading, standard_into}
use Rattle.reading.proofs.Walked.{into_read}
use Rattle.measuring.proofs.Laws.{Standard}
use Rattle.writing.proofs.Laws.{Named}
use Rattle.roundtrips.specs.Trips.{Room}

-- ---- readings and families

pub standard : (w : Reading) → (w ≡ Plain → ⊥) → Standard w
standard Plain h = h refl
standard Ipv4 h = tt
standard Ipv6 h = tt

pub not_plain : (w : Reading) → Standard w → w ≡ Plain → ⊥
not_plain Plain u e = u
not_plain Ipv4 u e = let z : ◌≡◌ {A = ℕ} 0 1 = cc in omega arith
not_plain Ipv6 u e = let z : ◌≡◌ {A = ℕ} 0 1 = cc in omega arith

module _ (family : ℕ) (rd : Bool) (s : List ℕ) (w v o : ℕ) where
  into_by : {a : Answer Reading} → standard_of family ≡ a → standard_into family rd s w v o ≡ by_reading a rd s w v o
  unfolding standard_into
  into_by e = ap (λ (a : Answer Reading). by_reading a rd s w v o) e

  pub standard_into_lem : (r : Reading) → standard_of family ≡ accepts r → standard_into family rd s w v o ≡ read_into r rd s w v o
  standard_into_lem r e = into_by e

  by_family : (rule : ReadRule) (a : Answer Reading) → standard_of family ≡ a → by_reading a rd s w v o ≡ accepts rule → Named family
  by_family rule (accepts r) i e = record { reading = r; is = i }
  by_family rule (declines f) i e = never e

  pub read_named : (rule : ReadRule) → standard_into family rd s w v o ≡ accepts rule → Named family
  read_named rule e = by_family rule (standard_of family) refl (sym (into_by refl) ∙ e)

-- ---- room

shorter_least : (k m n : ℕ) → k ≤ shorter m n → (k ≤ m) × (k ≤ n)
shorter_least k m n =
    by_test (leb m n)
    (λ t h. let g : k ≤ m = rw t at h in let l = leb-true m n t in (g, omega arith))
    (λ f h. let g : k ≤ n = rw f at h in let l = leb-false m n f in (omega arith, g))

room_in : (rule : ReadRule) (w v o : ℕ) → roomed (accepts rule) w v o ≡ accepts rule → Room rule w v o
room_in rule w v o e =
    let n = length rule.operators in
    by_test (ltb w 64)
    (λ t. never (rw t at e))
    (λ f. by_test (ltb (shorter v o) n)
    (λ t. never (rw (f, t) at e))
    (λ g. let s = shorter_least n v o (ltb-false (shorter v o) n g) in record { for_rule = ltb-false w 64 f; in_values = s.0; in_octets = s.1 }))

module _ (r : Reading) (rd : Bool) (s : List ℕ) (rule : ReadRule) (w v o : ℕ) where
  by_read : read_at r rd s ≡ accepts rule → read_into r rd s w v o ≡ roomed (accepts rule) w v o
  unfolding read_into
  by_read e = ap (λ (a : Answer ReadRule). roomed a w v o) e

  pub had_room : read_into r rd s w v o ≡ accepts rule → Room rule w v o
  had_room e = room_in rule w v o (sym (by_read (into_read r rd s w v o rule e)) ∙ e)

  pub with_room : read_at r rd s ≡ accepts rule → Room rule w v o → read_into r rd s w v o ≡ accepts rule
  with_room e h =
      let n = length rule.operators in
      by_read e
      ∙ by_test (leb v o)
      (λ t. rw (le-ltb w 64 h.for_rule, t, le-ltb v n h.in_values))
      (λ t. rw (le-ltb w 64 h.for_rule, t, le-ltb o n h.in_octets))
