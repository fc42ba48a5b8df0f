-- The length field: what was written is read back, whatever follows it; and what was read is 4095 at most, and is written in no more
-- octets.
use Prim.Native.Nat.{ℕ, ◌+◌, ◌*◌, ◌/◌, ◌%◌, ◌≤◌, ◌<◌}
use mathlib.Core.Path.{◌≡◌, sym, ap, ◌∙◌}
use mathlib.Core.List.{List, [], ◌∷◌, ◌++◌}
use mathlib.Core.Logic.{⊎_elim}
use native.Mathlib.Omega.{arith}
use borrow.Author.Tests.{lt-ltb, le-ltb}
use lib.ListN.{length, get_or}
use Rattle.ground.proofs.Answers.{never, same_accepted}
use Rattle.ground.specs.Answers.{accepts}
use Rattle.ground.proofs.Cases.{lt_or_le}
use Rattle.octets.specs.declared.Length.{Length}
use Rattle.octets.specs.Lengths.{length_is, length_at, length_octets}
use Rattle.octets.proofs.Lengths.{read_none, read_one, read_half, read_two}
use Rattle.prefixes.proofs.Accepted.{Octets}
use Rattle.writing.proofs.Laws.{length_most}

one_octet : (n : ℕ) → n < 240 → length_octets n ≡ n ∷ []
unfolding length_octets
one_octet n h = simp (lt-ltb _ _ h)

two_octets : (n : ℕ) → 240 ≤ n → length_octets n ≡ (240 + n / 256) ∷ n % 256 ∷ []
unfolding length_octets
two_octets n h = simp (le-ltb _ _ h)

back_two : (n : ℕ) (ys : List ℕ) → n ≤ 4095 → 240 ≤ n → length_at ((240 + n / 256) ∷ n % 256 ∷ ys) 0 ≡ length_is n 2
back_two n ys l h =
    let s : List ℕ = (240 + n / 256) ∷ n % 256 ∷ ys in
    let a : 0 < length s = omega arith in
    let b : 240 ≤ get_or s 0 0 = omega arith in
    let c : 0 + 1 < length s = omega arith in
    let e : (240 + n / 256) % 16 * 256 + n % 256 ≡ n = omega arith in
    sym (read_two s 0 a b c) ∙ ap (λ (m : ℕ). length_is m 2) e

pub length_back : (n : ℕ) (ys : List ℕ) → n ≤ 4095 → length_at (length_octets n ++ ys) 0 ≡ length_is n (length (length_octets n))
length_back n ys l =
    ⊎_elim
    (λ h. rw (one_octet n h) (sym (read_one (n ∷ ys) 0 (omega arith) h)))
    (λ h. rw (two_octets n h) (back_two n ys l h))
    (lt_or_le n 240)

-- a length that was read
pub record Stated (l : Length) : Type 0 where
  pub most : l.size ≤ 4095
  pub least : length (length_octets l.size) ≤ l.next.at

stated_one : (n : ℕ) → n < 240 → Stated (record { size = n; next = record { at = 1 } })
stated_one n h = record { most = omega arith; least = rw (one_octet n h) (omega arith) }

stated_two : (n : ℕ) → n ≤ 4095 → Stated (record { size = n; next = record { at = 2 } })
stated_two n h = record { most = h; least = length_most n }

pub length_stated : (s : List ℕ) (l : Length) → Octets s → length_at s 0 ≡ accepts l → Stated l
length_stated s l o e =
    ⊎_elim
    (λ h. ⊎_elim
    (λ k. rw (sym (same_accepted (read_one s 0 h k ∙ e))) (stated_one (get_or s 0 0) k))
    (λ k. ⊎_elim
    (λ i. rw (sym (same_accepted (read_two s 0 h k i ∙ e))) (stated_two (get_or s 0 0 % 16 * 256 + get_or s 1 0) (omega (arith, o 1))))
    (λ i. never (read_half s 0 h k i ∙ e))
    (lt_or_le 1 (length s)))
    (lt_or_le (get_or s 0 0) 240))
    (λ h. never (read_none s 0 h ∙ e))
    (lt_or_le 0 (length s))
