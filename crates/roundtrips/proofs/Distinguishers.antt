-- A distinguisher that was written is read back, where one is expected just if there is one; and what was read of one is a word, written in as many
-- octets.
use Prim.Native.Nat.{ℕ, ◌+◌, ◌^◌, ◌≤◌, ◌<◌}
use mathlib.Core.Path.{◌≡◌, refl, sym, ap, ◌∙◌, subst}
use mathlib.Core.Bool.{Bool, true, false}
use mathlib.Core.List.{List, ◌++◌}
use native.Mathlib.Nat.{mod-eq_of_lt}
use lib.Dec.{eqb}
use lib.ListN.{length, get_or, take, drop}
use lib.Seq.{take-append_seam, drop-append_seam}
use Rattle.std.specs.Prelude.{None, Some, Option}
use Rattle.ground.specs.Answers.{accepts}
use Rattle.octets.specs.Spell.{value_of, spelled}
use Rattle.octets.proofs.Spells.{length_spelled, value_spelled}
use Rattle.choices.specs.declared.Reading.{Reading}
use Rattle.choices.specs.declared.Reading.TheVariants.{Plain, Ipv4, Ipv6}
use Rattle.choices.specs.Choices.{front_of}
use Rattle.prefixes.proofs.Accepted.{Octets, value_lt}
use Rattle.stored.specs.Distinguishers.{distinguisher_at}
use Rattle.stored.specs.Stored.{StoredRule, rule_at}
use Rattle.stored.proofs.Inverse.{accepted}
use Rattle.reading.specs.Readings.{front_at}
use Rattle.measuring.specs.Bodies.{distinguisher_octets}
use Rattle.measuring.proofs.Laws.{Standard}
use Rattle.roundtrips.specs.Trips.{Words, expected}
use Rattle.roundtrips.proofs.StoredPieces.{either}

-- its 64 bits
abbrev pub Word : Option ℕ → Type 0
Word None = Unit {0}
Word (Some n) = n < 2 ^ 64

-- what is written of one takes the octets that a reading told of it looks for
pub front_long : (w : Reading) → Standard w → (d : Option ℕ) → length (distinguisher_octets w d) ≡ front_of w (expected d)
front_long Plain st d = absurd st
front_long Ipv4 st None = refl
front_long Ipv4 st (Some n) = length_spelled 8 n
front_long Ipv6 st None = refl
front_long Ipv6 st (Some n) = length_spelled 8 n

-- and is read back
eight_back : (n : ℕ) → n < 2 ^ 64 → (hs rest : List ℕ) → Some (value_of (take 8 (drop (length hs) (hs ++ (spelled 8 n ++ rest))))) ≡ Some n
eight_back n h hs rest =
    let e : take 8 (spelled 8 n ++ rest) ≡ spelled 8 n =
    ap (λ (k : ℕ). take k (spelled 8 n ++ rest)) (sym (length_spelled 8 n)) ∙ take-append_seam (spelled 8 n) rest in
    ap (λ (l : List ℕ). Some (value_of (take 8 l))) (drop-append_seam hs (spelled 8 n ++ rest)) ∙ ap (λ (l : List ℕ). Some (value_of l)) e
    ∙ ap Some (value_spelled 8 n ∙ mod-eq_of_lt h)

pub front_back : (w : Reading) → Standard w → (d : Option ℕ) → Word d → (hs rest : List ℕ) → front_at (front_of w (expected d)) (hs ++ (distinguisher_octets w d ++ rest)) (length hs) ≡ d
unfolding front_at
front_back Plain st d h hs rest = absurd st
front_back Ipv4 st None h hs rest = refl
front_back Ipv4 st (Some n) h hs rest = eight_back n h hs rest
front_back Ipv6 st None h hs rest = refl
front_back Ipv6 st (Some n) h hs rest = eight_back n h hs rest

-- what a reading gave of one: there is one just if it was expected, and it is a word
module _ (s : List ℕ) (at : ℕ) where
  pub front_expected : (w : Reading) → Standard w → (rd : Bool) → expected (front_at (front_of w rd) s at) ≡ rd
  unfolding front_at
  front_expected Plain st rd = absurd st
  front_expected Ipv4 st true = refl
  front_expected Ipv4 st false = refl
  front_expected Ipv6 st true = refl
  front_expected Ipv6 st false = refl

  pub front_word : (w : Reading) (rd : Bool) → Octets s → at + front_of w rd ≤ length s → Word (front_at (front_of w rd) s at)
  unfolding front_at
  front_word Plain rd o h = tt
  front_word Ipv4 true o h = value_lt s at 8 o h
  front_word Ipv4 false o h = tt
  front_word Ipv6 true o h = value_lt s at 8 o h
  front_word Ipv6 false o h = tt

-- and so is one of stored words
pub stored_word : (words : List ℕ) (s : StoredRule) → Words words → rule_at words 0 ≡ accepts s → Word s.head.distinguisher
unfolding distinguisher_at
stored_word words s h e = subst (λ (x : StoredRule). Word x.head.distinguisher) (sym (accepted words 0 s e).2) (either Word (eqb (get_or words 55 0) 0) tt (h 56))
