-- What the place adds to a reading's answer, and what it leaves. "Demand 2 compares the plain answer without the place": the numbers
-- that are compared with the Rust's are those of the answer without its place. And all ones stand for no place alone.
use Prim.Native.Nat.{ℕ, ◌-◌, ◌^◌, ◌<◌}
use mathlib.Core.Path.{◌≡◌, refl}
use mathlib.Core.Bool.{Bool}
use mathlib.Core.List.{List}
use native.Mathlib.Omega.{arith}
use lib.ListN.{get_or}
use Rattle.ground.specs.Answers.{Place, nowhere, at_octet, Refused, Answer, accepts, declines, unplaced}
use Rattle.choices.specs.declared.Reading.{Reading}
use Rattle.reading.specs.declared.Taken.{Taken}
use Rattle.reading.specs.Readings.{read_at}
use Rattle.reading.proofs.Places.{place_most}
use Rattle.krubbadin.specs.declared.KrubbadinAnswer.{KrubbadinAnswer}
use Rattle.krubbadin.specs.Surface.{place_number, read_answer}

-- what is compared: the status and both numbers
pub record Compared : Type 0 where
  pub status : ℕ
  pub first : ℕ
  pub second : ℕ

abbrev pub compared_in : KrubbadinAnswer → Compared
compared_in a = record { status = a.status; first = a.first; second = a.second }

pub compared_unplaced : (a : Answer Taken) → compared_in (read_answer a) ≡ compared_in (read_answer (unplaced a))
compared_unplaced (accepts t) = refl
compared_unplaced (declines f) = refl

-- a refusal of octets has all ones for its place only where it has none
by_place : (p : Place) → ((n : ℕ) → p ≡ at_octet n → n ≡ 2 ^ 64 - 1 → ⊥) → place_number p ≡ 2 ^ 64 - 1 → p ≡ nowhere
by_place nowhere h e = refl
by_place (at_octet n) h e = absurd (h n refl e)

pub all_ones : (r : Reading) (rd : Bool) (s : List ℕ) → ((i : ℕ) → get_or s i 0 < 256) → {f : Refused} → read_at r rd s ≡ declines f → place_number f.place ≡ 2 ^ 64 - 1 → f.place ≡ nowhere
all_ones r rd s o {f} e z = by_place f.place (λ n i j. let m = place_most r rd s e i o in omega arith) z
