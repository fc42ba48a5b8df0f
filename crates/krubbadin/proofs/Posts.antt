-- What a reading or a writing leaves behind, told of the one that a number names.
use mathlib.Core.Path.{◌≡◌, refl, sym, ap, ◌∙◌}
use mathlib.Core.Bool.{Bool}
use mathlib.Core.List.{List, map}
use Prim.Native.Nat.{ℕ}
use lib.ListN.{length}
use lib.Seq.{sets}
use Rattle.ground.specs.Answers.{Answer, accepts, declines}
use Rattle.choices.specs.declared.Reading.{Reading}
use Rattle.operators.specs.Ops.{octet_of, number_of}
use Rattle.reading.specs.Readings.{read_at, by_reading, taken_of, words_of, operators_of}
use Rattle.reading.proofs.Ways.{test_refused}
use Rattle.krubbadin.proofs.Checks.{told_refused}
use Rattle.krubbadin.specs.declared.KrubbadinAnswer.{KrubbadinAnswer}
use Rattle.krubbadin.specs.Surface.{read_answer, by_check}

abbrev pub Post : Bool → List ℕ → List ℕ → List ℕ → List ℕ → KrubbadinAnswer → List ℕ → List ℕ → List ℕ → Answer Reading → Type 0
Post rd s ws vs os r ws' vs' os' a =
    (r ≡ read_answer (taken_of (by_reading a rd s (length ws) (length vs) (length os))))
    × ((ws' ≡ sets ws 0 (words_of (by_reading a rd s (length ws) (length vs) (length os))))
    × ((vs' ≡ sets vs 0 (map number_of (operators_of (by_reading a rd s (length ws) (length vs) (length os)))))
    × (os' ≡ sets os 0 (map octet_of (operators_of (by_reading a rd s (length ws) (length vs) (length os)))))))

-- what a check refuses, a reading does, and leaves everything as it came
pub refused_check : (rd : Bool) (s ws vs os : List ℕ) (r : KrubbadinAnswer) (a : Answer Reading) → r ≡ read_answer (taken_of (by_check a rd s)) → (r.status ≡ 0 → ⊥) → Post rd s ws vs os r ws vs os a
refused_check rd s ws vs os r (accepts reading) e z =
    let q = told_refused r (read_at reading rd s) e z in
    let p = test_refused reading rd s ws vs os q in
    (e ∙ sym (ap read_answer q) ∙ ap read_answer p.0, p.1)
refused_check rd s ws vs os r (declines f) e z = (e, (refl, (refl, refl)))
