-- What a check says of a reading: status 0 is that it is accepted; a reading with room for all answers the same (`check_roomed`), and one without differs
-- in 9, NoRoom, alone (`check_short`).
use Prim.Native.Nat.{ℕ, ◌≤◌}
use mathlib.Core.Path.{◌≡◌, refl, sym, ap}
use mathlib.Core.Bool.{Bool, true, false≢true}
use mathlib.Core.List.{List, [], ◌∷◌}
use mathlib.Core.Logic.{◌⊎◌, inl, inr}
use native.Mathlib.Omega.{arith}
use borrow.Author.Tests.{le-ltb}
use lib.Dec.{ltb, leb}
use lib.ListN.{length}
use Rattle.ground.specs.Answers.{nowhere, Refused as Refusal, refused, Answer, accepts, refuses, declines}
use Rattle.ground.proofs.Answers.{never}
use Rattle.ground.proofs.Cases.{by_test}
use Rattle.refusals.specs.declared.FlowSpecError.{FlowSpecError}
use Rattle.refusals.specs.declared.FlowSpecError.TheVariants.{InsufficientData, InvalidComponentOrder, InvalidComponentType, InvalidPrefix, InvalidOperator, InvalidValueLength, ValueTooLarge, InputTooLong, NoRoom, BadRecord, BadFamily, TooManyRules, BadPacket, MixedFamily, Outer}
use Rattle.refusals.specs.declared.OuterError.{OuterError}
use Rattle.refusals.specs.declared.OuterError.TheVariants.{BadAttribute, ShortPacket, BadHeader, TooManyHeaders, ShortDistinguisher, MixedDistinguisher, TableFull, NotStored, BadLine, NoOldForm, UnknownAction, BadRate, PastEnd}
use Rattle.refusals.specs.Refusals.{answered, number_of, outer_number}
use Rattle.choices.specs.declared.Reading.{Reading}
use Rattle.std.specs.declared.result.Result.{Result}
use Rattle.std.specs.declared.result.Result.TheVariants.{Ok, Err}
use Rattle.refusals.specs.declared.Fault.{Fault}
use Rattle.reading.specs.declared.Taken.{Taken}
use Rattle.reading.specs.Readings.{ReadRule, read_at, shorter, roomed, read_into, by_reading, taken, taken_of, operators_of}
use Rattle.reading.specs.Parts.{is_read}
use Rattle.krubbadin.specs.declared.KrubbadinAnswer.{KrubbadinAnswer}
use Rattle.krubbadin.specs.Surface.{read_answer, by_check}

-- no refusal has the number 0
outer_numbered : (e : OuterError) → outer_number e ≡ 0 → ⊥
outer_numbered BadAttribute e = omega arith
outer_numbered ShortPacket e = omega arith
outer_numbered BadHeader e = omega arith
outer_numbered TooManyHeaders e = omega arith
outer_numbered ShortDistinguisher e = omega arith
outer_numbered (MixedDistinguisher place) e = omega arith
outer_numbered TableFull e = omega arith
outer_numbered NotStored e = omega arith
outer_numbered (BadLine line) e = omega arith
outer_numbered NoOldForm e = omega arith
outer_numbered UnknownAction e = omega arith
outer_numbered BadRate e = omega arith
outer_numbered PastEnd e = omega arith

pub numbered : (e : FlowSpecError) → number_of e ≡ 0 → ⊥
numbered InsufficientData e = omega arith
numbered (InvalidComponentOrder previous found) e = omega arith
numbered (InvalidComponentType type) e = omega arith
numbered InvalidPrefix e = omega arith
numbered (InvalidOperator octet) e = omega arith
numbered (InvalidValueLength code) e = omega arith
numbered (ValueTooLarge body) e = omega arith
numbered (InputTooLong size) e = omega arith
numbered (NoRoom needed) e = omega arith
numbered BadRecord e = omega arith
numbered (BadFamily family) e = omega arith
numbered (TooManyRules count) e = omega arith
numbered BadPacket e = omega arith
numbered (MixedFamily place) e = omega arith
numbered (Outer o) e = outer_numbered o e

-- the refusal that an answer is
abbrev pub refusal_in : Answer ReadRule → Refusal
refusal_in (accepts r) = refused 0 [] nowhere
refusal_in (declines f) = f

-- what is told of a reading has status 0 just where it is accepted
pub sure : (x : Result Taken Fault) (d : Answer ReadRule) → answered x ≡ taken_of d → (read_answer (answered x)).status ≡ 0 → is_read d ≡ true
sure (Ok t) (accepts r) e z = refl
sure (Ok t) (declines f) e z = never (sym e)
sure (Err f) d e z = absurd (numbered f.error z)

-- what status 0 tells of it
pub told_taken : (a : KrubbadinAnswer) (d : Answer ReadRule) → a ≡ read_answer (taken_of d) → is_read d ≡ true → accepts (taken a.first a.second) ≡ taken_of d
told_taken a (accepts r) e i = rw e
told_taken a (declines f) e i = absurd (false≢true i)

-- and any other status
pub told_refused : (a : KrubbadinAnswer) (d : Answer ReadRule) → a ≡ read_answer (taken_of d) → (a.status ≡ 0 → ⊥) → declines (refusal_in d) ≡ taken_of d
told_refused a (accepts r) e z = absurd (z (ap (λ (x : KrubbadinAnswer). x.status) e))
told_refused a (declines f) e z = refl

-- ---- a check and a reading

roomed_all : (d : Answer ReadRule) (words values octets : ℕ) → 64 ≤ words → length (operators_of d) ≤ values → length (operators_of d) ≤ octets → roomed d words values octets ≡ d
roomed_all (declines f) words values octets h k l = refl
roomed_all (accepts r) words values octets h k l =
    by_test (leb values octets)
    (λ e. rw (le-ltb words 64 h, e, le-ltb values (length r.operators) k))
    (λ e. rw (le-ltb words 64 h, e, le-ltb octets (length r.operators) l))

pub record Short (d e : Answer ReadRule) : Type 0 where
  pub accepted : is_read d ≡ true
  pub needed : ℕ
  pub refused : e ≡ refuses 9 (needed ∷ [])

roomed_short : (d : Answer ReadRule) (words values octets : ℕ) → (roomed d words values octets ≡ d) ⊎ Short d (roomed d words values octets)
roomed_short (declines f) words values octets = inl refl
roomed_short (accepts r) words values octets =
    by_test (ltb words 64)
    (λ e. inr (record { accepted = refl; needed = 1; refused = rw e }))
    (λ e. by_test (ltb (shorter values octets) (length r.operators))
    (λ f. inr (record { accepted = refl; needed = length r.operators; refused = rw (e, f) }))
    (λ f. inl (rw (e, f))))

-- of whichever reading a call asks for
pub check_roomed : (a : Answer Reading) (rd : Bool) (s : List ℕ) (words values octets : ℕ) → 64 ≤ words → length (operators_of (by_check a rd s)) ≤ values → length (operators_of (by_check a rd s)) ≤ octets
    → by_reading a rd s words values octets ≡ by_check a rd s
unfolding read_into
check_roomed (accepts reading) rd s words values octets h k l = roomed_all (read_at reading rd s) words values octets h k l
check_roomed (declines f) rd s words values octets h k l = refl

pub check_short : (a : Answer Reading) (rd : Bool) (s : List ℕ) (words values octets : ℕ) → (by_reading a rd s words values octets ≡ by_check a rd s) ⊎ Short (by_check a rd s) (by_reading a rd s words values octets)
unfolding read_into
check_short (accepts reading) rd s words values octets = roomed_short (read_at reading rd s) words values octets
check_short (declines f) rd s words values octets = inl refl
