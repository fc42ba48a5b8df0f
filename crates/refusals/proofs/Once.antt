-- A refusal's number, what it carries and its place determine it, so no second answer meets a contract that says what is answered.
use Prim.Native.Nat.{ℕ}
use mathlib.Core.Path.{◌≡◌, refl, sym, ap, ap₂, ◌∙◌}
use mathlib.Core.List.{List}
use lib.ListN.{get_or}
use lib.Dec.{eqb}
use Rattle.ground.specs.Answers.{Place, nowhere, at_octet, Refused, Answer, accepts, declines}
use Rattle.ground.specs.Picks.{pick}
use Rattle.refusals.specs.declared.FlowSpecError.{FlowSpecError}
use Rattle.refusals.specs.declared.FlowSpecError.TheVariants.{InsufficientData, InvalidComponentOrder, InvalidComponentType, InvalidPrefix, InvalidOperator, InvalidValueLength, ValueTooLarge, InputTooLong, NoRoom, BadRecord, BadFamily, TooManyRules, BadPacket, MixedFamily, Outer}
use Rattle.refusals.specs.declared.OuterError.{OuterError}
use Rattle.refusals.specs.declared.OuterError.TheVariants.{BadAttribute, ShortPacket, BadHeader, TooManyHeaders, ShortDistinguisher, MixedDistinguisher, TableFull, NotStored, BadLine, NoOldForm, UnknownAction, BadRate, PastEnd}
use Rattle.std.specs.declared.option.Option.{Option}
use Rattle.std.specs.declared.option.Option.TheVariants.{Some, None}
use Rattle.std.specs.declared.result.Result.{Result}
use Rattle.std.specs.declared.result.Result.TheVariants.{Ok, Err}
use Rattle.refusals.specs.declared.Fault.{Fault}
use Rattle.refusals.specs.Refusals.{outer_number, outer_carried, number_of, carried_of, place_of, told, answered}

-- the refusal of a number, with what it carries
abbrev outer_of : ℕ → List ℕ → OuterError
outer_of n ns =
    pick (eqb n 15) BadAttribute
    (pick (eqb n 16) ShortPacket
    (pick (eqb n 17) BadHeader
    (pick (eqb n 18) TooManyHeaders
    (pick (eqb n 19) ShortDistinguisher
    (pick (eqb n 20) (MixedDistinguisher (get_or ns 0 0))
    (pick (eqb n 21) TableFull
    (pick (eqb n 22) NotStored
    (pick (eqb n 23) (BadLine (get_or ns 0 0))
    (pick (eqb n 24) NoOldForm
    (pick (eqb n 25) UnknownAction
    (pick (eqb n 26) BadRate PastEnd)))))))))))

outer_back : (e : OuterError) → outer_of (outer_number e) (outer_carried e) ≡ e
outer_back BadAttribute = refl
outer_back ShortPacket = refl
outer_back BadHeader = refl
outer_back TooManyHeaders = refl
outer_back ShortDistinguisher = refl
outer_back (MixedDistinguisher a) = refl
outer_back TableFull = refl
outer_back NotStored = refl
outer_back (BadLine a) = refl
outer_back NoOldForm = refl
outer_back UnknownAction = refl
outer_back BadRate = refl
outer_back PastEnd = refl

abbrev pub error_of : ℕ → List ℕ → FlowSpecError
error_of n ns =
    pick (eqb n 1) InsufficientData
    (pick (eqb n 2) (InvalidComponentOrder (get_or ns 0 0) (get_or ns 1 0))
    (pick (eqb n 3) (InvalidComponentType (get_or ns 0 0))
    (pick (eqb n 4) InvalidPrefix
    (pick (eqb n 5) (InvalidOperator (get_or ns 0 0))
    (pick (eqb n 6) (InvalidValueLength (get_or ns 0 0))
    (pick (eqb n 7) (ValueTooLarge (get_or ns 0 0))
    (pick (eqb n 8) (InputTooLong (get_or ns 0 0))
    (pick (eqb n 9) (NoRoom (get_or ns 0 0))
    (pick (eqb n 10) BadRecord
    (pick (eqb n 11) (BadFamily (get_or ns 0 0))
    (pick (eqb n 12) (TooManyRules (get_or ns 0 0))
    (pick (eqb n 13) BadPacket
    (pick (eqb n 14) (MixedFamily (get_or ns 0 0)) (Outer (outer_of n ns)))))))))))))))

-- a number from 15 on names no refusal of document 01
outer_error : (e : OuterError) → error_of (outer_number e) (outer_carried e) ≡ Outer (outer_of (outer_number e) (outer_carried e))
outer_error BadAttribute = refl
outer_error ShortPacket = refl
outer_error BadHeader = refl
outer_error TooManyHeaders = refl
outer_error ShortDistinguisher = refl
outer_error (MixedDistinguisher a) = refl
outer_error TableFull = refl
outer_error NotStored = refl
outer_error (BadLine a) = refl
outer_error NoOldForm = refl
outer_error UnknownAction = refl
outer_error BadRate = refl
outer_error PastEnd = refl

pub error_back : (e : FlowSpecError) → error_of (number_of e) (carried_of e) ≡ e
error_back InsufficientData = refl
error_back (InvalidComponentOrder a b) = refl
error_back (InvalidComponentType a) = refl
error_back InvalidPrefix = refl
error_back (InvalidOperator a) = refl
error_back (InvalidValueLength a) = refl
error_back (ValueTooLarge a) = refl
error_back (InputTooLong a) = refl
error_back (NoRoom a) = refl
error_back BadRecord = refl
error_back (BadFamily a) = refl
error_back (TooManyRules a) = refl
error_back BadPacket = refl
error_back (MixedFamily a) = refl
error_back (Outer e) = outer_error e ∙ ap Outer (outer_back e)

abbrev code_of : Place → Option ℕ
code_of nowhere = None
code_of (at_octet at) = Some at

place_back : (p : Option ℕ) → code_of (place_of p) ≡ p
place_back None = refl
place_back (Some at) = refl

abbrev pub fault_from : Refused → Fault
fault_from f = record { error = error_of f.number f.carried; place = code_of f.place }

pub fault_back : (f : Fault) → fault_from (told f) ≡ f
fault_back f = ap₂ (λ (e : FlowSpecError) (p : Option ℕ). record { error = e; place = p }) (error_back f.error) (place_back f.place)

pub fault_once : (f g : Fault) → told f ≡ told g → f ≡ g
fault_once f g h = sym (fault_back f) ∙ ap fault_from h ∙ fault_back g

abbrev result_of : {T : Type 0} → Answer T → Result T Fault
result_of (accepts x) = Ok x
result_of (declines f) = Err (fault_from f)

result_back : {T : Type 0} (r : Result T Fault) → result_of (answered r) ≡ r
result_back (Ok x) = refl
result_back (Err f) = ap Err (fault_back f)

pub answered_once : {T : Type 0} (a b : Result T Fault) → answered a ≡ answered b → a ≡ b
answered_once a b h = sym (result_back a) ∙ ap result_of h ∙ result_back b
