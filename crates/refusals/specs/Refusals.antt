-- Each refusal's number and the numbers that it carries: document 01, "What comes back"; those from 15 on are document 02's.
use Rattle.std.specs.Prelude.{ℕ, ◌+◌, ◌^◌, ◌<◌, List, [], ◌∷◌, length, get_or}
use Rattle.std.specs.declared.option.Option.{Option}
use Rattle.std.specs.declared.option.Option.TheVariants.{Some, None}
use Rattle.std.specs.declared.result.Result.{Result}
use Rattle.std.specs.declared.result.Result.TheVariants.{Ok, Err}
use Rattle.ground.specs.Answers.{Place, nowhere, at_octet, Refused, refused, Answer, accepts, declines}
use Rattle.refusals.specs.declared.OuterError.{OuterError}
use Rattle.refusals.specs.declared.OuterError.TheVariants.{BadAttribute, ShortPacket, BadHeader, TooManyHeaders, ShortDistinguisher, MixedDistinguisher, TableFull, NotStored, BadLine, NoOldForm, UnknownAction, BadRate, PastEnd}
use Rattle.refusals.specs.declared.FlowSpecError.{FlowSpecError}
use Rattle.refusals.specs.declared.FlowSpecError.TheVariants.{InsufficientData, InvalidComponentOrder, InvalidComponentType, InvalidPrefix, InvalidOperator, InvalidValueLength, ValueTooLarge, InputTooLong, NoRoom, BadRecord, BadFamily, TooManyRules, BadPacket, MixedFamily, Outer}
use Rattle.refusals.specs.declared.Fault.{Fault}
use Rattle.refusals.specs.declared.Numbers.{Numbers}

abbrev pub outer_number : OuterError → ℕ
outer_number BadAttribute = 15
outer_number ShortPacket = 16
outer_number BadHeader = 17
outer_number TooManyHeaders = 18
outer_number ShortDistinguisher = 19
outer_number (MixedDistinguisher place) = 20
outer_number TableFull = 21
outer_number NotStored = 22
outer_number (BadLine line) = 23
outer_number NoOldForm = 24
outer_number UnknownAction = 25
outer_number BadRate = 26
outer_number PastEnd = 27

abbrev pub outer_carried : OuterError → List ℕ
outer_carried BadAttribute = []
outer_carried ShortPacket = []
outer_carried BadHeader = []
outer_carried TooManyHeaders = []
outer_carried ShortDistinguisher = []
outer_carried (MixedDistinguisher place) = place ∷ []
outer_carried TableFull = []
outer_carried NotStored = []
outer_carried (BadLine line) = line ∷ []
outer_carried NoOldForm = []
outer_carried UnknownAction = []
outer_carried BadRate = []
outer_carried PastEnd = []

abbrev pub number_of : FlowSpecError → ℕ
number_of InsufficientData = 1
number_of (InvalidComponentOrder previous found) = 2
number_of (InvalidComponentType type) = 3
number_of InvalidPrefix = 4
number_of (InvalidOperator octet) = 5
number_of (InvalidValueLength code) = 6
number_of (ValueTooLarge body) = 7
number_of (InputTooLong size) = 8
number_of (NoRoom needed) = 9
number_of BadRecord = 10
number_of (BadFamily family) = 11
number_of (TooManyRules count) = 12
number_of BadPacket = 13
number_of (MixedFamily place) = 14
number_of (Outer e) = outer_number e

abbrev pub carried_of : FlowSpecError → List ℕ
carried_of InsufficientData = []
carried_of (InvalidComponentOrder previous found) = previous ∷ found ∷ []
carried_of (InvalidComponentType type) = type ∷ []
carried_of InvalidPrefix = []
carried_of (InvalidOperator octet) = octet ∷ []
carried_of (InvalidValueLength code) = code ∷ []
carried_of (ValueTooLarge body) = body ∷ []
carried_of (InputTooLong size) = size ∷ []
carried_of (NoRoom needed) = needed ∷ []
carried_of BadRecord = []
carried_of (BadFamily family) = family ∷ []
carried_of (TooManyRules count) = count ∷ []
carried_of BadPacket = []
carried_of (MixedFamily place) = place ∷ []
carried_of (Outer e) = outer_carried e

-- both as four numbers: 0 for what is not carried
abbrev pub numbers_of : ℕ → List ℕ → Numbers
numbers_of number carried = record { number = number; count = length carried; first = get_or carried 0 0; second = get_or carried 1 0 }

abbrev pub place_of : Option ℕ → Place
place_of None = nowhere
place_of (Some at) = at_octet at

-- a refusal of an octet, and one of no octet
abbrev pub fault_at : ℕ → FlowSpecError → Fault
fault_at octet error = record { place = Some octet; error = error }

abbrev pub fault_of : FlowSpecError → Fault
fault_of error = record { place = None; error = error }

-- a refusal as the documents tell it, and as an answer
abbrev pub told : Fault → Refused
told f = refused (number_of f.error) (carried_of f.error) (place_of f.place)

abbrev pub refusal {ℓ} : {A : Type ℓ} → Fault → Answer A
refusal f = declines (told f)

-- what a call answers, as the documents tell it: what it holds, as `said` has it, or its refusal
abbrev pub answered_by {ℓ} : {T : Type 0} {A : Type ℓ} → (T → A) → Result T Fault → Answer A
answered_by said (Ok x) = accepts (said x)
answered_by said (Err f) = refusal f

abbrev pub answered : {T : Type 0} → Result T Fault → Answer T
answered = answered_by (λ x. x)

-- a place that can be moved: what it becomes is a number of 64 bits
abbrev pub Movable : ℕ → Option ℕ → Type 0
Movable start None = Unit
Movable start (Some at) = start + at < 2 ^ 64
