-- Whether a number satisfies a list of operators: document 01, "Matching and ranking"; RFC 8955, 4.2.1.1 and 4.2.1.2. A list is an OR of
-- groups, a group an AND of operators: an operator without the AND bit starts a group, and those behind it that have the bit belong to
-- it. Reserved bits and the end mark are not looked at, nor is AND on the first operator.
use Rattle.std.specs.Prelude.{ℕ, ◌/◌, ◌%◌, List, [], ◌∷◌, Bool, true, false, not, ◌&&◌, ◌||◌, ltb, eqb}
use Rattle.std.specs.Int.Bits.{bit_and}
use Rattle.ground.specs.Picks.{pick}
use Rattle.operators.specs.declared.Kind.{Kind}
use Rattle.operators.specs.declared.Kind.TheVariants.{Numeric, Bitmask}
use Rattle.operators.specs.Ops.{Op}
use Rattle.satisfying.specs.declared.Test.{Test}

-- ---- one operator

abbrev pub bit0x40 : ℕ → Bool
bit0x40 octet = eqb (octet / 64 % 2) 1

abbrev pub bit0x04 : ℕ → Bool
bit0x04 octet = eqb (octet / 4 % 2) 1

abbrev pub bit0x02 : ℕ → Bool
bit0x02 octet = eqb (octet / 2 % 2) 1

abbrev pub bit0x01 : ℕ → Bool
bit0x01 octet = eqb (octet % 2) 1

-- "0x04 less, 0x02 greater, 0x01 equal"; "Numeric truth is the OR of the set comparisons; none set is false, all set is true"
unfoldable pub compared : ℕ → ℕ → ℕ → Bool
compared octet value datum = bit0x04 octet && ltb datum value || bit0x02 octet && ltb value datum || bit0x01 octet && eqb datum value

-- "0x02 NOT, 0x01 match"; "match set means (data AND value) = value; unset means (data AND value) is not 0"
abbrev pub met : ℕ → ℕ → ℕ → Bool
met octet value datum = pick (bit0x01 octet) (eqb (bit_and datum value) value) (not (eqb (bit_and datum value) 0))

-- "NOT inverts"
unfoldable pub masked : ℕ → ℕ → ℕ → Bool
masked octet value datum = pick (bit0x02 octet) (not (met octet value datum)) (met octet value datum)

abbrev pub truth_by : Kind → ℕ → ℕ → ℕ → Bool
truth_by Numeric octet value datum = compared octet value datum
truth_by Bitmask octet value datum = masked octet value datum

-- one operator of a number, whose value counts in some bits only
abbrev pub truth_of : Test → ℕ → Op → Bool
truth_of test datum o = truth_by test.kind o.octet (bit_and o.value test.bits) datum

-- ---- a list

-- "0x40 is AND"
abbrev pub and_of : Op → Bool
and_of o = bit0x40 o.octet

-- "AND joins an operator to the PREVIOUS one": those at the front that belong to the group before them
unfoldable pub joined : List Op → List Op
joined [] = []
joined (o ∷ os) = pick (and_of o) (o ∷ joined os) []

-- the groups that start behind
unfoldable pub later : List Op → List (List Op)
later [] = []
later (o ∷ os) = pick (and_of o) (later os) ((o ∷ joined os) ∷ later os)

unfoldable pub groups : List Op → List (List Op)
groups [] = []
groups (o ∷ os) = (o ∷ joined os) ∷ later os

-- each of them is so; one of them is so
unfoldable pub all : {A : Type 0} → (A → Bool) → List A → Bool
all p [] = true
all p (x ∷ xs) = p x && all p xs

unfoldable pub any : {A : Type 0} → (A → Bool) → List A → Bool
any p [] = false
any p (x ∷ xs) = p x || any p xs

-- "and binds tighter than OR"
unfoldable pub list_matches : (Op → Bool) → List Op → Bool
list_matches truth ops = any (all truth) (groups ops)
