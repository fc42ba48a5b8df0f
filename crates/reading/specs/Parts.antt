-- What the functions of the second walk promise each other. They store what the first walk accepted, so they ask that it did. No promise of
-- an entry point rests on these but through `Readings`.
use Rattle.std.specs.Prelude.{ℕ, ◌+◌, ◌≤◌, ◌<◌, ◌≡◌, Bool, true, false, List, [], length, get_or, ltb, None, Some, Option}
use Rattle.ground.specs.Picks.{pick}
use Rattle.ground.specs.Answers.{Answer, accepts, declines}
use Rattle.choices.specs.declared.Reading.{Reading}
use Rattle.stored.specs.declared.Piece.TheVariants.{NoRecord}
use Rattle.octets.specs.Lengths.{length_width}
use Rattle.reading.specs.Readings.{ReadRule, read_rule, read_at, shorter}
use Rattle.walk.specs.Walks.{FoundAt, found_at, typed_at, Body, body, walk_at}

abbrev pub is_found : Answer FoundAt → Bool
is_found (accepts p) = true
is_found (declines f) = false

abbrev pub found_in : Answer FoundAt → FoundAt
found_in (accepts p) = p
found_in (declines f) = found_at NoRecord [] 0

abbrev pub is_body : Answer Body → Bool
is_body (accepts b) = true
is_body (declines f) = false

abbrev pub body_in : Answer Body → Body
body_in (accepts b) = b
body_in (declines f) = body [] []

-- the component whose type octet stands at a place
unfoldable pub typed_here : Reading → List ℕ → ℕ → ℕ → Answer FoundAt
typed_here reading s at start = typed_at reading (get_or s at 0) s (at + 1) start

-- it was accepted
pub record Standing (reading : Reading) (s : List ℕ) (at start : ℕ) : Type 0 where
  pub within : at < length s
  pub first : 1 ≤ get_or s at 0
  pub most : get_or s at 0 ≤ 13
  pub accepted : is_found (typed_here reading s at start) ≡ true

abbrev pub found_here : Reading → List ℕ → ℕ → ℕ → FoundAt
found_here reading s at start = found_in (typed_here reading s at start)

-- what the walk over a body gave
abbrev pub body_at : Reading → List ℕ → ℕ → Body
body_at reading s stop = body_in (walk_at reading s stop)

-- what an accepted input is to a reading
abbrev pub is_read : Answer ReadRule → Bool
is_read (accepts r) = true
is_read (declines f) = false

abbrev pub rule_in : Answer ReadRule → ReadRule
rule_in (accepts r) = r
rule_in (declines f) = read_rule (body [] []) 0 None 0

abbrev pub read_of : Reading → Bool → List ℕ → ReadRule
read_of reading expected s = rule_in (read_at reading expected s)

-- where the body starts: after the length field, by its first octet
abbrev pub body_start : ℕ → ℕ
body_start octet = length_width octet

-- what lent lists of so many words, values and octets lack for a rule with so many operators: nothing, or the rule places or the
-- operator places that `roomed` carries
unfoldable pub lacking_of : ℕ → ℕ → ℕ → ℕ → Option ℕ
lacking_of operators words values octets = pick (ltb words 64) (Some 1) (pick (ltb (shorter values octets) operators) (Some operators) None)
