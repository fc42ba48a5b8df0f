-- What the loops promise each other: where a run stands within its list. No public promise of a reading rests on these but through
-- `Lists`.
use Rattle.std.specs.declared.ops.ControlFlow.{ControlFlow}
use Rattle.std.specs.declared.ops.ControlFlow.TheVariants.{Continue, Break}
use Rattle.std.specs.Prelude.{ℕ, ◌+◌, ◌-◌, ◌%◌, ◌≤◌, ◌<◌, ◌≡◌, Bool, true, false, ◌&&◌, List, [], ◌∷◌, map, length, get_or, eqb, leb, ltb}
use Rattle.std.proofs.lemmas.List.Edits.{sets}
use Rattle.ground.specs.Answers.{Answer, accepts}
use Rattle.ground.specs.Picks.{pick}
use Rattle.octets.specs.Widths.{code_in, width_of}
use Rattle.choices.specs.declared.Reading.{Reading}
use Rattle.operators.specs.declared.Kind.{Kind}
use Rattle.choices.specs.Choices.{codes_in, limit_of}
use Rattle.operators.specs.Ops.{kind_of, Op, octet_of, number_of}
use Rattle.lists.specs.declared.Tally.{Tally}
use Rattle.lists.specs.Lists.{tally, plus, list_at, ops_at, cleared_op}

-- ---- the first pass

-- what is left of a list at a place, after n operators
unfoldable pub rest : Reading → ℕ → List ℕ → ℕ → ℕ → Answer Tally
rest reading type s at n = plus n (list_at reading type s at)

-- n operators stand before a place within the octets
pub record Begun (s : List ℕ) (at n : ℕ) : Type 0 where
  pub place : n ≤ at
  pub within : at ≤ length s

-- where a run stopped: past the list's last operator, or before another
abbrev pub Ran : Type 0
Ran = ControlFlow Tally Tally

abbrev pub stop : Ran → Tally
stop (Continue t) = t
stop (Break t) = t

-- what is left there: nothing past the last
abbrev pub reached : Reading → ℕ → List ℕ → Ran → Answer Tally
reached reading type s (Continue t) = rest reading type s t.next.at t.count
reached reading type s (Break t) = accepts t

-- a reading and a type that take a width code, and have the bound on an octet's low four bits
pub record Takes (code bound : ℕ) (reading : Reading) (type : ℕ) : Type 0 where
  pub width : code < codes_in reading type
  pub limit : bound ≡ limit_of reading (kind_of type)

-- a run from a place on is so many steps: what is left there is what is left where it stopped, whatever reading and type take the run's code and
-- have its bound
pub record Passed (code bound : ℕ) (s : List ℕ) (at n : ℕ) (r : Ran) : Type 0 where
  pub same : (reading : Reading) (type : ℕ) → Takes code bound reading type → rest reading type s at n ≡ reached reading type s r
  pub on : at ≤ (stop r).next.at
  pub place : (stop r).count ≤ (stop r).next.at
  pub within : (stop r).next.at ≤ length s

-- the octet has the end mark, and its value is one octet
abbrev pub lone : ℕ → Bool
lone octet = leb 128 octet && eqb (code_in octet) 0

-- such an operator is at a place and whole, and has no bit that any reading reserves: it is the list
unfoldable pub alone_at : List ℕ → ℕ → Bool
alone_at s at = pick (ltb (length s - at) 2) false (lone (get_or s at 0) && ltb (get_or s at 0 % 16) 4)

-- ---- the second pass: no octet is tested again, so it goes by the operators that stand there, in whatever reading they were accepted

-- n places from start on are within both lists
pub record Places (start n values octets : ℕ) : Type 0 where
  pub in_values : start + n ≤ values
  pub in_octets : start + n ≤ octets

-- whether there is one with the end mark
abbrev pub marked : List Op → Bool
marked [] = false
marked (o ∷ os) = pick (leb 128 o.octet) true (marked os)

-- how many octets they have
abbrev pub size_of : List Op → ℕ
size_of [] = 0
size_of (o ∷ os) = 1 + width_of o.octet + size_of os

-- where a whole list ends, with n operators before it
unfoldable pub ends : List ℕ → ℕ → ℕ → Tally
ends s at n = tally (n + length (ops_at s at)) (at + size_of (ops_at s at))

-- the operators at a place as they are recorded, but for a first one
unfoldable pub left : Kind → List ℕ → ℕ → List Op
left kind s at = map (cleared_op kind) (ops_at s at)

-- n operators are stored, and those that are left are whole and have room
pub record Filling (s : List ℕ) (at n values octets : ℕ) : Type 0 where
  pub place : n ≤ at
  pub whole : marked (ops_at s at) ≡ true
  pub in_values : n + length (ops_at s at) ≤ values
  pub in_octets : n + length (ops_at s at) ≤ octets

-- from one place of a fill to a later one: what was left to store there is what was stored since and what is left here
pub record Filled (kind : Kind) (s : List ℕ) (vs₀ os₀ : List ℕ) (at₀ n₀ : ℕ) (vs os : List ℕ) (at n : ℕ) : Type 0 where
  pub filling : Filling s at n (length vs) (length os)
  pub list : ends s at₀ n₀ ≡ ends s at n
  pub values : sets vs₀ n₀ (map number_of (left kind s at₀)) ≡ sets vs n (map number_of (left kind s at))
  pub octets : sets os₀ n₀ (map octet_of (left kind s at₀)) ≡ sets os n (map octet_of (left kind s at))
  pub long_values : length vs ≡ length vs₀
  pub long_octets : length os ≡ length os₀
  pub on : at₀ ≤ at
  pub within : at ≤ length s

-- the list at a place is stored to its end, after n₀ operators
pub record Stored (kind : Kind) (s : List ℕ) (vs₀ os₀ : List ℕ) (at₀ n₀ : ℕ) (vs os : List ℕ) (end : Tally) : Type 0 where
  pub list : end ≡ ends s at₀ n₀
  pub values : vs ≡ sets vs₀ n₀ (map number_of (left kind s at₀))
  pub octets : os ≡ sets os₀ n₀ (map octet_of (left kind s at₀))

-- a run of a fill: it stored the list to its end, or came to a later operator, which has another width
abbrev pub FilledBy : Kind → List ℕ → List ℕ → List ℕ → ℕ → ℕ → List ℕ → List ℕ → Ran → Type 0
FilledBy kind s vs₀ os₀ at₀ n₀ vs os (Continue t) = Filled kind s vs₀ os₀ at₀ n₀ vs os t.next.at t.count × (at₀ < t.next.at)
FilledBy kind s vs₀ os₀ at₀ n₀ vs os (Break end) = Stored kind s vs₀ os₀ at₀ n₀ vs os end
