-- Which of the stored rules decides on a packet: document 01, "Matching and ranking" and "What comes back"; RFC 8955, 5.1. `Decides` is what
-- a user asks of the answer, and `chosen_in` the answer itself; `Demand3` in proofs/ says that the one is the other.
use Rattle.std.specs.Prelude.{ℕ, zero, suc, ◌*◌, ◌/◌, ◌%◌, ◌≤◌, ◌<◌, ◌≡◌, List, [], ◌∷◌, Bool, true, false, not, ◌&&◌, length, ltb, eqb}
use Rattle.std.specs.declared.option.Option.{Option}
use Rattle.std.specs.declared.option.Option.TheVariants.{Some, None}
use Rattle.std.specs.declared.result.Result.{Result}
use Rattle.ground.specs.Answers.{Answer, accepts, refuses, declines}
use Rattle.ground.specs.Picks.{pick}
use Rattle.refusals.specs.declared.Fault.{Fault}
use Rattle.refusals.specs.Refusals.{answered_by}
use Rattle.stored.specs.Distinguishers.{same_distinguisher}
use Rattle.stored.specs.Stored.{StoredRule, stored_at}
use Rattle.packets.specs.Packets.{Packet, packet_ok}
use Rattle.matching.specs.Rules.{rule_matches}
use Rattle.ranking.specs.Ranks.{Ordering, Precedes, Equal, rank_of, is_before}
use Rattle.verdicts.specs.Verdicts.{well_formed}

-- ---- the table: rules of 64 words one after another, and the lists that hold the operators of all of them

pub record Table : Type 0 where
  pub words : List ℕ
  pub values : List ℕ
  pub octets : List ℕ

abbrev pub table : List ℕ → List ℕ → List ℕ → Table
table words values octets = record { words = words; values = values; octets = octets }

abbrev pub rules_in : Table → ℕ
rules_in t = length t.words / 64

-- words that make no whole rule are no record
abbrev pub whole_rules : Table → Bool
whole_rules t = eqb (length t.words % 64) 0

abbrev pub held_at : Table → ℕ → StoredRule
held_at t i = stored_at t.words (64 * i)

abbrev pub formed_at : Table → ℕ → Bool
formed_at t i = well_formed t.words t.values t.octets (64 * i)

abbrev pub family_is : Table → ℕ → ℕ → Bool
family_is t family i = eqb (held_at t i).head.family family

-- whether the rule at a place has the distinguisher that the rule at place 0 has
abbrev pub like_first : Table → ℕ → Bool
like_first t i = same_distinguisher (held_at t i).head.distinguisher (held_at t 0).head.distinguisher

abbrev pub matches_at : Table → Packet → ℕ → Bool
matches_at t p i = rule_matches t.values t.octets p (held_at t i)

-- what the rule at one place is to the rule at another
abbrev pub rank_at : Table → ℕ → ℕ → Ordering
rank_at t i j = rank_of t.values t.octets (held_at t i) t.values t.octets (held_at t j)

-- ---- demand 3: "the rule we name matches, no other matching rule precedes it by the RFCs' order, of equals the first stored is named, and
-- 'no rule' is said exactly when none matches"

pub data Choice : Type 0 where
  place : ℕ → Choice
  none : Choice

pub record Named (t : Table) (p : Packet) (i : ℕ) : Type 0 where
  pub stored : i < rules_in t
  pub matches : matches_at t p i ≡ true
  pub unpreceded : (j : ℕ) → j < rules_in t → matches_at t p j ≡ true → rank_at t j i ≡ Precedes → ⊥
  pub first : (j : ℕ) → j < rules_in t → matches_at t p j ≡ true → rank_at t j i ≡ Equal → i ≤ j

abbrev pub Decides : Table → Packet → Choice → Type 0
Decides t p (place i) = Named t p i
Decides t p none = (j : ℕ) → j < rules_in t → matches_at t p j ≡ false

-- ---- the answer

unfoldable pub all_below : (ℕ → Bool) → ℕ → Bool
all_below f zero = true
all_below f (suc n) = all_below f n && f n

-- the first place that fails a test
abbrev pub or_else : Choice → Choice → Choice
or_else (place i) c = place i
or_else none c = c

unfoldable pub first_failing : (ℕ → Bool) → ℕ → Choice
first_failing f zero = none
first_failing f (suc n) = or_else (first_failing f n) (pick (f n) none (place n))

-- of those below n that match, the one that no other precedes: a later one takes the place of an earlier only where it precedes it
abbrev pub better : Table → Choice → ℕ → Choice
better t none n = place n
better t (place b) n = pick (is_before (rank_at t n b)) (place n) (place b)

unfoldable pub best_below : Table → Packet → ℕ → Choice
best_below t p zero = none
best_below t p (suc n) = pick (matches_at t p n) (better t (best_below t p n) n) (best_below t p n)

-- a refusal by a number that carries a place, where there is one
abbrev pub unless_place : ℕ → Choice → Answer Choice → Answer Choice
unless_place number (place i) a = refuses number (i ∷ [])
unless_place number none a = a

-- "Choosing: 12, 13, 10 .., 14 (a rule's family is not the packet's), 20 (a rule's distinguisher is not that of place 0)"; TooManyRules carries the
-- number, MixedFamily and MixedDistinguisher the "first such place"
unfoldable pub chosen_in : Table → Packet → Answer Choice
chosen_in t p =
    pick (ltb 64 (rules_in t)) (refuses 12 (rules_in t ∷ []))
    (pick (not (packet_ok p)) (refuses 13 [])
    (pick (not (whole_rules t && all_below (formed_at t) (rules_in t))) (refuses 10 [])
    (unless_place 14 (first_failing (family_is t p.family) (rules_in t))
    (unless_place 20 (first_failing (like_first t) (rules_in t)) (accepts (best_below t p (rules_in t)))))))

-- the answer as it is told
abbrev pub choice_of : Option ℕ → Choice
choice_of (Some i) = place i
choice_of None = none

abbrev pub told_chosen : Result (Option ℕ) Fault → Answer Choice
told_chosen = answered_by choice_of

-- an answer that names no refusal decides
abbrev pub Decided : Table → Packet → Answer Choice → Type 0
Decided t p (accepts c) = Decides t p c
Decided t p (declines f) = Unit {0}
