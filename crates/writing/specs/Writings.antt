-- Whole rules written: document 01, "Writing" and "What comes back". The octets of a body stand in `measuring`, with the grounds of BadRecord.
-- One definition has the answer and the output: what is accepted is the octets. What a writing refuses by 11, 10 and 7 is told of the body, before
-- any room is asked for.
use Rattle.std.specs.Prelude.{ℕ, Bool, true, false, ◌||◌, List, [], ◌∷◌, ◌++◌, length, eqb, ltb}
use Rattle.ground.specs.Answers.{Answer, accepts, refuses, declines}
use Rattle.ground.specs.Picks.{pick}
use Rattle.octets.specs.Lengths.{length_octets}
use Rattle.choices.specs.declared.Reading.{Reading}
use Rattle.choices.specs.Choices.{standard_of}
use Rattle.stored.specs.Stored.{StoredRule, rule_at}
use Rattle.measuring.specs.Bodies.{lent}
use Rattle.measuring.specs.Grounds.{body_of}
-- how many octets an answer has, as it is told
pub use Rattle.measuring.specs.Grounds.{counted}

-- the octets that an answer leaves in the output: "A refusal changes no lent octet"
abbrev pub octets_in : Answer (List ℕ) → List ℕ
octets_in (accepts xs) = xs
octets_in (declines f) = []

abbrev pub accepted : Answer (List ℕ) → Bool
accepted (accepts xs) = true
accepted (declines f) = false

-- "refuses by 11, 10 or 7"
abbrev pub refuses_rule : Answer (List ℕ) → Bool
refuses_rule (accepts xs) = false
refuses_rule (declines f) = eqb f.number 11 || (eqb f.number 10 || eqb f.number 7)

-- what follows an answer that is accepted; a refusal stays
abbrev pub on_accepted {ℓ} : {A : Type ℓ} → Answer A → (A → Answer (List ℕ)) → Answer (List ℕ)
on_accepted (accepts x) f = f x
on_accepted (declines g) f = declines g

-- ---- the body: "Writing: 11, 10, 7"

-- a rule's own family is not looked at, since a writing is told its family by the call; its distinguisher is, by a standard writing
abbrev pub rule_body : Reading → StoredRule → List ℕ → List ℕ → Answer (List ℕ)
rule_body w s values octets = body_of w (lent values octets s.head.first) s.head.distinguisher s.pieces

-- of the rule that stands at the front of lent words: words that are no rule are BadRecord
unfoldable pub body_from : Reading → List ℕ → List ℕ → List ℕ → Answer (List ℕ)
body_from w words values octets = on_accepted (rule_at words 0) (λ s. rule_body w s values octets)

-- by the standard writing in a family
unfoldable pub body_in : ℕ → List ℕ → List ℕ → List ℕ → Answer (List ℕ)
body_in family words values octets = on_accepted (standard_of family) (λ w. body_from w words values octets)

-- ---- the whole: "9"

-- the body after its length
abbrev pub nlri_octets : List ℕ → List ℕ
nlri_octets body = length_octets (length body) ++ body

-- NoRoom carries the octets of the whole
abbrev pub in_room : ℕ → List ℕ → Answer (List ℕ)
in_room room body = pick (ltb room (length (nlri_octets body))) (refuses 9 (length (nlri_octets body) ∷ [])) (accepts (nlri_octets body))

unfoldable pub written_rule : Reading → StoredRule → List ℕ → List ℕ → ℕ → Answer (List ℕ)
written_rule w s values octets room = on_accepted (rule_body w s values octets) (in_room room)

unfoldable pub written_from : Reading → List ℕ → List ℕ → List ℕ → ℕ → Answer (List ℕ)
written_from w words values octets room = on_accepted (body_from w words values octets) (in_room room)

unfoldable pub written_in : ℕ → List ℕ → List ℕ → List ℕ → ℕ → Answer (List ℕ)
written_in family words values octets room = on_accepted (body_in family words values octets) (in_room room)
