-- The rule by value: a component and the piece that it is, a rule and what its words tell. Nothing else takes a component apart.
use Rattle.std.specs.Prelude.{ℕ, ◌+◌, ◌-◌, ◌*◌, ◌/◌, List, [], ◌∷◌, ◌++◌, map, ◌||◌, length, replicate, ltb, leb}
use Rattle.std.proofs.lemmas.List.Edits.{sets}
use Rattle.ground.specs.Answers.{Answer, accepts, refuses, declines}
use Rattle.ground.specs.Picks.{pick}
use Rattle.rules.specs.declared.Span.{Span}
use Rattle.rules.specs.declared.FlowSpecComponent.{FlowSpecComponent}
use Rattle.rules.specs.declared.FlowSpecComponent.TheVariants.{Nothing, DestinationPrefix, SourcePrefix, IpProtocol, Port, DestinationPort, SourcePort, IcmpType, IcmpCode, TcpFlags, PacketLength, Dscp, Fragment, FlowLabel}
use Rattle.rules.specs.declared.FlowSpecNlri.{FlowSpecNlri}
use Rattle.rules.specs.Components.{prefix_of, list_of, holds_one, covered, components_of}
use Rattle.stored.specs.declared.Piece.{Piece}
use Rattle.stored.specs.declared.Piece.TheVariants.{Prefix, Operators, NoRecord}
use Rattle.stored.specs.Stored.{StoredRule, stored_rule, head, rule_words}

-- ---- a component and the piece that it is

abbrev pub listed : ℕ → Span → Piece
listed t s = Operators t s.start s.count

-- an unused place is none
abbrev pub apart : FlowSpecComponent → Piece
apart Nothing = NoRecord
apart (DestinationPrefix p) = Prefix 1 p
apart (SourcePrefix p) = Prefix 2 p
apart (IpProtocol s) = listed 3 s
apart (Port s) = listed 4 s
apart (DestinationPort s) = listed 5 s
apart (SourcePort s) = listed 6 s
apart (IcmpType s) = listed 7 s
apart (IcmpCode s) = listed 8 s
apart (TcpFlags s) = listed 9 s
apart (PacketLength s) = listed 10 s
apart (Dscp s) = listed 11 s
apart (Fragment s) = listed 12 s
apart (FlowLabel s) = listed 13 s

abbrev pub joined : Piece → FlowSpecComponent
joined (Prefix t p) = prefix_of t p
joined (Operators t start count) = list_of t (record { start = start; count = count })
joined NoRecord = Nothing

-- ---- a rule and what its words tell

-- the pieces of the slots that a count covers, and the slots of some pieces, unused places empty
abbrev pub pieces_in : ℕ → List FlowSpecComponent → List Piece
pieces_in count slots = map apart (covered count slots)

abbrev pub slot_for : Piece → FlowSpecComponent
slot_for p = joined p

abbrev pub slots_of : List Piece → List FlowSpecComponent
slots_of ps = map slot_for ps ++ replicate (13 - length ps) Nothing

abbrev pub rule_of : StoredRule → FlowSpecNlri
rule_of s = record { slots = slots_of s.pieces; count = length s.pieces; family = s.head.family; first = s.head.first; distinguisher = s.head.distinguisher }

abbrev pub stored_of : FlowSpecNlri → StoredRule
stored_of r = stored_rule (pieces_in r.count r.slots) (head r.family r.first r.distinguisher)

-- ---- reading a place

-- the rule by value of what stands there
abbrev pub rule_in : Answer StoredRule → Answer FlowSpecNlri
rule_in (accepts s) = accepts (rule_of s)
rule_in (declines f) = declines f

-- ---- storing to a place

-- the places that a rule at a place needs; the largest number stands for one that no machine word holds
abbrev pub places_needed : ℕ → ℕ
places_needed place = pick (ltb place 18446744073709551615) (place + 1) place

-- "BadRecord: over a maximum", or a component that is none; then NoRoom
abbrev pub store_pick {ℓ} : {A : Type ℓ} → List ℕ → ℕ → FlowSpecNlri → A → A → A → A
store_pick ws place r bad short done = pick (ltb 13 r.count || holds_one 1 (components_of r)) bad (pick (leb (length ws / 64) place) short done)

unfoldable pub store_answer : List ℕ → ℕ → FlowSpecNlri → Answer (Unit {0})
store_answer ws place r = store_pick ws place r (refuses 10 []) (refuses 9 (places_needed place ∷ [])) (accepts tt)

unfoldable pub store_into : List ℕ → ℕ → FlowSpecNlri → List ℕ
store_into ws place r = store_pick ws place r ws ws (sets ws (64 * place) (rule_words (stored_of r).pieces (stored_of r).head))
