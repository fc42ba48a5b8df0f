-- Which stored rules are well-formed, and what matching and ranking answer where they are called by themselves: each refuses as the chooser
-- does for that rule and packet. Document 01, "What comes back", the order of refusals in choosing.
use Rattle.std.specs.Prelude.{ℕ, List, [], ◌∷◌, Bool, true, false, not, ◌&&◌, drop, eqb}
use Rattle.std.specs.declared.option.Option.{Option}
use Rattle.std.specs.declared.option.Option.TheVariants.{Some, None}
use Rattle.ground.specs.Answers.{Answer, accepts, refuses, declines}
use Rattle.ground.specs.Picks.{pick}
use Rattle.stored.specs.Distinguishers.{same_distinguisher}
use Rattle.stored.specs.Stored.{family_at, stored_at}
use Rattle.packets.specs.Packets.{Packet, packet_ok}
use Rattle.matching.specs.Rules.{rule_matches}
use Rattle.ranking.specs.Ranks.{Ordering, rank_of}
use Rattle.writing.specs.Writings.{body_in}

abbrev pub accepted {ℓ} : {A : Type ℓ} → Answer A → Bool
accepted (accepts x) = true
accepted (declines f) = false

-- the body of the 64 words from a word on by "the standard writing in the rule's own family". What that refuses by 11, 10 or 7 it refuses of the body, in
-- whatever room (`in_any_room` in proofs/)
abbrev pub own_body : List ℕ → List ℕ → List ℕ → ℕ → Answer (List ℕ)
own_body words values octets at = body_in (family_at words at) (drop at words) values octets

-- "10 (any rule the standard writing in the rule's own family refuses by 11, 10 or 7; every other is well-formed)"
unfoldable pub well_formed : List ℕ → List ℕ → List ℕ → ℕ → Bool
well_formed words values octets at = accepted (own_body words values octets at)

-- what is told of the rule from a word on, where it is well-formed: whether the packet satisfies it, where that is asked
abbrev pub judged : Bool → Bool → Option Bool
judged formed met = pick formed (Some met) None

abbrev pub judgement : List ℕ → List ℕ → List ℕ → Packet → Bool → ℕ → Option Bool
judgement words values octets p ask at = judged (well_formed words values octets at) (ask && rule_matches values octets p (stored_at words at))

-- whether a packet satisfies the rule at the front of the words: "13, 10 .., 14 (a rule's family is not the packet's)", at place 0
unfoldable pub match_verdict : List ℕ → List ℕ → List ℕ → Packet → Answer Bool
match_verdict words values octets p =
    pick (not (packet_ok p)) (refuses 13 [])
    (pick (not (well_formed words values octets 0)) (refuses 10 [])
    (pick (not (eqb (stored_at words 0).head.family p.family)) (refuses 14 (0 ∷ []))
    (accepts (rule_matches values octets p (stored_at words 0)))))

-- what the rule at the front of the first words is to the one at the front of the second: 10 of either; of two families, 14 at place 1, the
-- second rule's; of two distinguishers, 20 at place 1
unfoldable pub rank_verdict : List ℕ → List ℕ → List ℕ → List ℕ → List ℕ → List ℕ → Answer Ordering
rank_verdict words values octets words2 values2 octets2 =
    pick (not (well_formed words values octets 0)) (refuses 10 [])
    (pick (not (well_formed words2 values2 octets2 0)) (refuses 10 [])
    (pick (not (eqb (stored_at words 0).head.family (stored_at words2 0).head.family)) (refuses 14 (1 ∷ []))
    (pick (not (same_distinguisher (stored_at words2 0).head.distinguisher (stored_at words 0).head.distinguisher)) (refuses 20 (1 ∷ []))
    (accepts (rank_of values octets (stored_at words 0) values2 octets2 (stored_at words2 0))))))
