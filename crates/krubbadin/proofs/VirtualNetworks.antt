-- Rules of virtual networks: document 01, "Rules of virtual networks"; RFC 8955, 8. What is said of a distinguisher, in one place, over the definitions that
-- the contracts of the exported functions cite.
--
-- Reading: `plain_knows_none`, `short_only`, `short_told`, `counts_on` and `nothing_behind` (`crates/reading/proofs/Distinguishers.antt`).
-- Writing: the standard writings write it before the components (`written_before`), and the plain one writes the same of a rule with any or with none
-- (`plain_writes_none`). The round trips hold with it: `crates/roundtrips/proofs/RoundTrips.antt`.
-- Deciding: it takes no part in matching or rank (`matches_alike`, `ranks_alike`). What the chooser accepts has one distinguisher, absent counting as its
-- own (`one_distinguisher`); 20 is told where no rule is of another family (`refuses_distinguisher`), and wherever one is, it is 14 (`refuses_family`).
use Prim.Native.Nat.{ℕ, ◌<◌}
use mathlib.Core.Path.{◌≡◌, refl}
use mathlib.Core.List.{List, ◌++◌}
use Rattle.std.specs.Prelude.{Option}
use Rattle.ground.specs.Answers.{accepts}
use Rattle.choices.specs.declared.Reading.{Reading}
use Rattle.choices.specs.declared.Reading.TheVariants.{Plain}
use Rattle.stored.specs.Stored.{StoredRule, stored_rule, head}
use Rattle.measuring.specs.Bodies.{lent, distinguisher_octets, body_octets}
use Rattle.measuring.specs.Grounds.{body_of}
use Rattle.measuring.proofs.Laws.{body_shows}
use Rattle.writing.specs.Writings.{rule_body, written_rule}
use Rattle.packets.specs.Packets.{Packet}
use Rattle.matching.specs.Rules.{rule_matches}
use Rattle.ranking.specs.Ranks.{rank_of}
use Rattle.choosing.specs.Choosing.{Table, rules_in, held_at, Choice, chosen_in}
use Rattle.choosing.proofs.Demand3.{accepts_exactly}
pub use Rattle.reading.proofs.Distinguishers.{plain_knows_none, short_only, short_told, counts_on, nothing_behind}
pub use Rattle.choosing.proofs.Demand3.{refuses_family, refuses_distinguisher}

-- a rule under another distinguisher, or under none
abbrev pub under : Option ℕ → StoredRule → StoredRule
under d s = stored_rule s.pieces (head s.head.family s.head.first d)

-- ---- writing

pub written_before : (w : Reading) (s : StoredRule) (values octets body : List ℕ) → rule_body w s values octets ≡ accepts body
    → body ≡ distinguisher_octets w s.head.distinguisher ++ body_octets w (lent values octets s.head.first) s.pieces
written_before w s values octets body e = (body_shows w (lent values octets s.head.first) s.pieces s.head.distinguisher body e).1

pub plain_writes_none : (d : Option ℕ) (s : StoredRule) (values octets : List ℕ) (room : ℕ) → written_rule Plain (under d s) values octets room ≡ written_rule Plain s values octets room
unfolding written_rule body_of
plain_writes_none d s values octets room = refl

-- ---- deciding

pub matches_alike : (d : Option ℕ) (s : StoredRule) (values octets : List ℕ) (p : Packet) → rule_matches values octets p (under d s) ≡ rule_matches values octets p s
unfolding rule_matches
matches_alike d s values octets p = refl

pub ranks_alike : (d e : Option ℕ) (r s : StoredRule) (values octets values2 octets2 : List ℕ) → rank_of values octets (under d r) values2 octets2 (under e s) ≡ rank_of values octets r values2 octets2 s
unfolding rank_of
ranks_alike d e r s values octets values2 octets2 = refl

pub one_distinguisher : (t : Table) (p : Packet) (c : Choice) → chosen_in t p ≡ accepts c → (i : ℕ) → i < rules_in t → (held_at t i).head.distinguisher ≡ (held_at t 0).head.distinguisher
one_distinguisher t p c e = (accepts_exactly t p c e).fits.of_one
