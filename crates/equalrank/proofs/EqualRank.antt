-- Equal rank means equal octets. Of any two well-formed rules of one family and one distinguisher, absent counting as its own (`Comparable`), over what the
-- public functions answer: `ranked_as` is what `verdicts::rank` and `krubbadin_rank` answer of two, `written_as` what `writing::write` and
-- `krubbadin_write` put of one, told its family, and `standard_into` what `reading::read` and `krubbadin_read` answer.
--
-- (a) Ranking answers of two exactly if they are so (`ranks_where`, `ranks_only`), and the standard writing gives octets of each, 4,097 at most, wherever
--     there is room for them (`with_room`).
-- (b) They rank equal exactly when the standard writing, with room, gives the same octets (`equal_exactly`); in too little room it then refuses alike
--     (`equal_any_room`). With the round trip: exactly when the standard reading of what was written, whatever follows it, gives the same rule
--     (`equal_read`); it accepts that wherever there is room (`written_read_in` in crates/roundtrips/proofs/RoundTrips.antt).
-- (c) Of two that do not rank equal exactly one precedes (`one_precedes`), and preceding carries through a third (`carries`).
-- (d) Where the first component in which they differ is not a prefix in both, or is one of equal length in both, whatever their offsets, rank is the
--     comparison of the bodies octet by octet, an ended body counting above every octet (`rank_by_octets`). Where it is not, it need not be: 10.0.0.0/16
--     precedes 11.0.0.0/8, though `01 10` is above `01 08` (`not_by_octets`).
--
-- The bits that two addresses share are counted by the leading zeros of the exclusive-or of the halves: the contracts of `ranking::shared_half` and
-- `shared_bits` say that they answer how many first bits are the same (`Shares` in crates/ranking/specs/Ranks.antt); the leading zeros of two words are so
-- many, and no other number is (`shares` and `shares_once` in crates/ranking/proofs/LeadingBits.antt).
--
-- Words are below 2 ^ 64, as their type has it (`Words`); this is asked where something is read. Assumes nothing else.
use Prim.Native.Nat.{ℕ}
use mathlib.Core.Path.{◌≡◌, refl, sym, ◌∙◌, ap, ap₂}
use mathlib.Core.List.{List, [], ◌∷◌, ◌++◌}
use Rattle.std.specs.Prelude.{None}
use Rattle.ground.specs.Answers.{Answer, accepts}
use Rattle.ground.proofs.Answers.{same_accepted}
use Rattle.choices.specs.declared.Reading.{Reading}
use Rattle.choices.specs.Choices.{standard_of}
use Rattle.octets.specs.Lengths.{length_octets}
use Rattle.octets.specs.Spell.{spelled}
use Rattle.rules.specs.declared.NetworkPrefix.TheVariants.{Ipv4}
use Rattle.stored.specs.declared.Piece.TheVariants.{Prefix}
use Rattle.stored.specs.Distinguishers.{distinguisher_at, is_distinguisher}
use Rattle.stored.specs.Pieces.{named, is_piece, piece_of, piece_at}
use Rattle.stored.specs.Stored.{head, all_words, tail_words, rule_words, family_at, pieces_from, records_from, zeros_from, is_framed, is_rule, stored_at, rule_at}
use Rattle.measuring.specs.Bodies.{piece_octets, body_octets}
use Rattle.measuring.specs.Grounds.{all_operators, piece_taken, all_taken, in_order, taken_after, body_of}
use Rattle.writing.specs.Writings.{body_from, body_in, nlri_octets, on_accepted, in_room, written_in}
use Rattle.reading.specs.Readings.{ReadRule, standard_into}
use Rattle.roundtrips.specs.Trips.{expected, Words}
use Rattle.ranking.specs.Ranks.{Ordering, Precedes, Equal, Follows, in_turn, rank_octets, rank_front, rank_compared, rank_of}
use Rattle.ranking.proofs.Laws.{Ruled, One, first, neither, second, one_of_three, through}
use Rattle.verdicts.specs.Verdicts.{well_formed, rank_verdict}
use Rattle.equalrank.specs.Pairs.{Lending, pieces_of, lent_of, distinguisher_of, ranked_as, rank_by, written_as, IsFormed, Comparable, Gives, OnePrecedes, first as the_first, second as the_second, SameRule, ByOctets}
use Rattle.equalrank.proofs.CanonicalOctets.{canonical_octets}
use Rattle.equalrank.proofs.LentRules.{writes, written_is, nlri_same, ranks_by, ranked_comparable}
use Rattle.equalrank.proofs.PairedBodies.{both, equal_bodies, components_equal, bodies_equal, ordered_bodies}
use Rattle.equalrank.proofs.ReadBack.{read_is, same_back}

-- ---- (a)

pub ranks_where : (a b : Lending) → Comparable a b → ranked_as a b ≡ accepts (rank_by a b)
ranks_where = ranks_by

pub ranks_only : (a b : Lending) (o : Ordering) → ranked_as a b ≡ accepts o → Comparable a b
ranks_only = ranked_comparable

pub with_room : (a : Lending) → IsFormed a → Gives a
with_room = writes

-- ---- (b)

pub equal_any_room : (a b : Lending) → ranked_as a b ≡ accepts Equal → (room : ℕ) → written_as a room ≡ written_as b room
unfolding written_in
equal_any_room a b e room =
    let c = ranked_comparable a b Equal e in
    let p = both a b c in
    ap (λ (x : Answer (List ℕ)). on_accepted x (in_room room)) (p.has ∙ ap accepts (equal_bodies a b c e) ∙ sym p.has2)

module _ (a b : Lending) (c : Comparable a b) (room room2 : ℕ) (xs ys : List ℕ) (e : written_as a room ≡ accepts xs) (f : written_as b room2 ≡ accepts ys) where
  pub equal_exactly : (ranked_as a b ≡ accepts Equal → xs ≡ ys) × (xs ≡ ys → ranked_as a b ≡ accepts Equal)
  equal_exactly =
      let p = both a b c in
      let i : xs ≡ nlri_octets p.body = written_is a p.body p.has room xs e in
      let j : ys ≡ nlri_octets p.body2 = written_is b p.body2 p.has2 room2 ys f in
      (λ q. i ∙ ap (λ (x : List ℕ). nlri_octets x) (equal_bodies a b c q) ∙ sym j, λ q. bodies_equal a b c (nlri_same p.body p.body2 (sym i ∙ q ∙ j)))

  pub equal_read : Words a.words → Words b.words → (zs zs2 : List ℕ) (words values octets words2 values2 octets2 : ℕ) (r s : ReadRule)
      → standard_into (family_at a.words 0) (expected (distinguisher_of a)) (xs ++ zs) words values octets ≡ accepts r
      → standard_into (family_at b.words 0) (expected (distinguisher_of b)) (ys ++ zs2) words2 values2 octets2 ≡ accepts s
      → (ranked_as a b ≡ accepts Equal → r ≡ s) × (SameRule r s → ranked_as a b ≡ accepts Equal)
  equal_read ws ws2 zs zs2 words values octets words2 values2 octets2 r s h k =
      let p = read_is a c.formed ws room xs e zs words values octets r h in
      let q = read_is b c.formed2 ws2 room2 ys f zs2 words2 values2 octets2 s k in (
        λ z. p ∙ same_back a b c ws ws2 room room2 xs ys e f (equal_exactly.0 z) ∙ sym q,
        λ z. components_equal a b c
            (canonical_octets (both a b c).reading (lent_of a) (lent_of b) (pieces_of a) (pieces_of b)
            (sym (ap (λ (x : ReadRule). x.pieces) p) ∙ z.0 ∙ ap (λ (x : ReadRule). x.pieces) q)
            (sym (ap (λ (x : ReadRule). x.operators) p) ∙ z.1 ∙ ap (λ (x : ReadRule). x.operators) q)),
      )

-- ---- (c)

abbrev ruled : Lending → Ruled
ruled a = record { values = a.values; octets = a.octets; rule = stored_at a.words 0 }

turned : (a b : Lending) → Comparable a b → Comparable b a
turned a b c = record { formed = c.formed2; formed2 = c.formed; of_family = sym c.of_family; of_one = sym c.of_one }

pub one_precedes : (a b : Lending) → Comparable a b → (ranked_as a b ≡ accepts Equal → ⊥) → OnePrecedes a b
one_precedes a b c n = by_one (one_of_three (ruled a) (ruled b)) where
  by_one : One (rank_by a b) (rank_by b a) → OnePrecedes a b
  by_one (first e f) = the_first (ranks_by a b c ∙ ap accepts e) (ranks_by b a (turned a b c) ∙ ap accepts f)
  by_one (neither e f) = absurd (n (ranks_by a b c ∙ ap accepts e))
  by_one (second e f) = the_second (ranks_by a b c ∙ ap accepts e) (ranks_by b a (turned a b c) ∙ ap accepts f)

pub carries : (a b c : Lending) → ranked_as a b ≡ accepts Precedes → ranked_as b c ≡ accepts Precedes → ranked_as a c ≡ accepts Precedes
carries a b c e f =
    let p = ranked_comparable a b Precedes e in
    let q = ranked_comparable b c Precedes f in
    let r : Comparable a c = record { formed = p.formed; formed2 = q.formed2; of_family = p.of_family ∙ q.of_family; of_one = p.of_one ∙ q.of_one } in
    ranks_by a c r ∙ ap accepts (through (ruled a) (ruled b) (ruled c) (same_accepted (sym (ranks_by a b p) ∙ e)) (same_accepted (sym (ranks_by b c q) ∙ f)))

-- ---- (d)

pub rank_by_octets : (a b : Lending) → Comparable a b → (room room2 : ℕ) (x y : List ℕ) → written_as a room ≡ accepts (nlri_octets x) → written_as b room2 ≡ accepts (nlri_octets y)
    → (w : Reading) → standard_of (family_at a.words 0) ≡ accepts w → ByOctets w a b → ranked_as a b ≡ accepts (rank_octets x y)
rank_by_octets a b c room room2 x y e f w i d =
    let p = both a b c in
    let j : x ≡ p.body = nlri_same x p.body (written_is a p.body p.has room (nlri_octets x) e) in
    let k : y ≡ p.body2 = nlri_same y p.body2 (written_is b p.body2 p.has2 room2 (nlri_octets y) f) in
    ordered_bodies a b c w i d ∙ ap accepts (sym (ap₂ rank_octets j k))

-- "10.0.0.0/16 precedes 11.0.0.0/8, though `01 10` is above `01 08`"
abbrev one_prefix : ℕ → ℕ → Lending
one_prefix len address = record { words = rule_words (Prefix 1 (Ipv4 len address) ∷ []) (head 4 0 None); values = []; octets = [] }

pub not_by_octets : (ranked_as (one_prefix 16 167772160) (one_prefix 8 184549376) ≡ accepts Precedes)
    × (written_as (one_prefix 16 167772160) 5 ≡ accepts (4 ∷ 1 ∷ 16 ∷ 10 ∷ 0 ∷ []))
    × (written_as (one_prefix 8 184549376) 4 ≡ accepts (3 ∷ 1 ∷ 8 ∷ 11 ∷ []))
    × (rank_octets (1 ∷ 16 ∷ 10 ∷ 0 ∷ []) (1 ∷ 8 ∷ 11 ∷ []) ≡ Follows)
unfolding rank_verdict well_formed written_in body_in body_from body_of standard_of length_octets spelled piece_octets body_octets all_operators piece_taken all_taken in_order taken_after all_words tail_words rule_words named is_piece piece_of piece_at pieces_from records_from zeros_from is_framed is_rule rule_at distinguisher_at is_distinguisher in_turn rank_front rank_compared rank_of
not_by_octets = (refl, refl, refl, refl)
