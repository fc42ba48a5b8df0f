-- The starred cases that speak of every packet and of every address, over what the public call answers: `00` matches every packet in range of the rule's
-- family, and so does IPv6 `03 01 00 00`, whatever its address. The rows of `Cases` have the rules themselves.
use Rattle.std.specs.Prelude.{ℕ, ◌≡◌, refl, true, false, List, [], ◌∷◌}
use Rattle.std.proofs.Common.{sym, ◌∙◌, eq-eqb}
use Rattle.ground.specs.Answers.{accepts}
use Rattle.choices.specs.declared.Reading.TheVariants.{Ipv4, Ipv6}
use Rattle.choices.specs.Choices.{standard_of}
use Rattle.octets.specs.Lengths.{length_at}
use Rattle.octets.specs.Spell.{spell, spelled}
use Rattle.stored.specs.Pieces.{named, is_piece, piece_of, piece_at}
use Rattle.stored.specs.Distinguishers.{distinguisher_at, is_distinguisher}
use Rattle.stored.specs.Stored.{all_words, tail_words, rule_words, pieces_from, records_from, zeros_from, is_framed, is_rule, rule_at, stored_at}
use Rattle.prefixes.specs.Prefixes.{extent_at, prefix_at}
use Rattle.walk.specs.Walks.{typed_at, component_at, walk_from, walk_at}
use Rattle.measuring.specs.Bodies.{piece_octets, body_octets}
use Rattle.measuring.specs.Grounds.{all_operators, piece_taken, all_taken, in_order, taken_after, body_of}
use Rattle.packets.specs.Packets.{Packet, packet_ok}
use Rattle.matching.specs.Rules.{rule_matches}
use Rattle.matching.proofs.Laws.{no_components, no_bits_more}
use Rattle.reading.specs.Readings.{front_at, stated_at, read_at, words_of}
use Rattle.writing.specs.Writings.{body_from, body_in}
use Rattle.verdicts.specs.Verdicts.{well_formed, match_verdict}

-- a well-formed rule of the packet's family that matches
matched : (words : List ℕ) (family : ℕ) (p : Packet) → well_formed words [] [] 0 ≡ true → (stored_at words 0).head.family ≡ family → packet_ok p ≡ true → p.family ≡ family
    → rule_matches [] [] p (stored_at words 0) ≡ true → match_verdict words [] [] p ≡ accepts true
unfolding match_verdict
matched words family p w s ok e m = rw (ok, w, eq-eqb (stored_at words 0).head.family p.family (s ∙ sym e), m)

-- `00`
pub every_packet : (p : Packet) → packet_ok p ≡ true → p.family ≡ 4 → match_verdict (words_of (read_at Ipv4 false (0x00 ∷ []))) [] [] p ≡ accepts true
unfolding read_at stated_at front_at distinguisher_at is_distinguisher walk_at walk_from length_at all_words tail_words rule_words pieces_from records_from zeros_from is_framed is_rule rule_at well_formed body_from body_in body_of standard_of body_octets all_operators all_taken in_order taken_after
every_packet p ok e = matched (words_of (read_at Ipv4 false (0x00 ∷ []))) 4 p refl refl ok e (no_components [] [] p _)

pub every_packet_6 : (p : Packet) → packet_ok p ≡ true → p.family ≡ 6 → match_verdict (words_of (read_at Ipv6 false (0x00 ∷ []))) [] [] p ≡ accepts true
unfolding read_at stated_at front_at distinguisher_at is_distinguisher walk_at walk_from length_at all_words tail_words rule_words pieces_from records_from zeros_from is_framed is_rule rule_at well_formed body_from body_in body_of standard_of body_octets all_operators all_taken in_order taken_after
every_packet_6 p ok e = matched (words_of (read_at Ipv6 false (0x00 ∷ []))) 6 p refl refl ok e (no_components [] [] p _)

-- IPv6 `03 01 00 00`
pub every_destination : (p : Packet) → packet_ok p ≡ true → p.family ≡ 6 → match_verdict (words_of (read_at Ipv6 false (0x03 ∷ 0x01 ∷ 0x00 ∷ 0x00 ∷ []))) [] [] p ≡ accepts true
unfolding read_at stated_at front_at distinguisher_at is_distinguisher walk_at walk_from component_at typed_at length_at extent_at prefix_at spell spelled all_words tail_words rule_words named is_piece piece_of piece_at pieces_from records_from zeros_from is_framed is_rule rule_at well_formed body_from body_in body_of standard_of piece_octets body_octets all_operators piece_taken all_taken in_order taken_after
every_destination p ok e =
    matched (words_of (read_at Ipv6 false (0x03 ∷ 0x01 ∷ 0x00 ∷ 0x00 ∷ []))) 6 p refl refl ok e (no_bits_more [] [] p _ 1 0 0 [] ∙ no_components [] [] p _)
