-- Document 01's starred cases, proved of the definitions: each row is a question and what the document says, and the one statement
-- `cases_hold` says that the definitions give just that in every row; where a row speaks of every packet, it is of any packet whatever.
-- Octets are written as the document prints them, in hex.
use Rattle.std.specs.Prelude.{ℕ, ◌^◌, ◌≡◌, refl, Bool, true, false, List, [], ◌∷◌, ◌++◌, map, None, Some}
use Rattle.ground.specs.Answers.{Answer, accepts, refuses, refuses_at}
use Rattle.choices.specs.declared.Reading.{Reading}
use Rattle.choices.specs.declared.Reading.TheVariants.{Plain, Ipv4, Ipv6}
use Rattle.choices.specs.Choices.{refused_in, family_of, standard_of}
use Rattle.operators.specs.Ops.{kind_of, Op, op, octet_of, number_of, ops_in, list_octets}
use Rattle.octets.specs.Lengths.{length_at, length_octets}
use Rattle.octets.specs.Spell.{spell, spelled}
use Rattle.rules.specs.declared.NetworkPrefix.TheVariants.{Ipv4 as V4, Ipv6Offset}
use Rattle.stored.specs.declared.Piece.{Piece}
use Rattle.stored.specs.declared.Piece.TheVariants.{Prefix, Operators}
use Rattle.stored.specs.Pieces.{named, is_piece, piece_of, piece_at}
use Rattle.stored.specs.Distinguishers.{distinguisher_at, is_distinguisher}
use Rattle.stored.specs.Stored.{all_words, tail_words, rule_words, pieces_from, records_from, zeros_from, is_framed, is_rule, rule_at, stored_at}
use Rattle.prefixes.specs.Prefixes.{extent_at, prefix_at}
use Rattle.lists.specs.Lists.{value_at, operator_at, list_from, list_at, ops_from, ops_at, recorded_ops}
use Rattle.walk.specs.Walks.{typed_at, component_at, walk_from, walk_at}
use Rattle.packets.specs.Packets.{Packet, packet_ok}
use Rattle.packets.specs.Shown.{numbers_of}
use Rattle.listwriting.specs.Lists.{ends, takes, narrow}
use Rattle.measuring.specs.Bodies.{piece_octets, body_octets}
use Rattle.measuring.specs.Grounds.{all_operators, piece_taken, all_taken, in_order, taken_after, body_of}
use Rattle.satisfying.specs.Lists.{compared, masked, joined, later, groups, all, any, list_matches}
use Rattle.matching.specs.Cases.{packet, from_to, flagged, to}
use Rattle.matching.specs.Rules.{some_matches, piece_matches, rule_matches}
use Rattle.reading.specs.Readings.{ReadRule, front_at, stated_at, read_at, words_of, operators_of}
use Rattle.writing.specs.Writings.{body_from, body_in, written_from}
use Rattle.ranking.specs.Ranks.{in_turn, rank_front, rank_compared, rank_of}
use Rattle.verdicts.specs.Verdicts.{well_formed, match_verdict}
use Rattle.choosing.specs.Choosing.{table, Choice, place, none, all_below, first_failing, best_below, chosen_in}

-- an input to a reading, and whether a distinguisher is expected
pub record Input : Type 0 where
  pub reading : Reading
  pub expected : Bool
  pub octets : List ℕ

abbrev input : Reading → List ℕ → Input
input reading s = record { reading = reading; expected = false; octets = s }

abbrev distinguished : Reading → List ℕ → Input
distinguished reading s = record { reading = reading; expected = true; octets = s }

-- what is asked: to read an input; to read it and write the rule; whether a packet, or any packet whatever, satisfies the rule that an input is; which of the
-- rules that some inputs are decides on a packet
pub data Question : Type 0 where
  read : Input → Question
  rewrite : Input → Reading → Question
  match : Input → Packet → Question
  match_any : Input → Question
  choose : List Input → Packet → Question

-- and what is said of it
pub data Said : Type 0 where
  rule_is : Answer ReadRule → Said
  octets_are : Answer (List ℕ) → Said
  matching_is : Answer Bool → Said
  choice_is : Answer Choice → Said

pub record Case : Type 0 where
  pub asks : Question
  pub says : Said

abbrev case : Question → Said → List Case
case q x = record { asks = q; says = x } ∷ []

abbrev in_one : Reading → List ℕ → Answer ReadRule → List Case
in_one reading s a = case (read (input reading s)) (rule_is a)

-- an input under every reading, with the same answer
abbrev in_all : List ℕ → (Reading → Answer ReadRule) → List Case
in_all s a = in_one Plain s (a Plain) ++ in_one Ipv4 s (a Ipv4) ++ in_one Ipv6 s (a Ipv6)

-- an input in which a distinguisher is expected, under both standard readings
abbrev in_network : List ℕ → (Reading → Answer ReadRule) → List Case
in_network s a = case (read (distinguished Ipv4 s)) (rule_is (a Ipv4)) ++ case (read (distinguished Ipv6 s)) (rule_is (a Ipv6))

-- a rule of pieces and operators, of which so many octets were used; and one of a virtual network
abbrev rule : List Piece → List Op → ℕ → Reading → Answer ReadRule
rule ps os used reading = accepts (record { pieces = ps; operators = os; family = family_of reading; distinguisher = None; used = used })

abbrev network_rule : ℕ → List Piece → List Op → ℕ → Reading → Answer ReadRule
network_rule n ps os used reading = accepts (record { pieces = ps; operators = os; family = family_of reading; distinguisher = Some n; used = used })

-- a refusal at a place
abbrev refused : ℕ → List ℕ → ℕ → Reading → Answer ReadRule
refused number carried at reading = refuses_at number carried at

abbrev protocol_6 : Reading → Answer ReadRule
protocol_6 = rule (Operators 3 0 1 ∷ []) (op 0x81 6 ∷ []) 4

abbrev port_case : List ℕ
port_case = 0x08 ∷ 0x05 ∷ 0x03 ∷ 0x50 ∷ 0x45 ∷ 0x5A ∷ 0x91 ∷ 0x01 ∷ 0xBB ∷ []

abbrev wide_dscp : List ℕ
wide_dscp = 0x04 ∷ 0x0B ∷ 0x91 ∷ 0x00 ∷ 0x2E ∷ []

abbrev two_prefixes : List Input
two_prefixes = input Ipv4 (0x03 ∷ 0x01 ∷ 0x08 ∷ 0x0A ∷ []) ∷ input Ipv4 (0x04 ∷ 0x01 ∷ 0x10 ∷ 0x0A ∷ 0x01 ∷ []) ∷ []

-- octets behind the distinguisher 0:64496:7, and what it is as a number
abbrev behind : ℕ → List ℕ → List ℕ
behind size s = size ∷ 0x00 ∷ 0x00 ∷ 0xFB ∷ 0xF0 ∷ 0x00 ∷ 0x00 ∷ 0x00 ∷ 0x07 ∷ s

abbrev as_number : ℕ
as_number = 0x0000FBF000000007

-- a rule with no components, and one with none behind eight octets 0
abbrev nothing : Reading → Input
nothing reading = input reading (0x00 ∷ [])

abbrev zeros : Input
zeros = distinguished Ipv4 (0x08 ∷ 0x00 ∷ 0x00 ∷ 0x00 ∷ 0x00 ∷ 0x00 ∷ 0x00 ∷ 0x00 ∷ 0x00 ∷ [])

abbrev to_port : ℕ → Packet
to_port n = from_to 1024 n

pub rows : List Case
rows =
    -- empty; F0; EF: 1
    in_all [] (refused 1 [] 0)
    ++ in_all (0xF0 ∷ []) (refused 1 [] 1)
    ++ in_all (0xEF ∷ []) (refused 1 [] 1)
    -- 00: no components, used 1
    ++ in_all (0x00 ∷ []) (rule [] [] 1)
    -- .. It matches every packet
    ++ case (match_any (nothing Plain)) (matching_is (accepts true))
    ++ case (match_any (nothing Ipv4)) (matching_is (accepts true))
    ++ case (match_any (nothing Ipv6)) (matching_is (accepts true))
    -- F0 05 01 18 C0 00 02: 192.0.2.0/24, used 7
    ++ in_one Plain (0xF0 ∷ 0x05 ∷ 0x01 ∷ 0x18 ∷ 0xC0 ∷ 0x00 ∷ 0x02 ∷ []) (rule (Prefix 1 (V4 24 0xC0000200) ∷ []) [] 7 Plain)
    ++ in_one Ipv4 (0xF0 ∷ 0x05 ∷ 0x01 ∷ 0x18 ∷ 0xC0 ∷ 0x00 ∷ 0x02 ∷ []) (rule (Prefix 1 (V4 24 0xC0000200) ∷ []) [] 7 Ipv4)
    -- .. rewritten 05 01 18 C0 00 02
    ++ case (rewrite (input Plain (0xF0 ∷ 0x05 ∷ 0x01 ∷ 0x18 ∷ 0xC0 ∷ 0x00 ∷ 0x02 ∷ [])) Plain) (octets_are (accepts (0x05 ∷ 0x01 ∷ 0x18 ∷ 0xC0 ∷ 0x00 ∷ 0x02 ∷ [])))
    ++ case (rewrite (input Ipv4 (0xF0 ∷ 0x05 ∷ 0x01 ∷ 0x18 ∷ 0xC0 ∷ 0x00 ∷ 0x02 ∷ [])) Ipv4) (octets_are (accepts (0x05 ∷ 0x01 ∷ 0x18 ∷ 0xC0 ∷ 0x00 ∷ 0x02 ∷ [])))
    -- 02 03 81 06 05: plain gives protocol 6; standard 1
    ++ in_one Plain (0x02 ∷ 0x03 ∷ 0x81 ∷ 0x06 ∷ 0x05 ∷ []) (rule (Operators 3 0 1 ∷ []) (op 0x81 6 ∷ []) 3 Plain)
    ++ in_one Ipv4 (0x02 ∷ 0x03 ∷ 0x81 ∷ 0x06 ∷ 0x05 ∷ []) (refuses_at 1 [] 3)
    ++ in_one Ipv6 (0x02 ∷ 0x03 ∷ 0x81 ∷ 0x06 ∷ 0x05 ∷ []) (refuses_at 1 [] 3)
    -- 03 03 89 06: plain 5 (0x89); standard as 03 03 81 06. 02 03 89: 1 in both
    ++ in_one Plain (0x03 ∷ 0x03 ∷ 0x89 ∷ 0x06 ∷ []) (refuses_at 5 (0x89 ∷ []) 2)
    ++ in_one Ipv4 (0x03 ∷ 0x03 ∷ 0x89 ∷ 0x06 ∷ []) (protocol_6 Ipv4)
    ++ in_one Ipv6 (0x03 ∷ 0x03 ∷ 0x89 ∷ 0x06 ∷ []) (protocol_6 Ipv6)
    ++ in_all (0x03 ∷ 0x03 ∷ 0x81 ∷ 0x06 ∷ []) protocol_6
    ++ in_all (0x02 ∷ 0x03 ∷ 0x89 ∷ []) (refused 1 [] 3)
    -- 02 03 91 00: 1, in plain at place 4, in standard at 3
    ++ in_one Plain (0x02 ∷ 0x03 ∷ 0x91 ∷ 0x00 ∷ []) (refuses_at 1 [] 4)
    ++ in_one Ipv4 (0x02 ∷ 0x03 ∷ 0x91 ∷ 0x00 ∷ []) (refuses_at 1 [] 3)
    ++ in_one Ipv6 (0x02 ∷ 0x03 ∷ 0x91 ∷ 0x00 ∷ []) (refuses_at 1 [] 3)
    -- 02 0B 91: plain 1; standard 6 (1). 04 0B 91 00 2E: plain DSCP 46, which the plain writing writes again and the standard one does not take;
    -- standard 6 (1). 06 09 A1 00 00 01 00: standard 6 (2)
    ++ in_one Plain (0x02 ∷ 0x0B ∷ 0x91 ∷ []) (refuses_at 1 [] 3)
    ++ in_one Ipv4 (0x02 ∷ 0x0B ∷ 0x91 ∷ []) (refuses_at 6 (1 ∷ []) 2)
    ++ in_one Ipv6 (0x02 ∷ 0x0B ∷ 0x91 ∷ []) (refuses_at 6 (1 ∷ []) 2)
    ++ in_one Plain wide_dscp (rule (Operators 11 0 1 ∷ []) (op 0x91 46 ∷ []) 5 Plain)
    ++ in_one Ipv4 wide_dscp (refuses_at 6 (1 ∷ []) 2)
    ++ in_one Ipv6 wide_dscp (refuses_at 6 (1 ∷ []) 2)
    ++ case (rewrite (input Plain wide_dscp) Plain) (octets_are (accepts wide_dscp))
    ++ case (rewrite (input Plain wide_dscp) Ipv4) (octets_are (refuses 10 []))
    ++ case (rewrite (input Plain wide_dscp) Ipv6) (octets_are (refuses 10 []))
    ++ in_one Ipv4 (0x06 ∷ 0x09 ∷ 0xA1 ∷ 0x00 ∷ 0x00 ∷ 0x01 ∷ 0x00 ∷ []) (refuses_at 6 (2 ∷ []) 2)
    ++ in_one Ipv6 (0x06 ∷ 0x09 ∷ 0xA1 ∷ 0x00 ∷ 0x00 ∷ 0x01 ∷ 0x00 ∷ []) (refuses_at 6 (2 ∷ []) 2)
    -- 01 00: 2 (0, 0). 01 0E: 3 (14). 06 03 81 06 03 81 11: 2 (3, 3)
    ++ in_all (0x01 ∷ 0x00 ∷ []) (refused 2 (0 ∷ 0 ∷ []) 1)
    ++ in_all (0x01 ∷ 0x0E ∷ []) (refused 3 (14 ∷ []) 1)
    ++ in_all (0x06 ∷ 0x03 ∷ 0x81 ∷ 0x06 ∷ 0x03 ∷ 0x81 ∷ 0x11 ∷ []) (refused 2 (3 ∷ 3 ∷ []) 4)
    -- 03 01 04 FF: plain 255.0.0.0/4, standard IPv4 240.0.0.0/4
    ++ in_one Plain (0x03 ∷ 0x01 ∷ 0x04 ∷ 0xFF ∷ []) (rule (Prefix 1 (V4 4 0xFF000000) ∷ []) [] 4 Plain)
    ++ in_one Ipv4 (0x03 ∷ 0x01 ∷ 0x04 ∷ 0xFF ∷ []) (rule (Prefix 1 (V4 4 0xF0000000) ∷ []) [] 4 Ipv4)
    -- IPv6 04 01 41 3F C0: offset 63, length 65, bits 63 and 64 set. 03 01 40 40: 4. 03 01 00 00: every address
    ++ in_one Ipv6 (0x04 ∷ 0x01 ∷ 0x41 ∷ 0x3F ∷ 0xC0 ∷ []) (rule (Prefix 1 (Ipv6Offset 65 63 1 (2 ^ 63)) ∷ []) [] 5 Ipv6)
    ++ in_one Ipv6 (0x03 ∷ 0x01 ∷ 0x40 ∷ 0x40 ∷ []) (refuses_at 4 [] 2)
    ++ in_one Ipv6 (0x03 ∷ 0x01 ∷ 0x00 ∷ 0x00 ∷ []) (rule (Prefix 1 (Ipv6Offset 0 0 0 0) ∷ []) [] 4 Ipv6)
    -- 08 05 03 50 45 5A 91 01 BB: destination ports 80, 90 and 443 match, 79 and 91 don't
    ++ in_one Ipv4 port_case
    (rule (Operators 5 0 3 ∷ []) (op 0x03 80 ∷ op 0x45 90 ∷ op 0x91 443 ∷ []) 9 Ipv4)
    ++ case (match (input Ipv4 port_case) (to_port 79)) (matching_is (accepts false))
    ++ case (match (input Ipv4 port_case) (to_port 80)) (matching_is (accepts true))
    ++ case (match (input Ipv4 port_case) (to_port 90)) (matching_is (accepts true))
    ++ case (match (input Ipv4 port_case) (to_port 91)) (matching_is (accepts false))
    ++ case (match (input Ipv4 port_case) (to_port 443)) (matching_is (accepts true))
    -- 03 09 81 12: flags 0x12 match, 0x02 don't; 03 09 80 12: both do
    ++ case (match (input Ipv4 (0x03 ∷ 0x09 ∷ 0x81 ∷ 0x12 ∷ [])) (flagged 0x12)) (matching_is (accepts true))
    ++ case (match (input Ipv4 (0x03 ∷ 0x09 ∷ 0x81 ∷ 0x12 ∷ [])) (flagged 0x02)) (matching_is (accepts false))
    ++ case (match (input Ipv4 (0x03 ∷ 0x09 ∷ 0x80 ∷ 0x12 ∷ [])) (flagged 0x12)) (matching_is (accepts true))
    ++ case (match (input Ipv4 (0x03 ∷ 0x09 ∷ 0x80 ∷ 0x12 ∷ [])) (flagged 0x02)) (matching_is (accepts true))
    -- 04 09 91 01 00: flags 0x100 match, 0x0FF don't
    ++ case (match (input Ipv4 (0x04 ∷ 0x09 ∷ 0x91 ∷ 0x01 ∷ 0x00 ∷ [])) (flagged 0x100)) (matching_is (accepts true))
    ++ case (match (input Ipv4 (0x04 ∷ 0x09 ∷ 0x91 ∷ 0x01 ∷ 0x00 ∷ [])) (flagged 0x0FF)) (matching_is (accepts false))
    -- Places 0 03 01 08 0A, 1 04 01 10 0A 01: 10.1.2.3 gets place 1, 10.2.0.1 place 0, 11.0.0.1 none
    ++ case (choose two_prefixes (to 4 0x0A010203)) (choice_is (accepts (place 1)))
    ++ case (choose two_prefixes (to 4 0x0A020001)) (choice_is (accepts (place 0)))
    ++ case (choose two_prefixes (to 4 0x0B000001)) (choice_is (accepts none))
    -- With a distinguisher expected: 0B 00 00 FB F0 00 00 00 07 03 81 06: protocol 6 under 0:64496:7, used 12, rewritten as it was; without one, and in plain,
    -- 2 (0, 0) at place 1
    ++ in_network (behind 0x0B (0x03 ∷ 0x81 ∷ 0x06 ∷ [])) (network_rule as_number (Operators 3 0 1 ∷ []) (op 0x81 6 ∷ []) 12)
    ++ case (rewrite (distinguished Ipv4 (behind 0x0B (0x03 ∷ 0x81 ∷ 0x06 ∷ []))) Ipv4) (octets_are (accepts (behind 0x0B (0x03 ∷ 0x81 ∷ 0x06 ∷ []))))
    -- .. the plain writing writes 03 03 81 06 of it
    ++ case (rewrite (distinguished Ipv4 (behind 0x0B (0x03 ∷ 0x81 ∷ 0x06 ∷ []))) Plain) (octets_are (accepts (0x03 ∷ 0x03 ∷ 0x81 ∷ 0x06 ∷ [])))
    ++ in_all (behind 0x0B (0x03 ∷ 0x81 ∷ 0x06 ∷ [])) (refused 2 (0 ∷ 0 ∷ []) 1)
    ++ case (read (distinguished Plain (behind 0x0B (0x03 ∷ 0x81 ∷ 0x06 ∷ [])))) (rule_is (refuses_at 2 (0 ∷ 0 ∷ []) 1))
    -- .. 08 and the eight octets: no components. With 09 and 00 behind them: 2 (0, 0) at place 9
    ++ in_network (behind 0x08 []) (network_rule as_number [] [] 9)
    ++ in_network (behind 0x09 (0x00 ∷ [])) (refused 2 (0 ∷ 0 ∷ []) 9)
    -- .. 07 00 00 FB F0 00 00 00: 19 at place 8; 00: 19 at place 1; 08 00: 1 at place 2
    ++ in_network (0x07 ∷ 0x00 ∷ 0x00 ∷ 0xFB ∷ 0xF0 ∷ 0x00 ∷ 0x00 ∷ 0x00 ∷ []) (refused 19 [] 8)
    ++ in_network (0x00 ∷ []) (refused 19 [] 1)
    ++ in_network (0x08 ∷ 0x00 ∷ []) (refused 1 [] 2)
    -- Places 0 00, 1 08 and eight octets 0 with a distinguisher expected: 20 (1). With an IPv6 rule at place 2: 14 (2)
    ++ case (choose (nothing Ipv4 ∷ zeros ∷ []) (to 4 0x0A010203)) (choice_is (refuses 20 (1 ∷ [])))
    ++ case (choose (nothing Ipv4 ∷ zeros ∷ nothing Ipv6 ∷ []) (to 4 0x0A010203)) (choice_is (refuses 14 (2 ∷ [])))
    ++ case (choose (zeros ∷ zeros ∷ []) (to 4 0x0A010203)) (choice_is (accepts (place 0)))

abbrev read_in : Input → Answer ReadRule
read_in i = read_at i.reading i.expected i.octets

-- a rule that was read, lent as words and lists
abbrev values : Answer ReadRule → List ℕ
values a = map number_of (operators_of a)

abbrev octets : Answer ReadRule → List ℕ
octets a = map octet_of (operators_of a)

abbrev written : Reading → Answer ReadRule → Answer (List ℕ)
written writing a = written_from writing (words_of a) (values a) (octets a) 4097

-- rules of prefixes alone, stored one after the other: they have no operators
unfoldable pub stored : List Input → List ℕ
stored [] = []
stored (i ∷ is) = words_of (read_in i) ++ stored is

abbrev gives : Packet → Question → Said
gives anyone (read i) = rule_is (read_in i)
gives anyone (rewrite i writing) = octets_are (written writing (read_in i))
gives anyone (match i p) = let a = read_in i in matching_is (match_verdict (words_of a) (values a) (octets a) p)
gives anyone (match_any i) = let a = read_in i in matching_is (accepts (rule_matches (values a) (octets a) anyone (stored_at (words_of a) 0)))
gives anyone (choose is p) = choice_is (chosen_in (table (stored is) [] []) p)

abbrev asked : Packet → Case → Said
asked anyone c = gives anyone c.asks

abbrev said : Case → Said
said c = c.says

pub cases_hold : (anyone : Packet) → map (asked anyone) rows ≡ map said rows
unfolding rows read_at stated_at front_at distinguisher_at is_distinguisher walk_at walk_from component_at typed_at length_at extent_at prefix_at list_at list_from operator_at value_at ops_at ops_from recorded_ops kind_of refused_in spell written_from body_from body_in body_of standard_of length_octets spelled ops_in list_octets piece_octets body_octets all_operators piece_taken all_taken in_order taken_after ends takes narrow all_words tail_words rule_words named is_piece piece_of piece_at pieces_from records_from zeros_from is_framed is_rule rule_at well_formed match_verdict packet_ok numbers_of some_matches piece_matches rule_matches compared masked joined later groups all any list_matches packet from_to flagged to stored in_turn rank_front rank_compared rank_of all_below first_failing best_below chosen_in
cases_hold anyone = refl
