-- Cases at the edges of the rules of matching, of the definitions: one table under one statement. Document 01's own stand in `cases`.
use Rattle.std.specs.Prelude.{ℕ, ◌≡◌, refl, List, [], ◌∷◌, map, Bool, true, false}
use Rattle.operators.specs.Ops.{kind_of, ops_in}
use Rattle.rules.specs.declared.NetworkPrefix.TheVariants.{Ipv6Offset}
use Rattle.stored.specs.declared.Piece.{Piece}
use Rattle.stored.specs.declared.Piece.TheVariants.{Prefix, Operators}
use Rattle.packets.specs.Packets.{Pair, neither, both, absent, present, Packet}
use Rattle.packets.specs.Shown.{numbers_of}
use Rattle.satisfying.specs.Lists.{compared, masked, joined, later, groups, all, any, list_matches}
use Rattle.matching.specs.Rules.{some_matches, piece_matches}

pub record Row : Type 0 where
  pub piece : Piece
  pub packet : Packet
  pub answer : Bool

unfoldable pub row : Piece → Packet → Bool → Row
row x p b = record { piece = x; packet = p; answer = b }

-- the lent operators: `03 50 45 5A 91 01 BB` at places 0 to 2, `81 4A` at 3, `80 11` at 4; `81 12` at 5, and the mask 0x1002 by each of the four operators, the
-- first `90 10 02`, at 6 to 9
unfoldable pub octets : List ℕ
octets = 3 ∷ 69 ∷ 145 ∷ 129 ∷ 128 ∷ 0x81 ∷ 0x90 ∷ 0x91 ∷ 0x92 ∷ 0x93 ∷ []

unfoldable pub values : List ℕ
values = 80 ∷ 90 ∷ 443 ∷ 74 ∷ 17 ∷ 0x12 ∷ 0x1002 ∷ 0x1002 ∷ 0x1002 ∷ 0x1002 ∷ []

-- a packet of a family to an address, with these ports, TCP flags, DSCP and fragment bits
unfoldable pub packet : ℕ → ℕ → Pair → ℕ → ℕ → ℕ → Packet
packet family to ports flags dscp fragment =
    record {
      family = family;
      destination = to;
      source = 0;
      protocol = 6;
      length = 40;
      dscp = dscp;
      fragment = fragment;
      ports = ports;
      icmp = neither;
      flags = present flags;
      label = absent;
    }

unfoldable pub from_to : ℕ → ℕ → Packet
from_to a b = packet 4 0 (both a b) 0 0 0

unfoldable pub flagged : ℕ → Packet
flagged n = packet 4 0 neither n 0 0

unfoldable pub to : ℕ → ℕ → Packet
to family a = packet family a neither 0 0 0

unfoldable pub rows : List Row
rows =
    -- the source port is the first of the two; there is no port to look at
    row (Operators 6 0 3) (from_to 80 79) true
    ∷ row (Operators 5 0 3) (flagged 0) false
    -- either port, but each by itself: 100 is 80 or more and 10 is 90 or less
    ∷ row (Operators 4 0 3) (from_to 443 79) true
    ∷ row (Operators 4 0 3) (from_to 79 443) true
    ∷ row (Operators 4 0 3) (from_to 100 10) false
    -- 74 counts as 10
    ∷ row (Operators 11 3 1) (packet 4 0 neither 0 10 0) true
    -- of 17 only DF counts, and in family 6 nothing
    ∷ row (Operators 12 4 1) (packet 4 0 neither 0 0 1) true
    ∷ row (Operators 12 4 1) (packet 6 0 neither 0 0 1) false
    -- one octet of a mask meets header octet 14, whatever octet 13 holds
    ∷ row (Operators 9 5 1) (flagged 0xF12) true
    ∷ row (Operators 9 5 1) (flagged 0xF02) false
    -- the bit above the twelve meets 0: without match it does nothing, with match it makes the mask false; then NOT
    ∷ row (Operators 9 6 1) (flagged 0x002) true
    ∷ row (Operators 9 6 1) (flagged 0xFFD) false
    ∷ row (Operators 9 7 1) (flagged 0xFFF) false
    ∷ row (Operators 9 8 1) (flagged 0x002) false
    ∷ row (Operators 9 8 1) (flagged 0xFFD) true
    ∷ row (Operators 9 9 1) (flagged 0xFFF) true
    -- bits 63 and 64 of an address, whatever the others are
    ∷ row (Prefix 1 (Ipv6Offset 65 63 1 9223372036854775808)) (to 6 27670116110564327429) true
    ∷ row (Prefix 1 (Ipv6Offset 65 63 1 9223372036854775808)) (to 6 18446744073709551616) false
    -- no bits asked for: every address
    ∷ row (Prefix 2 (Ipv6Offset 0 0 0 0)) (to 6 1) true
    ∷ []

unfoldable pub gives : Row → Bool
gives r = piece_matches values octets 0 r.packet r.piece

unfoldable pub says : Row → Bool
says r = r.answer

pub cases : map gives rows ≡ map says rows
unfolding gives says rows row values octets packet from_to flagged to piece_matches some_matches numbers_of kind_of ops_in list_matches groups joined later all any compared masked
cases = refl
