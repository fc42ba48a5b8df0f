-- A packet, which packets are in range, and which one 20 words lend: document 01, "Matching and ranking".
use Rattle.std.specs.Prelude.{ℕ, ◌+◌, ◌*◌, ◌%◌, ◌^◌, List, Bool, true, not, ◌&&◌, ◌||◌, length, get_or, ltb, leb, eqb}
use Rattle.ground.specs.Picks.{pick}
use Rattle.wide.specs.Numbers.{wide}

-- ---- a packet: "family, two addresses, protocol .., length .., DSCP .., fragment bits .., and, each present or absent: a port pair .., an ICMP type and
-- code pair .., TCP flags, a flow label"

pub data Field : Type 0 where
  absent : Field
  present : ℕ → Field

-- the ports, source and destination; the ICMP type and code
pub data Pair : Type 0 where
  neither : Pair
  both : ℕ → ℕ → Pair

-- "Fragment bits: DF 1, IsF 2, FF 4, LF 8"
pub record Packet : Type 0 where
  pub family : ℕ
  pub destination : ℕ
  pub source : ℕ
  pub protocol : ℕ
  pub length : ℕ
  pub dscp : ℕ
  pub fragment : ℕ
  pub ports : Pair
  pub icmp : Pair
  pub flags : Field
  pub label : Field

-- ---- ranges: "Out of range is BadPacket, and so is a flow label in family 4, a family other than 4 or 6, or an address too wide for its family."

abbrev pub family_ok : ℕ → Bool
family_ok family = eqb family 4 || eqb family 6

-- an address of family 4 has nothing above its 32 bits
abbrev pub address_fits : ℕ → ℕ → Bool
address_fits family a = not (eqb family 4) || ltb a (2 ^ 32)

-- a field that is absent has no number to be out of range
abbrev pub pair_fits : ℕ → Pair → Bool
pair_fits most neither = true
pair_fits most (both a b) = leb a most && leb b most

abbrev pub field_fits : ℕ → Field → Bool
field_fits most absent = true
field_fits most (present n) = leb n most

-- "a flow label (to 1,048,575; never in family 4)"
abbrev pub label_fits : ℕ → Field → Bool
label_fits family absent = true
label_fits family (present n) = not (eqb family 4) && leb n 1048575

-- "TCP flags (to 4,095)"
abbrev pub most_flags : ℕ
most_flags = 4095

-- "TCP flags are twelve bits, header octets 13 and 14 counted from 1 with the data offset taken as 0" (RFC 8955, 4.2.2.9)
abbrev pub header_flags : ℕ → ℕ → ℕ
header_flags octet13 octet14 = octet13 % 16 * 256 + octet14

-- "protocol (to 255), length (to 65,575), DSCP (to 63), fragment bits (to 15), and, each present or absent: a port pair (to 65,535), an
-- ICMP type and code pair (to 255), TCP flags (to 4,095), a flow label"
unfoldable pub packet_ok : Packet → Bool
packet_ok p =
    family_ok p.family
    && address_fits p.family p.destination
    && address_fits p.family p.source
    && leb p.protocol 255
    && leb p.length 65575
    && leb p.dscp 63
    && leb p.fragment 15
    && pair_fits 65535 p.ports
    && pair_fits 255 p.icmp
    && field_fits most_flags p.flags
    && label_fits p.family p.label

-- ---- words: how a host lends a packet. Each field that may be absent has a word before it, 0 or 1; behind a 0 nothing is looked at

abbrev pub pair_of : ℕ → ℕ → ℕ → Pair
pair_of flag a b = pick (eqb flag 0) neither (both a b)

abbrev pub field_of : ℕ → ℕ → Field
field_of flag n = pick (eqb flag 0) absent (present n)

abbrev pub flags_ok : List ℕ → Bool
flags_ok ws = leb (get_or ws 9 0) 1 && leb (get_or ws 12 0) 1 && leb (get_or ws 15 0) 1 && leb (get_or ws 17 0) 1 && eqb (get_or ws 19 0) 0

abbrev pub packet_of : List ℕ → Packet
packet_of ws =
    record {
      family = get_or ws 0 0;
      destination = wide (get_or ws 1 0) (get_or ws 2 0);
      source = wide (get_or ws 3 0) (get_or ws 4 0);
      protocol = get_or ws 5 0;
      length = get_or ws 6 0;
      dscp = get_or ws 7 0;
      fragment = get_or ws 8 0;
      ports = pair_of (get_or ws 9 0) (get_or ws 10 0) (get_or ws 11 0);
      icmp = pair_of (get_or ws 12 0) (get_or ws 13 0) (get_or ws 14 0);
      flags = field_of (get_or ws 15 0) (get_or ws 16 0);
      label = field_of (get_or ws 17 0) (get_or ws 18 0);
    }

-- a packet of no family, so out of range (`no_packet_lem` in proofs/): what words that lend none are told as
abbrev pub no_packet : Packet
no_packet =
    record {
      family = 0;
      destination = 0;
      source = 0;
      protocol = 0;
      length = 0;
      dscp = 0;
      fragment = 0;
      ports = neither;
      icmp = neither;
      flags = absent;
      label = absent;
    }

unfoldable pub packet_at : List ℕ → Packet
packet_at ws = pick (eqb (length ws) 20) (pick (flags_ok ws) (packet_of ws) no_packet) no_packet
