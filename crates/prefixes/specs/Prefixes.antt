-- A prefix from its octets, by each reading: document 01, "The plain reading" and "The standard reading"; RFC 8955, 4.2.2.1; RFC 8956, 3.1.
-- First its extent, which says where it stands, or a refusal: 1 where an octet is missing, 4 where length or offset are out of range. Then
-- the prefix that its octets make. An IPv4 address is a number below 2 ^ 32, an IPv6 address one below 2 ^ 128.
--
-- How a prefix is read is the sixth choice by which the readings part; the others stand in `choices`. It has four parts:
--
--                     plain               IPv4                IPv6
--   from_in            length octet        length octet        length octet, offset octet
--   offset_in          none                none                the second octet
--   range_in           up to 128           up to 32            "either both are 0 or offset < length < 129"
--   made_in            plain_prefix         ipv4_prefix          ipv6_prefix
use Rattle.std.specs.Prelude.{ℕ, ◌+◌, ◌-◌, ◌*◌, ◌/◌, ◌%◌, ◌^◌, ◌≡◌, List, [], Bool, true, false, ◌&&◌, ◌||◌, length, get_or, take, drop, ltb, leb, eqb}
use Rattle.ground.specs.Answers.{Answer, accepts, refuses_at, declines}
use Rattle.ground.specs.Picks.{pick}
use Rattle.choices.specs.declared.Reading.{Reading}
use Rattle.choices.specs.declared.Reading.TheVariants.{Plain, Ipv4, Ipv6}
use Rattle.octets.specs.Addresses.{first_bits}
use Rattle.octets.specs.Spell.{value_of}
use Rattle.rules.specs.declared.NetworkPrefix.{NetworkPrefix}
use Rattle.rules.specs.declared.NetworkPrefix.TheVariants.{Ipv4 as V4, Ipv6 as V6, Ipv6Offset as V6Offset}
use Rattle.prefixes.specs.declared.Extent.{Extent}
use Rattle.prefixes.specs.declared.PrefixAt.{PrefixAt}

-- "ceil(length/8) octets": those that hold n bits
abbrev pub octets_of : ℕ → ℕ
octets_of n = (n + 7) / 8

-- "either both are 0 or offset < length < 129"
abbrev pub offset_fits : ℕ → ℕ → Bool
offset_fits len offset = (eqb len 0 && eqb offset 0) || (ltb offset len && ltb len 129)

-- where the address octets start: after "length octet", in the IPv6 reading after "length octet, offset octet"
abbrev pub from_in : Reading → ℕ → ℕ
from_in Plain at = at + 1
from_in Ipv4 at = at + 1
from_in Ipv6 at = at + 2

-- the offset, 0 where a reading has none
abbrev pub offset_in : Reading → List ℕ → ℕ → ℕ
offset_in Plain s at = 0
offset_in Ipv4 s at = 0
offset_in Ipv6 s at = get_or s (at + 1) 0

-- "refused above 128"; "length above 32 is InvalidPrefix"; "either both are 0 or offset < length < 129, else InvalidPrefix"
abbrev pub range_in : Reading → ℕ → ℕ → Bool
range_in Plain len offset = leb len 128
range_in Ipv4 len offset = leb len 32
range_in Ipv6 len offset = offset_fits len offset

-- "then ceil((length - offset)/8) octets", which start at a place
abbrev pub extent_of : ℕ → ℕ → ℕ → Extent
extent_of len offset from =
    record { length = len; offset = offset; from = from; next = record { at = from + octets_of (len - offset) } }

-- they are there, or one is missing
abbrev pub octets_at : List ℕ → Extent → Answer Extent
octets_at s e = pick (ltb (length s) e.next.at) (refuses_at 1 [] (length s)) (accepts e)

-- what the octets at a place say, if they are there
abbrev pub named_at : Reading → List ℕ → ℕ → Extent
named_at reading s at = extent_of (get_or s at 0) (offset_in reading s at) (from_in reading at)

-- "Prefix: length octet, refused above 128, then ceil(length/8) octets, then done." "IPv4 prefix: length above 32 is InvalidPrefix. Then the
-- octets." "IPv6 prefix: length octet, offset octet, then either both are 0 or offset < length < 129, else InvalidPrefix; then
-- ceil((length - offset)/8) octets". "A bad IPv6 prefix pair has the place of its length octet", and so has any bad length
unfoldable pub extent_at : Reading → List ℕ → ℕ → Answer Extent
extent_at reading s at =
    pick (ltb (length s) (from_in reading at)) (refuses_at 1 [] (length s))
    (pick (range_in reading (get_or s at 0) (offset_in reading s at)) (octets_at s (named_at reading s at)) (refuses_at 4 [] at))

-- the address of so many bits whose first octets, those that hold len bits, spell v
abbrev pub front_address : ℕ → ℕ → ℕ → ℕ
front_address width len v = v * 2 ^ (width - 8 * octets_of len)

-- "octets, which carry address bits offset to length-1 from the front. All other address bits are recorded as 0": the octets spell v
abbrev pub offset_address : ℕ → ℕ → ℕ → ℕ
offset_address len offset v = v / 2 ^ (8 * octets_of (len - offset) - (len - offset)) * 2 ^ (128 - len)

-- an IPv6 prefix with its address as one number
abbrev pub ipv6 : ℕ → ℕ → NetworkPrefix
ipv6 len a = V6 len (a / 2 ^ 64) (a % 2 ^ 64)

abbrev pub ipv6_offset : ℕ → ℕ → ℕ → NetworkPrefix
ipv6_offset len offset a = V6Offset len offset (a / 2 ^ 64) (a % 2 ^ 64)

-- "Up to 32 is IPv4, above is IPv6. Bits past the length are kept."
abbrev pub plain_prefix : ℕ → ℕ → NetworkPrefix
plain_prefix len v = pick (leb len 32) (V4 len (front_address 32 len v)) (ipv6 len (front_address 128 len v))

-- "Bits past the length are recorded as 0."
abbrev pub ipv4_prefix : ℕ → ℕ → NetworkPrefix
ipv4_prefix len v = V4 len (first_bits 32 len (front_address 32 len v))

abbrev pub ipv6_prefix : ℕ → ℕ → ℕ → NetworkPrefix
ipv6_prefix len offset v = ipv6_offset len offset (offset_address len offset v)

-- the prefix of a length, an offset and the number that the octets spell
abbrev pub made_in : Reading → ℕ → ℕ → ℕ → NetworkPrefix
made_in Plain len offset v = plain_prefix len v
made_in Ipv4 len offset v = ipv4_prefix len v
made_in Ipv6 len offset v = ipv6_prefix len offset v

-- the number that the address octets of an extent spell
abbrev pub spelled_at : List ℕ → Extent → ℕ
spelled_at s e = value_of (take (octets_of (e.length - e.offset)) (drop e.from s))

abbrev pub whole_prefix : NetworkPrefix → ℕ → PrefixAt
whole_prefix p n = record { prefix = p; next = record { at = n } }

-- the prefix of an extent, and the place after it
abbrev pub prefix_from : Reading → List ℕ → Extent → PrefixAt
prefix_from reading s e = whole_prefix (made_in reading e.length e.offset (spelled_at s e)) e.next.at

abbrev pub prefix_on : Reading → List ℕ → Answer Extent → Answer PrefixAt
prefix_on reading s (accepts e) = accepts (prefix_from reading s e)
prefix_on reading s (declines f) = declines f

-- a prefix is its extent, and what the octets there make
unfoldable pub prefix_at : Reading → List ℕ → ℕ → Answer PrefixAt
prefix_at reading s at = prefix_on reading s (extent_at reading s at)

-- What the functions of a second pass ask: that an extent was accepted, at a place or at some place of the octets.
abbrev pub is_extent : Answer Extent → Bool
is_extent (accepts e) = true
is_extent (declines f) = false

pub record Stands (reading : Reading) (s : List ℕ) (e : Extent) : Type 0 where
  pub at : ℕ
  pub is : extent_at reading s at ≡ accepts e
