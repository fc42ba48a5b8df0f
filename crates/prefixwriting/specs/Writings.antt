-- The octets of a prefix by each writing, and how many they are: document 01, "Writing"; RFC 8955, 4.2.2.1; RFC 8956, 3.1.
use Rattle.std.specs.Prelude.{ℕ, ◌+◌, ◌-◌, ◌*◌, ◌/◌, ◌^◌, List, [], ◌∷◌, Bool, false, leb}
use Rattle.wide.specs.Numbers.{wide}
use Rattle.octets.specs.Spell.{spelled}
use Rattle.rules.specs.declared.NetworkPrefix.{NetworkPrefix}
use Rattle.rules.specs.declared.NetworkPrefix.TheVariants.{Ipv4, Ipv6, Ipv4Offset, Ipv6Offset}
use Rattle.prefixes.specs.Prefixes.{octets_of, offset_fits}

-- "ceil(length/8) address octets from the front"
abbrev pub front_octets : ℕ → ℕ → ℕ → List ℕ
front_octets width len a = spelled (octets_of len) (a / 2 ^ (width - 8 * octets_of len))

-- octets that "carry address bits offset to length-1 from the front", then bits 0
abbrev pub offset_octets : ℕ → ℕ → ℕ → List ℕ
offset_octets len off a = spelled (octets_of (len - off)) (a / 2 ^ (128 - len) * 2 ^ (8 * octets_of (len - off) - (len - off)))

-- the plain writing: "The two offset forms write length, offset and ceil(length/8) address octets from the front, none for an IPv4 address."
abbrev pub plain_octets : NetworkPrefix → List ℕ
plain_octets (Ipv4 len a) = len ∷ front_octets 32 len a
plain_octets (Ipv6 len h l) = len ∷ front_octets 128 len (wide h l)
plain_octets (Ipv4Offset len off a) = len ∷ off ∷ []
plain_octets (Ipv6Offset len off h l) = len ∷ off ∷ front_octets 128 len (wide h l)

abbrev pub octets_in_plain : NetworkPrefix → ℕ
octets_in_plain (Ipv4 len a) = 1 + octets_of len
octets_in_plain (Ipv6 len h l) = 1 + octets_of len
octets_in_plain (Ipv4Offset len off a) = 2
octets_in_plain (Ipv6Offset len off h l) = 2 + octets_of len

-- the standard writing; it takes two forms, and of the others nothing is written
abbrev pub standard_octets : NetworkPrefix → List ℕ
standard_octets (Ipv4 len a) = len ∷ front_octets 32 len a
standard_octets (Ipv6Offset len off h l) = len ∷ off ∷ offset_octets len off (wide h l)
standard_octets (Ipv6 len h l) = []
standard_octets (Ipv4Offset len off a) = []

abbrev pub octets_in_standard : NetworkPrefix → ℕ
octets_in_standard (Ipv4 len a) = 1 + octets_of len
octets_in_standard (Ipv6Offset len off h l) = 2 + octets_of (len - off)
octets_in_standard (Ipv6 len h l) = 0
octets_in_standard (Ipv4Offset len off a) = 0

-- the two forms with length and offset in range: what is valid in a family is so
abbrev pub standard_range : NetworkPrefix → Bool
standard_range (Ipv4 len a) = leb len 32
standard_range (Ipv6Offset len off h l) = offset_fits len off
standard_range (Ipv6 len h l) = false
standard_range (Ipv4Offset len off a) = false
