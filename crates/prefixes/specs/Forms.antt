-- Which prefixes each writing takes: document 01, "Writing".
use Rattle.std.specs.Prelude.{ℕ, Bool, false, ◌&&◌, leb, eqb}
use Rattle.wide.specs.Numbers.{wide}
use Rattle.octets.specs.Addresses.{first_bits}
use Rattle.rules.specs.declared.NetworkPrefix.{NetworkPrefix}
use Rattle.rules.specs.declared.NetworkPrefix.TheVariants.{Ipv4, Ipv6, Ipv4Offset, Ipv6Offset}
use Rattle.prefixes.specs.Prefixes.{offset_fits}

-- both writings: "BadRecord: .. a prefix length over its address's"
abbrev pub in_range : NetworkPrefix → Bool
in_range (Ipv4 len a) = leb len 32
in_range (Ipv6 len h l) = leb len 128
in_range (Ipv4Offset len off a) = leb len 32
in_range (Ipv6Offset len off h l) = leb len 128

-- no "other bits set": the first len bits of the address are all of it, and the first off of them are 0
abbrev pub clean : ℕ → ℕ → ℕ → ℕ → Bool
clean width len off a = eqb (first_bits width len a) a && eqb (first_bits width off a) 0

-- an IPv6 address with a length and an offset, in range and with no other bits set
abbrev pub valid_ipv6 : ℕ → ℕ → ℕ → Bool
valid_ipv6 len off a = offset_fits len off && clean 128 len off a

-- the standard writing: "a prefix of the wrong form (family 4: IPv4, no offset; 6: IPv6 with one) or range, or with other bits set"
abbrev pub valid_in : ℕ → NetworkPrefix → Bool
valid_in family (Ipv4 len a) = eqb family 4 && (leb len 32 && clean 32 len 0 a)
valid_in family (Ipv6Offset len off h l) = eqb family 6 && valid_ipv6 len off (wide h l)
valid_in family (Ipv6 len h l) = false
valid_in family (Ipv4Offset len off a) = false
