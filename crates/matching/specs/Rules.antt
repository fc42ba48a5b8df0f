-- Whether a packet satisfies a component and a rule: document 01, "Matching and ranking"; RFC 8955, 4.2.2; RFC 8956, 3. A component is a piece: its type,
-- with its prefix or the places of its operators. What of a packet each type asks about is a table of `packets`, `address_of` and `numbers_of`.
use Rattle.std.specs.Prelude.{ℕ, ◌+◌, ◌-◌, ◌/◌, ◌%◌, ◌^◌, List, Bool, false, ◌&&◌, leb, eqb, length}
use Rattle.ground.specs.Picks.{pick}
use Rattle.wide.specs.Numbers.{wide}
use Rattle.operators.specs.Ops.{kind_of, Op, ops_in}
use Rattle.rules.specs.declared.NetworkPrefix.{NetworkPrefix}
use Rattle.rules.specs.declared.NetworkPrefix.TheVariants.{Ipv4, Ipv6, Ipv4Offset, Ipv6Offset}
use Rattle.stored.specs.declared.Piece.{Piece}
use Rattle.stored.specs.declared.Piece.TheVariants.{Prefix, Operators, NoRecord}
use Rattle.stored.specs.Stored.{StoredRule}
use Rattle.packets.specs.Packets.{Packet}
use Rattle.packets.specs.Shown.{address_of, numbers_of}
use Rattle.satisfying.specs.declared.Test.{Test}
use Rattle.satisfying.specs.Lists.{truth_of, all, any, list_matches}

-- ---- a prefix

-- bits offset to len - 1 of an address of so many bits, counted from its front
abbrev pub bits_from : ℕ → ℕ → ℕ → ℕ → ℕ
bits_from width offset len a = a / 2 ^ (width - len) % 2 ^ (len - offset)

abbrev pub same_bits : ℕ → ℕ → ℕ → ℕ → ℕ → Bool
same_bits width offset len a b = eqb (bits_from width offset len a) (bits_from width offset len b)

-- the address has the prefix's bits. Well-formed rules have the first form in family 4 and the last in family 6; the others go the same way
abbrev pub prefix_matches : NetworkPrefix → ℕ → Bool
prefix_matches (Ipv4 len x) a = same_bits 32 0 len x a
prefix_matches (Ipv6 len h l) a = same_bits 128 0 len (wide h l) a
prefix_matches (Ipv4Offset len offset x) a = same_bits 32 offset len x a
prefix_matches (Ipv6Offset len offset h l) a = same_bits 128 offset len (wide h l) a

-- ---- a list of operators

-- an operator's value is a number of 64 bits, and all count, those of a TCP mask too ("its bits above the twelve meet 0"), but for: "Of a fragment mask
-- only the bits of 15 count (in family 6 of 14), of a DSCP value only those of 63"
abbrev pub counted_bits : ℕ → ℕ → ℕ
counted_bits family type = pick (eqb type 11) 63 (pick (eqb type 12) (pick (eqb family 6) 14 15) 18446744073709551615)

abbrev pub test_of : ℕ → ℕ → Test
test_of family type = record { kind = kind_of type; bits = counted_bits family type }

-- one of some numbers satisfies the whole list: "An absent field never matches", since it has no number. "Port (type 4) matches if either port satisfies the
-- whole list": it has two
unfoldable pub some_matches : Test → List Op → List ℕ → Bool
some_matches test ops numbers = any (λ n. list_matches (truth_of test n) ops) numbers

-- so many places are within both lent lists; a component that names others matches nothing. No well-formed rule has one
abbrev pub in_lists : List ℕ → List ℕ → ℕ → Bool
in_lists values octets n = leb n (length values) && leb n (length octets)

-- ---- a component and a rule, whose operators stand in the lent lists, places counted from the rule's first

unfoldable pub piece_matches : List ℕ → List ℕ → ℕ → Packet → Piece → Bool
piece_matches values octets first p (Prefix type x) = prefix_matches x (address_of p type)
piece_matches values octets first p (Operators type start count) =
    in_lists values octets (first + start + count)
    && some_matches (test_of p.family type) (ops_in values octets (first + start) count) (numbers_of p type)
piece_matches values octets first p NoRecord = false

-- "A rule matches if every component does."
unfoldable pub rule_matches : List ℕ → List ℕ → Packet → StoredRule → Bool
rule_matches values octets p r = all (piece_matches values octets r.head.first p) r.pieces
