-- What a component is, by its type, and what a rule is made of: document 01, "The length and the component walk"; mod.rs.
use Rattle.std.specs.Prelude.{ℕ, List, Bool, ◌||◌, ◌&&◌, not, get_or, take, eqb, ltb}
use Rattle.std.specs.List.{list_any}
use Rattle.ground.specs.Picks.{pick}
use Rattle.rules.specs.declared.NetworkPrefix.{NetworkPrefix}
use Rattle.rules.specs.declared.NetworkPrefix.TheVariants.{Ipv4, Ipv6, Ipv4Offset, Ipv6Offset}
use Rattle.rules.specs.declared.Span.{Span}
use Rattle.rules.specs.declared.FlowSpecComponent.{FlowSpecComponent}
use Rattle.rules.specs.declared.FlowSpecComponent.TheVariants.{Nothing, DestinationPrefix, SourcePrefix, IpProtocol, Port, DestinationPort, SourcePort, IcmpType, IcmpCode, TcpFlags, PacketLength, Dscp, Fragment, FlowLabel}
use Rattle.rules.specs.declared.FlowSpecNlri.{FlowSpecNlri}

-- RFC 8955, 4.2.2; RFC 8956, 3: the component types. An unused place has none
abbrev pub type_of : FlowSpecComponent → ℕ
type_of Nothing = 0
type_of (DestinationPrefix p) = 1
type_of (SourcePrefix p) = 2
type_of (IpProtocol s) = 3
type_of (Port s) = 4
type_of (DestinationPort s) = 5
type_of (SourcePort s) = 6
type_of (IcmpType s) = 7
type_of (IcmpCode s) = 8
type_of (TcpFlags s) = 9
type_of (PacketLength s) = 10
type_of (Dscp s) = 11
type_of (Fragment s) = 12
type_of (FlowLabel s) = 13

-- "Types 1 and 2 are prefixes, 9 and 12 bitmask lists, the others numeric lists."
abbrev pub bitmask_type : ℕ → Bool
bitmask_type t = eqb t 9 || eqb t 12

abbrev pub numeric_type : ℕ → Bool
numeric_type t = not (ltb t 3) && not (bitmask_type t)

-- the prefix of a type, 1 or 2, and the list of a type, 3 to 13
abbrev pub prefix_of : ℕ → NetworkPrefix → FlowSpecComponent
prefix_of t p = pick (eqb t 1) (DestinationPrefix p) (SourcePrefix p)

unfoldable pub list_of : ℕ → Span → FlowSpecComponent
list_of t s =
    pick (eqb t 3) (IpProtocol s)
    (pick (eqb t 4) (Port s)
    (pick (eqb t 5) (DestinationPort s)
    (pick (eqb t 6) (SourcePort s)
    (pick (eqb t 7) (IcmpType s)
    (pick (eqb t 8) (IcmpCode s)
    (pick (eqb t 9) (TcpFlags s)
    (pick (eqb t 10) (PacketLength s)
    (pick (eqb t 11) (Dscp s)
    (pick (eqb t 12) (Fragment s) (FlowLabel s))))))))))

-- what is_ipv4 and is_ipv6 look for, 4 and 6: a prefix by its address, but each form with an offset is the Rust's IPv6 case, whatever address
-- it holds; a flow label is IPv6. An unused place is 1, all else 0
abbrev pub prefix_counts : NetworkPrefix → ℕ
prefix_counts (Ipv4 len a) = 4
prefix_counts (Ipv6 len h l) = 6
prefix_counts (Ipv4Offset len off a) = 6
prefix_counts (Ipv6Offset len off h l) = 6

abbrev pub counts_as : FlowSpecComponent → ℕ
counts_as Nothing = 1
counts_as (DestinationPrefix p) = prefix_counts p
counts_as (SourcePrefix p) = prefix_counts p
counts_as (IpProtocol s) = 0
counts_as (Port s) = 0
counts_as (DestinationPort s) = 0
counts_as (SourcePort s) = 0
counts_as (IcmpType s) = 0
counts_as (IcmpCode s) = 0
counts_as (TcpFlags s) = 0
counts_as (PacketLength s) = 0
counts_as (Dscp s) = 0
counts_as (Fragment s) = 0
counts_as (FlowLabel s) = 6

-- whether one of some components counts so
abbrev pub holds_one : ℕ → List FlowSpecComponent → Bool
holds_one mark cs = list_any (λ c. eqb (counts_as c) mark) cs

-- "at most 13 component records": those of the slots that the count covers
abbrev pub covered : ℕ → List FlowSpecComponent → List FlowSpecComponent
covered count slots = take count slots

abbrev pub components_of : FlowSpecNlri → List FlowSpecComponent
components_of r = covered r.count r.slots

-- the component at a place, and nothing past the last
abbrev pub component_in : FlowSpecNlri → ℕ → FlowSpecComponent
component_in r place = get_or (components_of r) place Nothing
