-- `prefixes::Extent::prefix` meets its contract: an IPv4 address is the first octets of it; else the octets spell a number, of which the reading
-- makes its prefix.
use Prim.Native.Nat.{ℕ}
use mathlib.Core.Path.{ap, ◌∙◌}
use native.Mathlib.Omega.{arith}
use Rattle.choices.specs.declared.Reading.TheVariants.{Plain, Ipv4 as Four}
use Rattle.octets.specs.Addresses.{first_bits}
use Rattle.rules.specs.declared.NetworkPrefix.{NetworkPrefix}
use Rattle.rules.specs.declared.NetworkPrefix.TheVariants.{Ipv4}
use Rattle.prefixes.specs.Prefixes.{front_address, ipv6, whole_prefix, spelled_at}
use Rattle.prefixes.proofs.Addresses.{plain_short, plain_long, flat_spelled, value_is, value_below}
use Rattle.prefixes.proofs.Laws.{extends, extends_in}
use Rattle.prefixes.proofs.Extent.prefix.Goals as goal

pub front_ipv4-requires : goal.front_ipv4-requires
front_ipv4-requires c =
    let x = extends_in Plain c.in-Plain.is c.requires in
    (c.if-length-le32.true, omega (arith, x.ranged.1, x.next, x.within))

pub read_pattern-requires : goal.read_pattern-requires
read_pattern-requires c =
    let x = extends_in Plain c.in-Plain.is c.requires in
    (omega (arith, x.ranged.1, x.within, x.next, c.octets_of.ensures), omega (arith, x.most, c.octets_of.ensures))

pub plain_of-prefix-requires : goal.plain_of-prefix-requires
plain_of-prefix-requires c =
    let x = extends_in Plain c.in-Plain.is c.requires in
    (x.ranged.0, value_below c.args.s.now c.args.self.from _ _ c.octets_of.ensures _ c.read_pattern.ensures.is c.read_pattern.ensures.below)

pub front_ipv4-requires-in-Ipv4 : goal.front_ipv4-requires-in-Ipv4
front_ipv4-requires-in-Ipv4 c =
    let x = extends_in Four c.in-Ipv4.is c.requires in
    (x.ranged.0, omega (arith, x.ranged.1, x.next, x.within))

pub overflow_sub-length : goal.overflow_sub-length
overflow_sub-length c = (extends _ _ c.requires).offset

pub read_pattern-requires-in-Ipv6 : goal.read_pattern-requires-in-Ipv6
read_pattern-requires-in-Ipv6 c =
    let x = extends _ _ c.requires in
    (omega (arith, x.within, x.next, c.octets_of-in-Ipv6.ensures), omega (arith, x.most, c.octets_of-in-Ipv6.ensures))

pub ipv6_of-prefix-requires : goal.ipv6_of-prefix-requires
ipv6_of-prefix-requires c =
    let x = extends _ _ c.requires in
    (x.offset, x.most, value_below c.args.s.now c.args.self.from _ _ c.octets_of-in-Ipv6.ensures _ c.read_pattern-in-Ipv6.ensures.is c.read_pattern-in-Ipv6.ensures.below)

pub returns-in-Plain : goal.returns-in-Plain
returns-in-Plain c =
    let a = c.args in
    let x = extends_in Plain c.in-Plain.is c.requires in
    rw c.in-Plain.is
    (ap (λ (p : NetworkPrefix). whole_prefix p a.self.next.at)
    (ap (Ipv4 a.self.length) (c.front_ipv4.ensures ∙ ap (front_address 32 a.self.length) (flat_spelled a.s.now a.self x.ranged.1))
    ∙ plain_short a.self.length (spelled_at a.s.now a.self) c.if-length-le32.true))

pub returns-in-Plain-2 : goal.returns-in-Plain-2
returns-in-Plain-2 c =
    let a = c.args in
    let x = extends_in Plain c.in-Plain.is c.requires in
    rw c.in-Plain.is
    (ap (λ (p : NetworkPrefix). whole_prefix p a.self.next.at)
    (c.plain_of-prefix.ensures
    ∙ ap (λ (v : ℕ). ipv6 a.self.length (front_address 128 a.self.length v))
    (value_is a.s.now a.self.from _ _ c.octets_of.ensures _ c.read_pattern.ensures.is ∙ flat_spelled a.s.now a.self x.ranged.1)
    ∙ plain_long a.self.length (spelled_at a.s.now a.self) c.if-length-le32.false))

pub returns-in-Ipv4 : goal.returns-in-Ipv4
returns-in-Ipv4 c =
    let a = c.args in
    let x = extends_in Four c.in-Ipv4.is c.requires in
    rw c.in-Ipv4.is
    (ap (λ (n : ℕ). whole_prefix (Ipv4 a.self.length n) a.self.next.at)
    (c.keep_ipv4.ensures
    ∙ ap (first_bits 32 a.self.length) (c.front_ipv4-in-Ipv4.ensures ∙ ap (front_address 32 a.self.length) (flat_spelled a.s.now a.self x.ranged.1))))
