-- A prefix that a standard reading accepted: the writing takes it, writes it in as many octets as were read, and no word of its address is
-- more than a word.
use Prim.Native.Nat.{ℕ, ◌+◌}
use mathlib.Core.Path.{◌≡◌, sym, subst}
use mathlib.Core.Bool.{true}
use mathlib.Core.List.{List}
use native.Mathlib.Nat.{mod-lt}
use native.Mathlib.Omega.{arith}
use lib.ListN.{length, get_or}
use lib.Pow.{pow_pos}
use Rattle.ground.specs.Answers.{accepts}
use Rattle.choices.specs.declared.Reading.{Reading}
use Rattle.choices.specs.declared.Reading.TheVariants.{Plain, Ipv4, Ipv6}
use Rattle.prefixes.specs.declared.PrefixAt.{PrefixAt}
use Rattle.prefixes.specs.Prefixes.{offset_address, ipv4_prefix, ipv6_prefix, named_at, spelled_at, prefix_from, prefix_at}
use Rattle.prefixes.proofs.Laws.{prefix_is}
use Rattle.prefixes.proofs.Accepted.{Octets, ipv4_valid, ipv6_valid}
use Rattle.prefixwriting.proofs.Puts.{length_standard}
use Rattle.prefixwriting.proofs.Inverse.{LowWord}
use Rattle.measuring.specs.Bodies.{prefix_octets}
use Rattle.measuring.specs.Grounds.{prefix_taken}
use Rattle.measuring.proofs.Laws.{Standard}

-- the octets that write a prefix are as many as were read
pub record Sized (w : Reading) (at : ℕ) (p : PrefixAt) : Type 0 where
  pub long : at + length (prefix_octets w p.prefix) ≡ p.next.at
  pub low : LowWord p.prefix

sized : (w : Reading) → Standard w → (s : List ℕ) (at : ℕ) → Sized w at (prefix_from w s (named_at w s at))
sized Plain u s at = absurd u
sized Ipv4 u s at = record { long = omega (arith, length_standard (ipv4_prefix (get_or s at 0) (spelled_at s (named_at Ipv4 s at)))); low = tt }
sized Ipv6 u s at =
    let len = get_or s at 0 in
    let off = get_or s (at + 1) 0 in
    let v = spelled_at s (named_at Ipv6 s at) in
    record { long = omega (arith, length_standard (ipv6_prefix len off v)); low = mod-lt (offset_address len off v) (pow_pos 64) }

pub prefix_sized : (w : Reading) → Standard w → (s : List ℕ) (at : ℕ) {q : PrefixAt} → prefix_at w s at ≡ accepts q → Sized w at q
prefix_sized w u s at e = subst (Sized w at) (sym (prefix_is w s at e)) (sized w u s at)

pub prefix_valid : (w : Reading) → Standard w → (s : List ℕ) (at : ℕ) {q : PrefixAt} → Octets s → prefix_at w s at ≡ accepts q → prefix_taken w q.prefix ≡ true
prefix_valid Plain u s at o e = absurd u
prefix_valid Ipv4 u s at o e = ipv4_valid s at o e
prefix_valid Ipv6 u s at o e = ipv6_valid s at o e
